-- The compact text of plain data has no line feed.
use Rattle.std.proofs.Common.{◌≡◌, ℕ, zero, suc, ◌+◌, ◌<◌, ◌≤◌, ◌^◌, ◌==◌, ◌%◌, ◌&&◌, List, [], ◌∷◌, ◌++◌, Bool}
use Rattle.std.proofs.Common.{true, false, not, pos, negsuc, decimal, inl, inr, refl, arith}
use Rattle.std.proofs.lemmas.Bool.{and_parts, cases_lt, cases_eq, false≢true}
use Rattle.std.proofs.lemmas.Bool.Decides.{nat_tests}
use Rattle.std.proofs.lemmas.Fmt.{decimal_by_steps}
use Rattle.json.specs.Print.{escape, escape_byte, quoted}
use Rattle.json.proofs.Printed.Strings.{escape_byte_plain}
use Rattle.serde_json.specs.Data.{Num, unsigned, negative, float, Data, null, boolean, number, string, array, object}
use Rattle.serde_json.specs.Data.{Items, no_items, item, Members, no_members, member}
use Rattle.serde_json.specs.Written.{compact_text, comma_if, items_text, members_text, number_text}
use Rattle.run_text_laws.specs.Plain.{IsPlain, IsWholeNumber, ArePlain, MembersArePlain}
use Rattle.run_laws_audit_text.proofs.LineLemmas.{HasNoFeed, feedless_both}

-- ---- numbers

-- a byte above the line feed is another
other_byte : (x : ℕ) → 10 < x → (x == 10) ≡ false
other_byte x above = grind (arith, nat_tests)

-- digits have none
decimal_feedless : (n : ℕ) → n < 2 ^ 64 → HasNoFeed (decimal n)
decimal_feedless n fits = decimal_by_steps (λ k digits. HasNoFeed digits) one more n fits
  where
    one : (k : ℕ) → k < 10 → HasNoFeed ((48 + k) ∷ [])
    one k low = (other_byte (48 + k) (omega arith), tt)

    more : (k : ℕ) (digits : List ℕ) → 10 ≤ k → HasNoFeed digits → HasNoFeed (digits ++ ((48 + k % 10) ∷ []))
    more k digits high front =
        feedless_both digits ((48 + k % 10) ∷ []) front (other_byte (48 + k % 10) (omega arith), tt)

-- nor has the text of a whole number
number_feedless : (n : Num) → IsWholeNumber n → HasNoFeed (number_text n)
number_feedless (unsigned n) fits = decimal_feedless n fits
number_feedless (negative (pos n)) fits = absurd fits
number_feedless (negative (negsuc n)) fits = (refl, decimal_feedless (suc n) (omega (arith, fits)))
number_feedless (float x) fits = absurd fits

-- ---- texts in quotes

-- the same as a test
abbrev feedless : List ℕ → Bool
feedless [] = true
feedless (byte ∷ bytes) = not (byte == 10) && feedless bytes

-- what is not so is false
not_false : (b : Bool) → not b ≡ true → b ≡ false
not_false false h = refl
not_false true h = absurd (false≢true h)

-- which says the same
feedless_test : (bytes : List ℕ) → feedless bytes ≡ true → HasNoFeed bytes
feedless_test [] h = tt
feedless_test (byte ∷ bytes) h =
    let parts = and_parts _ _ h in
    (not_false (byte == 10) parts.0, feedless_test bytes parts.1)

-- whether what stands in a text for each byte below n has none
abbrev escapes_below : ℕ → Bool
escapes_below zero = true
escapes_below (suc n) = feedless (escape_byte n) && escapes_below n

-- so for each of these
escape_below : (n : ℕ) → escapes_below n ≡ true → (x : ℕ) → x < n → feedless (escape_byte x) ≡ true
escape_below zero e x low = absurd (omega arith)
escape_below (suc n) e x low =
    let parts = and_parts _ _ e in
    elim (cases_eq x n) [ inl same ↦ rw same parts.0 | inr other ↦ escape_below n parts.1 x (omega arith) ]

-- the bytes up to the backslash
all_low : escapes_below 93 ≡ true
unfolding escape_byte
all_low = refl

-- what stands for a byte has none
byte_feedless : (x : ℕ) → HasNoFeed (escape_byte x)
byte_feedless x = elim (cases_lt x 93) [
  | inl low ↦ feedless_test (escape_byte x) (escape_below 93 all_low x low)
  | inr high ↦
      rw (escape_byte_plain x (λ e. omega arith) (λ e. omega arith) (omega arith)) (other_byte x (omega arith), tt)
]

-- nor has what stands for a text
escape_feedless : (s : List ℕ) → HasNoFeed (escape s)
escape_feedless [] = tt
escape_feedless (x ∷ s) = feedless_both (escape_byte x) (escape s) (byte_feedless x) (escape_feedless s)

-- with its quotes
quoted_feedless : (s : List ℕ) → HasNoFeed (quoted s)
quoted_feedless s = (refl, feedless_both (escape s) (34 ∷ []) (escape_feedless s) (refl, tt))

-- ---- values

-- nor has a truth value
boolean_feedless : (b : Bool) → HasNoFeed (compact_text (boolean b))
boolean_feedless true = feedless_test (compact_text (boolean true)) refl
boolean_feedless false = feedless_test (compact_text (boolean false)) refl

-- nor a comma, or nothing
comma_feedless : (later : Bool) → HasNoFeed (comma_if later)
comma_feedless true = (refl, tt)
comma_feedless false = tt

mutual
  -- the text of plain data has none
  pub text_feedless : (d : Data) → IsPlain d → HasNoFeed (compact_text d)
  text_feedless null h = feedless_test (compact_text null) refl
  text_feedless (boolean b) h = boolean_feedless b
  text_feedless (number n) h = number_feedless n h
  text_feedless (string s) h = quoted_feedless s
  text_feedless (array ds) h = (refl, items_feedless false ds h)
  text_feedless (object ms) h = (refl, members_feedless false ms h)

  -- nor has that of plain items
  items_feedless : (later : Bool) (ds : Items) → ArePlain ds → HasNoFeed (items_text later ds)
  items_feedless later no_items h = (refl, tt)
  items_feedless later (item d ds) h =
      feedless_both (comma_if later) _ (comma_feedless later)
      (feedless_both (compact_text d) _ (text_feedless d h.0) (items_feedless true ds h.1))

  -- nor that of plain members
  members_feedless : (later : Bool) (ms : Members) → MembersArePlain ms → HasNoFeed (members_text later ms)
  members_feedless later no_members h = (refl, tt)
  members_feedless later (member k d ms) h =
      feedless_both (comma_if later) _ (comma_feedless later)
      (feedless_both (quoted k) _ (quoted_feedless k)
      (refl, feedless_both (compact_text d) _ (text_feedless d h.1) (members_feedless true ms h.3)))
