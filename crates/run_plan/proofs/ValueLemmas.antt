-- What the value of a word says.
use Rattle.std.proofs.Common.{◌≡◌, ◌∙◌, ℕ, ◌<◌, ◌^◌, ◌==◌, List, [], ◌∷◌, length, Bool, true, false, ◌&&◌, true≢false}
use Rattle.std.proofs.Common.{if◌then◌else◌, Option, Some, None, Result, Ok, Err, option_map, refl, ap, sym, arith}
use Rattle.std.proofs.Common.{nat_lt}
use Rattle.std.proofs.lemmas.Bool.Decides.{Decides-ltb}
use Rattle.std.specs.Char.{digit_value}
use Rattle.std.specs.List.{after_first, before_first, list_all, position_or_len}
use Rattle.std.specs.Option.{MatchOption}
use Rattle.std.specs.Result.{OkIff, result_ok}
use Rattle.std.specs.Str.Parse.{AllDigits, IsNumeral, digits_value}
use Rattle.run_capture.proofs.Facts.{and_both, both_true}
use Rattle.run_input.specs.PlanStress.{are_decimals}
use Rattle.run_plan.specs.Values.{decimal_number, parts_at}
use denote.Ref.{Bor}

if_so : {A : Type 0} (b : Bool) (x y : A) → b ≡ true → (if b then x else y) ≡ x
if_so true x y e = refl
if_so false x y e = absurd (true≢false (sym e))

if_not : {A : Type 0} (b : Bool) (x y : A) → b ≡ false → (if b then x else y) ≡ y
if_not true x y e = absurd (true≢false e)
if_not false x y e = refl

-- a text is split at its first such byte, if it has one
abbrev pub Splits : ℕ → List ℕ → Option (Bor (List ℕ) × Bor (List ℕ)) → Type 0
Splits byte text r =
    MatchOption r (position_or_len (λ b. b == byte) text ≡ length text)
    (λ x. (position_or_len (λ b. b == byte) text < length text)
    × (x.0.now ≡ before_first (λ b. b == byte) text) × (x.1.now ≡ after_first (λ b. b == byte) text))

unsplit : (byte : ℕ) (text : List ℕ) → position_or_len (λ b. b == byte) text ≡ length text → parts_at byte text ≡ None
unsplit byte text none = by (nat_lt (position_or_len (λ b. b == byte) text) (length text)) refl
  where
    by : (b : Bool) → nat_lt (position_or_len (λ b. b == byte) text) (length text) ≡ b → parts_at byte text ≡ None
    by true e = absurd (omega (arith, (Decides-ltb (position_or_len (λ b. b == byte) text) (length text)).0 e, none))
    by false e = if_not (nat_lt (position_or_len (λ b. b == byte) text) (length text)) _ None e

pub split_is : (byte : ℕ) (text : List ℕ) (r : Option (Bor (List ℕ) × Bor (List ℕ))) → Splits byte text r
    → option_map (λ p. (p.0.now, p.1.now)) r ≡ parts_at byte text
split_is byte text None none = sym (unsplit byte text none)
split_is byte text (Some x) some =
    let within = (Decides-ltb (position_or_len (λ b. b == byte) text) (length text)).1 some.0 in
    rw (some.1, some.2) (sym (if_so (nat_lt (position_or_len (λ b. b == byte) text) (length text)) _ None within))

-- digits are told by their tests
digits_tell : (ds : List ℕ) → AllDigits 10 ds → list_all (λ c. nat_lt (digit_value c) 10) ds ≡ true
digits_tell [] all = refl
digits_tell (c ∷ cs) all = and_both _ _ ((Decides-ltb (digit_value c) 10).1 all.0) (digits_tell cs all.1)

digits_told : (ds : List ℕ) → list_all (λ c. nat_lt (digit_value c) 10) ds ≡ true → AllDigits 10 ds
digits_told [] e = tt
digits_told (c ∷ cs) e =
    let both = both_true (nat_lt (digit_value c) 10) (list_all (λ c. nat_lt (digit_value c) 10) cs) e in
    ((Decides-ltb (digit_value c) 10).0 both.0, digits_told cs both.1)

decimals_tell : (ds : List ℕ) → IsNumeral 10 ds → are_decimals ds ≡ true
decimals_tell ds numeral =
    and_both _ _ ((Decides-ltb 0 (length ds)).1 numeral.0) (digits_tell ds numeral.1)

decimals_told : (ds : List ℕ) → are_decimals ds ≡ true → IsNumeral 10 ds
decimals_told ds e =
    let both = both_true (nat_lt 0 (length ds)) (list_all (λ c. nat_lt (digit_value c) 10) ds) e in
    ((Decides-ltb 0 (length ds)).0 both.0, digits_told ds both.1)

-- digits are a number where they are parsed
no_number : (ds : List ℕ) → ¬ (IsNumeral 10 ds × (digits_value 10 ds < 2 ^ 32)) → decimal_number ds ≡ None
no_number ds never = by (are_decimals ds && nat_lt (digits_value 10 ds) (2 ^ 32)) refl
  where
    by : (b : Bool) → (are_decimals ds && nat_lt (digits_value 10 ds) (2 ^ 32)) ≡ b → decimal_number ds ≡ None
    by true e =
        let both = both_true (are_decimals ds) (nat_lt (digits_value 10 ds) (2 ^ 32)) e in
        absurd (never (decimals_told ds both.0, (Decides-ltb (digits_value 10 ds) (2 ^ 32)).0 both.1))
    by false e = if_not (are_decimals ds && nat_lt (digits_value 10 ds) (2 ^ 32)) _ None e

pub number_is : {E : Type 0} (ds : List ℕ) (r : Result ℕ E)
    → OkIff r (IsNumeral 10 ds × (digits_value 10 ds < 2 ^ 32)) (digits_value 10 ds) → result_ok r ≡ decimal_number ds
number_is ds (Ok n) parsed =
    let within = (Decides-ltb (digits_value 10 ds) (2 ^ 32)).1 parsed.0.1 in
    ap Some parsed.1
    ∙ sym (if_so (are_decimals ds && nat_lt (digits_value 10 ds) (2 ^ 32)) _ None
    (and_both _ _ (decimals_tell ds parsed.0.0) within))
number_is ds (Err e) parsed = sym (no_number ds parsed)
