-- What a text says as a count of sub-runs.
use Rattle.std.proofs.Common.{◌≡◌, ℕ, zero, suc, ◌<◌, ◌^◌, List, [], ◌∷◌, length, Bool, true, false, ◌&&◌}
use Rattle.std.proofs.Common.{if◌then◌else◌, Option, Some, None, refl, ap, sym, subst, ◌∙◌, arith, nat_eq, nat_lt}
use Rattle.std.proofs.Common.{true≢false, codes}
use Rattle.std.proofs.Math.Bridge.{le_prop}
use Rattle.std.proofs.lemmas.Bool.Decides.{Decides-ltb}
use Rattle.std.specs.Char.{digit_value}
use Rattle.std.specs.List.{list_all}
use Rattle.std.specs.Str.Parse.{AllDigits, IsNumeral, digits_value, without_leading_plus}
use Rattle.std.specs.declared.num.NonZeroU32.{NonZeroU32}
use Rattle.run_capture.proofs.Facts.{and_both, both_true}
use Rattle.run_commands.specs.StressCount.{IsDecimal, SaysCount, SaysNoCount}
use Rattle.run_commands.specs.declared.stress_count.StressCount.{StressCount}
use Rattle.run_commands.specs.declared.stress_count.StressCount.TheVariants as counts
use Rattle.run_input.specs.PlanStress.{are_decimals, repeats_as, repeats_named, repeats_of}
use lib.Pointwise.{pointwise, bytes_decides}

if_so : {A : Type 0} (b : Bool) (x y : A) → b ≡ true → (if b then x else y) ≡ x
if_so true x y e = refl
if_so false x y e = absurd (true≢false (sym e))

if_not : {A : Type 0} (b : Bool) (x y : A) → b ≡ false → (if b then x else y) ≡ y
if_not true x y e = absurd (true≢false e)
if_not false x y e = refl

-- so many sub-runs, whatever says that they are some
repeats : (n : ℕ) → 0 < n → Option StressCount
repeats n p = Some (counts.Count (record { value = n; ok = p }))

-- a count is the one of its number
as_many : (n : ℕ) (p : 0 < n) → n < 2 ^ 32 → repeats_as n ≡ repeats n p
unfolding repeats
as_many zero p within = absurd (omega arith)
as_many (suc n) p within =
    if_so (nat_lt (suc n) (2 ^ 32)) _ None ((Decides-ltb (suc n) (2 ^ 32)).1 within)
    ∙ ap (λ (q : 0 < suc n). repeats (suc n) q) (le_prop _ p)

pub repeats_as-value : (count : NonZeroU32) → count.value < 2 ^ 32 → repeats_as count.value ≡ Some (counts.Count count)
unfolding repeats
repeats_as-value count within = as_many count.value count.ok within

-- no number of sub-runs is one that isn't from 1 to the greatest u32
none_as : (n : ℕ) → (0 < n → n < 2 ^ 32 → ⊥) → repeats_as n ≡ None
none_as zero never = refl
none_as (suc n) never = by (nat_lt (suc n) (2 ^ 32)) refl
  where
    by : (b : Bool) → nat_lt (suc n) (2 ^ 32) ≡ b → repeats_as (suc n) ≡ None
    by true e = absurd (never (omega arith) ((Decides-ltb (suc n) (2 ^ 32)).0 e))
    by false e = if_not (nat_lt (suc n) (2 ^ 32)) _ None e

-- digits are told by their tests
digits_tell : (ds : List ℕ) → AllDigits 10 ds → list_all (λ c. nat_lt (digit_value c) 10) ds ≡ true
digits_tell [] all = refl
digits_tell (c ∷ cs) all = and_both _ _ ((Decides-ltb (digit_value c) 10).1 all.0) (digits_tell cs all.1)

digits_told : (ds : List ℕ) → list_all (λ c. nat_lt (digit_value c) 10) ds ≡ true → AllDigits 10 ds
digits_told [] e = tt
digits_told (c ∷ cs) e =
    let both = both_true (nat_lt (digit_value c) 10) (list_all (λ c. nat_lt (digit_value c) 10) cs) e in
    ((Decides-ltb (digit_value c) 10).0 both.0, digits_told cs both.1)

decimals_tell : (ds : List ℕ) → IsNumeral 10 ds → are_decimals ds ≡ true
decimals_tell ds numeral =
    and_both _ _ ((Decides-ltb 0 (length ds)).1 numeral.0) (digits_tell ds numeral.1)

decimals_told : (ds : List ℕ) → are_decimals ds ≡ true → IsNumeral 10 ds
decimals_told ds e =
    let both = both_true (nat_lt 0 (length ds)) (list_all (λ c. nat_lt (digit_value c) 10) ds) e in
    ((Decides-ltb 0 (length ds)).0 both.0, digits_told ds both.1)

-- what a text says stays what it says by another name
pub says_same : (text : List ℕ) (said count : StressCount) → said ≡ count → SaysCount text said → SaysCount text count
says_same text said count same says = subst (λ (c : StressCount). SaysCount text c) same says

-- the word is no number
word_apart : (n : ℕ) → IsDecimal (codes "infinite") n → ⊥
word_apart n says = let first : 18 < 10 = says.0.1.0 in absurd (omega arith)

-- the word is read
pub says_word : (text : List ℕ) → text ≡ codes "infinite" → repeats_named text ≡ Some counts.Infinite
says_word text word =
    if_so (pointwise nat_eq text (codes "infinite")) _ _ ((bytes_decides text (codes "infinite")).1 word)

-- and so is a number
pub says_number : (text : List ℕ) (n : ℕ) → IsDecimal text n → repeats_named text ≡ repeats_as n
says_number text n says = by (pointwise nat_eq text (codes "infinite")) refl
  where
    by : (b : Bool) → pointwise nat_eq text (codes "infinite") ≡ b → repeats_named text ≡ repeats_as n
    by true e =
        let word = (bytes_decides text (codes "infinite")).0 e in
        absurd (word_apart n (subst (λ (t : List ℕ). IsDecimal t n) word says))
    by false e =
        if_not (pointwise nat_eq text (codes "infinite")) _ _ e
        ∙ if_so (are_decimals (without_leading_plus text)) _ None (decimals_tell (without_leading_plus text) says.0)
        ∙ ap repeats_as says.1

none_of : (ds : List ℕ) (b : Bool) → are_decimals ds ≡ b
    → ((n : ℕ) → 0 < n → n < 2 ^ 32 → ¬ (IsNumeral 10 ds × (digits_value 10 ds ≡ n))) → repeats_of ds ≡ None
none_of ds true e never =
    if_so (are_decimals ds) _ None e
    ∙ none_as (digits_value 10 ds) (λ some within. never _ some within (decimals_told ds e, refl))
none_of ds false e never = if_not (are_decimals ds) _ None e

-- nothing else is
pub says_nothing : (text : List ℕ) → SaysNoCount text → repeats_named text ≡ None
says_nothing text says = by (pointwise nat_eq text (codes "infinite")) refl
  where
    by : (b : Bool) → pointwise nat_eq text (codes "infinite") ≡ b → repeats_named text ≡ None
    by true e = absurd (says.0 ((bytes_decides text (codes "infinite")).0 e))
    by false e =
        if_not (pointwise nat_eq text (codes "infinite")) _ _ e
        ∙ none_of (without_leading_plus text) (are_decimals (without_leading_plus text)) refl says.1
