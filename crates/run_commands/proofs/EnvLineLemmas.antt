-- Where a line ends, and what it says.
use Rattle.std.proofs.Common.{◌≡◌, Bool, true, false, not, cond, ℕ, ◌<◌, ◌≤◌, ◌==◌, ◌+◌, ◌-◌, List, [], ◌∷◌, length}
use Rattle.std.proofs.Common.{take, drop, Some, None, Result, Ok, Err, refl, sym, ap, ◌∙◌, arith, nat_lt}
use Rattle.std.proofs.lemmas.Bool.Decides.{nat_tests}
use Rattle.std.proofs.lemmas.Bool.{ltb-true, lt-ltb}
use Rattle.std.proofs.lemmas.Option.{none-some, same_Some}
use Rattle.std.proofs.lemmas.List.Splits.{slice_split_first}
use Rattle.std.proofs.lemmas.Str.{IsUtf8-from_is_utf8, is_utf8-from_IsUtf8}
use Rattle.std.specs.List.{slice_split, onto_first, position, position_or_len, list_any}
use Rattle.std.specs.Str.{IsUtf8, is_utf8}
use Rattle.std.specs.Str.Lines.{lines, lines_of_parts, strip_carriage_return}
use Rattle.run_capture.proofs.BytesLemmas.{take-drop_all}
use Rattle.run_commands.specs.declared.env_line.BrokenRule.{BrokenRule}
use Rattle.run_commands.specs.declared.env_line.BrokenRule.TheVariants as rule
use Rattle.run_commands.specs.Pair.{Pair}
use Rattle.run_commands.specs.EnvLine.{pair_of, cut_at_equals, is_key}

-- the first place that passes
position-some : (p : ℕ → Bool) (xs : List ℕ) (i : ℕ) → position p xs ≡ Some i → (position_or_len p xs ≡ i)
    × (i < length xs)
position-some p xs i found =
    elim (nat_lt (position_or_len p xs) (length xs)) as (λ test. nat_lt (position_or_len p xs) (length xs) ≡ test
    → cond test (Some (position_or_len p xs)) None ≡ Some i → (position_or_len p xs ≡ i) × (i < length xs)) [
      | true ↦ λ e f. let same : position_or_len p xs ≡ i = same_Some _ _ f in
          (same, omega (arith, ltb-true (position_or_len p xs) (length xs) e, same))
      | false ↦ λ e f. absurd (none-some i f)
    ] refl found

-- where no place passes, the place is the length
position-none : (p : ℕ → Bool) (xs : List ℕ) → position p xs ≡ None → length xs ≤ position_or_len p xs
position-none p xs found =
    elim (nat_lt (position_or_len p xs) (length xs)) as (λ test. nat_lt (position_or_len p xs) (length xs) ≡ test
    → cond test (Some (position_or_len p xs)) None ≡ None → length xs ≤ position_or_len p xs) [
      | true ↦ λ e f. absurd (none-some (position_or_len p xs) (sym f))
      | false ↦ λ e f. grind (arith, nat_tests)
    ] refl found

-- bytes at which nothing passes are one part
one_part : (p : ℕ → Bool) (xs : List ℕ) → length xs ≤ position_or_len p xs → slice_split p xs ≡ xs ∷ []
one_part p [] e = refl
one_part p (x ∷ xs) e =
    elim (p x) as (λ test. p x ≡ test → length (x ∷ xs) ≤ cond (not test) (1 + position_or_len p xs) 0
    → cond test ([] ∷ slice_split p xs) (onto_first x (slice_split p xs)) ≡ (x ∷ xs) ∷ []) [
      | true ↦ λ _ f. absurd (omega arith)
      | false ↦ λ _ f. ap (onto_first x) (one_part p xs (omega arith))
    ] refl e

-- a part after which others come loses its carriage return
lines-more : (p : ℕ → Bool) (line rest : List ℕ)
    → lines_of_parts (line ∷ slice_split p rest) ≡ strip_carriage_return line ∷ lines_of_parts (slice_split p rest)
lines-more p line [] = refl
lines-more p line (b ∷ rest) =
    elim (p b) as
    (λ test. lines_of_parts (line ∷ cond test ([] ∷ slice_split p rest) (onto_first b (slice_split p rest)))
    ≡ strip_carriage_return line ∷ lines_of_parts
    (cond test ([] ∷ slice_split p rest) (onto_first b (slice_split p rest)))) [
      | true ↦ refl
      | false ↦ elim (slice_split p rest) as (λ parts. lines_of_parts (line ∷ onto_first b parts)
          ≡ strip_carriage_return line ∷ lines_of_parts (onto_first b parts)) [ [] ↦ refl | part ∷ parts ↦ refl ]
    ]

-- the bytes before the first LF are the first line
pub lines-first : (bytes : List ℕ) (end : ℕ) → position (λ b. b == 10) bytes ≡ Some end
    → lines bytes
    ≡ strip_carriage_return (take end bytes) ∷ lines (take (length bytes - (end + 1)) (drop (end + 1) bytes))
lines-first bytes end found =
    let (same, within) = position-some (λ b. b == 10) bytes end found in
    let split = slice_split_first (λ b. b == 10) bytes 0 (omega (arith, same, within)) in
    rw (split, same, take-drop_all (end + 1) bytes) (lines-more (λ b. b == 10) (take end bytes) (drop (end + 1) bytes))

-- bytes with no LF are one line
pub lines-last : (bytes : List ℕ) → 0 < length bytes → position (λ b. b == 10) bytes ≡ None → lines bytes ≡ bytes ∷ []
lines-last [] some found = absurd (omega arith)
lines-last (b ∷ bytes) some found =
    let one = one_part (λ b. b == 10) (b ∷ bytes) (position-none (λ b. b == 10) (b ∷ bytes) found) in
    let e : (length (b ∷ bytes) == 0) ≡ false = grind (arith, nat_tests) in
    ap lines_of_parts one ∙ rw e refl

-- the place before which nothing passes tells whether something does
any-position : (p : ℕ → Bool) (xs : List ℕ) → list_any p xs ≡ nat_lt (position_or_len p xs) (length xs)
any-position p [] = refl
any-position p (x ∷ xs) =
    elim (p x) as (λ test. p x ≡ test → list_any p (x ∷ xs) ≡ nat_lt (position_or_len p (x ∷ xs)) (length (x ∷ xs))) [
      | true ↦ λ e. rw e (sym (lt-ltb 0 (length (x ∷ xs)) (omega arith)))
      | false ↦ λ e. rw (e, any-position p xs) (grind (arith, nat_tests))
    ] refl

-- a line that is not UTF-8
pub pair-not_utf8 : (line : List ℕ) → ¬ IsUtf8 line → pair_of line ≡ Err rule.Utf8
pair-not_utf8 line not_text =
    let e : is_utf8 line ≡ false = elim (is_utf8 line) as (λ test. is_utf8 line ≡ test → test ≡ false) [
      | true ↦ λ yes. absurd (not_text (IsUtf8-from_is_utf8 line yes))
      | false ↦ λ _. refl
    ] refl in
    rw e refl

-- a line with no `=`
pub pair-no_equals : (line : List ℕ) → IsUtf8 line → position_or_len (λ b. b == 61) line ≡ length line
    → pair_of line ≡ Err rule.EqualsSign
pair-no_equals line text none =
    let any : list_any (λ b. b == 61) line ≡ false = any-position (λ b. b == 61) line
    ∙ (rw none (grind (arith, nat_tests))) in
    rw (is_utf8-from_IsUtf8 line text, any) refl

-- the name before the first `=`
key_is : (line key value : List ℕ) → (key, value) ≡ cut_at_equals line → key ≡ (cut_at_equals line).0
key_is line key value cut = ap (λ (p : Pair). p.0) cut

-- a line whose name may not be set
pub pair-no_key : (line key value : List ℕ) → IsUtf8 line → position_or_len (λ b. b == 61) line < length line
    → (key, value) ≡ cut_at_equals line → is_key key ≡ false → pair_of line ≡ Err rule.Key
pair-no_key line key value text some cut tested =
    let any : list_any (λ b. b == 61) line ≡ true = any-position (λ b. b == 61) line ∙ lt-ltb _ _ some in
    let no_key : is_key (cut_at_equals line).0 ≡ false = ap is_key (sym (key_is line key value cut)) ∙ tested in
    rw (is_utf8-from_IsUtf8 line text, any, no_key) refl

-- a line that sets a variable
pub pair-sets : (line key value : List ℕ) → IsUtf8 line → position_or_len (λ b. b == 61) line < length line
    → (key, value) ≡ cut_at_equals line → is_key key ≡ true → pair_of line ≡ Ok (key, value)
pair-sets line key value text some cut tested =
    let any : list_any (λ b. b == 61) line ≡ true = any-position (λ b. b == 61) line ∙ lt-ltb _ _ some in
    let is : is_key (cut_at_equals line).0 ≡ true = ap is_key (sym (key_is line key value cut)) ∙ tested in
    rw (is_utf8-from_IsUtf8 line text, any, is) (let sets : Pair → Result Pair BrokenRule =
    λ p. Ok p in ap sets (sym cut))
