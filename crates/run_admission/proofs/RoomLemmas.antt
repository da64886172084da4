-- The free slots of a limit, marked in a row, as tests take of it and give back.
use Rattle.std.proofs.Common.{◌≡◌, ℕ, ◌<◌, ◌≤◌, ◌^◌, List, length, get_or, replicate, true, false}
use Rattle.std.proofs.Common.{Option, Some, None, is_none, refl, ap, sym, ◌∙◌, arith, inl, inr}
use Rattle.std.specs.List.{position_or_len}
use Rattle.std.proofs.lemmas.Bool.{cases_lt}
use Rattle.std.proofs.lemmas.List.{length-replicate, get_or-replicate}
use Rattle.std.proofs.lemmas.List.Sums.{passes_at_first, fails_before_first}
use Rattle.run_admission.specs.Kept.{IsMarked, mark_of}
use Rattle.run_admission.specs.Least.{IsFirstWithin}
use Rattle.run_admission.proofs.KeptLemmas.{none_there}

-- at first each slot is free
pub marked_first : (n : ℕ) → n < 2 ^ 32 → IsMarked (replicate n None) (replicate n 0)
marked_first n few = record {
  few = omega (arith, length-replicate {A = Option ℕ} n None);
  many = length-replicate n 0 ∙ sym (length-replicate n None);
  each = λ k h.
      let inside : k < n = omega (arith, length-replicate {A = Option ℕ} n None) in
      get_or-replicate n k 0 0 inside ∙ ap mark_of (sym (get_or-replicate n k None None inside));
}

-- a mark that is 0 is that of a free slot
marked_free : (o : Option ℕ) → mark_of o ≤ 0 → is_none o ≡ true
marked_free None h = refl
marked_free (Some t) h = absurd (omega arith)

-- the first mark that is 0 is that of the first free slot
pub first_marked : (hs : List (Option ℕ)) (ms : List ℕ) (r : ℕ) → IsMarked hs ms
    → position_or_len is_none hs < length hs → IsFirstWithin ms 0 r → r ≡ position_or_len is_none hs
first_marked hs ms r m inside first =
    elim (cases_lt r (position_or_len is_none hs)) [
      | inl less ↦
          let here : r < length hs = omega arith in
          let free : is_none (get_or hs r None) ≡ true =
          marked_free (get_or hs r None) (omega (arith, m.each r here, first.found (omega (arith, m.many)))) in
          let bad : true ≡ false = sym free ∙ fails_before_first is_none hs r None less in
          cc
      | inr late ↦ elim (cases_lt (position_or_len is_none hs) r) [
        | inl more ↦ absurd (omega (arith, at, first.above (position_or_len is_none hs) more))
        | inr le ↦ omega arith
      ]
    ]
  where
    at : get_or ms (position_or_len is_none hs) 0 ≡ 0
    at =
        m.each (position_or_len is_none hs) inside
        ∙ ap mark_of (none_there _ (passes_at_first is_none hs None inside))
