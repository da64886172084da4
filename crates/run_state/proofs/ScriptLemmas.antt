-- The next script, and what scripts handed on.
use Rattle.std.proofs.Common.{◌≡◌, ℕ, suc, ◌+◌, ◌<◌, ◌∷◌, List, [], length, take, get_or, Bool, true, false}
use Rattle.std.proofs.Common.{if◌then◌else◌, Option, Some, None, option_map, refl, sym, subst, ◌∙◌, arith}
use Rattle.std.proofs.lemmas.Option.{same_Some}
use Rattle.std.proofs.lemmas.List.{get_or-take, length-take}
use Rattle.run_model.specs.declared.unit_view.UnitView.{UnitView}
use Rattle.run_model.specs.Admission.{is_last, handed_from, open_script}

-- a place from another on
abbrev pub from : ℕ → Option ℕ → Option ℕ
from i place = option_map (λ j. i + j) place

-- the next script is one of them, and wasn't admitted
abbrev pub IsAbsent : List (Option UnitView) → ℕ → Type 0
IsAbsent us i = (i < length us) × (get_or us i None ≡ None)

open_absent : (us : List (Option UnitView)) (i : ℕ) → open_script us ≡ Some i → IsAbsent us i
open_absent [] i e = cc
open_absent (None ∷ us) i e =
    let first : 0 ≡ i = same_Some _ _ e in subst (IsAbsent (None ∷ us)) first (omega arith, refl)
open_absent (Some u ∷ us) i e = by_last (is_last u.phase) (λ j. open_absent us j) e
  where
    Rest : Type 0
    Rest = (j : ℕ) → open_script us ≡ Some j → IsAbsent us j

    later : (o : Option ℕ) → open_script us ≡ o → Rest → option_map (λ i. i + 1) o ≡ Some i
        → IsAbsent (Some u ∷ us) i
    later None is rest e = cc
    later (Some j) is rest e =
        let found = rest j is in
        let below : j < length us = found.0 in
        let next : j + 1 ≡ i = same_Some _ _ e in
        let step : suc j ≡ i = omega (arith, next) in
        subst (IsAbsent (Some u ∷ us)) step (omega (arith, below), found.1)

    by_last : (b : Bool) → Rest → (if b then option_map (λ i. i + 1) (open_script us) else None) ≡ Some i
        → IsAbsent (Some u ∷ us) i
    by_last true rest e = later (open_script us) refl rest e
    by_last false rest e = cc

-- also where the scripts are the first of the units, so many
pub open_first : (n : ℕ) (us : List (Option UnitView)) (i : ℕ) → open_script (take n us) ≡ Some i
    → (i < n) × IsAbsent us i
open_first n us i e =
    let found = open_absent (take n us) i e in
    let below : i < length (take n us) = found.0 in
    let within : i < n = omega (arith, below, length-take n us) in
    let inside : i < length us = omega (arith, below, length-take n us) in
    (within, (inside, sym (get_or-take n us i None within) ∙ found.1))

-- no number, and nothing was handed on
pub handed-none : (numbers : List ℕ) (k : ℕ) (us : List (Option UnitView)) → length numbers ≡ 0
    → [] ≡ handed_from numbers k us
handed-none [] k [] none = refl
handed-none [] k (u ∷ us) none = handed-none [] (k + 1) us none
handed-none (n ∷ numbers) k us none = absurd (omega (arith, none))
