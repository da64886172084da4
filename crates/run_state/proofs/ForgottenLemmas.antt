-- A unit of which nothing is kept counts as it did.
use Rattle.std.proofs.Common.{◌≡◌, ◌⊎◌, inl, inr, ℕ, ◌≤◌, ◌+◌, List, [], ◌∷◌, map, length, get_or, set}
use Rattle.std.proofs.Common.{Bool, true, false, not, if◌then◌else◌, Option, Some}
use Rattle.std.proofs.Common.{None, count_by, refl, ap, sym, subst, ◌∙◌}
use Rattle.std.specs.List.{list_any}
use Rattle.std.proofs.lemmas.Bool.{and_parts}
use Rattle.std.proofs.lemmas.List.{set-get_or}
use Rattle.std.proofs.Math.Seq.{map-set_same}
use Rattle.run_admission.specs.InUse.{Admissions}
use Rattle.run_events.specs.declared.request.Request.{Request}
use Rattle.run_events.specs.declared.settings.Settings.{Settings}
use Rattle.run_model.specs.declared.phase.Phase.{Phase}
use Rattle.run_model.specs.declared.phase.Phase.TheVariants.{Over}
use Rattle.run_model.specs.declared.unit_view.UnitView.{UnitView}
use Rattle.run_model.specs.Admission.{is_last, limits_of}
use Rattle.run_model.specs.Requests.{has_request}
use Rattle.run_model.specs.Same.{is_request}
use Rattle.run_model.specs.Story.{is_live_unit}
use Rattle.run_model.specs.Turns.{live_in}
use Rattle.run_model.specs.Unit.{is_live}
use Rattle.run_unit.specs.Gone.{gone, is_spent}
use Rattle.run_state.specs.Counted.{holders_in, holds_asked, is_left, is_working, places, working_in}
use Rattle.run_state.specs.Forgotten.{forgotten, forgotten_at}
use Rattle.run_state.specs.Placed.{AreTests, FitsUnits}
use Rattle.run_state.proofs.CountedLemmas.{stands_inside}
use Rattle.run_state.proofs.HoldersLemmas.{counted_set}
use Rattle.run_state.proofs.PlaceLemmas.{tests-set}
use Rattle.run_state.proofs.SeatLemmas.{seat_over, seats-going}

-- a unit is over and has an empty line, and nothing is kept of it
record Forgets (us : List (Option UnitView)) (k : ℕ) : Type 0 where
  unit : UnitView
  at : get_or us k None ≡ Some unit
  over : is_last unit.phase ≡ true
  line : unit.line ≡ []
  is : forgotten_at k us ≡ set us k (Some gone)

-- or the units are left
cases : (us : List (Option UnitView)) (k : ℕ) → (forgotten_at k us ≡ us) ⊎ Forgets us k
cases us k = by_old (get_or us k None) refl
  where
    empty : (line : List Request) → not (has_request line) ≡ true → line ≡ []
    empty [] e = refl
    empty (request ∷ line) e = cc

    same : (o : Option UnitView) → get_or us k None ≡ o → forgotten o ≡ o → forgotten_at k us ≡ us
    same o at is =
        ap (λ v. set us k (forgotten v)) at ∙ ap (set us k) (is ∙ sym at) ∙ set-get_or us k None

    by_spent : (u : UnitView) (b : Bool) → get_or us k None ≡ Some u → is_spent u ≡ b
        → (forgotten_at k us ≡ us) ⊎ Forgets us k
    by_spent u false at e = inl (same (Some u) at (ap (λ b. if b then Some gone else Some u) e))
    by_spent u true at e =
        let parts = and_parts (is_last u.phase) (not (has_request u.line)) e in inr (record {
          unit = u;
          at = at;
          over = parts.0;
          line = empty u.line parts.1;
          is = ap (λ v. set us k (forgotten v)) at ∙ ap (λ b. set us k (if b then Some gone else Some u)) e;
        })

    by_old : (o : Option UnitView) → get_or us k None ≡ o → (forgotten_at k us ≡ us) ⊎ Forgets us k
    by_old None at = inl (same None at refl)
    by_old (Some u) at = by_spent u (is_spent u) at refl

-- a unit that is over and has an empty line, and one of which nothing is kept, are alike in this
abbrev AreAlike : (Option UnitView → Bool) → Type 0
AreAlike f = (u : UnitView) → is_last u.phase ≡ true → u.line ≡ [] → f (Some gone) ≡ f (Some u)

-- so it is left
same_by : (f : Option UnitView → Bool) → AreAlike f → (us : List (Option UnitView)) (k : ℕ)
    → map f us ≡ map f (forgotten_at k us)
same_by f alike us k = by_case (cases us k)
  where
    by_case : (forgotten_at k us ≡ us) ⊎ Forgets us k → map f us ≡ map f (forgotten_at k us)
    by_case (inl is) = sym (ap (map f) is)
    by_case (inr it) =
        sym (ap (map f) it.is
        ∙ map-set_same f us k (Some gone) None (alike it.unit it.over it.line ∙ sym (ap f it.at)))

-- and so is how many are counted by it
counted_by : (f : Option UnitView → Bool) → AreAlike f → (us : List (Option UnitView)) (k : ℕ)
    → count_by f us ≡ count_by f (forgotten_at k us)
counted_by f alike us k = by_case (cases us k)
  where
    by_case : (forgotten_at k us ≡ us) ⊎ Forgets us k → count_by f us ≡ count_by f (forgotten_at k us)
    by_case (inl is) = sym (ap (count_by f) is)
    by_case (inr it) =
        counted_set f us k (count_by f us) (count_by f us) (Some gone) (f (Some it.unit)) (f (Some it.unit)) refl
        (stands_inside us k it.unit it.at) (sym (ap f it.at)) (sym (alike it.unit it.over it.line)) refl
        ∙ sym (ap (count_by f) it.is)

pub left_forgotten : (us : List (Option UnitView)) (k : ℕ) → count_by is_left us ≡ count_by is_left (forgotten_at k us)
left_forgotten = counted_by is_left (λ u over line. ap not (sym over))

pub live_forgotten : (us : List (Option UnitView)) (k : ℕ) → live_in us ≡ live_in (forgotten_at k us)
live_forgotten = counted_by is_live_unit (λ u over line. by_phase u.phase over)
  where
    by_phase : (ph : Phase) → is_last ph ≡ true → false ≡ is_live ph
    by_phase Over e = refl
    by_phase ph e = cc

pub working_forgotten : (us : List (Option UnitView)) (k : ℕ) → working_in us ≡ working_in (forgotten_at k us)
working_forgotten us k = ap (places 0) (same_by is_working (λ u over line. ap not (sym over)) us k)

holders_forgotten : (asks : Option Request) (us : List (Option UnitView)) (k : ℕ)
    → holders_in asks us ≡ holders_in asks (forgotten_at k us)
holders_forgotten asks = counted_by (holds_asked asks) (λ u over line. by_asks asks u line)
  where
    by_asks : (asks : Option Request) (u : UnitView) → u.line ≡ []
        → holds_asked asks (Some gone) ≡ holds_asked asks (Some u)
    by_asks None u line = refl
    by_asks (Some request) u line = ap (list_any (is_request request)) (sym line)

-- what is held of the limits is left
pub limits_forgotten : (p : Settings) (us : List (Option UnitView)) (k : ℕ)
    → limits_of p us ≡ limits_of p (forgotten_at k us)
limits_forgotten p us k = by_case (cases us k)
  where
    by_case : (forgotten_at k us ≡ us) ⊎ Forgets us k → limits_of p us ≡ limits_of p (forgotten_at k us)
    by_case (inl is) = sym (ap (limits_of p) is)
    by_case (inr it) =
        sym (ap (limits_of p) it.is ∙ ap (λ seats. record (limits_of p us) { seats = seats })
        (seats-going p us k it.unit gone it.at (sym (seat_over it.unit it.over))))

-- what is kept beside the units fits them
pub fits_forgotten : (asks : Option Request) (us : List (Option UnitView)) (holders : ℕ) (a : Admissions) (k : ℕ)
    → FitsUnits asks us holders a → FitsUnits asks (forgotten_at k us) holders a
fits_forgotten asks us holders a k fits = (by_case (cases us k), fits.1 ∙ holders_forgotten asks us k, fits.2)
  where
    by_case : (forgotten_at k us ≡ us) ⊎ Forgets us k → AreTests (forgotten_at k us) a
    by_case (inl is) = subst (λ vs. AreTests vs a) (sym is) fits.0
    by_case (inr it) = subst (λ vs. AreTests vs a) (sym it.is) (tests-set us a a k gone fits.0 refl (λ last. refl))
