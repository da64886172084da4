-- The weight of a list of units.
use Rattle.std.proofs.Common.{◌≡◌, ℕ, zero, suc, ◌+◌, ◌*◌, ◌<◌, ◌≤◌, List, [], ◌∷◌, ◌++◌, length, get_or, set, map}
use Rattle.std.proofs.Common.{Bool, true, false, Option, Some, None, if◌then◌else◌, option_map, refl, ap, sym}
use Rattle.std.proofs.Common.{◌∙◌, subst, arith, length-append}
use Rattle.std.proofs.lemmas.Bool.Decides.{nat_tests}
use Rattle.run_clock.specs.Sleep.{Sleep, fires_at, fires_now}
use Rattle.run_clock.specs.declared.sleep_state.SleepState.{SleepState}
use Rattle.run_clock.specs.declared.sleep_state.SleepState.TheVariants as states
use Rattle.run_events.specs.declared.request.Request.{Request}
use Rattle.run_events.specs.declared.request.Request.TheVariants.{OtherCancel}
use Rattle.run_model.specs.Board.{reach_all}
use Rattle.run_model.specs.Unit.{is_live, reached}
use Rattle.run_model.specs.declared.phase.Phase.{Phase}
use Rattle.run_model.specs.declared.phase.Phase.TheVariants.{Starting, Running}
use Rattle.run_model.specs.declared.phase.Phase.TheVariants.{Delay}
use Rattle.run_model.specs.declared.unit_view.UnitView.{UnitView}
use Rattle.run_laws_generate.proofs.Weights.{AreCancels, IsEasy, IsFarOff, StandsIn, weight}

-- the sum of the weights
abbrev pub sum_of : List (Option UnitView) → ℕ
sum_of [] = 0
sum_of (v ∷ us) = weight v + sum_of us

-- with another unit at a place
pub sum-set : (us : List (Option UnitView)) (k : ℕ) (v : Option UnitView) → k < length us
    → sum_of (set us k v) + weight (get_or us k None) ≡ sum_of us + weight v
sum-set [] k v below = absurd (omega arith)
sum-set (w ∷ us) zero v below = swap (weight v) (sum_of us) (weight w)
  where
    swap : (a b c : ℕ) → (a + b) + c ≡ (c + b) + a
    swap a b c = omega arith
sum-set (w ∷ us) (suc k) v below =
    after (weight w) (sum_of (set us k v)) (weight (get_or us k None)) (sum_of us) (weight v)
    (sum-set us k v (omega arith))
  where
    after : (a b c d e : ℕ) → b + c ≡ d + e → (a + b) + c ≡ (a + d) + e
    after a b c d e same = omega arith

-- where none was admitted
pub sum-none : (us : List (Option UnitView)) → ((k : ℕ) → get_or us k None ≡ None) → sum_of us ≡ 54 * length us
sum-none [] none = refl
sum-none (v ∷ us) none = more (weight v) (sum_of us) (length us) (ap weight (none 0)) (sum-none us (λ k. none (suc k)))
  where
    more : (a b n : ℕ) → a ≡ 54 → b ≡ 54 * n → a + b ≡ 54 * suc n
    more a b n here rest = omega arith

-- as many units that were not admitted
abbrev pub nones : List (Option UnitView) → List (Option UnitView)
nones us = map (λ u. None) us

-- each of them is none
pub nones-at : (us : List (Option UnitView)) (k : ℕ) → get_or (nones us) k None ≡ None
nones-at [] k = refl
nones-at (u ∷ us) zero = refl
nones-at (u ∷ us) (suc k) = nones-at us k

-- where each live unit is told that the run is cancelled
pub reach_weight : (v : Option UnitView) → weight (option_map (reached OtherCancel) v) ≤ weight v + 1
reach_weight None = omega arith
reach_weight (Some u) = by_live (is_live u.phase)
  where
    by_live : (b : Bool)
        → weight (Some (if b then record u { line = u.line ++ OtherCancel ∷ [] } else u)) ≤ weight (Some u) + 1
    by_live true = omega (arith, length-append u.line (OtherCancel ∷ []))
    by_live false = omega arith

-- the same of all units
pub sum-reach : (us : List (Option UnitView)) → sum_of (reach_all (Some OtherCancel) us) ≤ sum_of us + length us
sum-reach [] = omega arith
sum-reach (v ∷ us) =
    more (weight (option_map (reached OtherCancel) v)) (weight v) (sum_of (reach_all (Some OtherCancel) us)) (sum_of us)
    (length us) (reach_weight v) (sum-reach us)
  where
    more : (a b c d n : ℕ) → a ≤ b + 1 → c ≤ d + n → a + c ≤ (b + d) + suc n
    more a b c d n here rest = omega arith

-- a unit stands as another one with the same capture and timers
pub stands_same : (now : ℕ) (ended : Bool) (ph : Phase) (u v : UnitView) → v.capture ≡ u.capture → v.timers ≡ u.timers
    → StandsIn now ended ph u → StandsIn now ended ph v
stands_same now ended Starting u v caught timed h = caught ∙ h
stands_same now ended Running u v caught timed h = (caught ∙ h.0, subst (λ t. IsFarOff t.slow) (sym timed) h.1)
stands_same now ended Delay u v caught timed h = ap (λ t. fires_now now t.wait) timed ∙ h
stands_same now ended ph u v caught timed h = h

-- and as it did before
fires_later : (now later : ℕ) (timer : Option Sleep) → now ≤ later → fires_now now timer ≡ true
    → fires_now later timer ≡ true
fires_later now later None le fires = cc
fires_later now later (Some timer) le fires = by_state timer.state fires
  where
    by_state : (state : SleepState) → fires_at state now ≡ true → fires_at state later ≡ true
    by_state (states.Running deadline) fires = grind (arith, nat_tests, fires)
    by_state (states.Paused remaining) fires = cc

-- so a unit is easy later on
pub easy_later : (now later : ℕ) (ended : Bool) (u : UnitView) → now ≤ later → IsEasy now ended u
    → IsEasy later ended u
easy_later now later ended u le easy = record { stands = by_phase u.phase easy.stands; line = easy.line }
  where
    by_phase : (ph : Phase) → StandsIn now ended ph u → StandsIn later ended ph u
    by_phase Delay h = fires_later now later u.timers.wait le h
    by_phase ph h = h

-- a line with one more cancel
lined : (line : List Request) → AreCancels line → AreCancels (line ++ OtherCancel ∷ [])
lined [] cancels = (refl, tt)
lined (request ∷ line) cancels = (cancels.0, lined line cancels.1)

-- a unit that is told that the run is cancelled
pub reached_easy : (now : ℕ) (ended : Bool) (u : UnitView) → IsEasy now ended u
    → IsEasy now ended (reached OtherCancel u)
reached_easy now ended u easy = by_live (is_live u.phase)
  where
    by_live : (b : Bool) → IsEasy now ended (if b then record u { line = u.line ++ OtherCancel ∷ [] } else u)
    by_live true = record {
      stands = stands_same now ended u.phase u (record u { line = u.line ++ OtherCancel ∷ [] }) refl refl easy.stands;
      line = lined u.line easy.line;
    }
    by_live false = easy
