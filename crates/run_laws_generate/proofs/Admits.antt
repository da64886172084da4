-- What an admission and the clock do to the board of a generated run.
use Rattle.std.proofs.Common.{◌≡◌, ◌⊎◌, inl, inr, ℕ, ◌+◌, ◌≤◌, ◌&&◌, not, []}
use Rattle.std.proofs.Common.{length, get_or, set, drop, true, false, Option, Some, None, is_some}
use Rattle.std.proofs.Common.{refl, ap, sym, ◌∙◌, arith}
use Rattle.run_events.specs.declared.settings.Settings.{Settings}
use Rattle.run_events.specs.declared.turn.Turn.TheVariants as turns
use Rattle.run_model.specs.Admission.{Newcomer, newcomer}
use Rattle.run_model.specs.Backoff.{retry_count}
use Rattle.run_model.specs.Board.{Board, moved, step}
use Rattle.run_model.specs.Environment.{number}
use Rattle.run_model.specs.Turns.{admission, deed_on, enabled_on}
use Rattle.run_model.specs.Turns.{index_of, nothing_done, run_takes}
use Rattle.run_model.specs.declared.happening.UnitPart.TheVariants.{Joins}
use Rattle.run_model.specs.declared.phase.Phase.TheVariants.{StartSent, Over}
use Rattle.run_model.specs.declared.unit_view.UnitView.{UnitView}
use Rattle.run_laws_generate.proofs.Moves.{Eases, IsCalm, easy-set, plain_eases}
use Rattle.run_laws_generate.proofs.Moves.{step_eases}
use Rattle.run_laws_generate.proofs.Steps.{IsFresh, IsKnown}
use Rattle.run_laws_generate.proofs.Steps.{both-left, both-right, same_drop}
use Rattle.run_laws_generate.proofs.Sums.{sum-set, sum_of}
use Rattle.run_laws_generate.proofs.Next.{at_rest, after_tick}
use Rattle.run_laws_generate.proofs.Weights.{IsEasy, StandsIn, weight}

-- an admission
pub admit_eases : (p : Settings) (b : Board) → IsKnown p b → IsCalm None b → enabled_on p b turns.Admit ≡ true
    → Eases at_rest at_rest 1 None b (step b turns.Admit (deed_on p b turns.Admit))
admit_eases p b known calm en =
    step_eases at_rest at_rest 1 None b turns.Admit (deed_on p b turns.Admit)
    (by_new (newcomer p (index_of b.dispatcher) b.units) refl
    (both-right b.dispatcher.on (is_some (newcomer p (index_of b.dispatcher) b.units)) taken))
  where
    taken : (b.dispatcher.on && is_some (newcomer p (index_of b.dispatcher) b.units)) ≡ true
    taken = both-right (not b.dispatcher.over) (run_takes p b turns.Admit) en

    on : b.dispatcher.on ≡ true
    on = both-left b.dispatcher.on (is_some (newcomer p (index_of b.dispatcher) b.units)) taken

    light : (u : UnitView) → IsFresh b u → weight (Some u) ≤ 52
    light u fresh = by_phase fresh.phase
      where
        few : retry_count u.terms.retries ≤ 1
        few =
            let is : retry_count u.terms.retries ≡ fresh.plain.retries = ap retry_count fresh.plain.is_fixed in
            omega (arith, fresh.plain.once)

        none : length u.line ≡ 0
        none = ap length fresh.line

        by_phase : (u.phase ≡ StartSent) ⊎ (u.phase ≡ Over) → weight (Some u) ≤ 52
        by_phase (inl at) = rw at (omega (arith, fresh.attempt, few, none))
        by_phase (inr at) = rw at (omega (arith, none))

    easy : (u : UnitView) → IsFresh b u → IsEasy b.clock false u
    easy u fresh = record { stands = by_phase fresh.phase; line = rw fresh.line tt }
      where
        by_phase : (u.phase ≡ StartSent) ⊎ (u.phase ≡ Over) → StandsIn b.clock false u.phase u
        by_phase (inl at) = rw at tt
        by_phase (inr at) = rw at tt

    sums : (x g w s m q n : ℕ) → x + g ≡ s + w → g ≡ 54 → w ≤ 52 → m ≤ 1 → q ≡ n → x + m + q + 21 + 1 ≤ s + n + 21
    sums x g w s m q n set absent light one same = omega arith

    by_new : (o : Option Newcomer) → newcomer p (index_of b.dispatcher) b.units ≡ o → is_some o ≡ true
        → Eases at_rest at_rest 1 None b (moved b (admission o))
    by_new None is some = cc
    by_new (Some new) is some =
        let fresh : IsFresh b new.unit = known.news new is in
        let k : ℕ = number new.unit in
        plain_eases at_rest at_rest 1 None None b (Some (Joins new.unit)) (Some new.sent) [] false None None
        calm refl
        (easy-set b.clock None None b.units k new.unit fresh.below calm.easy (λ j e. refl) (easy new.unit fresh))
        (λ off going. let never : true ≡ false = sym on ∙ off in cc)
        (sums (sum_of (set b.units k (Some new.unit))) (weight (get_or b.units k None)) (weight (Some new.unit))
        (sum_of b.units) 1 (length (drop 0 b.queue)) (length b.queue) (sum-set b.units k (Some new.unit) fresh.below)
        (ap weight fresh.absent) (light new.unit fresh) (omega arith) (same_drop b.queue))

-- time passes for a child that runs
pub clock_eases : (p : Settings) (b : Board) → IsCalm None b
    → Eases at_rest after_tick 20 None b (step b (turns.Clock 1000000) (deed_on p b (turns.Clock 1000000)))
clock_eases p b calm =
    step_eases at_rest after_tick 20 None b (turns.Clock 1000000) nothing_done
    (plain_eases at_rest after_tick 20 None None b None None [] false None None calm refl calm.easy calm.before
    (sums (sum_of b.units) (length (drop 0 b.queue)) (length b.queue) (same_drop b.queue)))
  where
    sums : (s q n : ℕ) → q ≡ n → s + 0 + q + 1 + 20 ≤ s + n + 21
    sums s q n same = omega arith
