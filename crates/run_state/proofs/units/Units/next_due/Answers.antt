use Rattle.std.proofs.Common.{◌≡◌, ◌<◌, ◌+◌, suc, ◌∙◌, ℕ, length, take, get_or, None, sym, subst, ap, arith}
use Rattle.std.proofs.Math.Seq.{take-length}
use Rattle.std.specs.List.{list_any}
use Rattle.run_clock.specs.Sleep.{IsDueFrom}
use Rattle.run_model.specs.declared.unit_turn.UnitTurn.TheVariants.{Due}
use Rattle.run_model.specs.Turns.{unit_takes}
use Rattle.run_state.specs.Counted.{working_in}
use Rattle.run_state.proofs.DueLemmas.{due-same, any-taken, any-working}
use Rattle.run_state.proofs.units.Units.next_due.Goals as goal

pub loop-place-preserved : goal.loop-place-preserved
loop-place-preserved c =
    let us = c.args.self.now in
    let i = c.loop-place.place in
    let more : suc i ≡ i + 1 = omega arith in
    let inside : i < length (working_in us) = omega arith in
    due-same _ _ c.sooner-first.result (λ now. sym (any-taken (λ k. unit_takes now (get_or us k None) Due)
    (working_in us) i inside)
    ∙ ap (λ n. list_any (λ k. unit_takes now (get_or us k None) Due) (take n (working_in us))) more)
    (c.sooner-first.ensures
    (λ now. list_any (λ k. unit_takes now (get_or us k None) Due) (take i (working_in us)))
    (λ now. unit_takes now (get_or us (get_or (working_in us) i 0) None) Due) c.loop-place.invariant
    (subst (λ (k : ℕ). IsDueFrom (λ now. unit_takes now (get_or us k None) Due) c.due_of.result) c.working_at.ensures
    c.due_of.ensures))

pub returns : goal.returns
returns c =
    let us = c.args.self.now in
    let all : c.loop-place.place ≡ length (working_in us) = omega arith in
    due-same _ _ c.loop-place.first
    (λ now. ap (list_any (λ k. unit_takes now (get_or us k None) Due))
    (ap (λ n. take n (working_in us)) all ∙ take-length (working_in us)) ∙ any-working now us)
    c.loop-place.invariant
