use Rattle.std.proofs.Common.{option_map}
use Rattle.std.proofs.lemmas.List.Edits.{map_over_more}
use Rattle.run_model.specs.Unit.{reached}
use Rattle.run_state.proofs.CountedLemmas.{failed_left, failed_live, some_live}
use Rattle.run_state.proofs.PlaceLemmas.{kinds-failed, kinds-some}
use Rattle.run_state.proofs.WorkingLemmas.{working-failed, working-some}
use Rattle.run_state.proofs.broadcast.reach_each.Goals as goal

pub loop-unit-preserved : goal.loop-unit-preserved
loop-unit-preserved c =
    rw (c.in_ok-reach.ensures.ok, ← c.unit-item.is)
    (map_over_more (option_map (reached c.args.request)) _ _ _ _ c.loop-unit-test.true c.loop-unit.invariant
    c.unit-item.is)

pub returns-in_err-reach-clause-left : goal.returns-in_err-reach-clause-left
returns-in_err-reach-clause-left c =
    failed_left c.args.request c.loop-unit.unit-index c.args.units.now c.loop-unit.units c.loop-unit.unit-index
    c.reach.new.unit c.unit-item.result c.loop-unit.invariant c.in_err-reach.ensures.err

pub returns-in_err-reach-clause-scripts : goal.returns-in_err-reach-clause-scripts
returns-in_err-reach-clause-scripts c =
    kinds-failed c.args.request c.loop-unit.unit-index c.args.units.now c.loop-unit.units c.loop-unit.unit-index
    c.reach.new.unit c.unit-item.result c.loop-unit.invariant c.in_err-reach.ensures.err

pub returns-clause-scripts : goal.returns-clause-scripts
returns-clause-scripts c =
    kinds-some c.args.request c.loop-unit.unit-index c.args.units.now c.loop-unit.units c.loop-unit.invariant

pub returns-in_err-reach-clause-working : goal.returns-in_err-reach-clause-working
returns-in_err-reach-clause-working c =
    working-failed c.args.request c.loop-unit.unit-index c.args.units.now c.loop-unit.units c.loop-unit.unit-index
    c.reach.new.unit c.unit-item.result c.loop-unit.invariant c.in_err-reach.ensures.err

pub returns-clause-working : goal.returns-clause-working
returns-clause-working c =
    working-some c.args.request c.loop-unit.unit-index c.args.units.now c.loop-unit.units c.loop-unit.invariant

pub returns-in_err-reach-clause-live : goal.returns-in_err-reach-clause-live
returns-in_err-reach-clause-live c =
    failed_live c.args.request c.loop-unit.unit-index c.args.units.now c.loop-unit.units c.loop-unit.unit-index
    c.reach.new.unit c.unit-item.result c.loop-unit.invariant c.in_err-reach.ensures.err

pub returns-clause-live : goal.returns-clause-live
returns-clause-live c =
    some_live c.args.request c.loop-unit.unit-index c.args.units.now c.loop-unit.units c.loop-unit.invariant
