use Rattle.std.proofs.Common.{take, get_or, None}
use Rattle.std.specs.List.{list_any}
use Rattle.run_clock.specs.Sleep.{IsDueFrom}
use Rattle.run_model.specs.declared.unit_turn.UnitTurn.TheVariants.{Due}
use Rattle.run_model.specs.Turns.{unit_takes}
use Rattle.run_state.specs.Counted.{working_in}
use Rattle.run_state.proofs.units.Units.next_due.Given as goal

abbrev pub invariant-loop-place : goal.invariant-loop-place
invariant-loop-place l =
    IsDueFrom (λ now. list_any (λ k. unit_takes now (get_or l.self k None) Due) (take l.place (working_in l.self)))
    l.first
