use Rattle.run_model.specs.declared.unit_turn.UnitTurn.TheVariants as own
use Rattle.run_state.proofs.FirstLemmas.{IsFirstBy, NoneBy}
use Rattle.run_state.proofs.settle.first_units.Given as goal

abbrev pub invariant-loop-place : goal.invariant-loop-place
invariant-loop-place l =
    NoneBy l.state.board own.Take l.place × IsFirstBy l.state.board (own.Decide l.word) l.place l.decide
    × IsFirstBy l.state.board own.Due l.place l.due
