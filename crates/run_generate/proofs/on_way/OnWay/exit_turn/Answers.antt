-- The attempt of the unit whose child runs is that of its board.
use Rattle.std.proofs.Common.{◌∙◌, ap, sym, Some, None}
use Rattle.run_events.specs.declared.turn.Turn.TheVariants.{Exit}
use Rattle.run_generate.specs.OnWay.{board_of}
use Rattle.run_generate.proofs.ChildLemmas.{exit_is}
use Rattle.run_generate.proofs.on_way.OnWay.exit_turn.Goals as goal

pub returns-in_err-attempt : goal.returns-in_err-attempt
returns-in_err-attempt c =
    c.from_residual-in_err-attempt.ensures
    ∙ exit_is (board_of c.args.self.now) c.in_ok-unit.unit None (sym c.in_ok-unit.was ∙ c.first_with.ensures)
    (sym c.in_err-attempt.was ∙ c.attempt.ensures.board)

pub returns : goal.returns
returns c =
    ap (λ exit. Some (Exit c.in_ok-unit.unit exit)) c.exit_at-exit.ensures
    ∙ exit_is (board_of c.args.self.now) c.in_ok-unit.unit (Some c.in_ok-attempt.attempt)
    (sym c.in_ok-unit.was ∙ c.first_with.ensures) (sym c.in_ok-attempt.was ∙ c.attempt.ensures.board)
