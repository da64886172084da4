use Rattle.std.proofs.Common.{sym}
use Rattle.run_state.specs.Settle.{settling}
use Rattle.run_state.proofs.SettleLemmas.{over_none}
use Rattle.run_state.proofs.settle.next_settled.Goals as goal

pub returns-then-is_over : goal.returns-then-is_over
returns-then-is_over c =
    sym (over_none c.args.settings.now c.args.state.now.board (settling c.args.settings.now c.args.word)
    (sym c.if-is_over.ensures))
