use Rattle.std.proofs.Common.{sym, subst}
use Rattle.run_events.specs.declared.turn.Turn.{Turn}
use Rattle.run_output.specs.Printer.{Prints, data_tokens}
use Rattle.run_output.specs.Turns.{turn_data}
use Rattle.run_output.proofs.turns.print_bytes.Goals as goal

pub returns-in-StartFailed : goal.returns-in-StartFailed
returns-in-StartFailed c = subst
    (λ (turn : Turn).
    Prints c.failed.result c.args.out.now c.failed.new.out (data_tokens (turn_data turn)))
    (sym c.in-StartFailed.is) c.failed.ensures

pub returns-in-WaitFailed : goal.returns-in-WaitFailed
returns-in-WaitFailed c = subst
    (λ (turn : Turn).
    Prints c.failed-in-WaitFailed.result c.args.out.now c.failed-in-WaitFailed.new.out (data_tokens (turn_data turn)))
    (sym c.in-WaitFailed.is) c.failed-in-WaitFailed.ensures
