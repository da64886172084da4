use Rattle.std.proofs.Common.{sym, subst}
use Rattle.run_events.specs.declared.turn.Turn.{Turn}
use Rattle.run_output.specs.Printer.{Prints, data_tokens}
use Rattle.run_output.specs.Turns.{turn_data}
use Rattle.run_output.proofs.turns.print_bare.Goals as goal

pub returns-in-ReportCancel : goal.returns-in-ReportCancel
returns-in-ReportCancel c = subst
    (λ (turn : Turn).
    Prints c.bare-in-ReportCancel.result c.args.out.now c.bare-in-ReportCancel.new.out (data_tokens (turn_data turn)))
    (sym c.in-ReportCancel.is) c.bare-in-ReportCancel.ensures
