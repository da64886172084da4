use Rattle.std.proofs.Common.{sym, subst}
use Rattle.serde_json.specs.Data.{string}
use Rattle.run_events.specs.declared.result.ExecutionResult.{ExecutionResult}
use Rattle.run_output.specs.Printer.{Prints, data_tokens}
use Rattle.run_output.specs.Texts.{result_text}
use Rattle.run_output.proofs.texts.print_result.Goals as goal

pub returns-in-Timeout : goal.returns-in-Timeout
returns-in-Timeout c = subst
    (λ (outcome : ExecutionResult). Prints c.print_timeout.result c.args.out.now c.print_timeout.new.out
    (data_tokens (string (result_text outcome))))
    (sym c.in-Timeout.is) c.print_timeout.ensures
