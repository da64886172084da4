use Rattle.std.proofs.Common.{sym, subst}
use Rattle.serde_json.specs.Data.{string}
use Rattle.run_events.specs.declared.result.ExecutionResult.TheVariants.{Timeout}
use Rattle.run_events.specs.declared.result.SlowTimeoutResult.{SlowTimeoutResult}
use Rattle.run_output.specs.Printer.{Prints, data_tokens}
use Rattle.run_output.specs.Texts.{result_text}
use Rattle.run_output.proofs.texts.print_timeout.Goals as goal

pub returns-in-Pass : goal.returns-in-Pass
unfolding result_text
returns-in-Pass c = subst
    (λ (ending : SlowTimeoutResult). Prints c.text.result c.args.out.now c.text.new.self
    (data_tokens (string (result_text (Timeout ending)))))
    (sym c.in-Pass.is) c.text.ensures
