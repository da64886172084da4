use Rattle.std.specs.Prelude.{is_err}
use Rattle.run_report.proofs.BarLemmas.{of_no_error}
use Rattle.run_report.proofs.bar_sink.BarSink.into_sink.Goals as goal

pub returns : goal.returns
returns g c = (is_err c.erase.result, c.erase.ensures.fault, of_no_error c.erase.result c.erase.ensures.taken)
