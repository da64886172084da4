use Rattle.run_capture.proofs.HeardLemmas.{output_is_what_was_heard}
use Rattle.run_capture.proofs.laws.output_is_what_was_heard.Goals as goal

pub returns : goal.returns
returns c = output_is_what_was_heard
