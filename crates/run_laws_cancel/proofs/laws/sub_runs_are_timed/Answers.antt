use Rattle.run_laws_cancel.proofs.SubRunTimeLemmas.{sub_timed}
use Rattle.run_laws_cancel.proofs.laws.sub_runs_are_timed.Goals as goal

pub returns : goal.returns
returns c = sub_timed
