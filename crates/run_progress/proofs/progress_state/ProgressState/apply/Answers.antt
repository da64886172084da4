use Rattle.run_progress.proofs.StandsLemmas.{hears}
use Rattle.run_progress.proofs.progress_state.ProgressState.apply.Goals as goal

pub returns-clause-told : goal.returns-clause-told
returns-clause-told c = rw (← c.self.view_is) (hears _ _ _ c.in_ok-hear.ensures.ok)
