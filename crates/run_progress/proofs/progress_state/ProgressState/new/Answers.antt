use Rattle.std.proofs.Common.{◌∙◌, sym}
use Rattle.run_progress.proofs.DisplayLemmas.{seen_of-nil}
use Rattle.run_progress.proofs.progress_state.ProgressState.new.Goals as goal

pub returns-clause-told : goal.returns-clause-told
returns-clause-told c = record { seen_is = c.nothing.ensures ∙ sym (seen_of-nil c.args.max) }
