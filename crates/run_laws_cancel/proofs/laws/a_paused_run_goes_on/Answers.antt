use Rattle.run_model.specs.Journal.{past_of}
use Rattle.run_laws_cancel.proofs.PauseLemmas.{ends_unpaused}
use Rattle.run_laws_cancel.proofs.laws.a_paused_run_goes_on.Goals as goal

pub returns : goal.returns
returns c = λ p journal legal. ends_unpaused p (past_of p journal)
