use Rattle.std.proofs.Common.{reverse}
use Rattle.run_laws_audit.proofs.AllKept.{accounts_were_told, scripts_were_told}
use Rattle.run_laws_audit.proofs.CancelLemmas.{cancels_due}
use Rattle.run_laws_audit.proofs.laws.what_is_due_was_told.Goals as goal

pub returns : goal.returns
returns c = record {
  accounts = λ p journal once legal. accounts_were_told p (reverse journal) once legal;
  scripts = λ p journal legal. scripts_were_told p (reverse journal) legal;
  cancels = λ p journal legal. cancels_due p (reverse journal) legal;
}
