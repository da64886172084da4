use Rattle.std.proofs.Common.{reverse}
use Rattle.run_model.specs.Journal.{past_of}
use Rattle.run_model.specs.Words.{sub_run}
use Rattle.run_laws.proofs.board.Kept.{accounts, made}
use Rattle.run_laws.proofs.told.OnceLemmas.{told_once}
use Rattle.run_laws.proofs.laws.attempts_are_told_once.Goals as goal

pub returns : goal.returns
returns c = λ p journal legal j. told_once p (sub_run (past_of p journal)) j (accounts p (reverse journal) legal j)
    (λ u is. (made p (reverse journal) legal j u is).statuses)
