use Rattle.run_model.specs.Journal.{past_of}
use Rattle.run_model.specs.Words.{sub_run}
use Rattle.run_laws_rows.proofs.StatisticLemmas.{counts_finishes}
use Rattle.run_laws_rows.proofs.laws.statistics_count_finishes.Goals as goal

pub returns : goal.returns
returns c = λ p journal legal. counts_finishes p (sub_run (past_of p journal))
