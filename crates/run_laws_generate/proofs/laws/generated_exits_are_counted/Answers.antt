use Rattle.run_generate.specs.Plan.{generated_settings}
use Rattle.run_laws_generate.proofs.CountLemmas.{fails_so}
use Rattle.run_laws_generate.proofs.ExitLemmas.{exits_so}
use Rattle.run_laws_generate.proofs.laws.generated_exits_are_counted.Goals as goal

pub returns : goal.returns
returns c = record {
  failures = fails_so;
  made = λ n journal k exit legal next. exits_so (generated_settings n) journal k exit legal next;
}
