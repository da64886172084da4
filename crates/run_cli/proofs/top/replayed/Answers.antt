use Rattle.std.proofs.Common.{sym, subst}
use Rattle.run_cli.specs.Status.{Answers}
use Rattle.run_cli.proofs.StatusLemmas.{answers}
use Rattle.run_cli.proofs.top.replayed.Goals as goal

pub returns-clause-says : goal.returns-clause-says
returns-clause-says g c =
    subst (Answers _) (sym c.status_of_ending.ensures)
    (answers _ c.run_to_end-ending.result.ending c.run_to_end-ending.ensures.says c.run_to_end-ending.ensures.counted)
