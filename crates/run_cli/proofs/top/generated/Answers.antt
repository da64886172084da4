use Rattle.std.proofs.Common.{sym, subst}
use Rattle.run_cli.specs.Generates.{AnswersGenerate}
use Rattle.run_cli.proofs.GenerateLemmas.{answers_generate}
use Rattle.run_cli.proofs.top.generated.Goals as goal

pub returns : goal.returns
returns g c =
    let end = c.run_generated-ending in
    subst (AnswersGenerate c.args.tests _) (sym c.status_of_ending.ensures)
    (answers_generate c.args.tests _ end.result.ending end.ensures)
