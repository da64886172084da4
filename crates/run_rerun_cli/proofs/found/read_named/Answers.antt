use Rattle.std.proofs.Common.{sym, subst}
use Rattle.run_rerun_cli.specs.Finds.{GivesError, found_error}
use Rattle.run_rerun_cli.proofs.FoundLemmas.{error_has}
use Rattle.run_rerun_cli.proofs.found.read_named.Goals as goal

pub returns-in-Err-clause-says : goal.returns-in-Err-clause-says
returns-in-Err-clause-says g c =
    let told = g.T.Stores.bytes c.args.stores.now c.args.name.now in
    let left = g.T.Src.Source.left c.read_store-answer.new.source in
    subst (GivesError told) (sym c.error_of.ensures)
    (subst (λ told. GivesError told (found_error c.in-Err.error)) c.in-Ok.ensures.left
    (error_has (g.T.Src.Source.left c.in-Ok.source) left c.in-Err.error c.in-Err.ensures.says))
