use Rattle.run_laws_cancel.proofs.RequestLemmas.{requests}
use Rattle.run_laws_cancel.proofs.laws.requests_are_of_causes.Goals as goal

pub returns : goal.returns
returns c = requests
