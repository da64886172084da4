use Rattle.run_laws_build.proofs.RefusalLemmas.{accepted, refused}
use Rattle.run_laws_build.proofs.laws.plans_are_refused_in_order.Goals as goal

pub returns : goal.returns
returns c = record { refused = refused; accepted = accepted }
