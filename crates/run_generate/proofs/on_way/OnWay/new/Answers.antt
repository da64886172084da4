use Rattle.run_generate.proofs.WayLemmas.{begins}
use Rattle.run_generate.proofs.on_way.OnWay.new.Goals as goal

pub returns-clause-way : goal.returns-clause-way
returns-clause-way c = begins c.args.run c.requires
