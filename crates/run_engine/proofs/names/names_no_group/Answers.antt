use Rattle.std.proofs.Common.{not, ap, ◌∙◌}
use Rattle.run_engine.proofs.NameLemmas.{names_none}
use Rattle.run_engine.proofs.names.names_no_group.Goals as goal

pub returns-in-Some : goal.returns-in-Some
returns-in-Some c = λ groups has.
    rw c.in-Some.is (ap not c.contains.ensures ∙ names_none groups c.args.names.now c.in-Some.name has)
