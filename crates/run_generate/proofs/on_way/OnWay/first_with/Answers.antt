-- The first unit in the phase is the least with such a child.
use Rattle.std.proofs.Common.{ap, ◌∙◌}
use Rattle.run_model.specs.Admission.{is_last}
use Rattle.run_generate.specs.OnWay.{board_of}
use Rattle.run_generate.proofs.ChildLemmas.{child_going, first_found}
use Rattle.run_generate.proofs.on_way.OnWay.first_with.Goals as goal

pub first_in-requires : goal.first_in-requires
first_in-requires c = ap is_last c.phase.ensures ∙ child_going c.args.child

pub returns : goal.returns
returns c =
    first_found c.args.child (board_of c.args.self.now) c.phase.result c.first_in.result c.phase.ensures
    c.first_in.ensures.first c.first_in.ensures.none
