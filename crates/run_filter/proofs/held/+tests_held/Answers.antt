use Rattle.std.proofs.Common.{ap, refl, true, false}
use Rattle.run_filter.specs.Tree.{all, nothing, default, tree_of}
use Rattle.run_filter.proofs.HeldLemmas.{mapped_held}
use Rattle.run_filter.proofs.held.+tests_held.Goals as goal

pub returns-in-All : goal.returns-in-All
returns-in-All t c =
    mapped_held c.same_for_each.result _ all (λ x. true) c.args.tests.now (ap tree_of c.in-All.is)
    c.same_for_each.ensures (λ pattern place no. absurd no) (λ x. refl)

pub returns-in-Nothing : goal.returns-in-Nothing
returns-in-Nothing t c =
    mapped_held c.same_for_each-in-Nothing.result _ nothing (λ x. false) c.args.tests.now (ap tree_of c.in-Nothing.is)
    c.same_for_each-in-Nothing.ensures (λ pattern place no. absurd no) (λ x. refl)

pub returns-in-Default : goal.returns-in-Default
returns-in-Default t c =
    mapped_held c.default_held.result _ default (λ x. x.in_default) c.args.tests.now (ap tree_of c.in-Default.is)
    c.default_held.ensures (λ pattern place no. absurd no) (λ x. refl)
