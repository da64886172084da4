use Rattle.run_filter.specs.Tree.{tree_of}
use Rattle.run_filter.proofs.HeldLemmas.{text_held}
use Rattle.run_filter.proofs.held.held_by_text.Goals as goal

pub returns-in-Ok : goal.returns-in-Ok
returns-in-Ok c =
    text_held c.tests_held-held.result (tree_of c.in-Ok.filter) c.args.text.now c.args.tests.now c.in-Ok.ensures
    c.tests_held-held.ensures
