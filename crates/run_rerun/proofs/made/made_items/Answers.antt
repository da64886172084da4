use Rattle.std.proofs.Common.{◌≡◌, ◌∙◌, length, sym}
use Rattle.std.specs.Vec.Iter.{into_iter_items}
use Rattle.run_rerun.proofs.MadeLemmas.{items_done}
use Rattle.run_rerun.proofs.made.made_items.Goals as goal

pub returns : goal.returns
returns c =
    let l = c.loop-test in
    let none : length (into_iter_items l.test-iterator) ≡ 0 = sym l.invariant.1 ∙ c.in-None.ensures.steps.0 in
    items_done c.args.ids.now.keys c.args.tests.items l.made.items (into_iter_items l.test-iterator) l.invariant.0 none
