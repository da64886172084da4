use Rattle.std.proofs.Common.{sym}
use Rattle.std.proofs.lemmas.List.{take_rest}
use Rattle.run_filter.specs.Tree.{tree_of}
use Rattle.run_filter.proofs.PredicateLemmas.{closed-not, closed-here}
use Rattle.run_filter.proofs.predicates.closed.Goals as goal

pub returns-then-closes : goal.returns-then-closes
returns-then-closes c =
    let h = rw (take_rest c.args.text.now c.skip-at.result) at c.if-closes.ensures in (
      closed-here (tree_of c.args.filter) c.args.text.now c.args.next c.skip-at.result c.past-place.result
          c.skip-at.ensures.rest (sym h) c.past-place.ensures.rest,
      c.past-place.ensures.end,
    )

pub returns : goal.returns
returns c =
    let h = rw (take_rest c.args.text.now c.skip-at.result) at c.if-closes.ensures in (
      closed-not (tree_of c.args.filter) c.args.text.now c.args.next c.skip-at.result c.skip-at.ensures.rest (sym h),
      c.skip-at.ensures.end,
    )
