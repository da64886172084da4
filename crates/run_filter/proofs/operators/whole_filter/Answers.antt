use Rattle.run_filter.proofs.PredicateLemmas.{filter_of-rest, filter_of-ok, filter_of-read_fails}
use Rattle.run_filter.proofs.operators.whole_filter.Goals as goal

pub returns-in-Err : goal.returns-in-Err
returns-in-Err c = filter_of-read_fails c.in-Err.error c.args.text.now c.in-Err.ensures

pub returns-then-at-text : goal.returns-then-at-text
returns-then-at-text c = (
  filter_of-rest c.args.text.now _ c.in-Ok.end c.skip-at.result c.in-Ok.ensures.0 c.skip-at.ensures.rest
      c.if-at-text.true,
  c.skip-at.ensures.end,
)

pub returns-else-at-text : goal.returns-else-at-text
returns-else-at-text c =
    filter_of-ok c.args.text.now _ c.in-Ok.end c.skip-at.result c.in-Ok.ensures.0 c.skip-at.ensures.rest
    c.if-at-text.false
