use Rattle.std.proofs.Common.{◌+◌, Some, ap}
use Rattle.std.specs.List.{AllZip}
use Rattle.run_plan.specs.Asks.{FilterSays}
use Rattle.run_plan.proofs.ZipLemmas.{zip_more}
use Rattle.run_plan.proofs.asking.word_columns.Goals as goal

pub loop-text-preserved : goal.loop-text-preserved
loop-text-preserved c = record {
  number = ap (λ n. n + 1) c.loop-text.invariant.number;
  says = zip_more (λ text. AllZip (FilterSays (Some text)) c.args.tests.now) c.args.filters.now c.loop-text.columns
      c.push.new.self c.loop-text.text-index c.text-item.result c.in_ok-held.held c.loop-text-test.true c.text-item.is
      c.in_ok-push.ensures.ok (rw c.as_str.ensures at c.in_ok-held.ensures.ok) c.loop-text.invariant.says;
}
