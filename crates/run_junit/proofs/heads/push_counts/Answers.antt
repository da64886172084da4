use Rattle.std.proofs.Common.{codes, decimal}
use Rattle.run_junit.specs.declared.tag.Key.TheVariants as keys
use Rattle.run_junit.proofs.TokenLemmas.{five_attributes_made}
use Rattle.run_junit.proofs.heads.push_counts.Goals as goal

pub returns : goal.returns
returns c = five_attributes_made (keys.Name, codes "nextest-run") (keys.Tests, decimal c.args.counts.tests)
    (keys.Failures, decimal c.args.counts.failures) (keys.Errors, decimal c.args.counts.errors)
    (keys.Uuid, c.args.id.now)
    _ _ _ _ _ _ c.push_attribute-2.result
    c.in_ok-push_attribute.ensures c.in_ok-push_count.ensures c.in_ok-push_count-2.ensures
    c.in_ok-push_count-3.ensures c.push_attribute-2.ensures
