use Rattle.std.proofs.Common.{codes, decimal}
use Rattle.run_junit.specs.declared.tag.Key.TheVariants as keys
use Rattle.run_junit.proofs.TokenLemmas.{five_attributes_made}
use Rattle.run_junit.proofs.heads.push_suite_said.Goals as goal

pub returns : goal.returns
returns c = five_attributes_made (keys.Name, c.args.name.now) (keys.Tests, decimal c.args.counts.tests)
    (keys.Disabled, codes "0") (keys.Errors, decimal c.args.counts.errors)
    (keys.Failures, decimal c.args.counts.failures)
    _ _ _ _ _ _ c.push_count-3.result
    c.in_ok-push_attribute.ensures c.in_ok-push_count.ensures c.in_ok-push_attribute-2.ensures
    c.in_ok-push_count-2.ensures c.push_count-3.ensures
