use Rattle.std.specs.List.{AllZip}
use Rattle.run_profile.specs.declared.scripts.ScriptRule.{ScriptRule}
use Rattle.run_plan.specs.Asks.{FilterSays}
use Rattle.run_plan.proofs.ZipLemmas.{zip_more}
use Rattle.run_plan.proofs.asking.rule_columns.Goals as goal

pub loop-rule-preserved : goal.loop-rule-preserved
loop-rule-preserved c =
    zip_more (λ (x : ScriptRule). AllZip (FilterSays x.filter) c.args.tests.now) c.args.rules.now c.loop-rule.columns
    c.push.new.self c.loop-rule.rule-index c.rule-item.result c.in_ok-held.held c.loop-rule-test.true
    c.rule-item.is c.in_ok-push.ensures.ok c.in_ok-held.ensures.ok c.loop-rule.invariant
