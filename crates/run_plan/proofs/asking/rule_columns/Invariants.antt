use Rattle.std.proofs.Common.{take}
use Rattle.std.specs.List.{AllZip}
use Rattle.run_profile.specs.declared.scripts.ScriptRule.{ScriptRule}
use Rattle.run_plan.specs.Asks.{FilterSays}
use Rattle.run_plan.proofs.asking.rule_columns.Given as goal

abbrev pub invariant-loop-rule : goal.invariant-loop-rule
invariant-loop-rule l =
    AllZip (λ (x : ScriptRule). AllZip (FilterSays x.filter) l.tests) (take l.rule-index l.rules) l.columns
