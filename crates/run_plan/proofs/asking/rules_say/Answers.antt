use Rattle.run_plan.specs.Asks.{HasFilter, IsRuleFilter, of_rule}
use Rattle.std.proofs.Common.{Any}
use Rattle.run_plan.proofs.ColumnLemmas.{fault_so}
use Rattle.run_plan.proofs.asking.rules_say.Goals as goal

pub returns-in-Err-clause-err : goal.returns-in-Err-clause-err
returns-in-Err-clause-err c =
    let p = c.args.profile.now in
    fault_so (λ path text. Any (IsRuleFilter path text) p.rules) (HasFilter p)
    (λ path text there. of_rule there) c.in-Err.error (rw c.as_slice.ensures at c.in-Err.ensures.err)
