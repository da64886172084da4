use Rattle.std.proofs.Common.{ℕ, Bool, List, map, subst, sym}
use Rattle.run_profile.specs.declared.scripts.ScriptRule.{ScriptRule}
use Rattle.run_profile.specs.declared.settings.Override.{Override}
use Rattle.run_plan.specs.Asks.{no_group}
use Rattle.run_plan.specs.Rows.{listed_row}
use Rattle.run_plan.proofs.ColumnLemmas.{says_are}
use Rattle.run_plan.proofs.asking.with_default.Goals as goal

pub returns-clause-ok : goal.returns-clause-ok
returns-clause-ok c =
    let said = c.in_ok-says.ensures.ok in
    says_are c.args.profile.now (map listed_row c.args.rows.now) c.args.in_default c.in_ok-tests.tests.items
    c.in_ok-says.says (rw c.as_slice.ensures at c.in_ok-tests.ensures) said.0
    (rw c.deref.ensures.value at said.1) (rw c.deref.ensures.value at said.2)
