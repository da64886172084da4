use Rattle.std.proofs.Common.{rules, codes, ◌∷◌, []}
use Rattle.run_events.specs.Variables.{group_name, group_number}
use Rattle.run_events.proofs.VariableLemmas.{more}
use Rattle.run_events.proofs.variable_list.with_group.Goals as goal

pub returns : goal.returns
returns c =
    more _ _ _ _
    ((codes "NEXTEST_TEST_GROUP", group_name c.args.group.now)
    ∷ (codes "NEXTEST_TEST_GROUP_SLOT", group_number c.args.group.now) ∷ []) _
    c.in_ok-list.ensures c.with-2.ensures (search rules)
