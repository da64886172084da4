use Rattle.std.proofs.Common.{rules, codes, decimal, ◌∷◌, []}
use Rattle.run_events.specs.Variables.{group_name, group_number}
use Rattle.run_events.proofs.VariableLemmas.{more}
use Rattle.run_events.proofs.variable_list.with_slots.Goals as goal

pub returns : goal.returns
returns c =
    more _ _ _ _
    ((codes "NEXTEST_TEST_GLOBAL_SLOT", decimal c.args.slot.now.global)
    ∷ (codes "NEXTEST_TEST_GROUP", group_name c.args.slot.now.group)
    ∷ (codes "NEXTEST_TEST_GROUP_SLOT", group_number c.args.slot.now.group) ∷ []) _
    c.in_ok-list.ensures c.with_group.ensures (search rules)
