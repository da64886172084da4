use Rattle.std.proofs.Common.{rules, codes, ◌∷◌, []}
use Rattle.run_events.proofs.VariableLemmas.{more}
use Rattle.run_events.proofs.variable_list.with_name.Goals as goal

pub returns : goal.returns
returns c =
    more _ _ _ _
    ((codes "NEXTEST_BINARY_ID", c.args.id.now.binary) ∷ (codes "NEXTEST_TEST_NAME", c.args.id.now.name) ∷ []) _
    c.in_ok-list.ensures c.with-2.ensures (search rules)
