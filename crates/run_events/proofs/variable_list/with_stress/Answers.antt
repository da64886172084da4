use Rattle.std.proofs.Common.{rules, codes, ◌∷◌, []}
use Rattle.run_events.specs.Variables.{stress_current, stress_total}
use Rattle.run_events.proofs.VariableLemmas.{more}
use Rattle.run_events.proofs.variable_list.with_stress.Goals as goal

pub returns : goal.returns
returns c =
    more _ _ _ _ ((codes "NEXTEST_STRESS_CURRENT", stress_current c.args.index)
    ∷ (codes "NEXTEST_STRESS_TOTAL", stress_total c.args.index) ∷ []) _ c.in_ok-list.ensures c.with-2.ensures (search
    rules)
