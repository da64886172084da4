use Rattle.std.proofs.Common.{rules, codes, decimal, ◌∷◌, []}
use Rattle.run_events.proofs.VariableLemmas.{more}
use Rattle.run_events.proofs.variable_list.with_attempts.Goals as goal

pub returns : goal.returns
returns c =
    more _ _ _ _
    ((codes "NEXTEST_ATTEMPT", decimal c.args.test.now.attempt)
    ∷ (codes "NEXTEST_TOTAL_ATTEMPTS", decimal c.args.test.now.attempts) ∷ []) _
    c.in_ok-list.ensures c.with_number-2.ensures (search rules)
