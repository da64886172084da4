use Rattle.std.proofs.Common.{rules}
use Rattle.run_events.specs.Variables.{shared_variables}
use Rattle.run_events.proofs.VariableLemmas.{more}
use Rattle.run_events.proofs.variable_list.with_shared.Goals as goal

pub returns : goal.returns
returns c =
    more _ _ _ _ (shared_variables c.args.run.now) _ c.in_ok-list.ensures c.with_text.ensures (search rules)
