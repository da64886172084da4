use Rattle.std.proofs.Common.{rules}
use Rattle.run_events.specs.Variables.{run_variables}
use Rattle.run_events.proofs.VariableLemmas.{more}
use Rattle.run_events.proofs.variable_list.with_run.Goals as goal

pub returns : goal.returns
returns c =
    more _ _ _ _ (run_variables c.args.run.now) _ c.in_ok-list.ensures c.with.ensures (search rules)
