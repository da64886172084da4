use Rattle.std.proofs.Common.{◌≡◌, drop}
use Rattle.std.specs.List.{list_all}
use Rattle.run_jobs.specs.States.{is_state_passed}
use Rattle.run_jobs_cli.proofs.state_lines.states_status.Given as goal

abbrev pub invariant-loop-state : goal.invariant-loop-state
invariant-loop-state l = list_all is_state_passed (drop l.state-index l.states) ≡ list_all is_state_passed l.states
