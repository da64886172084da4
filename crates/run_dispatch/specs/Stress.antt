-- What a stress run does after a sub-run, and whether one more can be counted.
use Rattle.std.specs.Prelude.{◌+◌, ◌<◌, ◌≤◌, ◌^◌, if◌then◌else◌, ◌||◌, Option, is_some, is_none}
use Rattle.run_events.specs.declared.cancel.CancelReason.{CancelReason}
use Rattle.run_events.specs.declared.outcome.FinalRunStats.{FinalRunStats}
use Rattle.run_events.specs.declared.stress.StressProgress.{StressProgress}
use Rattle.run_events.specs.Stress.{remaining}
use Rattle.run_model.specs.declared.dispatcher_view.SubRuns.{SubRuns}
use Rattle.run_model.specs.SubRuns.{is_cancelled}
use Rattle.run_dispatch.specs.declared.stress.StressLoopAction.{StressLoopAction}
use Rattle.run_dispatch.specs.declared.stress.StressLoopAction.TheVariants.{Continue, Stop}

-- it stops where a cause came, where the sub-run was cancelled, and where nothing remains
abbrev pub action_after : FinalRunStats → Option CancelReason → StressProgress → StressLoopAction
action_after last reason next =
    if is_some reason || is_cancelled last || is_none (remaining next) then Stop else Continue next

-- one more sub-run can be counted
abbrev pub CanCount : SubRuns → Type 0
CanCount runs = (runs.failed ≤ runs.ended) × (runs.ended + 1 < 2 ^ 32)
