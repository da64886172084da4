-- What the dispatcher says of itself.
use Rattle.std.specs.Prelude.{if◌then◌else◌, Option, Some, None}
use Rattle.run_events.specs.declared.request.Request.{Request}
use Rattle.run_events.specs.declared.request.Request.TheVariants.{Stop}
use Rattle.run_model.specs.declared.dispatcher_view.DispatcherView.{DispatcherView}
use Rattle.run_dispatch.specs.declared.view.DispatchState.{DispatchState}
use Rattle.run_dispatch.specs.declared.view.DispatchState.TheVariants.{Idle, Main, StopWait, InfoRound}

-- the state of one on which a sub-run is, by what the open round asks
abbrev pub state_by : Option Request → DispatchState
state_by None = Main
state_by (Some (Stop round)) = StopWait
state_by (Some request) = InfoRound

abbrev pub state_of : DispatcherView → DispatchState
state_of d = if d.on then state_by d.rounds.asks else Idle
