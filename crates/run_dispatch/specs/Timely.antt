-- The global timer and the stopwatches of a dispatcher, and the moment of its latest turn.
use Rattle.std.specs.Prelude.{◌≤◌, IfSome}
use Rattle.run_model.specs.declared.dispatcher_view.DispatcherView.{DispatcherView}

-- the global timer and the stopwatches were given no later moment than that of the latest turn
abbrev pub IsTimerCurrent : DispatcherView → Type 0
IsTimerCurrent d =
    IfSome d.causes.global (λ timer. timer.latest ≤ d.latest) × (d.watch.latest ≤ d.latest)
    × (d.sub_run_watch.latest ≤ d.latest)
