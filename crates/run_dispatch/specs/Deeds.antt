-- What a call of the dispatcher gives to the run and leaves.
use Rattle.std.specs.Prelude.{ℕ, ◌≡◌, Bool, Option, Some, List, option_map}
use Rattle.run_events.specs.declared.events.ReporterEvent.{ReporterEvent}
use Rattle.run_events.specs.declared.events.ReporterEvent.TheVariants.{Test}
use Rattle.run_events.specs.declared.events.TestEventKind.{TestEventKind}
use Rattle.run_events.specs.declared.events.TestEventKind.TheVariants.{TestStarted, TestSkipped}
use Rattle.run_events.specs.declared.plan.TestInstanceId.{TestInstanceId}
use Rattle.run_model.specs.declared.dispatcher_view.DispatcherView.{DispatcherView}
use Rattle.run_model.specs.Board.{Deed, deed_events, dispatched}
use Rattle.run_model.specs.Reruns.{without}
use Rattle.run_dispatch.specs.declared.effects.DispatchEffects.{DispatchEffects}

-- a call at a moment does this deed, which has no part of a unit's in it, and gives the unit this answer
pub record Does (now : ℕ) (old : DispatcherView) (deed : Deed) (answer : Option Bool) (new : DispatcherView)
    (effects : DispatchEffects)
    : Type 0 where
  pub told : effects.events ≡ deed_events deed
  pub request : effects.request ≡ deed.request
  pub asked : effects.asked ≡ deed.asked
  pub go : effects.go ≡ answer
  pub after : new ≡ dispatched now old deed

-- the tests that were not seen, once one is told started, or skipped
abbrev pub unseen_after : TestEventKind → Option (List TestInstanceId) → Option (List TestInstanceId)
unseen_after (TestStarted event) unseen = option_map (without event.start.test.id) unseen
unseen_after (TestSkipped event) unseen = option_map (without event.test.id) unseen
unseen_after kind unseen = unseen

abbrev pub having_seen : Option (List TestInstanceId) → Option ReporterEvent → Option (List TestInstanceId)
having_seen unseen (Some (Test event)) = unseen_after event.kind unseen
having_seen unseen told = unseen

-- the dispatcher after a deed, its tests seen event by event
abbrev pub with_seen : ℕ → DispatcherView → Deed → DispatcherView
with_seen now d deed = record (dispatched now d deed) { rerun = having_seen (having_seen d.rerun deed.told) deed.after }

-- a part of a call does this deed
pub record Acts (now : ℕ) (old : DispatcherView) (deed : Deed) (answer : Option Bool) (new : DispatcherView)
    (effects : DispatchEffects)
    : Type 0 where
  pub told : effects.events ≡ deed_events deed
  pub request : effects.request ≡ deed.request
  pub asked : effects.asked ≡ deed.asked
  pub go : effects.go ≡ answer
  pub after : new ≡ with_seen now old deed
