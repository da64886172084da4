-- What the event of a cause says: its moment, and the counts with its reason.
use Rattle.std.proofs.Common.{◌≡◌, Bool, true, false, if◌then◌else◌, Option, Some, None, refl, ap, sym, subst, ℕ}
use Rattle.std.specs.Prelude.{IfSome}
use Rattle.run_events.specs.Cancel.{greater}
use Rattle.run_events.specs.declared.cancel.CancelReason.{CancelReason}
use Rattle.run_events.specs.declared.cancel.CancelReason.TheVariants.{SetupScriptFailure, TestFailure, ReportError}
use Rattle.run_events.specs.declared.cancel.CancelReason.TheVariants.{GlobalTimeout, TestFailureImmediate, Signal}
use Rattle.run_events.specs.declared.cancel.CancelReason.TheVariants.{Interrupt, SecondSignal}
use Rattle.run_events.specs.declared.events.ReporterEvent.{ReporterEvent}
use Rattle.run_model.specs.declared.dispatcher_view.Tally.{Tally}
use Rattle.run_model.specs.Dispatch.{Moment, event, moment_by}
use Rattle.run_model.specs.Board.{with_cause}
use Rattle.run_model.specs.Cancel.{is_above, cancelled_for, cancel_event}
use Rattle.run_laws.proofs.told.Cancels.{cancel_for}
use Rattle.run_laws_events.specs.Moments.{SaysMoment}
use Rattle.run_laws_events.proofs.OwnEvents.{SaysTally}
use Rattle.run_commands.specs.declared.stress_count.StressCondition.{StressCondition}
use Rattle.run_model.specs.declared.dispatcher_view.DispatcherView.{DispatcherView}
use Rattle.run_model.specs.Turns.{begins_as, begins_at, ends_as, ends_at, run_finished, stops_with, stress_finale}
use Rattle.run_model.specs.Turns.{sub_run_started}
use Rattle.std.proofs.Common.{option_map, ◌==◌}

-- an event says this moment and these counts
pub record SaysAt (now : Moment) (t : Tally) (e : ReporterEvent) : Type 0 where
  pub moment : SaysMoment now.clock now.elapsed e
  pub counts : SaysTally t e

-- the event of each reason says the counts that it is told with
event_says : (now : Moment) (r : CancelReason) (t : Tally) → SaysAt now t (event now (cancel_event r t))
event_says now SetupScriptFailure t =
    record { moment = (refl, refl); counts = record { running = refl; scripts = refl; stats = refl } }
event_says now TestFailure t =
    record { moment = (refl, refl); counts = record { running = refl; scripts = refl; stats = refl } }
event_says now ReportError t =
    record { moment = (refl, refl); counts = record { running = refl; scripts = refl; stats = refl } }
event_says now GlobalTimeout t =
    record { moment = (refl, refl); counts = record { running = refl; scripts = refl; stats = refl } }
event_says now TestFailureImmediate t =
    record { moment = (refl, refl); counts = record { running = refl; scripts = refl; stats = refl } }
event_says now Signal t =
    record { moment = (refl, refl); counts = record { running = refl; scripts = refl; stats = refl } }
event_says now Interrupt t =
    record { moment = (refl, refl); counts = record { running = refl; scripts = refl; stats = refl } }
event_says now SecondSignal t =
    record { moment = (refl, refl); counts = record { running = refl; scripts = refl; stats = refl } }

-- a reason that is above another is the greater of the two
greater-above : (why : Option CancelReason) (r : CancelReason) → is_above why r ≡ true → greater why (Some r) ≡ Some r
greater-above None r e = refl
greater-above (Some before) r e = ap (λ b. if b then Some r else Some before) e

-- so the event of a cause says the counts with that cause
pub cause_says : (now : Moment) (t : Tally) (cause : Option CancelReason)
    → IfSome (cancel_for now t cause) (SaysAt now (with_cause cause t))
cause_says now t None = tt
cause_says now t (Some r) = by_rank (is_above t.stats.cancel_reason r) refl
  where
    by_rank : (b : Bool) → is_above t.stats.cancel_reason r ≡ b
        → IfSome (if b then Some (event now (cancel_event r (cancelled_for r t))) else None)
        (SaysAt now (with_cause (Some r) t))
    by_rank true e =
        let same : cancelled_for r t ≡ with_cause (Some r) t =
        ap (λ why. record t { stats = record t.stats { cancel_reason = why } })
        (sym (greater-above t.stats.cancel_reason r e)) in
        subst (λ s. SaysAt now s (event now (cancel_event r (cancelled_for r t)))) same
        (event_says now r (cancelled_for r t))
    by_rank false e = tt

-- the event after a begin or an end says its moment, and no counts
pub begin_says : (t : Tally) (now : ℕ) (d : DispatcherView)
    → IfSome (begins_at now d).after (SaysAt (moment_by now d.watch) t)
begin_says t now d = by_first (d.sub_runs.ended == 0)
  where
    starts : (o : Option StressCondition)
        → IfSome (option_map (sub_run_started now d) o) (SaysAt (moment_by now d.watch) t)
    starts None = tt
    starts (Some condition) =
        record { moment = (refl, refl); counts = record { running = tt; scripts = tt; stats = tt } }

    by_first : (first : Bool) → IfSome (begins_as now d first).after (SaysAt (moment_by now d.watch) t)
    by_first true = starts d.head.stress
    by_first false = tt

pub end_says : (t : Tally) (now : ℕ) (d : DispatcherView)
    → IfSome (ends_at now d).after (SaysAt (moment_by now d.watch) t)
end_says t now d = by_stress d.head.stress
  where
    by_stress : (o : Option StressCondition) → IfSome (ends_as now d o).after (SaysAt (moment_by now d.watch) t)
    by_stress None = tt
    by_stress (Some condition) = by_stop (stops_with now d condition)
      where
        by_stop : (stops : Bool)
            → IfSome (if stops then Some (run_finished now d (stress_finale d condition)) else None)
            (SaysAt (moment_by now d.watch) t)
        by_stop true = record { moment = (refl, refl); counts = record { running = tt; scripts = tt; stats = tt } }
        by_stop false = tt
