-- A row leaves no timer that was given a later moment than that of the unit's latest turn.
use Rattle.std.proofs.Common.{ℕ, ◌≤◌, ◌==◌, List, [], ◌∷◌, Bool, true, false, ◌||◌, if◌then◌else◌, Option, Some, None}
use Rattle.std.proofs.Common.{IfSome, option_map, arith}
use Rattle.run_clock.specs.Sleep.{Sleep, set_at}
use Rattle.run_clock.specs.Stopwatch.{Watch}
use Rattle.run_capture.specs.Captured.{Captured, is_done, with_wait_error}
use Rattle.run_events.specs.declared.request.Request.{Request}
use Rattle.run_events.specs.declared.request.Request.TheVariants.{Stop, Continue, Shutdown, OtherCancel, GetInfo}
use Rattle.run_events.specs.declared.request.TerminateReason.{TerminateReason}
use Rattle.run_events.specs.declared.request.TerminateReason.TheVariants.{Signal}
use Rattle.run_events.specs.declared.request.TermSignal.{TermSignal}
use Rattle.run_events.specs.declared.request.TermSignal.TheVariants.{Kill}
use Rattle.run_events.specs.declared.result.ChildExecutionOutput.TheVariants.{Output}
use Rattle.run_events.specs.declared.result.ChildExit.{ChildExit}
use Rattle.run_model.specs.declared.phase.Phase.{Phase}
use Rattle.run_model.specs.declared.phase.Phase.TheVariants.{StartSent, Starting, Running, Grace, KillWait, Leak}
use Rattle.run_model.specs.declared.phase.Phase.TheVariants.{EnvWait, Deciding, Delay, RetrySent}
use Rattle.run_model.specs.declared.unit_turn.UnitTurn.{UnitTurn}
use Rattle.run_model.specs.declared.unit_turn.UnitTurn.TheVariants.{Answered, Started, StartFailed, Exit, WaitFailed}
use Rattle.run_model.specs.declared.unit_turn.UnitTurn.TheVariants.{Env, Due, Take, Decide}
use Rattle.run_model.specs.declared.unit_view.AttemptTerms.{AttemptTerms}
use Rattle.run_model.specs.declared.unit_view.Timers.{Timers}
use Rattle.run_model.specs.declared.unit_view.UnitView.{UnitView}
use Rattle.run_model.specs.Slow.{one_more, is_out_of_time}
use Rattle.run_model.specs.Pauses.{watch_closed, watch_resumed, sleep_paused, sleep_resumed, all_paused, all_resumed}
use Rattle.run_model.specs.Pauses.{is_paused, waits_from, leaks_from, closed}
use Rattle.run_model.specs.Ending.{settled, exited, result_of, awaits_env, awaiting_env, ended, leaking}
use Rattle.run_model.specs.Retries.{has_retry, next_delay, delayed, decided}
use Rattle.run_model.specs.Requests.{asked_to_end, requested, take_row}
use Rattle.run_model.specs.Unit.{row_at, running_row, slow_row, slow_again, in_grace, out_of_time, heard_with}
use Rattle.run_model.specs.Unit.{having_heard, at_moment, slow_timer_at}
use Rattle.run_model.specs.Terminate.{terminate_method}
use Rattle.run_unit.specs.Timely.{IsTimely, IsCurrent}

-- a timer that was given no moment after this one was given none after a later one
set_later : (s : Option Sleep) (before now : ℕ) → before ≤ now → IfSome s (λ timer. timer.latest ≤ before)
    → IfSome s (λ timer. timer.latest ≤ now)
set_later None before now le h = h
set_later (Some s) before now le h = let was : s.latest ≤ before = h in omega arith

-- timers that are timely at a moment are so at a later one
timely_later : (t : Timers) (before now : ℕ) → before ≤ now → IsTimely t before → IsTimely t now
timely_later t before now le h =
    let was : t.stopwatch.latest ≤ before = h.0 in
    let waited : t.waiting.latest ≤ before = h.3 in
    (omega arith, set_later t.slow before now le h.1, set_later t.wait before now le h.2, omega arith)

-- a unit stays current at a later moment
pub at_moment_current : (now : ℕ) (u : UnitView) → u.latest ≤ now → IsCurrent u → IsCurrent (at_moment now u)
at_moment_current now u le h = timely_later u.timers u.latest now le h

-- a stopwatch that is resumed was given no later moment than that
watch_timely : (w : Watch) (now latest : ℕ) → now ≤ latest → (watch_resumed now w).latest ≤ latest
watch_timely w now latest le =
    elim w.opened as (λ opened. (watch_closed now opened w).latest ≤ latest) [ None ↦ le | Some opened ↦ le ]

-- timers that are closed are timely
closed_timely : (t : Timers) (now latest : ℕ) → now ≤ latest → IsTimely t latest → IsTimely (closed now t) latest
closed_timely t now latest le h = (watch_timely t.stopwatch now latest le, tt, tt, h.3)

-- so are all that are paused, and all that are resumed
set_paused : (s : Option Sleep) (now latest : ℕ) → now ≤ latest
    → IfSome (option_map (sleep_paused now) s) (λ timer. timer.latest ≤ latest)
set_paused None now latest le = tt
set_paused (Some s) now latest le = le

set_resumed : (s : Option Sleep) (now latest : ℕ) → now ≤ latest
    → IfSome (option_map (sleep_resumed now) s) (λ timer. timer.latest ≤ latest)
set_resumed None now latest le = tt
set_resumed (Some s) now latest le = le

paused_timely : (t : Timers) (now latest : ℕ) → now ≤ latest → IsTimely (all_paused now t) latest
paused_timely t now latest le = (le, set_paused t.slow now latest le, set_paused t.wait now latest le, le)

resumed_timely : (t : Timers) (now latest : ℕ) → now ≤ latest → IsTimely (all_resumed now t) latest
resumed_timely t now latest le = (
  watch_timely t.stopwatch now latest le,
  set_resumed t.slow now latest le,
  set_resumed t.wait now latest le,
  watch_timely t.waiting now latest le,
)

-- and those of an ended child whose streams are waited for
leaks_timely : (t : Timers) (now duration latest : ℕ) → now ≤ latest → IsTimely t latest
    → IsTimely (leaks_from now duration t) latest
leaks_timely t now duration latest le h =
    elim (is_paused t) as
    (λ b. IsTimely (if b
    then all_paused now (waits_from now duration (record t { slow = None }))
    else waits_from now duration (record t { slow = None })) latest)
    [ true ↦ (le, tt, le, le) | false ↦ (h.0, tt, le, le) ]

-- a unit stays current where its child is done with
exited_current : (now : ℕ) (exit : Option ChildExit) (leaked : Bool) (c : Captured) (u : UnitView) → now ≤ u.latest
    → IsCurrent u → IsCurrent (exited now exit leaked c u)
exited_current now exit leaked c u le h =
    elim (awaits_env (result_of exit c.errors leaked u) u) as
    (λ b. IsCurrent (if b
    then awaiting_env now exit leaked c u
    else ended now (result_of exit c.errors leaked u) (Output c.output c.errors) u))
    [ true ↦ closed_timely u.timers now u.latest le h | false ↦ closed_timely u.timers now u.latest le h ]

-- a unit stays current where its child ends
settled_current : (now : ℕ) (exit : Option ChildExit) (c : Captured) (u : UnitView) → now ≤ u.latest → IsCurrent u
    → IsCurrent (settled now exit c u)
settled_current now exit c u le h =
    elim (u.terms.skips_leak_detection || is_done c) as
    (λ b. IsCurrent (if b then exited now exit false c u else leaking now exit c u)) [
      | true ↦ exited_current now exit false c u le h
      | false ↦ leaks_timely u.timers now u.terms.leak.period u.latest
          le h
    ]

-- a unit stays current where it hears a turn of a stream after its child ended
heard_current : (now : ℕ) (c : Captured) (u : UnitView) → now ≤ u.latest → IsCurrent u → IsCurrent (heard_with now c u)
heard_current now c u le h =
    elim (is_done c) as (λ b. IsCurrent (if b then exited now u.exit false c u else record u { capture = c }))
    [ true ↦ exited_current now u.exit false c u le h | false ↦ h ]

-- a unit stays current where it runs out of time
out_of_time_current : (now n : ℕ) (u : UnitView) → now ≤ u.latest → IsCurrent u
    → IsCurrent (if u.terms.slow.grace == 0 then out_of_time n u else in_grace now n u).next
out_of_time_current now n u le h =
    elim (u.terms.slow.grace == 0) as (λ b. IsCurrent (if b then out_of_time n u else in_grace now n u).next)
    [ true ↦ (h.0, tt, h.2, h.3) | false ↦ (h.0, tt, le, le) ]

-- the timer until it is slow was given no later moment than that at which it was set
slow_timer_set : (now latest : ℕ) (terms : AttemptTerms) → now ≤ latest
    → IfSome (slow_timer_at now terms) (λ timer. timer.latest ≤ latest)
slow_timer_set now latest terms le =
    elim terms.disables_timeouts as
    (λ b. IfSome (if b then None else Some (set_at now terms.slow.period)) (λ timer. timer.latest ≤ latest))
    [ true ↦ tt | false ↦ le ]

-- a unit stays current where it is slow
slow_current : (now n : ℕ) (u : UnitView) → now ≤ u.latest → IsCurrent u → IsCurrent (slow_row now n u).next
slow_current now n u le h =
    elim (is_out_of_time u.terms.slow n) as (λ b. IsCurrent (if b
    then (if u.terms.slow.grace == 0 then out_of_time n u else in_grace now n u)
    else slow_again now n u).next)
    [ true ↦ out_of_time_current now n u le h | false ↦ (h.0, slow_timer_set now u.latest u.terms le, h.2, h.3) ]

-- a unit stays current where it takes a turn while its child runs
running_current : (now : ℕ) (turn : UnitTurn) (u : UnitView) → now ≤ u.latest → IsCurrent u
    → IsCurrent (running_row now turn u).next
running_current now (Exit exit) u le h = settled_current now (Some exit) u.capture u le h
running_current now (WaitFailed error) u le h = settled_current now None (with_wait_error u.capture error) u le h
running_current now turn u le h = h

-- a unit stays current where its child gets a signal that ends it
asked_current : (now : ℕ) (reason : TerminateReason) (signal : TermSignal) (u : UnitView) → now ≤ u.latest → IsCurrent u
    → IsCurrent (asked_to_end now reason signal u).next
asked_current now reason Kill u le h = h
asked_current now reason signal u le h = (h.0, h.1, le, le)

-- a unit stays current where it takes a request
requested_current : (now : ℕ) (ph : Phase) (request : Request) (u : UnitView) → now ≤ u.latest → IsCurrent u
    → IsCurrent (requested now ph request u).next
requested_current now ph (Stop round) u le h = paused_timely u.timers now u.latest le
requested_current now ph Continue u le h = resumed_timely u.timers now u.latest le
requested_current now ph (GetInfo round) u le h = h
requested_current now Running (Shutdown request) u le h =
    asked_current now (Signal request) (terminate_method (Signal request) u.terms.slow.grace) u le h
requested_current now Grace (Shutdown request) u le h = (h.0, h.1, tt, h.3)
requested_current now Delay (Shutdown request) u le h = (h.0, h.1, tt, h.3)
requested_current now Delay OtherCancel u le h = (h.0, h.1, tt, h.3)
requested_current now ph request u le h = h

-- a unit stays current where it takes the oldest request of a line
take_current : (now : ℕ) (ph : Phase) (line : List Request) (u : UnitView) → now ≤ u.latest → IsCurrent u
    → IsCurrent (take_row now ph line u).next
take_current now ph [] u le h = h
take_current now ph (request ∷ line) u le h = requested_current now ph request (record u { line = line }) le h

-- a unit stays current where it decides
decide_current : (now word : ℕ) (u : UnitView) → now ≤ u.latest → IsCurrent u
    → IsCurrent (if has_retry u then delayed now (next_delay word u) u else decided u).next
decide_current now word u le h =
    elim (has_retry u) as (λ b. IsCurrent (if b then delayed now (next_delay word u) u else decided u).next)
    [ true ↦ (h.0, h.1, le, le) | false ↦ h ]

-- a row leaves a unit current
pub row_current : (now : ℕ) (ph : Phase) (turn : UnitTurn) (u : UnitView) → now ≤ u.latest → IsCurrent u
    → IsCurrent (row_at now ph turn u).next
row_current now StartSent (Answered true) u le h = (le, tt, tt, le)
row_current now StartSent (Answered false) u le h = h
row_current now Starting (Started pid) u le h = (h.0, slow_timer_set now u.latest u.terms le, h.2, h.3)
row_current now Starting (StartFailed error) u le h = closed_timely u.timers now u.latest le h
row_current now Running Due u le h = slow_current now (one_more u.timers.slow_count) u le h
row_current now Running Take u le h = take_current now Running u.line u le h
row_current now Running turn u le h = running_current now turn u le h
row_current now Grace Due u le h = (h.0, h.1, tt, h.3)
row_current now Grace Take u le h = take_current now Grace u.line u le h
row_current now Grace turn u le h = running_current now turn u le h
row_current now KillWait turn u le h = running_current now turn u le h
row_current now Leak Due u le h = exited_current now u.exit true u.capture u le h
row_current now Leak Take u le h = take_current now Leak u.line u le h
row_current now Leak turn u le h = heard_current now (having_heard u.capture turn) u le h
row_current now EnvWait (Env input) u le h = closed_timely u.timers now u.latest le h
row_current now Deciding (Decide word) u le h = decide_current now word u le h
row_current now Delay Due u le h = (h.0, h.1, tt, h.3)
row_current now Delay Take u le h = take_current now Delay u.line u le h
row_current now RetrySent (Answered true) u le h = (le, tt, tt, le)
row_current now RetrySent (Answered false) u le h = h
row_current now ph turn u le h = h
