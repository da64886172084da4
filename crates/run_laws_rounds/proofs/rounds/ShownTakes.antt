-- What a unit keeps for its answers as it takes a request.
use Rattle.std.proofs.Common.{◌≡◌, ℕ, List, [], ◌∷◌, ◌++◌, true, false, Some, refl, ap, sym, subst, ◌∙◌}
use Rattle.run_clock.specs.Counted.{Mark, pause, mark_of, resume, Timer}
use Rattle.run_events.specs.declared.request.Request.{Request}
use Rattle.run_events.specs.declared.request.Request.TheVariants.{Stop, Continue, Shutdown, OtherCancel, GetInfo}
use Rattle.run_events.specs.declared.request.TermSignal.{TermSignal}
use Rattle.run_events.specs.declared.request.TermSignal.TheVariants.{Interrupt, Term, Hangup, Quit, Kill}
use Rattle.run_events.specs.declared.request.TerminateReason.TheVariants.{Signal}
use Rattle.run_model.specs.declared.phase.Phase.TheVariants.{Running, Grace, Leak, Delay}
use Rattle.run_model.specs.declared.unit_turn.UnitTurn.TheVariants.{Take}
use Rattle.run_model.specs.declared.unit_view.UnitView.{UnitView}
use Rattle.run_model.specs.Attempts.{delay_timer}
use Rattle.run_model.specs.Pauses.{watch_paused, watch_resumed}
use Rattle.run_model.specs.Requests.{asked_to_end, requested, continued, given_time, stopped}
use Rattle.run_model.specs.Story.{Attempt, OwnTurn, any_is, cut}
use Rattle.run_model.specs.Terminate.{terminate_method}
use Rattle.run_model.specs.Timing.{begins_grace, ends_wait, gives_time, leak_timer, pause_at, signal_of}
use Rattle.run_laws_rounds.specs.Answers.{why_ended, grace_timer}
use Rattle.run_laws.proofs.units.CaptureLemmas.{taken}
use Rattle.run_laws.proofs.units.StandingLemmas.{is_in_grace}
use Rattle.run_laws_rounds.proofs.rounds.Shown.{IsShown, WaitsFor, ending_kept, gives_none, grace_kept, leak_kept}
use Rattle.run_laws_rounds.proofs.rounds.Shown.{pid_more}
use Rattle.run_laws_rounds.proofs.rounds.Shown.{pid_said, waits_paused, waits_resumed, waits_set}
use Rattle.run_clock.specs.Stopwatch.{Watch, started_at}
use Rattle.run_laws.proofs.units.AfterLemmas.{delay_marked}
use Rattle.run_laws_rounds.proofs.rounds.ShownRows.{Shows, in_phase}

-- it takes a request in a phase that it stays in: its timers pause, or go on, or nothing happens to them
pub run_take_shown : (now : ℕ) (request : Request) (u : UnitView) (piece : List OwnTurn) (earlier : List Attempt)
    → u.phase ≡ Running → u.latest ≡ now → pid_said piece ≡ Some u.pid → any_is ends_wait piece ≡ false
    → is_in_grace u.terms.slow piece ≡ false
    → Shows (requested now Running request u).next (cut (taken now Take (Some request) ∷ piece) [] ∷ earlier)
run_take_shown now (Stop round) u piece earlier is latest pid waited grace =
    in_phase (stopped now Running u).next Running (cut (taken now Take (Some (Stop round)) ∷ piece) [] ∷ earlier) is
    (pid_more (taken now Take (Some (Stop round))) piece (Some u.pid) pid refl)
run_take_shown now Continue u piece earlier is latest pid waited grace =
    in_phase (continued now Running u).next Running (cut (taken now Take (Some Continue) ∷ piece) [] ∷ earlier) is
    (pid_more (taken now Take (Some Continue)) piece (Some u.pid) pid refl)
run_take_shown now OtherCancel u piece earlier is latest pid waited grace =
    in_phase u Running (cut (taken now Take (Some OtherCancel) ∷ piece) [] ∷ earlier) is
    (pid_more (taken now Take (Some OtherCancel)) piece (Some u.pid) pid refl)
run_take_shown now (GetInfo round) u piece earlier is latest pid waited grace =
    in_phase u Running (cut (taken now Take (Some (GetInfo round)) ∷ piece) [] ∷ earlier) is
    (pid_more (taken now Take (Some (GetInfo round))) piece (Some u.pid) pid refl)
run_take_shown now (Shutdown reason) u piece earlier is latest pid waited grace =
    by_signal (terminate_method (Signal reason) u.terms.slow.grace) refl
  where
    t : OwnTurn
    t = taken now Take (Some (Shutdown reason))

    said : pid_said (t ∷ piece) ≡ Some u.pid
    said = pid_more t piece (Some u.pid) pid refl

    gives : gives_time (signal_of u.terms.slow t.request) ≡ true → begins_grace u.terms.slow t piece ≡ true
    gives time = rw (waited, grace, time) refl

    asked : (signal : TermSignal) → terminate_method (Signal reason) u.terms.slow.grace ≡ signal
        → gives_time (Some signal) ≡ true
        → IsShown Grace (given_time now (Signal reason) u) (cut (t ∷ piece) [] ∷ earlier)
    asked signal is_signal time =
        let begins : begins_grace u.terms.slow t piece ≡ true =
        gives (ap (λ signal. gives_time (Some signal)) is_signal ∙ time) in (
          said,
          rw begins refl,
          subst (WaitsFor _ (started_at now)) (sym latest) (rw begins (waits_set now u.terms.slow.grace)),
        )

    by_signal : (signal : TermSignal) → terminate_method (Signal reason) u.terms.slow.grace ≡ signal
        → Shows (asked_to_end now (Signal reason) signal u).next (cut (t ∷ piece) [] ∷ earlier)
    by_signal Kill e = in_phase u Running (cut (t ∷ piece) [] ∷ earlier) is said
    by_signal Interrupt e = asked Interrupt e refl
    by_signal Term e = asked Term e refl
    by_signal Hangup e = asked Hangup e refl
    by_signal Quit e = asked Quit e refl

-- it takes one while it is given time to end by itself
pub grace_take_shown : (now : ℕ) (request : Request) (u : UnitView) (piece : List OwnTurn) (earlier : List Attempt)
    → u.phase ≡ Grace → u.latest ≡ now → IsShown Grace u (cut piece [] ∷ earlier) → any_is ends_wait piece ≡ false
    → is_in_grace u.terms.slow piece ≡ true
    → Shows (requested now Grace request u).next (cut (taken now Take (Some request) ∷ piece) [] ∷ earlier)
grace_take_shown now request u piece earlier is latest (pid, ending, waits) waited grace = by_request request
  where
    none : (request : Request) → begins_grace u.terms.slow (taken now Take (Some request)) piece ≡ false
    none request = gives_none u.terms.slow (taken now Take (Some request)) piece waited grace

    said : (request : Request) → pid_said (taken now Take (Some request) ∷ piece) ≡ Some u.pid
    said request = pid_more (taken now Take (Some request)) piece (Some u.pid) pid refl

    why : (request : Request) → why_ended u.terms.slow (taken now Take (Some request) ∷ piece) ≡ u.ending
    why request = ending_kept u.terms.slow (taken now Take (Some request)) piece (none request) ∙ ending

    by_now : WaitsFor (grace_timer u.terms.slow piece) u.timers.waiting now
    by_now = subst (WaitsFor (grace_timer u.terms.slow piece) u.timers.waiting) latest waits

    waits_with : (request : Request) (marks : List Mark) (watch : Watch) → pause_at now (Some request) ≡ marks
        → WaitsFor (record (grace_timer u.terms.slow piece)
        { past = marks ++ (grace_timer u.terms.slow piece).past }) watch now
        → WaitsFor (grace_timer u.terms.slow (taken now Take (Some request) ∷ piece)) watch u.latest
    waits_with request marks watch at h =
        subst (WaitsFor (grace_timer u.terms.slow (taken now Take (Some request) ∷ piece)) watch) (sym latest)
        (subst (λ timer. WaitsFor timer watch now)
        (sym (grace_kept u.terms.slow (taken now Take (Some request)) piece marks (none request) at)) h)

    by_request : (request : Request)
        → Shows (requested now Grace request u).next (cut (taken now Take (Some request) ∷ piece) [] ∷ earlier)
    by_request (Stop round) =
        in_phase (stopped now Grace u).next Grace (cut (taken now Take (Some (Stop round)) ∷ piece) [] ∷ earlier) is (
          said (Stop round),
          why (Stop round),
          waits_with (Stop round) (mark_of pause now ∷ []) (watch_paused now u.timers.waiting) refl
              (waits_paused (grace_timer u.terms.slow piece) u.timers.waiting now by_now),
        )
    by_request Continue =
        in_phase (continued now Grace u).next Grace (cut (taken now Take (Some Continue) ∷ piece) [] ∷ earlier) is (
          said Continue,
          why Continue,
          waits_with Continue (mark_of resume now ∷ []) (watch_resumed now u.timers.waiting) refl
              (waits_resumed (grace_timer u.terms.slow piece) u.timers.waiting now by_now),
        )
    by_request OtherCancel =
        in_phase u Grace (cut (taken now Take (Some OtherCancel) ∷ piece) [] ∷ earlier) is
        (said OtherCancel, why OtherCancel, waits_with OtherCancel [] u.timers.waiting refl by_now)
    by_request (GetInfo round) =
        in_phase u Grace (cut (taken now Take (Some (GetInfo round)) ∷ piece) [] ∷ earlier) is
        (said (GetInfo round), why (GetInfo round), waits_with (GetInfo round) [] u.timers.waiting refl by_now)
    by_request (Shutdown reason) = said (Shutdown reason)

-- it takes one while its streams are waited for
pub leak_take_shown : (now : ℕ) (request : Request) (u : UnitView) (piece : List OwnTurn) (earlier : List Attempt)
    → u.phase ≡ Leak → u.latest ≡ now → IsShown Leak u (cut piece [] ∷ earlier)
    → Shows (requested now Leak request u).next (cut (taken now Take (Some request) ∷ piece) [] ∷ earlier)
leak_take_shown now request u piece earlier is latest (pid, result, waits) = by_request request
  where
    said : (request : Request) → pid_said (taken now Take (Some request) ∷ piece) ≡ Some u.pid
    said request = pid_more (taken now Take (Some request)) piece (Some u.pid) pid refl

    by_now : WaitsFor (leak_timer u.terms.leak.period piece) u.timers.waiting now
    by_now = subst (WaitsFor (leak_timer u.terms.leak.period piece) u.timers.waiting) latest waits

    waits_with : (request : Request) (marks : List Mark) (watch : Watch) → pause_at now (Some request) ≡ marks
        → WaitsFor (record (leak_timer u.terms.leak.period piece) {
          past = marks ++ (leak_timer u.terms.leak.period piece).past;
        }) watch now
        → WaitsFor (leak_timer u.terms.leak.period (taken now Take (Some request) ∷ piece)) watch u.latest
    waits_with request marks watch at h =
        subst (WaitsFor (leak_timer u.terms.leak.period (taken now Take (Some request) ∷ piece)) watch) (sym latest)
        (subst (λ timer. WaitsFor timer watch now)
        (sym (leak_kept u.terms.leak.period (taken now Take (Some request)) piece marks refl at)) h)

    by_request : (request : Request)
        → Shows (requested now Leak request u).next (cut (taken now Take (Some request) ∷ piece) [] ∷ earlier)
    by_request (Stop round) =
        in_phase (stopped now Leak u).next Leak (cut (taken now Take (Some (Stop round)) ∷ piece) [] ∷ earlier) is (
          said (Stop round),
          result,
          waits_with (Stop round) (mark_of pause now ∷ []) (watch_paused now u.timers.waiting) refl
              (waits_paused (leak_timer u.terms.leak.period piece) u.timers.waiting now by_now),
        )
    by_request Continue =
        in_phase (continued now Leak u).next Leak (cut (taken now Take (Some Continue) ∷ piece) [] ∷ earlier) is (
          said Continue,
          result,
          waits_with Continue (mark_of resume now ∷ []) (watch_resumed now u.timers.waiting) refl
              (waits_resumed (leak_timer u.terms.leak.period piece) u.timers.waiting now by_now),
        )
    by_request OtherCancel =
        in_phase u Leak (cut (taken now Take (Some OtherCancel) ∷ piece) [] ∷ earlier) is
        (said OtherCancel, result, waits_with OtherCancel [] u.timers.waiting refl by_now)
    by_request (GetInfo round) =
        in_phase u Leak (cut (taken now Take (Some (GetInfo round)) ∷ piece) [] ∷ earlier) is
        (said (GetInfo round), result, waits_with (GetInfo round) [] u.timers.waiting refl by_now)
    by_request (Shutdown reason) =
        in_phase u Leak (cut (taken now Take (Some (Shutdown reason)) ∷ piece) [] ∷ earlier) is
        (said (Shutdown reason), result, waits_with (Shutdown reason) [] u.timers.waiting refl by_now)

-- it takes one while a delay passes
pub delay_take_shown : (now : ℕ) (request : Request) (u : UnitView) (piece : List OwnTurn) (d : OwnTurn)
    (after : List OwnTurn) (earlier : List Attempt) → u.phase ≡ Delay → u.latest ≡ now
    → IsShown Delay u (cut piece (d ∷ after) ∷ earlier)
    → Shows (requested now Delay request u).next (cut piece (taken now Take (Some request) ∷ d ∷ after) ∷ earlier)
delay_take_shown now request u piece d after earlier is latest waits = by_request request
  where
    timer : Timer
    timer = delay_timer u.terms.retries (d ∷ after) (cut piece (d ∷ after) ∷ earlier)

    by_now : WaitsFor timer u.timers.waiting now
    by_now = subst (WaitsFor timer u.timers.waiting) latest waits

    waits_with : (request : Request) (marks : List Mark) (watch : Watch) → pause_at now (Some request) ≡ marks
        → WaitsFor (record timer { past = marks ++ timer.past }) watch now
        → WaitsFor (delay_timer u.terms.retries (taken now Take (Some request) ∷ d ∷ after)
        (cut piece (taken now Take (Some request) ∷ d ∷ after) ∷ earlier)) watch u.latest
    waits_with request marks watch at h =
        subst (WaitsFor _ watch) (sym latest)
        (subst (λ timer. WaitsFor timer watch now)
        (sym (delay_marked u.terms.retries (taken now Take (Some request)) piece d after earlier marks refl refl at)) h)

    by_request : (request : Request)
        → Shows (requested now Delay request u).next (cut piece (taken now Take (Some request) ∷ d ∷ after) ∷ earlier)
    by_request (Stop round) =
        in_phase (stopped now Delay u).next Delay
        (cut piece (taken now Take (Some (Stop round)) ∷ d ∷ after) ∷ earlier) is
        (waits_with (Stop round) (mark_of pause now ∷ []) (watch_paused now u.timers.waiting) refl
        (waits_paused timer u.timers.waiting now by_now))
    by_request Continue =
        in_phase (continued now Delay u).next Delay
        (cut piece (taken now Take (Some Continue) ∷ d ∷ after) ∷ earlier) is
        (waits_with Continue (mark_of resume now ∷ []) (watch_resumed now u.timers.waiting) refl
        (waits_resumed timer u.timers.waiting now by_now))
    by_request (GetInfo round) =
        in_phase u Delay (cut piece (taken now Take (Some (GetInfo round)) ∷ d ∷ after) ∷ earlier) is
        (waits_with (GetInfo round) [] u.timers.waiting refl by_now)
    by_request (Shutdown reason) = tt
    by_request OtherCancel = tt
