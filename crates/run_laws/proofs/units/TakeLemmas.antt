-- What a unit asks and sends as it takes a request.
use Rattle.std.proofs.Common.{◌≡◌, ℕ, List, [], ◌∷◌, Bool, true, false, if◌then◌else◌, Option, Some, None}
use Rattle.std.proofs.Common.{option_to_list, is_some, refl, ap, sym, ◌∙◌}
use Rattle.run_events.specs.declared.message.Message.{Message}
use Rattle.run_events.specs.declared.request.ChildSignal.{ChildSignal}
use Rattle.run_events.specs.declared.request.ChildSignal.TheVariants.{Tstp, Cont}
use Rattle.run_events.specs.declared.request.Request.{Request}
use Rattle.run_events.specs.declared.request.Request.TheVariants.{Stop, Continue, Shutdown, OtherCancel, GetInfo}
use Rattle.run_events.specs.declared.request.ShutdownRequest.{ShutdownRequest}
use Rattle.run_events.specs.declared.request.TermSignal.{TermSignal}
use Rattle.run_events.specs.declared.request.TermSignal.TheVariants.{Interrupt, Term, Hangup, Quit, Kill}
use Rattle.run_events.specs.declared.request.TerminateReason.{TerminateReason}
use Rattle.run_events.specs.declared.request.TerminateReason.TheVariants.{Signal}
use Rattle.run_model.specs.declared.phase.Phase.TheVariants.{Running, Grace, Leak, Delay}
use Rattle.run_model.specs.declared.unit_turn.UnitTurn.TheVariants.{Take}
use Rattle.run_model.specs.declared.unit_view.UnitView.{UnitView}
use Rattle.run_model.specs.Terminate.{terminate_method}
use Rattle.run_model.specs.Environment.{number}
use Rattle.run_clock.specs.Counted.{is_paused as is_open_after}
use Rattle.run_model.specs.Pauses.{is_paused}
use Rattle.run_model.specs.Row.{child_ask, signal_ask}
use Rattle.run_model.specs.Requests.{killed, asked_to_end, requested, take_row}
use Rattle.run_model.specs.Story.{OwnTurn, Attempt, cut, oldest, begins_attempt, decides, any_is}
use Rattle.run_model.specs.Timing.{ends_wait, is_due_turn, signal_of, pauses_in}
use Rattle.run_laws.specs.Reports.{SlowReport, signals_for, reports_waiting}
use Rattle.run_laws.proofs.units.CaptureLemmas.{taken}
use Rattle.run_laws.proofs.units.StandingLemmas.{is_in_grace}
use Rattle.run_laws.proofs.units.TimerLemmas.{ends_time}
use Rattle.run_laws.proofs.units.SaidLemmas.{IsSaid, retry_silent, said_after, said_apart, said_more}
use Rattle.run_laws.proofs.units.AccountRows.{same_number}
use Rattle.run_laws.proofs.units.SaidLemmas.{said_still}

-- its time to end by same_number is over
pub said_killed : (t : OwnTurn) (u : UnitView) (piece : List OwnTurn) (earlier : List Attempt)
    → any_is ends_wait piece ≡ false → is_in_grace u.terms.slow piece ≡ true → begins_attempt t.turn ≡ false
    → decides t.turn ≡ false → ends_time u.terms.slow t ≡ true
    → IsSaid u.terms (number u) t (cut piece [] ∷ earlier) (killed u)
said_killed t u piece earlier waited grace goes undecided over = by_due (is_due_turn t.turn) refl
  where
    by_due : (d : Bool) → is_due_turn t.turn ≡ d → IsSaid u.terms (number u) t (cut piece [] ∷ earlier) (killed u)
    by_due true e =
        said_more u.terms (number u) t piece earlier (killed u) goes undecided
        (rw (waited, grace, e, same_number (number u)) refl) (rw (waited, grace, e) refl)
    by_due false e =
        let signal : is_some (signal_of u.terms.slow t.request) ≡ true = rw e at over in
        said_more u.terms (number u) t piece earlier (killed u) goes undecided
        (rw (waited, grace, e, signal, same_number (number u)) refl) (rw (waited, e) refl)

-- its child gets the signal of the request that it takes
asked_signal : (now : ℕ) (reason : TerminateReason) (signal : TermSignal) (u : UnitView)
    → (asked_to_end now reason signal u).asked ≡ Some (signal_ask signal u)
asked_signal now reason Interrupt u = refl
asked_signal now reason Term u = refl
asked_signal now reason Hangup u = refl
asked_signal now reason Quit u = refl
asked_signal now reason Kill u = refl

-- and it sends nothing
sent_none : (now : ℕ) (reason : TerminateReason) (signal : TermSignal) (u : UnitView)
    → (asked_to_end now reason signal u).sent ≡ None
sent_none now reason Interrupt u = refl
sent_none now reason Term u = refl
sent_none now reason Hangup u = refl
sent_none now reason Quit u = refl
sent_none now reason Kill u = refl

-- so a request to end is what it says
said_asked : (now : ℕ) (reason : ShutdownRequest) (u : UnitView) (piece : List OwnTurn) (earlier : List Attempt)
    → any_is ends_wait piece ≡ false → is_in_grace u.terms.slow piece ≡ false
    → IsSaid u.terms (number u) (taken now Take (Some (Shutdown reason))) (cut piece [] ∷ earlier)
    (requested now Running (Shutdown reason) u)
said_asked now reason u piece earlier waited grace =
    said_more u.terms (number u) (taken now Take (Some (Shutdown reason))) piece earlier
    (requested now Running (Shutdown reason) u) refl refl
    (rw (waited, grace) (sym (ap (signals_for (number u)) (asked_signal now (Signal reason) signal u)
    ∙ rw (same_number (number u)) refl)))
    (rw waited (sym (ap sends (sent_none now (Signal reason) signal u))))
  where
    signal : TermSignal
    signal = terminate_method (Signal reason) u.terms.slow.grace

    sends : Option Message → List SlowReport
    sends message = reports_waiting (number u) (option_to_list message)

-- it takes the oldest request of its line while a delay passes
pub take_said_delay : (now : ℕ) (line : List Request) (u : UnitView) (piece : List OwnTurn) (d : OwnTurn)
    (after : List OwnTurn) (earlier : List Attempt)
    → IsSaid u.terms (number u) (taken now Take (oldest line)) (cut piece (d ∷ after) ∷ earlier)
    (take_row now Delay line u)
take_said_delay now (Shutdown reason ∷ line) u piece d after earlier =
    said_apart _ _ _ _ _ refl refl refl (retry_silent (number u) u.role (record u { line = line }))
take_said_delay now (Stop round ∷ line) u piece d after earlier = said_apart _ _ _ _ _ refl refl refl refl
take_said_delay now (Continue ∷ line) u piece d after earlier = said_apart _ _ _ _ _ refl refl refl refl
take_said_delay now (OtherCancel ∷ line) u piece d after earlier =
    said_apart _ _ _ _ _ refl refl refl (retry_silent (number u) u.role (record u { line = line }))
take_said_delay now (GetInfo round ∷ line) u piece d after earlier = said_apart _ _ _ _ _ refl refl refl refl
take_said_delay now [] u piece d after earlier = said_apart _ _ _ _ _ refl refl refl refl

-- what is asked of a child where it is
asks_as : (asks : Bool) (signal : ChildSignal) (u : UnitView)
    → option_to_list (if asks then Some signal else None)
    ≡ signals_for (number u) (if asks then Some (child_ask signal u) else None)
asks_as true signal u = rw (same_number (number u)) refl
asks_as false signal u = refl

-- it takes the oldest request of its line
pub take_said_running : (now : ℕ) (line : List Request) (u : UnitView) (piece : List OwnTurn) (earlier : List Attempt)
    → any_is ends_wait piece ≡ false → is_in_grace u.terms.slow piece ≡ false
    → is_paused u.timers ≡ is_open_after (pauses_in piece)
    → IsSaid u.terms (number u) (taken now Take (oldest line)) (cut piece [] ∷ earlier) (take_row now Running line u)
take_said_running now (Shutdown reason ∷ line) u piece earlier waited grace paused =
    said_asked now reason (record u { line = line }) piece earlier waited grace
take_said_running now (Stop round ∷ line) u piece earlier waited grace paused =
    said_more u.terms (number u) (taken now Take (Some (Stop round))) piece earlier
    (take_row now Running (Stop round ∷ line) u) refl refl
    (rw (waited, grace) (asks_as u.terms.stops Tstp (record u { line = line }))) (rw waited refl)
take_said_running now (Continue ∷ line) u piece earlier waited grace paused =
    said_more u.terms (number u) (taken now Take (Some Continue)) piece earlier
    (take_row now Running (Continue ∷ line) u) refl refl
    (rw (waited, grace, paused) (asks_as (is_open_after (pauses_in piece)) Cont (record u { line = line })))
    (rw waited refl)
take_said_running now (OtherCancel ∷ line) u piece earlier waited grace paused =
    said_still _ _ _ piece earlier _ refl refl refl refl refl refl refl
take_said_running now (GetInfo round ∷ line) u piece earlier waited grace paused =
    said_still _ _ _ piece earlier _ refl refl refl refl refl refl refl
take_said_running now [] u piece earlier waited grace paused =
    said_still _ _ _ piece earlier _ refl refl refl refl refl refl refl

pub take_said_grace : (now : ℕ) (line : List Request) (u : UnitView) (piece : List OwnTurn) (earlier : List Attempt)
    → any_is ends_wait piece ≡ false → is_in_grace u.terms.slow piece ≡ true
    → IsSaid u.terms (number u) (taken now Take (oldest line)) (cut piece [] ∷ earlier) (take_row now Grace line u)
take_said_grace now (Shutdown reason ∷ line) u piece earlier waited grace =
    said_killed (taken now Take (Some (Shutdown reason))) (record u { line = line }) piece earlier
    waited grace refl refl refl
take_said_grace now (Stop round ∷ line) u piece earlier waited grace =
    said_more u.terms (number u) (taken now Take (Some (Stop round))) piece earlier
    (take_row now Grace (Stop round ∷ line) u) refl refl (rw (waited, grace, same_number (number u)) refl) (rw waited
    refl)
take_said_grace now (Continue ∷ line) u piece earlier waited grace =
    said_more u.terms (number u) (taken now Take (Some Continue)) piece earlier
    (take_row now Grace (Continue ∷ line) u) refl refl (rw (waited, grace, same_number (number u)) refl) (rw waited
    refl)
take_said_grace now (OtherCancel ∷ line) u piece earlier waited grace =
    said_still _ _ _ piece earlier _ refl refl refl refl refl refl refl
take_said_grace now (GetInfo round ∷ line) u piece earlier waited grace =
    said_still _ _ _ piece earlier _ refl refl refl refl refl refl refl
take_said_grace now [] u piece earlier waited grace = said_still _ _ _ piece earlier _ refl refl
    refl refl refl refl refl

pub take_said_leak : (now : ℕ) (line : List Request) (u : UnitView) (piece : List OwnTurn) (earlier : List Attempt)
    → any_is ends_wait piece ≡ true
    → IsSaid u.terms (number u) (taken now Take (oldest line)) (cut piece [] ∷ earlier) (take_row now Leak line u)
take_said_leak now [] u piece earlier waited = said_after _ _ _ piece earlier _ waited refl refl refl refl
take_said_leak now (Stop round ∷ line) u piece earlier waited =
    said_after _ _ _ piece earlier _ waited refl refl refl refl
take_said_leak now (Continue ∷ line) u piece earlier waited =
    said_after _ _ _ piece earlier _ waited refl refl refl refl
take_said_leak now (Shutdown reason ∷ line) u piece earlier waited =
    said_after _ _ _ piece earlier _ waited refl refl refl refl
take_said_leak now (OtherCancel ∷ line) u piece earlier waited =
    said_after _ _ _ piece earlier _ waited refl refl refl refl
take_said_leak now (GetInfo round ∷ line) u piece earlier waited =
    said_after _ _ _ piece earlier _ waited refl refl refl refl
