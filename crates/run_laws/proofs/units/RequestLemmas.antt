-- A unit at the attempt that its pieces say, after it took a request.
use Rattle.std.proofs.Common.{◌≡◌, ℕ, ◌+◌, ◌≤◌, List, [], ◌∷◌, length, Bool, true, false, Option, Some, None, refl}
use Rattle.std.proofs.Common.{option_map, ap, sym, subst, ◌∙◌, arith}
use Rattle.run_events.specs.declared.request.Request.{Request}
use Rattle.run_events.specs.declared.request.Request.TheVariants.{Stop, Continue, Shutdown, OtherCancel, GetInfo}
use Rattle.run_events.specs.declared.request.ShutdownRequest.{ShutdownRequest}
use Rattle.run_events.specs.declared.request.TermSignal.{TermSignal}
use Rattle.run_events.specs.declared.request.TermSignal.TheVariants.{Interrupt, Term, Hangup, Quit, Kill}
use Rattle.run_events.specs.declared.request.TerminateReason.TheVariants.{Signal}
use Rattle.run_events.specs.declared.result.ChildExit.{ChildExit}
use Rattle.run_model.specs.declared.phase.Phase.{Phase}
use Rattle.run_model.specs.declared.phase.Phase.TheVariants.{Running, Grace, Leak, Delay}
use Rattle.run_model.specs.declared.unit_turn.UnitTurn.TheVariants.{Take}
use Rattle.run_model.specs.declared.unit_view.UnitView.{UnitView}
use Rattle.run_model.specs.Terminate.{terminate_method}
use Rattle.run_model.specs.Requests.{asked_to_end, requested, take_row}
use Rattle.run_model.specs.Story.{OwnTurn, Attempt, cut, oldest}
use Rattle.run_model.specs.Pauses.{watch_paused, watch_resumed, sleep_paused, sleep_resumed, all_paused, all_resumed}
use Rattle.run_model.specs.Timing.{signal_of, gives_time, pause_at}
use Rattle.run_model.specs.Attempts.{start_of}
use Rattle.run_laws.proofs.units.CaptureLemmas.{taken}
use Rattle.run_laws.proofs.units.StandingLemmas.{is_heeded, unheeded, unheeded_after}
use Rattle.run_laws.proofs.units.TimerLemmas.{HasTimer, waits, timer_still, timer_asked}
use Rattle.run_laws.proofs.units.PauseTimers.{timer_stopped, timer_continued}
use Rattle.run_laws.proofs.units.WatchLemmas.{IsTimed, timed_still, timed_stop, timed_continue, resumed_start}
use Rattle.run_laws.proofs.units.PieceLemmas.{IsAt, quiet_said, at_more}
use Rattle.run_laws.proofs.units.GoingLemmas.{IsGoing, going_more, going_lined, waits_on}
use Rattle.run_laws.proofs.units.MadeLemmas.{GoesOn, IsDelayed, HasPieces, IsMade}
use Rattle.run_laws.proofs.units.RowLemmas.{made_more, began}
use Rattle.run_laws.proofs.units.AfterLemmas.{retried_made, waiting_made, delay_stopped, delay_continued}
use Rattle.run_laws.proofs.units.DueLemmas.{killed_made}

-- an attempt that goes on after it took a request
at_take : (ph : Phase) (waited : Bool) (exit : Option ChildExit) (now : ℕ) (request : Option Request) (u : UnitView)
    (piece : List OwnTurn) → IsGoing u.terms ph waited exit u piece
    → IsAt u.terms u.timers.stopwatch.start waited exit false u.timers.slow_count u.capture
    (taken now Take request ∷ piece)
at_take ph waited exit now request u piece on =
    subst (λ exit. IsAt u.terms u.timers.stopwatch.start waited exit false u.timers.slow_count u.capture
    (taken now Take request ∷ piece)) (quiet_said exit)
    (at_more u.terms u.timers.stopwatch.start waited exit false u.timers.slow_count u.capture now
    Take request piece on.is_at
    refl refl)

-- a request that isn't heeded changes nothing of its attempt
quiet_made : (ph : Phase) (waited : Bool) (exit : Option ChildExit) (now : ℕ) (request : Option Request) (u : UnitView)
    (piece : List OwnTurn) (earlier : List Attempt)
    → (GoesOn u.terms ph waited exit u (taken now Take request ∷ piece) earlier
    → HasPieces u.terms ph u (cut (taken now Take request ∷ piece) [] ∷ earlier))
    → u.phase ≡ ph → u.attempt ≡ length earlier + 1 → GoesOn u.terms ph waited exit u piece earlier
    → pause_at now request ≡ [] → is_heeded u.terms.slow (taken now Take request) piece ≡ false
    → IsMade u.terms u (cut (taken now Take request ∷ piece) [] ∷ earlier)
quiet_made ph waited exit now request u piece earlier into is a (on, ss) goes_on heeds =
    made_more u ph (taken now Take request) piece earlier is a
    (began u.terms u.timers.stopwatch.start waited exit false u.timers.slow_count u.capture
    (taken now Take request ∷ piece) it)
    (into (
      going_more u.terms ph waited exit u (taken now Take request) piece it on.not_ended refl
          (waits_on ph waited exit u piece on)
          (λ still. timed_still u.terms u.timers.stopwatch u.latest (taken now Take request)
          piece still goes_on on.watch)
          on.pauses
          (timer_still u.terms ph u.timers u.latest (taken now Take request) piece refl refl refl
          goes_on heeds on.timer),
      ss,
    ))
  where
    it : IsAt u.terms u.timers.stopwatch.start waited exit false u.timers.slow_count u.capture
        (taken now Take request ∷ piece)
    it = at_take ph waited exit now request u piece on

-- one that is none to end its child isn't heeded while that is waited for
ignored_made : (ph : Phase) (now : ℕ) (request : Option Request) (u : UnitView) (piece : List OwnTurn)
    (earlier : List Attempt)
    → (GoesOn u.terms ph false None u (taken now Take request ∷ piece) earlier
    → HasPieces u.terms ph u (cut (taken now Take request ∷ piece) [] ∷ earlier))
    → u.phase ≡ ph → u.attempt ≡ length earlier + 1 → GoesOn u.terms ph false None u piece earlier
    → pause_at now request ≡ [] → signal_of u.terms.slow request ≡ None
    → IsMade u.terms u (cut (taken now Take request ∷ piece) [] ∷ earlier)
ignored_made ph now request u piece earlier into is a h goes_on none =
    quiet_made ph false None now request u piece earlier into is a h goes_on
    (unheeded u.terms.slow (taken now Take request) piece none)

-- a stop pauses its timers, and a continue lets them run
stopped_made : (ph : Phase) (waited : Bool) (exit : Option ChildExit) (now round : ℕ) (u : UnitView)
    (piece : List OwnTurn) (earlier : List Attempt)
    → (GoesOn u.terms ph waited exit (record u { timers = all_paused now u.timers })
    (taken now Take (Some (Stop round)) ∷ piece) earlier
    → HasPieces u.terms ph (record u { timers = all_paused now u.timers })
    (cut (taken now Take (Some (Stop round)) ∷ piece) [] ∷ earlier))
    → waits ph (all_paused now u.timers) ≡ option_map (sleep_paused now) (waits ph u.timers)
    → u.phase ≡ ph → u.latest ≡ now → u.attempt ≡ length earlier + 1 → GoesOn u.terms ph waited exit u piece earlier
    → IsMade u.terms (record u { timers = all_paused now u.timers })
    (cut (taken now Take (Some (Stop round)) ∷ piece) [] ∷ earlier)
stopped_made ph waited exit now round u piece earlier into waits_is is latest a (on, ss) =
    made_more v ph t piece earlier is a
    (began u.terms u.timers.stopwatch.start waited exit false u.timers.slow_count u.capture (t ∷ piece) it)
    (into (
      going_more u.terms ph waited exit v t piece it on.not_ended refl (waits_on ph waited exit u piece on)
          (λ still. subst (λ later. IsTimed u.terms (watch_paused now u.timers.stopwatch) later
          (t ∷ piece)) (sym latest)
          (timed_stop u.terms u.timers.stopwatch t piece still refl
          (subst (λ later. IsTimed u.terms u.timers.stopwatch later piece) latest on.watch))) on.pauses
          (subst (λ later. HasTimer u.terms ph (all_paused now u.timers) later (t ∷ piece)) (sym latest)
          (timer_stopped u.terms ph u.timers t piece refl refl refl refl refl waits_is
          (subst (λ later. HasTimer u.terms ph u.timers later piece) latest on.timer))),
      ss,
    ))
  where
    t : OwnTurn
    t = taken now Take (Some (Stop round))

    v : UnitView
    v = record u { timers = all_paused now u.timers }

    it : IsAt u.terms u.timers.stopwatch.start waited exit false u.timers.slow_count u.capture (t ∷ piece)
    it = at_take ph waited exit now (Some (Stop round)) u piece on

continued_made : (ph : Phase) (waited : Bool) (exit : Option ChildExit) (now : ℕ) (u : UnitView)
    (piece : List OwnTurn) (earlier : List Attempt)
    → (GoesOn u.terms ph waited exit (record u { timers = all_resumed now u.timers })
    (taken now Take (Some Continue) ∷ piece) earlier
    → HasPieces u.terms ph (record u { timers = all_resumed now u.timers })
    (cut (taken now Take (Some Continue) ∷ piece) [] ∷ earlier))
    → waits ph (all_resumed now u.timers) ≡ option_map (sleep_resumed now) (waits ph u.timers)
    → u.phase ≡ ph → u.latest ≡ now → u.attempt ≡ length earlier + 1 → GoesOn u.terms ph waited exit u piece earlier
    → IsMade u.terms (record u { timers = all_resumed now u.timers })
    (cut (taken now Take (Some Continue) ∷ piece) [] ∷ earlier)
continued_made ph waited exit now u piece earlier into waits_is is latest a (on, ss) =
    made_more v ph t piece earlier is a
    (from ∙ began u.terms u.timers.stopwatch.start waited exit false u.timers.slow_count u.capture (t ∷ piece) it)
    (into (
      going_more u.terms ph waited exit v t piece
          (subst (λ start. IsAt u.terms start waited exit false u.timers.slow_count u.capture
          (t ∷ piece)) (sym from) it)
          on.not_ended refl (waits_on ph waited exit u piece on)
          (λ still. subst (λ later. IsTimed u.terms (watch_resumed now u.timers.stopwatch) later
          (t ∷ piece)) (sym latest)
          (timed_continue u.terms u.timers.stopwatch t piece still refl
          (subst (λ later. IsTimed u.terms u.timers.stopwatch later piece) latest on.watch))) on.pauses
          (subst (λ later. HasTimer u.terms ph (all_resumed now u.timers) later (t ∷ piece)) (sym latest)
          (timer_continued u.terms ph u.timers t piece refl refl refl refl refl waits_is
          (subst (λ later. HasTimer u.terms ph u.timers later piece) latest on.timer))),
      ss,
    ))
  where
    t : OwnTurn
    t = taken now Take (Some Continue)

    v : UnitView
    v = record u { timers = all_resumed now u.timers }

    from : (watch_resumed now u.timers.stopwatch).start ≡ u.timers.stopwatch.start
    from = resumed_start u.timers.stopwatch now

    it : IsAt u.terms u.timers.stopwatch.start waited exit false u.timers.slow_count u.capture (t ∷ piece)
    it = at_take ph waited exit now (Some Continue) u piece on

-- its child is asked to end, and given time for that
asked_made : (now : ℕ) (reason : ShutdownRequest) (u : UnitView) (piece : List OwnTurn) (earlier : List Attempt)
    → now ≤ u.latest → u.attempt ≡ length earlier + 1 → GoesOn u.terms Running false None u piece earlier
    → gives_time (Some (terminate_method (Signal reason) u.terms.slow.grace)) ≡ true
    → IsMade u.terms (asked_to_end now (Signal reason) Term u).next
    (cut (taken now Take (Some (Shutdown reason)) ∷ piece) [] ∷ earlier)
asked_made now reason u piece earlier le a (on, ss) gives =
    made_more v Grace t piece earlier refl a
    (began u.terms u.timers.stopwatch.start false None false u.timers.slow_count u.capture (t ∷ piece) it) (
      going_more u.terms Grace false None v t piece it on.not_ended refl refl
          (λ still. timed_still u.terms u.timers.stopwatch u.latest t piece still refl on.watch) on.pauses
          (timer_asked u.terms u.timers v.timers u.latest t piece le refl refl
          on.is_at.wait_over on.timer refl refl refl
          refl gives),
      ss,
    )
  where
    t : OwnTurn
    t = taken now Take (Some (Shutdown reason))

    v : UnitView
    v = (asked_to_end now (Signal reason) Term u).next

    it : IsAt u.terms u.timers.stopwatch.start false None false u.timers.slow_count u.capture (t ∷ piece)
    it = at_take Running false None now (Some (Shutdown reason)) u piece on

-- it takes a request while its child runs
requested_running : (now : ℕ) (request : Request) (u : UnitView) (piece : List OwnTurn) (earlier : List Attempt)
    → u.phase ≡ Running → u.latest ≡ now → u.attempt ≡ length earlier + 1
    → GoesOn u.terms Running false None u piece earlier
    → IsMade u.terms (requested now Running request u).next (cut (taken now Take (Some request) ∷ piece) [] ∷ earlier)
requested_running now (Shutdown reason) u piece earlier ph latest a (on, ss) =
    by_signal (terminate_method (Signal reason) u.terms.slow.grace) refl
  where
    le : now ≤ u.latest
    le = rw latest (omega arith)

    gives : (signal : TermSignal) → terminate_method (Signal reason) u.terms.slow.grace ≡ signal
        → gives_time (Some signal) ≡ true
        → gives_time (Some (terminate_method (Signal reason) u.terms.slow.grace)) ≡ true
    gives signal e is = ap (λ s. gives_time (Some s)) e ∙ is

    by_signal : (signal : TermSignal) → terminate_method (Signal reason) u.terms.slow.grace ≡ signal
        → IsMade u.terms (asked_to_end now (Signal reason) signal u).next
        (cut (taken now Take (Some (Shutdown reason)) ∷ piece) [] ∷ earlier)
    by_signal Kill e =
        quiet_made Running false None now (Some (Shutdown reason)) u piece earlier (λ h. h) ph a (on, ss) refl
        (rw (on.is_at.wait_over, on.timer.stage.1, e) refl)
    by_signal Interrupt e = asked_made now reason u piece earlier le a (on, ss) (gives Interrupt e refl)
    by_signal Term e = asked_made now reason u piece earlier le a (on, ss) (gives Term e refl)
    by_signal Hangup e = asked_made now reason u piece earlier le a (on, ss) (gives Hangup e refl)
    by_signal Quit e = asked_made now reason u piece earlier le a (on, ss) (gives Quit e refl)
requested_running now (Stop round) u piece earlier ph latest a h =
    stopped_made Running false None now round u piece earlier (λ h. h) refl ph latest a h
requested_running now Continue u piece earlier ph latest a h =
    continued_made Running false None now u piece earlier (λ h. h) refl ph latest a h
requested_running now OtherCancel u piece earlier ph latest a h =
    ignored_made Running now (Some OtherCancel) u piece earlier (λ h. h) ph a h refl refl
requested_running now (GetInfo round) u piece earlier ph latest a h =
    ignored_made Running now (Some (GetInfo round)) u piece earlier (λ h. h) ph a h refl refl

-- it takes one while its child is given time to end
requested_grace : (now : ℕ) (request : Request) (u : UnitView) (piece : List OwnTurn) (earlier : List Attempt)
    → u.phase ≡ Grace → u.latest ≡ now → u.attempt ≡ length earlier + 1
    → GoesOn u.terms Grace false None u piece earlier
    → IsMade u.terms (requested now Grace request u).next (cut (taken now Take (Some request) ∷ piece) [] ∷ earlier)
requested_grace now (Shutdown reason) u piece earlier ph latest a (on, ss) =
    killed_made (taken now Take (Some (Shutdown reason))) u piece earlier a (on, ss) refl refl refl refl refl
    (at_take Grace false None now (Some (Shutdown reason)) u piece on)
requested_grace now (Stop round) u piece earlier ph latest a h =
    stopped_made Grace false None now round u piece earlier (λ h. h) refl ph latest a h
requested_grace now Continue u piece earlier ph latest a h =
    continued_made Grace false None now u piece earlier (λ h. h) refl ph latest a h
requested_grace now OtherCancel u piece earlier ph latest a h =
    ignored_made Grace now (Some OtherCancel) u piece earlier (λ h. h) ph a h refl refl
requested_grace now (GetInfo round) u piece earlier ph latest a h =
    ignored_made Grace now (Some (GetInfo round)) u piece earlier (λ h. h) ph a h refl refl

-- it takes the oldest of its line
pub take_running : (now : ℕ) (line : List Request) (u : UnitView) (piece : List OwnTurn) (earlier : List Attempt)
    → u.phase ≡ Running → u.latest ≡ now → u.attempt ≡ length earlier + 1
    → GoesOn u.terms Running false None u piece earlier
    → IsMade u.terms (take_row now Running line u).next (cut (taken now Take (oldest line) ∷ piece) [] ∷ earlier)
take_running now [] u piece earlier ph latest a h =
    ignored_made Running now None u piece earlier (λ h. h) ph a h refl refl
take_running now (request ∷ line) u piece earlier ph latest a (on, ss) =
    requested_running now request (record u { line = line }) piece earlier ph latest a
    (going_lined u.terms Running false None line u piece on, ss)

pub take_grace : (now : ℕ) (line : List Request) (u : UnitView) (piece : List OwnTurn) (earlier : List Attempt)
    → u.phase ≡ Grace → u.latest ≡ now → u.attempt ≡ length earlier + 1
    → GoesOn u.terms Grace false None u piece earlier
    → IsMade u.terms (take_row now Grace line u).next (cut (taken now Take (oldest line) ∷ piece) [] ∷ earlier)
take_grace now [] u piece earlier ph latest a h =
    ignored_made Grace now None u piece earlier (λ h. h) ph a h refl refl
take_grace now (request ∷ line) u piece earlier ph latest a (on, ss) =
    requested_grace now request (record u { line = line }) piece earlier ph latest a
    (going_lined u.terms Grace false None line u piece on, ss)

-- and while its streams are waited for
requested_leak : (now : ℕ) (request : Request) (u : UnitView) (piece : List OwnTurn) (earlier : List Attempt)
    → u.phase ≡ Leak → u.latest ≡ now → u.attempt ≡ length earlier + 1
    → GoesOn u.terms Leak true u.exit u piece earlier
    → IsMade u.terms (requested now Leak request u).next (cut (taken now Take (Some request) ∷ piece) [] ∷ earlier)
requested_leak now (Stop round) u piece earlier ph latest a h =
    stopped_made Leak true u.exit now round u piece earlier (λ h. h) refl ph latest a h
requested_leak now Continue u piece earlier ph latest a h =
    continued_made Leak true u.exit now u piece earlier (λ h. h) refl ph latest a h
requested_leak now (Shutdown reason) u piece earlier ph latest a (on, ss) =
    quiet_made Leak true u.exit now (Some (Shutdown reason)) u piece earlier (λ h. h) ph a (on, ss) refl
    (unheeded_after u.terms.slow (taken now Take (Some (Shutdown reason))) piece on.is_at.wait_over)
requested_leak now OtherCancel u piece earlier ph latest a (on, ss) =
    quiet_made Leak true u.exit now (Some OtherCancel) u piece earlier (λ h. h) ph a (on, ss) refl
    (unheeded_after u.terms.slow (taken now Take (Some OtherCancel)) piece on.is_at.wait_over)
requested_leak now (GetInfo round) u piece earlier ph latest a (on, ss) =
    quiet_made Leak true u.exit now (Some (GetInfo round)) u piece earlier (λ h. h) ph a (on, ss) refl
    (unheeded_after u.terms.slow (taken now Take (Some (GetInfo round))) piece on.is_at.wait_over)

pub take_leak : (now : ℕ) (line : List Request) (u : UnitView) (piece : List OwnTurn) (earlier : List Attempt)
    → u.phase ≡ Leak → u.latest ≡ now → u.attempt ≡ length earlier + 1
    → GoesOn u.terms Leak true u.exit u piece earlier
    → IsMade u.terms (take_row now Leak line u).next (cut (taken now Take (oldest line) ∷ piece) [] ∷ earlier)
take_leak now [] u piece earlier ph latest a (on, ss) =
    quiet_made Leak true u.exit now None u piece earlier (λ h. h) ph a (on, ss) refl
    (unheeded_after u.terms.slow (taken now Take None) piece on.is_at.wait_over)
take_leak now (request ∷ line) u piece earlier ph latest a (on, ss) =
    requested_leak now request (record u { line = line }) piece earlier ph latest a
    (going_lined u.terms Leak true u.exit line u piece on, ss)

-- it takes a request while a delay passes: one that cancels the run ends that
requested_delay : (now : ℕ) (request : Request) (u : UnitView) (piece : List OwnTurn) (d : OwnTurn)
    (after : List OwnTurn) (earlier : List Attempt)
    → u.phase ≡ Delay → u.latest ≡ now → u.attempt ≡ length earlier + 1 → u.timers.stopwatch.start ≡ start_of piece
    → IsDelayed u.terms u piece (d ∷ after) earlier
    → IsMade u.terms (requested now Delay request u).next (cut piece
    (taken now Take (Some request) ∷ d ∷ after) ∷ earlier)
requested_delay now (Shutdown reason) u piece d after earlier ph latest a start h =
    retried_made (taken now Take (Some (Shutdown reason))) u piece d after earlier a start h refl refl
requested_delay now OtherCancel u piece d after earlier ph latest a start h =
    retried_made (taken now Take (Some OtherCancel)) u piece d after earlier a start h refl refl
requested_delay now (Stop round) u piece d after earlier ph latest a start h =
    delay_stopped now round u piece d after earlier ph latest a start h
requested_delay now Continue u piece d after earlier ph latest a start h =
    delay_continued now u piece d after earlier ph latest a start h
requested_delay now (GetInfo round) u piece d after earlier ph latest a start h =
    waiting_made (taken now Take (Some (GetInfo round))) u piece d after earlier ph a start h refl refl refl refl

pub take_delay : (now : ℕ) (line : List Request) (u : UnitView) (piece : List OwnTurn) (d : OwnTurn)
    (after : List OwnTurn) (earlier : List Attempt)
    → u.phase ≡ Delay → u.latest ≡ now → u.attempt ≡ length earlier + 1 → u.timers.stopwatch.start ≡ start_of piece
    → IsDelayed u.terms u piece (d ∷ after) earlier
    → IsMade u.terms (take_row now Delay line u).next (cut piece (taken now Take (oldest line) ∷ d ∷ after) ∷ earlier)
take_delay now [] u piece d after earlier ph latest a start h =
    waiting_made (taken now Take None) u piece d after earlier ph a start h refl refl refl refl
take_delay now (request ∷ line) u piece d after earlier ph latest a start h =
    requested_delay now request (record u { line = line }) piece d after earlier ph latest a start h
