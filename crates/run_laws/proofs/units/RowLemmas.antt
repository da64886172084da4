-- A unit at the attempt that its pieces say, after one row.
use Rattle.std.proofs.Common.{◌≡◌, ℕ, ◌+◌, ◌≤◌, List, [], ◌∷◌, length, Bool, true, false, ◌||◌, if◌then◌else◌, Option}
use Rattle.std.proofs.Common.{None, unwrap_or, refl, ap, sym, subst, ◌∙◌, arith}
use Rattle.std.specs.Option.{option_or}
use Rattle.run_clock.specs.Counted.{is_paused as is_open}
use Rattle.run_clock.specs.Stopwatch.{started_at}
use Rattle.run_capture.specs.Captured.{Captured, is_done}
use Rattle.run_events.specs.declared.result.ChildExit.{ChildExit}
use Rattle.run_model.specs.declared.phase.Phase.{Phase}
use Rattle.run_model.specs.declared.phase.Phase.TheVariants.{Starting, Running, Leak, EnvWait, Deciding}
use Rattle.run_commands.specs.declared.script_helpers.EnvInput.{EnvInput}
use Rattle.run_events.specs.declared.result.ChildExecutionOutput.TheVariants.{Output}
use Rattle.run_model.specs.declared.unit_turn.UnitTurn.{UnitTurn}
use Rattle.run_model.specs.declared.unit_turn.UnitTurn.TheVariants.{Answered, Started, Env}
use Rattle.run_model.specs.declared.unit_view.AttemptTerms.{AttemptTerms}
use Rattle.run_model.specs.declared.unit_view.Timers.{Timers}
use Rattle.run_model.specs.declared.unit_view.UnitView.{UnitView}
use Rattle.run_model.specs.Pauses.{watch_paused, watch_resumed, is_paused, waits_from}
use Rattle.run_model.specs.Env.{env_of}
use Rattle.run_model.specs.Ending.{result_of, ended, ended_with, awaits_env, awaiting_env, exited, leaking, settled}
use Rattle.run_model.specs.Unit.{having_heard, heard_with, started, let_go, begun_row}
use Rattle.run_model.specs.Story.{OwnTurn, Attempt, cut}
use Rattle.run_model.specs.Timing.{ends_wait, is_due_turn, starts_child, pauses_in}
use Rattle.run_model.specs.Attempts.{start_error_in, exit_in, env_in, start_of, start_in, attempt_pauses, is_settled}
use Rattle.run_laws.proofs.units.CaptureLemmas.{captured_first, heard_by, taken}
use Rattle.run_laws.proofs.units.StandingLemmas.{unheeded}
use Rattle.run_laws.proofs.units.TimerLemmas.{timer_first, timer_started, timer_left, timer_still}
use Rattle.run_laws.proofs.units.WatchLemmas.{IsTimed, timed_first, timed_still, timed_held, timed_open, held_watch}
use Rattle.run_laws.proofs.units.WatchLemmas.{held_start, held_count, resumed_start}
use Rattle.run_laws.proofs.units.PieceLemmas.{IsAt, quiet_said, at_more}
use Rattle.run_laws.proofs.units.GoingLemmas.{IsUnended, IsAwaiting, Follows, going_more, past_exited, awaiting_exited}
use Rattle.run_laws.proofs.units.GoingLemmas.{past_read, waits_further, ended_or, ended_done}
use Rattle.run_laws.proofs.units.MadeLemmas.{GoesOn, HasPieces, IsMade}

-- a unit in this phase whose newest attempt is this one
pub made_at : (u : UnitView) (ph : Phase) (a : Attempt) (earlier : List Attempt)
    → u.phase ≡ ph → u.attempt ≡ length earlier + 1
    → u.timers.stopwatch.start ≡ start_in (a ∷ earlier)
    → HasPieces u.terms ph u (a ∷ earlier)
    → IsMade u.terms u (a ∷ earlier)
made_at u ph a earlier is at start h = record {
  attempt = at;
  start = start;
  terms = refl;
  has = subst (λ ph. HasPieces u.terms ph u (a ∷ earlier)) (sym is) h;
}

-- a unit that has more turns of its attempt is made by them
pub made_more : (u : UnitView) (ph : Phase) (t : OwnTurn) (piece : List OwnTurn) (earlier : List Attempt)
    → u.phase ≡ ph → u.attempt ≡ length earlier + 1
    → u.timers.stopwatch.start ≡ start_of (t ∷ piece)
    → HasPieces u.terms ph u (cut (t ∷ piece) [] ∷ earlier)
    → IsMade u.terms u (cut (t ∷ piece) [] ∷ earlier)
made_more u ph t piece earlier is at start h = made_at u ph (cut (t ∷ piece) []) earlier is at start h

-- where an attempt was let go is where it began
pub began : (terms : AttemptTerms) (start : ℕ) (waited : Bool) (exit : Option ChildExit) (leaked : Bool) (count : ℕ)
    (c : Captured) (piece : List OwnTurn) → IsAt terms start waited exit leaked count c piece → start ≡ start_of piece
began terms start waited exit leaked count c piece it = sym (ap (λ o. unwrap_or o 0) it.let_go)

-- an attempt whose child is done with ends, or its environment file is to be read
pub exited_made : (now : ℕ) (exit : Option ChildExit) (leaked : Bool) (c : Captured) (turn : UnitTurn) (u : UnitView)
    (piece : List OwnTurn) (earlier : List Attempt)
    → IsAt u.terms u.timers.stopwatch.start true exit leaked u.timers.slow_count c (taken now turn None ∷ piece)
    → IsUnended u.terms piece → env_in turn ≡ None → (u.terms.skips_leak_detection || is_done c || leaked) ≡ true
    → u.latest ≡ now → IsTimed u.terms u.timers.stopwatch now piece → u.attempt ≡ length earlier + 1
    → Follows u.terms u earlier
    → IsMade u.terms (exited now exit leaked c u) (cut (taken now turn None ∷ piece) [] ∷ earlier)
exited_made now exit leaked c turn u piece earlier it none quiet done latest watch a ss =
    by_env (awaits_env (result_of exit c.errors leaked u) u) refl
  where
    start : u.timers.stopwatch.start ≡ start_of (taken now turn None ∷ piece)
    start =
        began u.terms u.timers.stopwatch.start true exit leaked u.timers.slow_count c (taken now turn None ∷ piece) it

    resumed : (watch_resumed now u.timers.stopwatch).start ≡ start_of (taken now turn None ∷ piece)
    resumed = resumed_start u.timers.stopwatch now ∙ start

    by_env : (b : Bool) → awaits_env (result_of exit c.errors leaked u) u ≡ b
        → IsMade u.terms (if b
        then awaiting_env now exit leaked c u
        else ended now (result_of exit c.errors leaked u) (Output c.output c.errors) u)
        (cut (taken now turn None ∷ piece) [] ∷ earlier)
    by_env true e =
        made_more (awaiting_env now exit leaked c u) EnvWait (taken now turn None) piece earlier refl a resumed
        (awaiting_exited now exit leaked c turn u piece it none quiet done e latest watch, ss)
    by_env false e =
        made_more (ended now (result_of exit c.errors leaked u) (Output c.output c.errors) u)
        Deciding (taken now turn None)
        piece earlier refl a resumed (past_exited now exit leaked c turn u piece earlier it none
        quiet done e watch a ss)

-- its environment file was read, or could not be
pub read_made : (now : ℕ) (input : EnvInput) (u : UnitView) (piece : List OwnTurn) (earlier : List Attempt)
    → u.latest ≡ now → u.attempt ≡ length earlier + 1 → u.timers.stopwatch.start ≡ start_of piece
    → IsAwaiting u.terms u piece → Follows u.terms u earlier
    → IsMade u.terms (ended_with now (env_of input) u.exit u.leaked u.capture u)
    (cut (taken now (Env input) None ∷ piece) [] ∷ earlier)
read_made now input u piece earlier latest a start on ss =
    made_more (ended_with now (env_of input) u.exit u.leaked u.capture u) Deciding
    (taken now (Env input) None) piece earlier
    refl a (resumed_start u.timers.stopwatch now ∙ simp quiet_said start)
    (past_read now input u piece earlier latest on a ss)

-- an attempt whose child is waited for no more ends, or waits for its streams
settled_made : (now : ℕ) (exit : Option ChildExit) (c : Captured) (turn : UnitTurn) (u : UnitView)
    (piece : List OwnTurn) (earlier : List Attempt)
    → u.latest ≡ now → ends_wait turn ≡ true → env_in turn ≡ None
    → IsAt u.terms u.timers.stopwatch.start true exit false u.timers.slow_count c (taken now turn None ∷ piece)
    → IsUnended u.terms piece → IsTimed u.terms u.timers.stopwatch now piece
    → attempt_pauses u.terms piece ≡ pauses_in piece → u.attempt ≡ length earlier + 1
    → Follows u.terms u earlier → IsMade u.terms (settled now exit c u) (cut (taken now turn None ∷ piece) [] ∷ earlier)
settled_made now exit c turn u piece earlier latest ends quiet it none watch pauses a ss =
    by_done (u.terms.skips_leak_detection || is_done c) refl
  where
    start : u.timers.stopwatch.start ≡ start_of (taken now turn None ∷ piece)
    start =
        began u.terms u.timers.stopwatch.start true exit false u.timers.slow_count c (taken now turn None ∷ piece) it

    t : OwnTurn
    t = taken now turn None

    waiting : Timers
    waiting = waits_from now u.terms.leak.period (record u.timers { slow = None })

    from : (leaking now exit c u).timers.stopwatch.start ≡ u.timers.stopwatch.start
    from = held_start now (is_paused u.timers) waiting

    count : (leaking now exit c u).timers.slow_count ≡ u.timers.slow_count
    count = held_count now (is_paused u.timers) waiting

    le : now ≤ u.latest
    le = rw latest (omega arith)

    stopped : is_paused u.timers ≡ is_open (pauses_in piece)
    stopped = timed_open u.terms u.timers.stopwatch now piece watch pauses

    held_timed : (still : is_settled u.terms (t ∷ piece) ≡ false)
        → IsTimed u.terms (if is_paused u.timers then watch_paused now u.timers.stopwatch else
        u.timers.stopwatch) now (t ∷ piece)
    held_timed still =
        timed_still u.terms (if is_paused u.timers then watch_paused now u.timers.stopwatch else
        u.timers.stopwatch) now t piece
        still refl (timed_held u.terms u.timers.stopwatch now piece (is_paused u.timers) refl watch)

    left_timed : is_settled u.terms (t ∷ piece) ≡ false
        → IsTimed u.terms (leaking now exit c u).timers.stopwatch u.latest (t ∷ piece)
    left_timed still =
        subst (λ later. IsTimed u.terms (leaking now exit c u).timers.stopwatch later (t ∷ piece)) (sym latest)
        (subst (λ w. IsTimed u.terms w now (t ∷ piece))
        (sym (held_watch now (is_paused u.timers) waiting)) (held_timed still))

    by_done : (b : Bool) → (u.terms.skips_leak_detection || is_done c) ≡ b
        → IsMade u.terms (if b then exited now exit false c u else leaking now exit c u)
        (cut (taken now turn None ∷ piece) [] ∷ earlier)
    by_done true e =
        exited_made now exit false c turn u piece earlier it none quiet
        (ended_or u.terms.skips_leak_detection (is_done c) e) latest watch a ss
    by_done false e =
        made_more (leaking now exit c u) Leak (taken now turn None) piece earlier refl a (from ∙ start) (
          going_more u.terms Leak true exit (leaking now exit c u) (taken now turn None) piece
              (subst (λ n. IsAt u.terms (leaking now exit c u).timers.stopwatch.start true exit false n c
              (taken now turn None ∷ piece)) (sym count)
              (subst (λ start. IsAt u.terms start true exit false u.timers.slow_count c (taken now turn None ∷ piece))
              (sym from) it)) none quiet e left_timed pauses
              (timer_left u.terms u.timers now u.latest turn piece le stopped ends),
          ss,
        )

-- its child ends, or the wait for it fails
pub exit_made : (ph : Phase) (now : ℕ) (exit : Option ChildExit) (c : Captured) (turn : UnitTurn) (u : UnitView)
    (piece : List OwnTurn) (earlier : List Attempt)
    → u.latest ≡ now → u.attempt ≡ length earlier + 1 → GoesOn u.terms ph false None u piece earlier
    → start_error_in turn ≡ None → is_due_turn turn ≡ false → ends_wait turn ≡ true → env_in turn ≡ None
    → exit_in turn ≡ exit → heard_by u.capture turn ≡ c
    → IsMade u.terms (settled now exit c u) (cut (taken now turn None ∷ piece) [] ∷ earlier)
exit_made ph now exit c turn u piece earlier latest a (on, ss) unrefused due ends quiet is heard =
    let it : IsAt u.terms u.timers.stopwatch.start (ends_wait turn || false) (exit_in turn) false u.timers.slow_count
    (heard_by u.capture turn) (taken now turn None ∷ piece) =
    at_more u.terms u.timers.stopwatch.start false None false u.timers.slow_count u.capture now turn None piece on.is_at
    unrefused due in
    settled_made now exit c turn u piece earlier latest ends quiet (rw (ends, is, heard) at it) on.not_ended
    (subst (λ later. IsTimed u.terms u.timers.stopwatch later piece) latest on.watch) on.pauses a ss

-- a unit whose capture got a turn
abbrev pub having_captured : UnitTurn → UnitView → UnitView
having_captured turn u = record u { capture = having_heard u.capture turn }

-- its capture gets a turn before that
pub heard_running : (ph : Phase) (now : ℕ) (turn : UnitTurn) (u : UnitView) (piece : List OwnTurn)
    (earlier : List Attempt)
    → (GoesOn u.terms ph false None (having_captured turn u) (taken now turn None ∷ piece) earlier
    → HasPieces u.terms ph (having_captured turn u) (cut (taken now turn None ∷ piece) [] ∷ earlier))
    → u.phase ≡ ph → u.attempt ≡ length earlier + 1 → GoesOn u.terms ph false None u piece earlier
    → start_error_in turn ≡ None → is_due_turn turn ≡ false → ends_wait turn ≡ false → exit_in turn ≡ None
    → env_in turn ≡ None → starts_child turn ≡ false → heard_by u.capture turn ≡ having_heard u.capture turn
    → IsMade u.terms (having_captured turn u) (cut (taken now turn None ∷ piece) [] ∷ earlier)
heard_running ph now turn u piece earlier into phase a (on, ss) unrefused due ends is quiet starts heard =
    made_more (having_captured turn u) ph (taken now turn None) piece earlier phase a
    (began u.terms u.timers.stopwatch.start false None false u.timers.slow_count c (taken now turn None ∷ piece) it)
    (into (
      going_more u.terms ph false None (having_captured turn u) (taken now turn None) piece it on.not_ended quiet refl
          (λ still. timed_still u.terms u.timers.stopwatch u.latest (taken now turn None) piece still
          refl on.watch) on.pauses
          (timer_still u.terms ph u.timers u.latest (taken now turn None) piece due ends starts refl
          (unheeded u.terms.slow (taken now turn None) piece refl) on.timer),
      ss,
    ))
  where
    c : Captured
    c = having_heard u.capture turn

    more_at : IsAt u.terms u.timers.stopwatch.start (ends_wait turn || false) (exit_in turn) false u.timers.slow_count
        (heard_by u.capture turn) (taken now turn None ∷ piece)
    more_at =
        at_more u.terms u.timers.stopwatch.start false None false u.timers.slow_count u.capture now
        turn None piece on.is_at
        unrefused due

    it : IsAt u.terms u.timers.stopwatch.start false None false u.timers.slow_count c (taken now turn None ∷ piece)
    it = rw (ends, is, heard) at more_at

-- its capture gets a turn after its child has ended
pub heard_made : (now : ℕ) (turn : UnitTurn) (u : UnitView) (piece : List OwnTurn) (earlier : List Attempt)
    → u.phase ≡ Leak → u.latest ≡ now → u.attempt ≡ length earlier + 1 → GoesOn u.terms Leak true u.exit u piece earlier
    → start_error_in turn ≡ None → is_due_turn turn ≡ false → ends_wait turn ≡ false → exit_in turn ≡ None
    → env_in turn ≡ None → starts_child turn ≡ false → heard_by u.capture turn ≡ having_heard u.capture turn
    → IsMade u.terms (heard_with now (having_heard u.capture turn) u) (cut (taken now turn None ∷ piece) [] ∷ earlier)
heard_made now turn u piece earlier ph latest a (on, ss) unrefused due ends is quiet starts heard =
    by_done (is_done c) refl
  where
    c : Captured
    c = having_heard u.capture turn

    more_at : IsAt u.terms u.timers.stopwatch.start (ends_wait turn || true) (option_or u.exit (exit_in turn)) false
        u.timers.slow_count (heard_by u.capture turn) (taken now turn None ∷ piece)
    more_at =
        at_more u.terms u.timers.stopwatch.start true u.exit false u.timers.slow_count u.capture now
        turn None piece on.is_at
        unrefused due

    it : IsAt u.terms u.timers.stopwatch.start true u.exit false u.timers.slow_count c (taken now turn None ∷ piece)
    it = rw (ends, is, heard, quiet_said u.exit) at more_at

    start : u.timers.stopwatch.start ≡ start_of (taken now turn None ∷ piece)
    start =
        began u.terms u.timers.stopwatch.start true u.exit false u.timers.slow_count c (taken now turn None ∷ piece) it

    by_done : (b : Bool) → is_done c ≡ b
        → IsMade u.terms (if b then exited now u.exit false c u else record u { capture = c })
        (cut (taken now turn None ∷ piece) [] ∷ earlier)
    by_done true e =
        exited_made now u.exit false c turn u piece earlier it on.not_ended quiet
        (ended_done u.terms.skips_leak_detection (is_done c) e) latest
        (subst (λ later. IsTimed u.terms u.timers.stopwatch later piece) latest on.watch) a ss
    by_done false e =
        made_more (record u { capture = c }) Leak (taken now turn None) piece earlier ph a start (
          going_more u.terms Leak true u.exit (record u { capture = c }) (taken now turn None)
              piece it on.not_ended quiet
              (waits_further u.exit c u piece on e)
              (λ still. timed_still u.terms u.timers.stopwatch u.latest (taken now turn None) piece still
              refl on.watch) on.pauses
              (timer_still u.terms Leak u.timers u.latest (taken now turn None) piece due ends starts refl
              (unheeded u.terms.slow (taken now turn None) piece refl) on.timer),
          ss,
        )

-- its child starts
pub started_made : (now pid : ℕ) (u : UnitView) (piece : List OwnTurn) (earlier : List Attempt)
    → now ≤ u.latest → u.attempt ≡ length earlier + 1 → GoesOn u.terms Starting false None u piece earlier
    → IsMade u.terms (started now pid u) (cut (taken now (Started pid) None ∷ piece) [] ∷ earlier)
started_made now pid u piece earlier le a (on, ss) =
    made_more (started now pid u) Running (taken now (Started pid) None) piece earlier refl a
    (began u.terms u.timers.stopwatch.start false None false u.timers.slow_count u.capture
    (taken now (Started pid) None ∷ piece) it) (
      going_more u.terms Running false None (started now pid u) (taken now (Started pid) None) piece
          it on.not_ended refl refl
          (λ still. timed_still u.terms u.timers.stopwatch u.latest (taken now (Started pid) None)
          piece still refl on.watch)
          on.pauses
          (timer_started u.terms (started now pid u).timers now u.latest pid piece le refl
          on.is_at.wait_over on.timer.stage.0
          on.timer.stage.1),
      ss,
    )
  where
    it : IsAt u.terms u.timers.stopwatch.start false None false u.timers.slow_count u.capture
        (taken now (Started pid) None ∷ piece)
    it =
        at_more u.terms u.timers.stopwatch.start false None false u.timers.slow_count u.capture now (Started pid) None
        piece on.is_at refl refl

-- it is let go, at first or for its next attempt
pub begun_made : (now : ℕ) (u : UnitView) (earlier : List Attempt) → u.latest ≡ now → u.attempt ≡ length earlier + 1
    → Follows u.terms u earlier
    → IsMade u.terms (begun_row now u).next (cut (taken now (Answered true) None ∷ []) [] ∷ earlier)
begun_made now u earlier latest a ss = record {
  attempt = a;
  start = refl;
  terms = refl;
  has = (
    record {
      is_at = record {
        let_go = refl;
        not_refused = refl;
        wait_over = refl;
        ended_so = refl;
        leaked_so = refl;
        counted = refl;
        captured = captured_first u.terms.streams now;
      };
      not_ended = (refl, refl);
      unsettled = refl;
      watch =
          subst (λ later. IsTimed u.terms (started_at now) later (taken now (Answered true) None ∷ [])) (sym latest)
          (timed_first u.terms now);
      pauses = refl;
      timer = timer_first u.terms (let_go now u).timers now u.latest;
    },
    ss,
  );
}
