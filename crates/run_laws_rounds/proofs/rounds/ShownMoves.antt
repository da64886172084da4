-- Each row keeps what a unit keeps for its answers what its pieces say.
use Rattle.std.proofs.Common.{◌≡◌, ℕ, ◌==◌, ◌||◌, List, [], ◌∷◌, Bool, true, false, if◌then◌else◌, Option, Some, None}
use Rattle.std.proofs.Common.{refl, ap, sym, subst, ◌∙◌, arith}
use Rattle.run_capture.specs.Captured.{Captured, is_done, with_wait_error}
use Rattle.run_events.specs.declared.request.Request.{Request}
use Rattle.run_events.specs.declared.result.ChildExit.{ChildExit}
use Rattle.run_model.specs.declared.phase.Phase.{Phase}
use Rattle.run_model.specs.declared.phase.Phase.TheVariants.{StartSent, Starting, Running, Grace, KillWait, Leak}
use Rattle.run_model.specs.declared.phase.Phase.TheVariants.{EnvWait, Deciding, Delay, RetrySent}
use Rattle.run_model.specs.declared.unit_turn.UnitTurn.{UnitTurn}
use Rattle.run_model.specs.declared.unit_turn.UnitTurn.TheVariants.{Answered, Started, StartFailed, Exit, WaitFailed}
use Rattle.run_model.specs.declared.unit_turn.UnitTurn.TheVariants.{Piece, StreamEnd, ReadError, Env, Due, Take, Decide}
use Rattle.run_model.specs.declared.unit_view.UnitView.{UnitView}
use Rattle.run_model.specs.Attempts.{exit_in, start_error_in}
use Rattle.run_model.specs.Ending.{exited, settled}
use Rattle.run_model.specs.Requests.{take_row, has_request}
use Rattle.run_model.specs.Slow.{is_out_of_time, one_more}
use Rattle.run_model.specs.Story.{Attempt, OwnTurn, any_is, cut, oldest, request_of}
use Rattle.run_model.specs.Timing.{begins_grace, ends_wait, has_timed_out, is_due_turn, slow_count}
use Rattle.run_model.specs.Unit.{having_heard, heard_with, in_grace, out_of_time, row_at, slow_again, slow_row}
use Rattle.run_model.specs.Unit.{takes_at}
use Rattle.run_laws_rounds.specs.Answers.{pid_in}
use Rattle.run_laws.proofs.units.AttemptLemmas.{HasPieces, more}
use Rattle.run_laws.proofs.units.CaptureLemmas.{heard_by, taken}
use Rattle.run_laws.proofs.units.PieceLemmas.{IsAt, at_more}
use Rattle.run_laws.proofs.units.Rows.{decide_cases}
use Rattle.run_laws.proofs.units.SlowLemmas.{in_time}
use Rattle.run_laws.proofs.units.StandingLemmas.{is_in_grace, count_kept, count_still}
use Rattle.run_laws.proofs.units.WatchLemmas.{timed_open}
use Rattle.run_laws_rounds.proofs.rounds.Shown.{IsShown, WaitsFor, ending_kept, gives_none, grace_kept, leak_kept}
use Rattle.run_laws_rounds.proofs.rounds.Shown.{pid_more}
use Rattle.run_laws_rounds.proofs.rounds.Shown.{pid_said, result_kept, waits_set}
use Rattle.run_clock.specs.Stopwatch.{started_at}
use Rattle.run_model.specs.Retries.{decide_row}
use Rattle.run_laws.proofs.units.GoingLemmas.{IsGoing}
use Rattle.run_laws_rounds.proofs.rounds.ShownRows.{Shows, exited_shown, in_phase, settled_shown}
use Rattle.run_laws_rounds.proofs.rounds.ShownTakes.{delay_take_shown, grace_take_shown}
use Rattle.run_laws_rounds.proofs.rounds.ShownTakes.{leak_take_shown, run_take_shown}

-- it is slow
slow_shown : (now : ℕ) (u : UnitView) (piece : List OwnTurn) (earlier : List Attempt) → u.phase ≡ Running
    → u.latest ≡ now → pid_said piece ≡ Some u.pid → any_is ends_wait piece ≡ false
    → is_in_grace u.terms.slow piece ≡ false → has_timed_out u.terms.slow piece ≡ false
    → slow_count u.terms.slow piece ≡ u.timers.slow_count
    → Shows (slow_row now (one_more u.timers.slow_count) u).next (cut (taken now Due None ∷ piece) [] ∷ earlier)
slow_shown now u piece earlier is latest pid waited grace out counted =
    by_out (is_out_of_time u.terms.slow n) (u.terms.slow.grace == 0) refl refl
  where
    n : ℕ
    n = one_more u.timers.slow_count

    t : OwnTurn
    t = taken now Due None

    said : pid_said (t ∷ piece) ≡ Some u.pid
    said = pid_more t piece (Some u.pid) pid refl

    by_out : (o g : Bool) → is_out_of_time u.terms.slow n ≡ o → (u.terms.slow.grace == 0) ≡ g
        → Shows (if o then (if g then out_of_time n u else in_grace now n u) else slow_again now n u).next
        (cut (t ∷ piece) [] ∷ earlier)
    by_out true true e g = said
    by_out true false e g =
        let begins : begins_grace u.terms.slow t piece ≡ true = rw (waited, grace, out, counted, e, g) refl in (
          said,
          rw begins refl,
          subst (WaitsFor _ (started_at now)) (sym latest) (rw begins (waits_set now u.terms.slow.grace)),
        )
    by_out false g e eg = in_phase (slow_again now n u).next Running (cut (t ∷ piece) [] ∷ earlier) is said

-- its child ends
exit_shown : (ph : Phase) (now : ℕ) (exit : Option ChildExit) (c : Captured) (turn : UnitTurn) (u : UnitView)
    (piece : List OwnTurn) (earlier : List Attempt) → u.latest ≡ now
    → pid_said piece ≡ Some u.pid → IsGoing u.terms ph false None u piece
    → start_error_in turn ≡ None → is_due_turn turn ≡ false → ends_wait turn ≡ true → pid_in turn ≡ None
    → exit_in turn ≡ exit → heard_by u.capture turn ≡ c
    → Shows (settled now exit c u) (cut (taken now turn None ∷ piece) [] ∷ earlier)
exit_shown ph now exit c turn u piece earlier latest pid on unrefused due ends quiet is heard =
    let it : IsAt u.terms u.timers.stopwatch.start (ends_wait turn || false) (exit_in turn) false u.timers.slow_count
    (heard_by u.capture turn) (taken now turn None ∷ piece) =
    at_more u.terms u.timers.stopwatch.start false None false u.timers.slow_count u.capture now turn None piece on.is_at
    unrefused due in
    settled_shown now exit c turn u piece earlier latest pid quiet ends (rw (ends, is, heard) at it)
    (timed_open u.terms u.timers.stopwatch u.latest piece on.watch on.pauses)

-- its capture gets a turn
run_heard_shown : (now : ℕ) (turn : UnitTurn) (u : UnitView) (piece : List OwnTurn) (earlier : List Attempt)
    → u.phase ≡ Running → pid_said piece ≡ Some u.pid → pid_in turn ≡ None
    → Shows (record u { capture = having_heard u.capture turn }) (cut (taken now turn None ∷ piece) [] ∷ earlier)
run_heard_shown now turn u piece earlier is pid quiet =
    in_phase (record u { capture = having_heard u.capture turn }) Running
    (cut (taken now turn None ∷ piece) [] ∷ earlier) is
    (pid_more (taken now turn None) piece (Some u.pid) pid quiet)

grace_heard_shown : (now : ℕ) (turn : UnitTurn) (u : UnitView) (piece : List OwnTurn) (earlier : List Attempt)
    → u.phase ≡ Grace → IsShown Grace u (cut piece [] ∷ earlier) → any_is ends_wait piece ≡ false
    → is_in_grace u.terms.slow piece ≡ true → pid_in turn ≡ None
    → Shows (record u { capture = having_heard u.capture turn }) (cut (taken now turn None ∷ piece) [] ∷ earlier)
grace_heard_shown now turn u piece earlier is (pid, ending, waits) waited grace quiet =
    in_phase (record u { capture = having_heard u.capture turn }) Grace (cut (t ∷ piece) [] ∷ earlier) is (
      pid_more t piece (Some u.pid) pid quiet,
      ending_kept u.terms.slow t piece none ∙ ending,
      subst (λ timer. WaitsFor timer u.timers.waiting u.latest)
          (sym (grace_kept u.terms.slow t piece [] none refl)) waits,
    )
  where
    t : OwnTurn
    t = taken now turn None

    none : begins_grace u.terms.slow t piece ≡ false
    none = gives_none u.terms.slow t piece waited grace

leak_heard_shown : (now : ℕ) (turn : UnitTurn) (u : UnitView) (piece : List OwnTurn) (earlier : List Attempt)
    → u.phase ≡ Leak → IsShown Leak u (cut piece [] ∷ earlier) → ends_wait turn ≡ false → pid_in turn ≡ None
    → is_due_turn turn ≡ false → slow_count u.terms.slow piece ≡ u.timers.slow_count
    → Shows (heard_with now (having_heard u.capture turn) u) (cut (taken now turn None ∷ piece) [] ∷ earlier)
leak_heard_shown now turn u piece earlier is (pid, result, waits) goes quiet due counted = by_done (is_done c)
  where
    c : Captured
    c = having_heard u.capture turn

    t : OwnTurn
    t = taken now turn None

    by_done : (b : Bool) → Shows (if b then exited now u.exit false c u else record u { capture = c })
        (cut (t ∷ piece) [] ∷ earlier)
    by_done true =
        exited_shown now u.exit false c u (t ∷ piece) earlier (count_still u.terms.slow t piece due ∙ counted)
    by_done false =
        in_phase (record u { capture = c }) Leak (cut (t ∷ piece) [] ∷ earlier) is (
          pid_more t piece (Some u.pid) pid quiet,
          result_kept u.terms t piece goes ∙ result,
          subst (λ timer. WaitsFor timer u.timers.waiting u.latest)
              (sym (leak_kept u.terms.leak.period t piece [] goes refl)) waits,
        )

-- it decides
decide_shown : (now word : ℕ) (u : UnitView) (piece : List OwnTurn) (earlier : List Attempt) → u.latest ≡ now
    → Shows (decide_row now word u).next (cut piece (taken now (Decide word) None ∷ []) ∷ earlier)
decide_shown now word u piece earlier latest =
    decide_cases (λ r. Shows r.next (cut piece (taken now (Decide word) None ∷ []) ∷ earlier)) now word u
    (λ more. subst (WaitsFor _ (started_at now)) (sym latest) (waits_set now _)) (λ done. tt)

-- each row of a unit that takes its turn
pub row_shown : (now : ℕ) (ph : Phase) (turn : UnitTurn) (u : UnitView) (ps : List Attempt)
    → takes_at now ph u turn ≡ true → u.phase ≡ ph → u.latest ≡ now → HasPieces u.terms ph u ps → IsShown ph u ps
    → Shows (row_at now ph turn u).next (more (taken now turn (request_of turn u.line)) ps)
row_shown now StartSent (Answered true) u [] en is latest h shown = refl
row_shown now StartSent (Answered false) u [] en is latest h shown = tt
row_shown now Starting (Started pid) u (cut piece [] ∷ earlier) en is latest h shown = rw shown refl
row_shown now Starting (StartFailed error) u (cut piece [] ∷ earlier) en is latest (on, ss) shown =
    count_still u.terms.slow (taken now (StartFailed error) None) piece refl ∙ on.is_at.counted
row_shown now Running Due u (cut piece [] ∷ earlier) en is latest (on, ss) shown =
    slow_shown now u piece earlier is latest shown on.is_at.wait_over on.timer.stage.1
    (in_time u.terms u.timers now u.latest piece on.is_at.wait_over on.timer en) on.is_at.counted
row_shown now Running Take u (cut piece [] ∷ earlier) en is latest (on, ss) shown = by_line u.line refl
  where
    by_line : (line : List Request) → u.line ≡ line
        → Shows (take_row now Running line u).next (cut (taken now Take (oldest line) ∷ piece) [] ∷ earlier)
    by_line [] e = in_phase u Running (cut (taken now Take None ∷ piece) [] ∷ earlier) is
        (pid_more (taken now Take None) piece (Some u.pid) shown refl)
    by_line (request ∷ line) e =
        run_take_shown now request (record u { line = line }) piece earlier is latest shown on.is_at.wait_over
        on.timer.stage.1
row_shown now Running (Exit exit) u (cut piece [] ∷ earlier) en is latest (on, ss) shown =
    exit_shown Running now (Some exit) u.capture (Exit exit) u piece earlier latest shown on refl refl refl
    refl refl refl
row_shown now Running (WaitFailed error) u (cut piece [] ∷ earlier) en is latest (on, ss) shown =
    exit_shown Running now None (with_wait_error u.capture error) (WaitFailed error) u piece earlier latest shown
    on refl refl
    refl refl refl refl
row_shown now Running (Piece stream bytes) u (cut piece [] ∷ earlier) en is latest h shown =
    run_heard_shown now (Piece stream bytes) u piece earlier is shown refl
row_shown now Running (StreamEnd stream) u (cut piece [] ∷ earlier) en is latest h shown =
    run_heard_shown now (StreamEnd stream) u piece earlier is shown refl
row_shown now Running (ReadError stream error) u (cut piece [] ∷ earlier) en is latest h shown =
    run_heard_shown now (ReadError stream error) u piece earlier is shown refl
row_shown now Grace Due u (cut piece [] ∷ earlier) en is latest h shown =
    pid_more (taken now Due None) piece (Some u.pid) shown.0 refl
row_shown now Grace Take u (cut piece [] ∷ earlier) en is latest (on, ss) shown = by_line u.line refl
  where
    by_line : (line : List Request) → u.line ≡ line
        → Shows (take_row now Grace line u).next (cut (taken now Take (oldest line) ∷ piece) [] ∷ earlier)
    by_line [] e = let never : false ≡ true = sym (ap has_request e) ∙ en in cc
    by_line (request ∷ line) e =
        grace_take_shown now request (record u { line = line }) piece earlier is latest shown on.is_at.wait_over
        on.timer.stage.1
row_shown now Grace (Exit exit) u (cut piece [] ∷ earlier) en is latest (on, ss) shown =
    exit_shown Grace now (Some exit) u.capture (Exit exit) u piece earlier latest shown.0 on refl refl refl
    refl refl refl
row_shown now Grace (WaitFailed error) u (cut piece [] ∷ earlier) en is latest (on, ss) shown =
    exit_shown Grace now None (with_wait_error u.capture error) (WaitFailed error) u piece earlier latest shown.0
    on refl refl
    refl refl refl refl
row_shown now Grace (Piece stream bytes) u (cut piece [] ∷ earlier) en is latest (on, ss) shown =
    grace_heard_shown now (Piece stream bytes) u piece earlier is shown on.is_at.wait_over on.timer.stage.1 refl
row_shown now Grace (StreamEnd stream) u (cut piece [] ∷ earlier) en is latest (on, ss) shown =
    grace_heard_shown now (StreamEnd stream) u piece earlier is shown on.is_at.wait_over on.timer.stage.1 refl
row_shown now Grace (ReadError stream error) u (cut piece [] ∷ earlier) en is latest (on, ss) shown =
    grace_heard_shown now (ReadError stream error) u piece earlier is shown on.is_at.wait_over on.timer.stage.1 refl
row_shown now KillWait (Exit exit) u (cut piece [] ∷ earlier) en is latest (on, ss) shown =
    exit_shown KillWait now (Some exit) u.capture (Exit exit) u piece earlier latest shown on refl refl refl
    refl refl refl
row_shown now KillWait (WaitFailed error) u (cut piece [] ∷ earlier) en is latest (on, ss) shown =
    exit_shown KillWait now None (with_wait_error u.capture error) (WaitFailed error) u piece earlier latest shown
    on refl refl
    refl refl refl refl
row_shown now Leak Due u (cut piece [] ∷ earlier) en is latest (on, ss) shown =
    exited_shown now u.exit true u.capture u (taken now Due None ∷ piece) earlier
    (count_kept u.terms.slow (taken now Due None) piece on.is_at.wait_over ∙ on.is_at.counted)
row_shown now Leak Take u (cut piece [] ∷ earlier) en is latest h shown = by_line u.line refl
  where
    by_line : (line : List Request) → u.line ≡ line
        → Shows (take_row now Leak line u).next (cut (taken now Take (oldest line) ∷ piece) [] ∷ earlier)
    by_line [] e = let never : false ≡ true = sym (ap has_request e) ∙ en in cc
    by_line (request ∷ line) e =
        leak_take_shown now request (record u { line = line }) piece earlier is latest shown
row_shown now Leak (Piece stream bytes) u (cut piece [] ∷ earlier) en is latest (on, ss) shown =
    leak_heard_shown now (Piece stream bytes) u piece earlier is shown refl refl refl on.is_at.counted
row_shown now Leak (StreamEnd stream) u (cut piece [] ∷ earlier) en is latest (on, ss) shown =
    leak_heard_shown now (StreamEnd stream) u piece earlier is shown refl refl refl on.is_at.counted
row_shown now Leak (ReadError stream error) u (cut piece [] ∷ earlier) en is latest (on, ss) shown =
    leak_heard_shown now (ReadError stream error) u piece earlier is shown refl refl refl on.is_at.counted
row_shown now EnvWait (Env input) u (cut piece [] ∷ earlier) en is latest (on, ss) shown =
    count_still u.terms.slow (taken now (Env input) None) piece refl ∙ on.is_at.counted
row_shown now Deciding (Decide word) u (cut piece [] ∷ earlier) en is latest h shown =
    decide_shown now word u piece earlier latest
row_shown now Delay Due u (cut piece (d ∷ after) ∷ earlier) en is latest h shown = tt
row_shown now Delay Take u (cut piece (d ∷ after) ∷ earlier) en is latest h shown = by_line u.line refl
  where
    by_line : (line : List Request) → u.line ≡ line
        → Shows (take_row now Delay line u).next (cut piece (taken now Take (oldest line) ∷ d ∷ after) ∷ earlier)
    by_line [] e = let never : false ≡ true = sym (ap has_request e) ∙ en in cc
    by_line (request ∷ line) e =
        delay_take_shown now request (record u { line = line }) piece d after earlier is latest shown
row_shown now RetrySent (Answered true) u (cut piece (d ∷ after) ∷ earlier) en is latest h shown = refl
row_shown now RetrySent (Answered false) u (cut piece (d ∷ after) ∷ earlier) en is latest h shown = tt
row_shown now ph turn u ps en is latest h shown = first_of (cc, grind arith)
