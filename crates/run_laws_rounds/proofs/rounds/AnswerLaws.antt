-- What a unit answers as it takes a query is what its own turns say.
use Rattle.std.proofs.Common.{◌≡◌, ℕ, ◌-◌, nat_lt, List, [], ◌∷◌, Bool, true, false, if◌then◌else◌, Some, None}
use Rattle.std.proofs.Common.{unwrap_or, refl, ap, sym, subst, ◌∙◌, arith, option_map, ◌++◌, ◌≤◌, reverse}
use Rattle.std.proofs.lemmas.List.{reverse-append}
use Rattle.std.proofs.lemmas.Option.{same_Some}
use Rattle.run_clock.specs.Counted.{Timer, counted_time, IsInOrder}
use Rattle.run_clock.specs.Stopwatch.{active_by}
use Rattle.run_events.specs.declared.info.InfoResponse.{InfoResponse}
use Rattle.run_events.specs.declared.info.UnitState.{UnitState}
use Rattle.run_events.specs.declared.info.UnitState.TheVariants as states
use Rattle.run_events.specs.declared.info.Waiting.{Waiting}
use Rattle.run_events.specs.declared.request.Request.{Request}
use Rattle.run_events.specs.declared.request.Request.TheVariants.{GetInfo}
use Rattle.run_events.specs.declared.result.ChildExecutionOutput.{ChildExecutionOutput}
use Rattle.run_events.specs.declared.result.ChildExecutionOutput.TheVariants.{Output}
use Rattle.run_events.specs.declared.result.ExecuteStatus.{ExecuteStatus}
use Rattle.run_events.specs.declared.settings.Settings.{Settings}
use Rattle.run_model.specs.declared.phase.Phase.{Phase}
use Rattle.run_model.specs.declared.phase.Phase.TheVariants.{Running, Grace, Leak, Delay}
use Rattle.run_model.specs.declared.unit_turn.UnitTurn.TheVariants.{Take}
use Rattle.run_model.specs.declared.unit_view.UnitRole.{UnitRole}
use Rattle.run_model.specs.declared.unit_view.UnitRole.TheVariants as roles
use Rattle.run_model.specs.declared.unit_view.UnitView.{UnitView}
use Rattle.run_model.specs.Attempts.{attempt_pauses, delay_timer, start_in, start_of, ended_statuses, pieces_of}
use Rattle.run_model.specs.Ending.{last_status}
use Rattle.run_model.specs.Timing.{slow_count, leak_timer}
use Rattle.run_model.specs.Info.{answer_as, delay_state, exiting_state, running_state, slow_after, subject_of}
use Rattle.run_model.specs.Info.{terminating_state, time_at, waiting_at}
use Rattle.run_model.specs.Requests.{take_row}
use Rattle.run_model.specs.Story.{Attempt, OwnTurn, cut, line_of, pieces, story_of, oldest}
use Rattle.run_model.specs.Terminate.{terminate_method}
use Rattle.run_model.specs.Unit.{row_at, takes_at, at_moment, row, takes}
use Rattle.run_model.specs.declared.happening.UnitPart.TheVariants.{Acts}
use Rattle.run_model.specs.declared.happening.Happening.{Happening}
use Rattle.run_model.specs.Board.{Deed, board}
use Rattle.run_model.specs.declared.entry.Entry.{Entry}
use Rattle.run_model.specs.Journal.{IsLegalBackward, IsLegal, past_of}
use Rattle.run_model.specs.Words.{clock, sub_run, unit_of}
use Rattle.run_model.specs.Turns.{deed_on, happening}
use Rattle.run_model.specs.Admission.{unit_terms}
use Rattle.run_laws_rounds.specs.Answers.{answer_with, why_ended, grace_timer, pid_of, result_then, slow_so_far}
use Rattle.run_laws_rounds.specs.Answers.{state_then}
use Rattle.run_laws_rounds.specs.Answers.{state_in, time_so_far, waiting_for, AnswersAsItIs}
use Rattle.run_laws.proofs.units.AccountRows.{last-append}
use Rattle.run_laws.proofs.units.AttemptLemmas.{HasPieces, IsMade, IsMadeIf}
use Rattle.run_laws.proofs.units.GoingLemmas.{IsGoing, ended_statuses-past, next_status}
use Rattle.run_laws.proofs.units.MadeLemmas.{later_pieces}
use Rattle.run_laws.proofs.units.Lines.{own_request}
use Rattle.run_laws.proofs.units.Rows.{takes_moment}
use Rattle.run_laws_rounds.proofs.rounds.Shown.{IsShown, WaitsFor, pid_said}
use Rattle.run_laws_rounds.proofs.rounds.ShownRuns.{shown, IsShownIf, shown_later}
use Rattle.run_laws_rounds.proofs.rounds.DeedAnswers.{answers_as, info_by, part_fits}
use Rattle.run_laws_rounds.proofs.rounds.FinishAnswers.{subject_at}
use Rattle.run_laws.proofs.board.Holds.{HasLine, Holds}
use Rattle.run_laws.proofs.board.Kept.{HoldsAfter, holds}
use Rattle.run_laws.proofs.board.DeedFits.{PartFits}
use Rattle.run_laws.proofs.board.OnBoard.{Frame}
use Rattle.run_laws.proofs.board.OnBoard.{frame_of}

-- the line says nothing of which unit it is
subject_lined : (line : List Request) (u : UnitView)
    → subject_of u.role (record u { line = line }) ≡ subject_of u.role u
subject_lined line u = by_role u.role
  where
    by_role : (role : UnitRole) → subject_of role (record u { line = line }) ≡ subject_of role u
    by_role (roles.Test t) = refl
    by_role (roles.Script s) = refl

-- the process, the time, and whether it was slow
pid_is : (piece : List OwnTurn) (pid : ℕ) → pid_said piece ≡ Some pid → pid_of piece ≡ pid
pid_is piece pid said = ap (λ o. unwrap_or o 0) said

time_is : (ph : Phase) (u : UnitView) (waited : Bool) (piece : List OwnTurn) (now : ℕ) → u.latest ≡ now
    → u.timers.stopwatch.start ≡ start_of piece → IsGoing u.terms ph waited (if waited then u.exit else None) u piece
    → time_so_far u.terms piece now ≡ time_at now u
time_is ph u waited piece now latest start on =
    ap (λ start. counted_time start (attempt_pauses u.terms piece) now) (sym start)
    ∙ sym (on.watch.times.active_is now
    (subst (IsInOrder u.timers.stopwatch.start (attempt_pauses u.terms piece)) latest on.watch.order))

slow_is : (u : UnitView) (piece : List OwnTurn) → slow_count u.terms.slow piece ≡ u.timers.slow_count
    → slow_so_far u.terms piece ≡ slow_after u
slow_is u piece counted = ap (λ n. if nat_lt 0 n then Some u.terms.slow.period else None) counted

-- how long it waited
waiting_is : (timer : Timer) (u : UnitView) (period now : ℕ) → WaitsFor timer u.timers.waiting now
    → timer.duration ≡ period
    → waiting_for timer now ≡ waiting_at now period u.timers
waiting_is timer u period now waits same =
    ap (λ n. waited timer.duration n) (sym (waits.times.active_is now waits.order))
    ∙ ap (λ period. waited period (active_by u.timers.waiting now)) same
  where
    waited : ℕ → ℕ → Waiting
    waited period n = record { waiting = n; remaining = period - n }

-- the answer, by its state and output
abbrev Says : UnitView → ℕ → ℕ → List Attempt → List (ℕ × InfoResponse) → Type 0
Says u now round ps info = (said : UnitState × ChildExecutionOutput)
    × ((state_then u.terms now ps ≡ Some said) × (info ≡ (round, answer_with u said) ∷ []))

says : (u : UnitView) (now round : ℕ) (rest : List Request) (ps : List Attempt) (state other : UnitState)
    (output same : ChildExecutionOutput) → state_then u.terms now ps ≡ Some (state, output) → other
    ≡ state → same ≡ output
    → Says u now round ps ((round, answer_as other same (record u { line = rest })) ∷ [])
says u now round rest ps state other output same by_turns is out = (
  (state, output),
  (
    by_turns,
    ap (λ state. (round, answer_as state same (record u { line = rest })) ∷ []) is
        ∙ ap (λ output. (round, answer_as state output (record u { line = rest })) ∷ []) out
        ∙ ap (λ subject. (round, record { subject = subject; state = state; output = output }) ∷ [])
        (subject_lined rest u),
  ),
)

-- an attempt that runs, is given time to end, or whose streams are waited for
running_says : (now round : ℕ) (rest : List Request) (u : UnitView) (piece : List OwnTurn) (earlier : List Attempt)
    → u.latest ≡ now → u.timers.stopwatch.start ≡ start_of piece → IsGoing u.terms Running false None u piece
    → IsShown Running u (cut piece [] ∷ earlier)
    → Says u now round (cut piece [] ∷ earlier) (take_row now Running (GetInfo round ∷ rest) u).info
running_says now round rest u piece earlier latest start on pid =
    says u now round rest (cut piece [] ∷ earlier) (state_in u.terms now piece) (running_state now u) _ _ refl
    (sym state)
    (ap (λ c. Output c.output c.errors) on.is_at.captured)
  where
    state : state_in u.terms now piece ≡ running_state now u
    state = rw (on.is_at.wait_over, on.timer.stage.1) (
        ap (λ pid. states.Running pid (time_so_far u.terms piece now) (slow_so_far u.terms piece))
        (pid_is piece u.pid pid)
        ∙ ap (λ time. states.Running u.pid time (slow_so_far u.terms piece))
        (time_is Running u false piece now latest start on)
        ∙ ap (λ slow. states.Running u.pid (time_at now u) slow) (slow_is u piece on.is_at.counted))

grace_says : (now round : ℕ) (rest : List Request) (u : UnitView) (piece : List OwnTurn) (earlier : List Attempt)
    → u.latest ≡ now → u.timers.stopwatch.start ≡ start_of piece → IsGoing u.terms Grace false None u piece
    → IsShown Grace u (cut piece [] ∷ earlier)
    → Says u now round (cut piece [] ∷ earlier) (take_row now Grace (GetInfo round ∷ rest) u).info
grace_says now round rest u piece earlier latest start on (pid, ending, waits) =
    says u now round rest (cut piece [] ∷ earlier) (state_in u.terms now piece) (terminating_state now u) _ _ refl
    (sym state)
    (ap (λ c. Output c.output c.errors) on.is_at.captured)
  where
    grace : ℕ
    grace = u.terms.slow.grace

    by_now : WaitsFor (grace_timer u.terms.slow piece) u.timers.waiting now
    by_now = subst (WaitsFor (grace_timer u.terms.slow piece) u.timers.waiting) latest waits

    state : state_in u.terms now piece ≡ terminating_state now u
    state = rw (on.is_at.wait_over, on.timer.stage.1) (
        ap (λ pid. states.Terminating pid (time_so_far u.terms piece now) (why_ended u.terms.slow piece)
        (terminate_method (why_ended u.terms.slow piece) grace) (waiting_for (grace_timer u.terms.slow piece) now))
        (pid_is piece u.pid pid)
        ∙ ap (λ time. states.Terminating u.pid time (why_ended u.terms.slow piece)
        (terminate_method (why_ended u.terms.slow piece) grace) (waiting_for (grace_timer u.terms.slow piece) now))
        (time_is Grace u false piece now latest start on)
        ∙ ap (λ reason. states.Terminating u.pid (time_at now u) reason (terminate_method reason grace)
        (waiting_for (grace_timer u.terms.slow piece) now)) ending
        ∙ ap (λ waiting. states.Terminating u.pid (time_at now u) u.ending (terminate_method u.ending grace) waiting)
        (waiting_is (grace_timer u.terms.slow piece) u grace now by_now refl))

leak_says : (now round : ℕ) (rest : List Request) (u : UnitView) (piece : List OwnTurn) (earlier : List Attempt)
    → u.latest ≡ now → u.timers.stopwatch.start ≡ start_of piece → IsGoing u.terms Leak true u.exit u piece
    → IsShown Leak u (cut piece [] ∷ earlier)
    → Says u now round (cut piece [] ∷ earlier) (take_row now Leak (GetInfo round ∷ rest) u).info
leak_says now round rest u piece earlier latest start on (pid, result, waits) =
    says u now round rest (cut piece [] ∷ earlier) (state_in u.terms now piece) (exiting_state now u) _ _ refl
    (sym state)
    (ap (λ c. Output c.output c.errors) on.is_at.captured)
  where
    leak : Timer
    leak = leak_timer u.terms.leak.period piece

    by_now : WaitsFor leak u.timers.waiting now
    by_now = subst (WaitsFor leak u.timers.waiting) latest waits

    state : state_in u.terms now piece ≡ exiting_state now u
    state = rw on.is_at.wait_over (
        ap (λ pid. states.Exiting pid (time_so_far u.terms piece now) (slow_so_far u.terms piece)
        (result_then u.terms piece) (waiting_for leak now)) (pid_is piece u.pid pid)
        ∙ ap (λ time. states.Exiting u.pid time (slow_so_far u.terms piece) (result_then u.terms piece)
        (waiting_for leak now)) (time_is Leak u true piece now latest start on)
        ∙ ap (λ slow. states.Exiting u.pid (time_at now u) slow (result_then u.terms piece) (waiting_for leak now))
        (slow_is u piece on.is_at.counted)
        ∙ ap (λ result. states.Exiting u.pid (time_at now u) (slow_after u) result (waiting_for leak now)) result
        ∙ ap (λ waiting. states.Exiting u.pid (time_at now u) (slow_after u) u.exit_result waiting)
        (waiting_is leak u u.terms.leak.period now by_now refl))

-- one that failed, and before whose next a delay passes
delay_says : (now round : ℕ) (rest : List Request) (u : UnitView) (piece : List OwnTurn) (d : OwnTurn)
    (after : List OwnTurn) (earlier : List Attempt) → u.latest ≡ now
    → HasPieces u.terms Delay u (cut piece (d ∷ after) ∷ earlier) → IsShown Delay u (cut piece (d ∷ after) ∷ earlier)
    → Says u now round (cut piece (d ∷ after) ∷ earlier) (take_row now Delay (GetInfo round ∷ rest) u).info
delay_says now round rest u piece d after earlier latest ((past, again, delay), not_over, wait, set) waits =
    rw last (says u now round rest (cut piece (d ∷ after) ∷ earlier) _ (delay_state now u s) _ _ refl
    (ap (λ waiting. states.Delay s.result s.slow waiting)
    (sym (waiting_is timer u u.delay now by_now (sym delay)))) refl)
  where
    s : ExecuteStatus
    s = next_status u.terms piece earlier

    timer : Timer
    timer = delay_timer u.terms.retries (d ∷ after) (cut piece (d ∷ after) ∷ earlier)

    by_now : WaitsFor timer u.timers.waiting now
    by_now = subst (WaitsFor timer u.timers.waiting) latest waits

    last : last_status u.statuses ≡ Some s
    last = ap last_status (past.1 ∙ ended_statuses-past u.terms piece earlier past.0)
        ∙ last-append (ended_statuses u.terms earlier) s

-- so each row with which a query is taken
take_says : (now round : ℕ) (ph : Phase) (rest : List Request) (u : UnitView) (ps : List Attempt)
    → u.latest ≡ now → takes_at now ph u Take ≡ true → u.timers.stopwatch.start ≡ start_in ps
    → HasPieces u.terms ph u ps
    → IsShown ph u ps → u.line ≡ GetInfo round ∷ rest → Says u now round ps (row_at now ph Take u).info
take_says now round Running rest u (cut piece [] ∷ earlier) latest en start (on, ss) shown line =
    subst (λ line. Says u now round (cut piece [] ∷ earlier) (take_row now Running line u).info) (sym line)
    (running_says now round rest u piece earlier latest start on shown)
take_says now round Grace rest u (cut piece [] ∷ earlier) latest en start (on, ss) shown line =
    subst (λ line. Says u now round (cut piece [] ∷ earlier) (take_row now Grace line u).info) (sym line)
    (grace_says now round rest u piece earlier latest start on shown)
take_says now round Leak rest u (cut piece [] ∷ earlier) latest en start (on, ss) shown line =
    subst (λ line. Says u now round (cut piece [] ∷ earlier) (take_row now Leak line u).info) (sym line)
    (leak_says now round rest u piece earlier latest start on shown)
take_says now round Delay rest u (cut piece (d ∷ after) ∷ earlier) latest en start h shown line =
    subst (λ line. Says u now round (cut piece (d ∷ after) ∷ earlier) (take_row now Delay line u).info) (sym line)
    (delay_says now round rest u piece d after earlier latest h shown)
take_says now round ph rest u ps latest en start h shown line = first_of (cc, grind arith)

-- a query that is the oldest of a line
oldest_is : (line : List Request) (request : Request) → oldest line ≡ Some request
    → (rest : List Request) × (line ≡ request ∷ rest)
oldest_is [] request is = cc
oldest_is (first ∷ rest) request is = (rest, ap (λ first. first ∷ rest) (same_Some _ _ is))

-- so a unit's own turn with which it takes a query
turn_says : (p : Settings) (f : Frame) (now : ℕ) (run : List Happening) (k round : ℕ) (u : UnitView)
    → Holds p now run
    → IsShownIf (unit_of k run) (story_of k run) → unit_of k run ≡ Some u → takes now u Take ≡ true
    → oldest (line_of k run) ≡ Some (GetInfo round)
    → (said : UnitState × ChildExecutionOutput)
    × ((state_then (unit_terms p k) now (pieces_of k run) ≡ Some said)
    × ((row now Take u).info ≡ (round, answer_with u said) ∷ []))
turn_says p f now run k round u h shows is en first =
    let old = oldest_is u.line (GetInfo round) (sym asked ∙ first) in
    let it : Says (at_moment now u) now round ps (row now Take u).info =
    take_says now round u.phase old.0 (at_moment now u) ps refl (takes_moment now u.phase u Take en) made.start
    (later_pieces u.terms now u.phase u ps le (subst (λ terms. HasPieces terms u.phase u ps) (sym made.terms) made.has))
    (shown_later now u.phase u ps le (subst (λ v. IsShownIf v (story_of k run)) is shows)) old.1 in (
      it.0,
      (
        sym (ap (λ terms. state_then terms now ps) made.terms) ∙ it.1.0,
        it.1.1 ∙ ap (λ subject. (round, record { subject = subject; state = it.0.0; output = it.0.1 }) ∷ [])
            (subject_at now u),
      ),
    )
  where
    ps : List Attempt
    ps = pieces (story_of k run)

    made : IsMade (unit_terms p k) u ps
    made = subst (λ v. IsMadeIf (unit_terms p k) v (story_of k run)) is (h.made k)

    le : u.latest ≤ now
    le = (h.named k u is).2

    asked : oldest (line_of k run) ≡ oldest u.line
    asked = own_request now Take u (line_of k run) en (subst (λ v. HasLine v (line_of k run)) is (h.lines k))

part_says : (p : Settings) (f : Frame) (now : ℕ) (run : List Happening) (k round : ℕ) (u : UnitView)
    (info : List (ℕ × InfoResponse)) → Holds p now run → IsShownIf (unit_of k run) (story_of k run)
    → PartFits p now run (Some (Acts k Take)) → info ≡ info_by now run (Some (Acts k Take)) → unit_of k run ≡ Some u
    → oldest (line_of k run) ≡ Some (GetInfo round)
    → (said : UnitState × ChildExecutionOutput)
    × ((state_then (unit_terms p k) now (pieces_of k run) ≡ Some said) × (info ≡ (round, answer_with u said) ∷ []))
part_says p f now run k round u info h shows fits given is first =
    let same : fits.unit ≡ u = same_Some _ _ (sym fits.is ∙ is) in
    let it = turn_says p f now run k round u h shows is (ap (λ u. takes now u Take) (sym same) ∙ fits.takes) first in
    (it.0, (it.1.0, given ∙ ap (λ v. unwrap_or (option_map (λ v. (row now Take v).info) v) []) is ∙ it.1.1))

pub answers_so : (p : Settings) (journal : List Entry) (e : Entry) → IsLegal p (journal ++ e ∷ [])
    → AnswersAsItIs p (sub_run (past_of p journal)) (happening p (past_of p journal) e)
answers_so p journal e legal k round u part is first =
    part_says p (frame_of p past) (clock past) (sub_run past) k round u d.info h
    (shown p (reverse journal) backward.2 k)
    (subst (PartFits p (clock past) (sub_run past)) part (part_fits p past e h backward.0))
    (answers_as p past e.turn h ∙ ap (info_by (clock past) (sub_run past)) part) is first
  where
    past : List Happening
    past = past_of p journal

    d : Deed
    d = deed_on p (board p past) e.turn

    backward : IsLegalBackward p (e ∷ reverse journal)
    backward = subst (IsLegalBackward p) (reverse-append journal (e ∷ [])) legal

    h : HoldsAfter p past
    h = holds p (reverse journal) backward.2
