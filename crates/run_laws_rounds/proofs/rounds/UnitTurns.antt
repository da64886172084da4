-- Each turn of a unit is enabled as its own turns say, after every legal journal.
use Rattle.std.proofs.Common.{◌≡◌, ℕ, ◌==◌, ◌&&◌, ◌||◌, not, List, [], ◌∷◌, length, Bool, true, false, Option}
use Rattle.std.proofs.Common.{Some, None}
use Rattle.std.proofs.Common.{if◌then◌else◌, is_some, refl, ap, sym, subst, ◌∙◌}
use Rattle.run_laws_rounds.specs.UnitTurns.{TakesByItsTurns, awaits_child, awaits_file, awaits_start, awaits_stream}
use Rattle.run_laws_rounds.specs.UnitTurns.{captures}
use Rattle.run_laws_rounds.specs.UnitTurns.{hears_requests, hears_streams, of_undecided, waits_in}
use Rattle.run_laws_rounds.proofs.rounds.KilledRows.{KillsIf, kills}
use Rattle.run_laws_rounds.proofs.rounds.PhaseTurns.{TakesIn, is_delaying, is_hearing, takes_in}
use Rattle.run_laws_rounds.proofs.rounds.SaidTurns.{SaysIn, says_in}
use Rattle.run_capture.specs.Captured.{has_ended as has_stream_ended, takes as takes_stream}
use Rattle.run_laws_rounds.proofs.rounds.ShownRuns.{IsShownIf, shown}
use Rattle.run_capture.specs.declared.test_output.Stream.{Stream}
use Rattle.run_capture.specs.declared.test_output.Stream.TheVariants.{Stdout, Stderr, Combined}
use Rattle.run_commands.specs.declared.script_helpers.EnvInput.{EnvInput}
use Rattle.run_events.specs.declared.result.ChildExit.{ChildExit}
use Rattle.run_events.specs.declared.request.Request.{Request}
use Rattle.run_events.specs.declared.settings.Settings.{Settings}
use Rattle.run_model.specs.declared.entry.Entry.{Entry}
use Rattle.run_model.specs.declared.happening.Happening.{Happening}
use Rattle.run_model.specs.declared.unit_view.AttemptTerms.{AttemptTerms}
use Rattle.run_model.specs.declared.unit_view.CapturedStreams.{CapturedStreams}
use Rattle.run_model.specs.Admission.{unit_terms}
use Rattle.run_model.specs.Attempts.{has_ended, is_stream_done, pieces_of, output_of, bytes_heard}
use Rattle.run_model.specs.Story.{Attempt, cut, OwnTurn, line_of, pieces, story_of}
use Rattle.run_model.specs.Words.{is_over, sub_run, clock, unit_of}
use Rattle.run_model.specs.declared.unit_view.CapturedStreams.TheVariants as captured
use Rattle.run_model.specs.declared.phase.Phase.{Phase}
use Rattle.run_model.specs.declared.phase.Phase.TheVariants.{StartSent, Starting, Running, Grace, KillWait, Leak}
use Rattle.run_model.specs.declared.phase.Phase.TheVariants.{EnvWait, Deciding, Delay, RetrySent, Over}
use Rattle.run_model.specs.declared.unit_turn.UnitTurn.{UnitTurn}
use Rattle.run_model.specs.declared.unit_turn.UnitTurn.TheVariants.{Started, StartFailed, Exit, WaitFailed, Piece}
use Rattle.run_model.specs.declared.unit_turn.UnitTurn.TheVariants.{StreamEnd, ReadError, Env, Take, Decide}
use Rattle.run_model.specs.declared.unit_view.UnitView.{UnitView}
use Rattle.run_model.specs.Unit.{hears, is_live}
use Rattle.run_laws.proofs.units.MadeLemmas.{HasPieces}
use Rattle.run_model.specs.Requests.{has_request, killed}
use Rattle.run_laws.proofs.units.CaptureLemmas.{captured_by}
use Rattle.run_model.specs.Board.{board, unit_in}
use Rattle.run_model.specs.Journal.{IsLegalBackward, history}
use Rattle.run_laws.proofs.units.AttemptLemmas.{IsMadeIf}
use Rattle.run_laws.proofs.board.Kept.{HoldsAfter, holds, made, lined}
use Rattle.run_model.specs.Turns.{unit_takes}
use Rattle.run_laws.proofs.board.OnBoard.{unit_in-is}
use Rattle.run_capture.specs.Output.{is_captured}

-- a stream that a unit takes is captured and not done
takes_as : (s : CapturedStreams) (stream : Stream) (piece : List OwnTurn)
    → takes_stream (captured_by s piece) stream ≡ (captures s stream && not (is_stream_done stream piece))
takes_as s stream piece =
    ap (λ b. b && not (has_stream_ended (captured_by s piece).ended stream)) (by_streams s stream)
    ∙ ap (λ b. captures s stream && not b) (by_stream stream)
  where
    said : (b : Bool) (bytes : List ℕ) → is_some (if b then Some bytes else None) ≡ b
    said true bytes = refl
    said false bytes = refl

    by_streams : (s : CapturedStreams) (stream : Stream)
        → is_captured (output_of s piece) stream ≡ captures s stream
    by_streams (captured.Apart stdout stderr) Stdout = said stdout (bytes_heard Stdout piece)
    by_streams (captured.Apart stdout stderr) Stderr = said stderr (bytes_heard Stderr piece)
    by_streams (captured.Apart stdout stderr) Combined = refl
    by_streams captured.Combined Stdout = refl
    by_streams captured.Combined Stderr = refl
    by_streams captured.Combined Combined = refl

    by_stream : (stream : Stream) → has_stream_ended (captured_by s piece).ended stream ≡ is_stream_done stream piece
    by_stream Stdout = refl
    by_stream Stderr = refl
    by_stream Combined = refl

-- what a unit that is heard has captured
heard_capture : (terms : AttemptTerms) (ph : Phase) (u : UnitView) (piece : List OwnTurn) (earlier : List Attempt)
    → HasPieces terms ph u (cut piece [] ∷ earlier) → is_hearing ph ≡ true
    → u.capture ≡ captured_by terms.streams piece
heard_capture terms Running u piece earlier (it, ss) hears = it.is_at.captured
heard_capture terms Grace u piece earlier (it, ss) hears = it.is_at.captured
heard_capture terms Leak u piece earlier (it, ss) hears = it.is_at.captured
heard_capture terms StartSent u piece earlier it hears = cc
heard_capture terms Starting u piece earlier it hears = cc
heard_capture terms KillWait u piece earlier it hears = cc
heard_capture terms EnvWait u piece earlier it hears = cc
heard_capture terms Deciding u piece earlier it hears = cc
heard_capture terms Delay u piece earlier it hears = cc
heard_capture terms RetrySent u piece earlier it hears = cc
heard_capture terms Over u piece earlier it hears = cc

streams_as : (terms : AttemptTerms) (ph : Phase) (u : UnitView) (ps : List Attempt) (stream : Stream)
    → HasPieces terms ph u ps → is_hearing ph ≡ of_undecided (hears_streams terms) ps
    → (is_hearing ph && takes_stream u.capture stream) ≡ of_undecided (awaits_stream terms stream) ps
streams_as terms ph u [] stream has is = rw is refl
streams_as terms ph u (cut piece (d ∷ after) ∷ earlier) stream has is = rw is refl
streams_as terms ph u (cut piece [] ∷ earlier) stream has is = by_hears (is_hearing ph) refl
  where
    by_hears : (b : Bool) → is_hearing ph ≡ b
        → (is_hearing ph && takes_stream u.capture stream) ≡ of_undecided (awaits_stream terms stream)
        (cut piece [] ∷ earlier)
    by_hears true on =
        rw (sym is, on) (ap (λ c. takes_stream c stream) (heard_capture terms ph u piece earlier has on)
        ∙ takes_as terms.streams stream piece)
    by_hears false off = rw (sym is, off) refl

-- a unit, or none, takes its turns so
record TakesSo (now : ℕ) (v : Option UnitView) (terms : AttemptTerms) (ps : List Attempt) (line : List Request)
    : Type 0 where
  started : (pid : ℕ) → unit_takes now v (Started pid) ≡ of_undecided awaits_start ps
  failed : (error : List ℕ) → unit_takes now v (StartFailed error) ≡ of_undecided awaits_start ps
  exit : (exit : ChildExit) → unit_takes now v (Exit exit) ≡ of_undecided awaits_child ps
  wait : (error : List ℕ) → unit_takes now v (WaitFailed error) ≡ of_undecided awaits_child ps
  piece : (stream : Stream) (bytes : List ℕ) → unit_takes now v (Piece stream bytes)
      ≡ (of_undecided (awaits_stream terms stream) ps && not (length bytes == 0))
  end : (stream : Stream) → unit_takes now v (StreamEnd stream) ≡ of_undecided (awaits_stream terms stream) ps
  error : (stream : Stream) (error : List ℕ)
      → unit_takes now v (ReadError stream error) ≡ of_undecided (awaits_stream terms stream) ps
  env : (input : EnvInput) → unit_takes now v (Env input) ≡ of_undecided (awaits_file terms) ps
  decide : (word : ℕ) → unit_takes now v (Decide word) ≡ of_undecided (has_ended terms) ps
  take : unit_takes now v Take ≡ (hears_requests terms ps && waits_in line)

none_so : (now : ℕ) (terms : AttemptTerms) (line : List Request) → TakesSo now None terms [] line
none_so now terms line = record {
  started = λ pid. refl;
  failed = λ error. refl;
  exit = λ exit. refl;
  wait = λ error. refl;
  piece = λ stream bytes. refl;
  end = λ stream. refl;
  error = λ stream error. refl;
  env = λ input. refl;
  decide = λ word. refl;
  take = refl;
}

-- whether a request waits
waits_as : (line : List Request) → has_request line ≡ waits_in line
waits_as [] = refl
waits_as (request ∷ line) = refl

some_so : (now : ℕ) (u : UnitView) (terms : AttemptTerms) (ps : List Attempt) (line : List Request)
    → HasPieces terms u.phase u ps → SaysIn terms u.phase ps → (is_live u.phase ≡ true → u.line ≡ line)
    → TakesSo now (Some u) terms ps line
some_so now u terms ps line has says lined = record {
  started = λ pid. t.started pid ∙ says.start;
  failed = λ error. t.failed error ∙ says.start;
  exit = λ exit. t.exit exit ∙ says.child;
  wait = λ error. t.wait error ∙ says.child;
  piece = λ stream bytes. t.piece stream bytes
      ∙ group (is_hearing u.phase) (takes_stream u.capture stream) (not (length bytes == 0))
      ∙ ap (λ b. b && not (length bytes == 0)) (streams_as terms u.phase u ps stream has says.hears_is);
  end = λ stream. t.end stream ∙ streams_as terms u.phase u ps stream has says.hears_is;
  error = λ stream error. t.error stream error ∙ streams_as terms u.phase u ps stream has says.hears_is;
  env = λ input. t.env input ∙ says.reads;
  decide = λ word. t.decide word ∙ says.decides_is;
  take = t.take ∙ by_hears (is_hearing u.phase || is_delaying u.phase) refl
      ∙ ap (λ b. b && waits_in line) says.requests;
}
  where
    t : TakesIn now u.phase u
    t = takes_in now u.phase u

    group : (a b c : Bool) → (a && (b && c)) ≡ ((a && b) && c)
    group true b c = refl
    group false b c = refl

    live : (ph : Phase) → (is_hearing ph || is_delaying ph) ≡ true → is_live ph ≡ true
    live Running on = refl
    live Grace on = refl
    live Leak on = refl
    live Delay on = refl
    live ph on = cc

    by_hears : (b : Bool) → (is_hearing u.phase || is_delaying u.phase) ≡ b
        → ((is_hearing u.phase || is_delaying u.phase) && has_request u.line)
        ≡ ((is_hearing u.phase || is_delaying u.phase) && waits_in line)
    by_hears true on = rw on (ap has_request (lined (live u.phase on)) ∙ waits_as line)
    by_hears false off = rw off refl

pub turns_own : (p : Settings) (backward : List Entry) → IsLegalBackward p backward → (k : ℕ)
    → TakesByItsTurns p (history p backward) k
turns_own p backward legal k = record {
  started = λ pid. with (Started pid) _ (so.started pid);
  start_failed = λ error. with (StartFailed error) _ (so.failed error);
  exit = λ exit. with (Exit exit) _ (so.exit exit);
  wait_failed = λ error. with (WaitFailed error) _ (so.wait error);
  piece = λ stream bytes. with (Piece stream bytes) _ (so.piece stream bytes);
  stream_end = λ stream. with (StreamEnd stream) _ (so.end stream);
  read_error = λ stream error. with (ReadError stream error) _ (so.error stream error);
  env = λ input. with (Env input) _ (so.env input);
  decide = λ word. with (Decide word) _ (so.decide word);
  take = with Take _ so.take;
}
  where
    past : List Happening
    past = history p backward

    run : List Happening
    run = sub_run past

    h : HoldsAfter p past
    h = holds p backward legal

    with : (turn : UnitTurn) (b : Bool) → unit_takes (clock past) (unit_of k run) turn ≡ b
        → (not (is_over past) && unit_takes (clock past) (unit_in (board p past) k) turn) ≡ (not (is_over past) && b)
    with turn b is = ap (λ b. not (is_over past) && b)
        (ap (λ v. unit_takes (clock past) v turn) (unit_in-is p (clock past) run k h) ∙ is)

    terms : AttemptTerms
    terms = unit_terms p k

    by_unit : (v : Option UnitView) → unit_of k run ≡ v → IsMadeIf terms v (story_of k run)
        → IsShownIf v (story_of k run) → KillsIf v → TakesSo (clock past) v terms (pieces_of k run) (line_of k run)
    by_unit None is made shows killed =
        subst (λ story. TakesSo (clock past) None terms (pieces story) (line_of k run)) (sym made)
        (none_so (clock past) terms (line_of k run))
    by_unit (Some u) is made shows killed =
        some_so (clock past) u terms (pieces_of k run) (line_of k run) made.has
        (says_in terms u.phase u (pieces_of k run) made.terms made.has shows killed)
        (λ live. (lined p backward legal k u is live).line)

    so : TakesSo (clock past) (unit_of k run) terms (pieces_of k run) (line_of k run)
    so = by_unit (unit_of k run) refl (h.made k) (shown p backward legal k) (kills p backward legal k)
