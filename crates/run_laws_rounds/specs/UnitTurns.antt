-- When each turn of a unit is enabled, by its own turns before it.
use Rattle.std.specs.Prelude.{ℕ, ◌≡◌, ◌+◌, ◌==◌, List, [], ◌∷◌, length, Bool, true, false, ◌&&◌, not}
use Rattle.std.specs.Prelude.{is_some}
use Rattle.run_capture.specs.declared.test_output.Stream.{Stream}
use Rattle.run_capture.specs.declared.test_output.Stream.TheVariants.{Stdout, Stderr, Combined}
use Rattle.run_commands.specs.declared.script_helpers.EnvInput.{EnvInput}
use Rattle.run_events.specs.declared.result.ChildExit.{ChildExit}
use Rattle.run_events.specs.declared.request.Request.{Request}
use Rattle.run_events.specs.declared.settings.Settings.{Settings}
use Rattle.run_events.specs.declared.turn.Turn.TheVariants as turns
use Rattle.run_model.specs.declared.entry.Entry.{Entry}
use Rattle.run_model.specs.declared.happening.Happening.{Happening}
use Rattle.run_model.specs.declared.unit_view.AttemptTerms.{AttemptTerms}
use Rattle.run_model.specs.declared.unit_view.CapturedStreams.{CapturedStreams}
use Rattle.run_model.specs.declared.unit_view.CapturedStreams.TheVariants as captured
use Rattle.run_model.specs.Admission.{unit_terms}
use Rattle.run_model.specs.Attempts.{awaits_env_file, has_ended, is_delay_over, is_retried, is_settled}
use Rattle.run_model.specs.Attempts.{is_stream_done}
use Rattle.run_model.specs.Attempts.{pieces_of, start_error_of}
use Rattle.run_model.specs.Journal.{IsLegal, past_of}
use Rattle.run_model.specs.Story.{Attempt, cut, OwnTurn, any_is, line_of}
use Rattle.run_model.specs.Timing.{ends_wait, has_timed_out, starts_child}
use Rattle.run_model.specs.Turns.{enabled}
use Rattle.run_model.specs.Words.{is_over, sub_run}

-- whether the newest attempt wasn't decided on, and this is said of its own turns
abbrev pub of_undecided : (List OwnTurn → Bool) → List Attempt → Bool
of_undecided test [] = false
of_undecided test (cut piece [] ∷ earlier) = test piece
of_undecided test (cut piece (d ∷ after) ∷ earlier) = false

-- by the own turns of an attempt: nothing was said yet of its child; the child has started, and it is waited for
abbrev pub awaits_start : List OwnTurn → Bool
awaits_start piece =
    not (any_is starts_child piece) && not (is_some (start_error_of piece)) && not (any_is ends_wait piece)

abbrev pub awaits_child : List OwnTurn → Bool
awaits_child piece =
    any_is starts_child piece && not (is_some (start_error_of piece)) && not (any_is ends_wait piece)

-- it was killed as it ran out of time, since it is given none to end by itself, and is still waited for
abbrev pub is_killed : AttemptTerms → List OwnTurn → Bool
is_killed terms piece =
    not (any_is ends_wait piece) && has_timed_out terms.slow piece && (terms.slow.grace == 0)

-- its streams and its requests are heard: it has started, isn't done with, and wasn't killed so
abbrev pub hears_streams : AttemptTerms → List OwnTurn → Bool
hears_streams terms piece = any_is starts_child piece && not (is_settled terms piece) && not (is_killed terms piece)

-- its environment file is to be read
abbrev pub awaits_file : AttemptTerms → List OwnTurn → Bool
awaits_file terms piece = is_settled terms piece && awaits_env_file terms piece

-- whether a stream is captured, and one that isn't done
abbrev pub captures : CapturedStreams → Stream → Bool
captures (captured.Apart stdout stderr) Stdout = stdout
captures (captured.Apart stdout stderr) Stderr = stderr
captures (captured.Apart stdout stderr) Combined = false
captures captured.Combined Combined = true
captures captured.Combined stream = false

abbrev pub awaits_stream : AttemptTerms → Stream → List OwnTurn → Bool
awaits_stream terms stream piece =
    hears_streams terms piece && (captures terms.streams stream && not (is_stream_done stream piece))

-- a request is heard: the newest attempt is heard, or a delay passes after it
abbrev pub hears_requests : AttemptTerms → List Attempt → Bool
hears_requests terms [] = false
hears_requests terms (cut piece [] ∷ earlier) = hears_streams terms piece
hears_requests terms (cut piece (d ∷ after) ∷ earlier) =
    is_retried terms (length earlier + 1) piece && not (is_delay_over (d ∷ after))

-- a request waits in a line
abbrev pub waits_in : List Request → Bool
waits_in [] = false
waits_in (request ∷ line) = true

-- after a history each turn of unit k is enabled exactly where the run isn't over and its own turns say so, whether a
-- round is open or the run is paused or not
pub record TakesByItsTurns (p : Settings) (past : List Happening) (k : ℕ) : Type 0 where
  pub started : (pid : ℕ) → enabled p past (turns.Started k pid)
      ≡ (not (is_over past) && of_undecided awaits_start (pieces_of k (sub_run past)))
  pub start_failed : (error : List ℕ) → enabled p past (turns.StartFailed k error)
      ≡ (not (is_over past) && of_undecided awaits_start (pieces_of k (sub_run past)))
  pub exit : (exit : ChildExit) → enabled p past (turns.Exit k exit)
      ≡ (not (is_over past) && of_undecided awaits_child (pieces_of k (sub_run past)))
  pub wait_failed : (error : List ℕ) → enabled p past (turns.WaitFailed k error)
      ≡ (not (is_over past) && of_undecided awaits_child (pieces_of k (sub_run past)))
  pub piece : (stream : Stream) (bytes : List ℕ) → enabled p past (turns.Piece k stream bytes)
      ≡ (not (is_over past) && (of_undecided (awaits_stream (unit_terms p k) stream) (pieces_of k (sub_run past))
      && not (length bytes == 0)))
  pub stream_end : (stream : Stream) → enabled p past (turns.StreamEnd k stream)
      ≡ (not (is_over past) && of_undecided (awaits_stream (unit_terms p k) stream) (pieces_of k (sub_run past)))
  pub read_error : (stream : Stream) (error : List ℕ) → enabled p past (turns.ReadError k stream error)
      ≡ (not (is_over past) && of_undecided (awaits_stream (unit_terms p k) stream) (pieces_of k (sub_run past)))
  pub env : (input : EnvInput) → enabled p past (turns.Env k input)
      ≡ (not (is_over past) && of_undecided (awaits_file (unit_terms p k)) (pieces_of k (sub_run past)))
  pub decide : (word : ℕ) → enabled p past (turns.Decide k word)
      ≡ (not (is_over past) && of_undecided (has_ended (unit_terms p k)) (pieces_of k (sub_run past)))
  pub take : enabled p past (turns.Take k)
      ≡ (not (is_over past) && (hears_requests (unit_terms p k) (pieces_of k (sub_run past))
      && waits_in (line_of k (sub_run past))))

-- that holds of each unit after every legal journal
abbrev pub UnitTurnsAreOwn : Type 0
UnitTurnsAreOwn = (p : Settings) (journal : List Entry) → IsLegal p journal → (k : ℕ)
    → TakesByItsTurns p (past_of p journal) k
