-- What the turns of an attempt captured.
use Rattle.std.proofs.Common.{◌≡◌, ℕ, List, [], ◌∷◌, Bool, true, false, not, ◌&&◌, ◌||◌, Option, None, refl}
use Rattle.std.proofs.lemmas.List.{append-nil}
use Rattle.run_capture.specs.Captured.{Captured, begun, is_done, with_wait_error}
use Rattle.run_capture.specs.declared.test_output.Stream.TheVariants.{Stdout, Stderr, Combined}
use Rattle.run_events.specs.declared.request.Request.{Request}
use Rattle.run_model.specs.declared.unit_turn.UnitTurn.{UnitTurn}
use Rattle.run_model.specs.declared.unit_turn.UnitTurn.TheVariants.{Answered, WaitFailed, Piece, StreamEnd, ReadError}
use Rattle.run_model.specs.declared.unit_view.CapturedStreams.{CapturedStreams}
use Rattle.run_model.specs.declared.unit_view.CapturedStreams.TheVariants as captured
use Rattle.run_model.specs.Unit.{nothing_captured, having_heard}
use Rattle.run_model.specs.Story.{OwnTurn}
use Rattle.run_model.specs.Attempts.{errors_heard, output_of, is_stream_done, are_streams_done}

-- a unit's own turn at this moment, with the request that it takes
abbrev pub taken : ℕ → UnitTurn → Option Request → OwnTurn
taken now turn request = record { moment = now; turn = turn; request = request }

-- what the turns of a piece captured of these streams
abbrev pub captured_by : CapturedStreams → List OwnTurn → Captured
captured_by streams piece = record {
  output = output_of streams piece;
  ended = record {
    stdout = is_stream_done Stdout piece;
    stderr = is_stream_done Stderr piece;
    combined = is_stream_done Combined piece;
  };
  errors = errors_heard piece;
}

-- what is captured after one more turn
abbrev pub heard_by : Captured → UnitTurn → Captured
heard_by c (WaitFailed error) = with_wait_error c error
heard_by c turn = having_heard c turn

pub captured_first : (s : CapturedStreams) (now : ℕ)
    → begun (nothing_captured s) ≡ captured_by s (taken now (Answered true) None ∷ [])
captured_first (captured.Apart stdout stderr) now = refl
captured_first captured.Combined now = refl

pub captured_more : (s : CapturedStreams) (now : ℕ) (turn : UnitTurn) (request : Option Request) (piece : List OwnTurn)
    → heard_by (captured_by s piece) turn ≡ captured_by s (taken now turn request ∷ piece)
captured_more (captured.Apart true stderr) now (Piece Stdout bytes) request piece = simp append-nil
captured_more (captured.Apart false stderr) now (Piece Stdout bytes) request piece = simp append-nil
captured_more (captured.Apart stdout true) now (Piece Stderr bytes) request piece = simp append-nil
captured_more (captured.Apart stdout false) now (Piece Stderr bytes) request piece = simp append-nil
captured_more (captured.Apart stdout stderr) now (Piece Combined bytes) request piece = simp append-nil
captured_more (captured.Apart stdout stderr) now (StreamEnd Stdout) request piece = simp append-nil
captured_more (captured.Apart stdout stderr) now (StreamEnd Stderr) request piece = simp append-nil
captured_more (captured.Apart stdout stderr) now (StreamEnd Combined) request piece = simp append-nil
captured_more (captured.Apart stdout stderr) now (ReadError Stdout error) request piece = simp append-nil
captured_more (captured.Apart stdout stderr) now (ReadError Stderr error) request piece = simp append-nil
captured_more (captured.Apart stdout stderr) now (ReadError Combined error) request piece = simp append-nil
captured_more (captured.Apart stdout stderr) now turn request piece = simp append-nil
captured_more captured.Combined now (Piece Stdout bytes) request piece = simp append-nil
captured_more captured.Combined now (Piece Stderr bytes) request piece = simp append-nil
captured_more captured.Combined now (Piece Combined bytes) request piece = simp append-nil
captured_more captured.Combined now (StreamEnd Stdout) request piece = simp append-nil
captured_more captured.Combined now (StreamEnd Stderr) request piece = simp append-nil
captured_more captured.Combined now (StreamEnd Combined) request piece = simp append-nil
captured_more captured.Combined now (ReadError Stdout error) request piece = simp append-nil
captured_more captured.Combined now (ReadError Stderr error) request piece = simp append-nil
captured_more captured.Combined now (ReadError Combined error) request piece = simp append-nil
captured_more captured.Combined now turn request piece = simp append-nil

-- a capture is done where each captured stream is
pub done_as : (s : CapturedStreams) (piece : List OwnTurn) → is_done (captured_by s piece) ≡ are_streams_done s piece
done_as (captured.Apart stdout stderr) piece =
    both stdout stderr (is_stream_done Stdout piece) (is_stream_done Stderr piece)
  where
    both : (a b c d : Bool) → is_done (record {
      output = output_of (captured.Apart a b) piece;
      ended = record { stdout = c; stderr = d; combined = is_stream_done Combined piece };
      errors = errors_heard piece;
    }) ≡ ((not a || c) && (not b || d))
    both true true true true = refl
    both true true true false = refl
    both true true false d = refl
    both true false true d = refl
    both true false false d = refl
    both false true c true = refl
    both false true c false = refl
    both false false c d = refl
done_as captured.Combined piece = one (is_stream_done Combined piece)
  where
    one : (a : Bool) → not (not a) ≡ a
    one true = refl
    one false = refl
