-- What was captured as a history: all that was heard of a child's streams, newest first.
use Rattle.std.specs.Prelude.{ℕ, ◌≡◌, Bool, true, false, ◌||◌, List, [], ◌∷◌, ◌++◌, if◌then◌else◌}
use Rattle.run_capture.specs.declared.test_output.Stream.{Stream}
use Rattle.run_capture.specs.declared.test_output.Stream.TheVariants.{Stdout, Stderr, Combined}
use Rattle.run_capture.specs.declared.test_output.ChildOutput.{ChildOutput}
use Rattle.run_capture.specs.declared.test_output.ChildFdError.{ChildFdError}
use Rattle.run_capture.specs.Output.{bytes_of, joined}
use Rattle.run_capture.specs.Captured.{Captured, begun, has_ended, read_error, with_piece, with_end, with_error}

-- a piece of a stream, its end, or an error in reading it
pub data Heard : Type 0 where
  piece : Stream → List ℕ → Heard
  end : Stream → Heard
  error : Stream → List ℕ → Heard

-- what was captured of a child after a history
abbrev pub captured : ChildOutput → List Heard → Captured
captured output [] = begun output
captured output (piece stream bytes ∷ past) = with_piece (captured output past) stream bytes
captured output (end stream ∷ past) = with_end (captured output past) stream
captured output (error stream text ∷ past) = with_error (captured output past) stream text

-- whether two streams are one
abbrev pub is_stream : Stream → Stream → Bool
is_stream Stdout Stdout = true
is_stream Stdout Stderr = false
is_stream Stdout Combined = false
is_stream Stderr Stdout = false
is_stream Stderr Stderr = true
is_stream Stderr Combined = false
is_stream Combined Stdout = false
is_stream Combined Stderr = false
is_stream Combined Combined = true

-- the pieces of a stream, joined in order
abbrev pub pieces_of : Stream → List Heard → List ℕ
pieces_of stream [] = []
pieces_of stream (piece other bytes ∷ past) =
    pieces_of stream past ++ (if is_stream stream other then bytes else [])
pieces_of stream (end other ∷ past) = pieces_of stream past
pieces_of stream (error other text ∷ past) = pieces_of stream past

-- whether the end of a stream, or an error in reading it, was heard
abbrev pub is_over : Stream → List Heard → Bool
is_over stream [] = false
is_over stream (piece other bytes ∷ past) = is_over stream past
is_over stream (end other ∷ past) = is_stream stream other || is_over stream past
is_over stream (error other text ∷ past) = is_stream stream other || is_over stream past

-- the errors, oldest first
abbrev pub errors_of : List Heard → List ChildFdError
errors_of [] = []
errors_of (piece stream bytes ∷ past) = errors_of past
errors_of (end stream ∷ past) = errors_of past
errors_of (error stream text ∷ past) = errors_of past ++ read_error stream text ∷ []

-- after any history each captured stream has the pieces that were heard of it, joined in order; it has ended where
-- its end or an error was heard; and the errors are those that were heard
pub record OutputIsWhatWasHeard : Type 0 where
  pub bytes : (output : ChildOutput) (past : List Heard) (stream : Stream)
      → bytes_of (captured output past).output stream ≡ joined (bytes_of output stream) (pieces_of stream past)
  pub ended : (output : ChildOutput) (past : List Heard) (stream : Stream)
      → has_ended (captured output past).ended stream ≡ is_over stream past
  pub errors : (output : ChildOutput) (past : List Heard) → (captured output past).errors ≡ errors_of past
