-- What was captured of a child so far.
use Rattle.std.specs.Prelude.{ℕ, Bool, true, false, not, ◌&&◌, ◌||◌, List, [], ◌∷◌, ◌++◌}
use Rattle.run_capture.specs.declared.test_output.Stream.{Stream}
use Rattle.run_capture.specs.declared.test_output.Stream.TheVariants.{Stdout, Stderr, Combined}
use Rattle.run_capture.specs.declared.test_output.ChildOutput.{ChildOutput}
use Rattle.run_capture.specs.declared.test_output.ChildFdError.{ChildFdError}
use Rattle.run_capture.specs.declared.test_output.ChildFdError.TheVariants.{ReadStdout, ReadStderr, ReadCombined, Wait}
use Rattle.run_capture.specs.declared.ended.Ended.{Ended}
use Rattle.run_capture.specs.Output.{is_captured, with_bytes}

-- whether a stream has ended
abbrev pub has_ended : Ended → Stream → Bool
has_ended ended Stdout = ended.stdout
has_ended ended Stderr = ended.stderr
has_ended ended Combined = ended.combined

-- one more stream has ended
abbrev pub with_ended : Ended → Stream → Ended
with_ended ended Stdout = record ended { stdout = true }
with_ended ended Stderr = record ended { stderr = true }
with_ended ended Combined = record ended { combined = true }

-- the output so far, the streams that ended or could not be read on, and the errors of reading in order
pub record Captured : Type 0 where
  pub output : ChildOutput
  pub ended : Ended
  pub errors : List ChildFdError

-- no piece, end or error came yet
abbrev pub begun : ChildOutput → Captured
begun output = record {
  output = output;
  ended = record { stdout = false; stderr = false; combined = false };
  errors = [];
}

-- a stream is taken where it is captured and not done
abbrev pub takes : Captured → Stream → Bool
takes c stream = is_captured c.output stream && not (has_ended c.ended stream)

-- no stream is taken
abbrev pub is_done : Captured → Bool
is_done c = not (takes c Stdout || takes c Stderr || takes c Combined)

-- the error of reading a stream
abbrev pub read_error : Stream → List ℕ → ChildFdError
read_error Stdout text = ReadStdout text
read_error Stderr text = ReadStderr text
read_error Combined text = ReadCombined text

-- after a piece of a stream
abbrev pub with_piece : Captured → Stream → List ℕ → Captured
with_piece c stream bytes = record c { output = with_bytes c.output stream bytes }

-- after the end of a stream
abbrev pub with_end : Captured → Stream → Captured
with_end c stream = record c { ended = with_ended c.ended stream }

-- after an error, which ends its stream
abbrev pub with_error : Captured → Stream → List ℕ → Captured
with_error c stream text = record c {
  ended = with_ended c.ended stream;
  errors = c.errors ++ read_error stream text ∷ [];
}

-- after a failed wait, which ends no stream
abbrev pub with_wait_error : Captured → List ℕ → Captured
with_wait_error c text = record c { errors = c.errors ++ Wait text ∷ [] }
