-- What children write.
use Rattle.std.specs.Prelude.{ℕ, Bool, List, [], ◌++◌, length, Option, Some, None, option_map, is_some, if◌then◌else◌}
use Rattle.run_capture.specs.declared.test_output.Stream.{Stream}
use Rattle.run_capture.specs.declared.test_output.Stream.TheVariants as streams
use Rattle.run_capture.specs.declared.test_output.CaptureStrategy.{CaptureStrategy}
use Rattle.run_capture.specs.declared.test_output.CaptureStrategy.TheVariants as strategies
use Rattle.run_capture.specs.declared.test_output.ChildOutput.{ChildOutput}
use Rattle.run_capture.specs.declared.test_output.ChildOutput.TheVariants.{Split, Combined}

-- the output of a child of which no stream is captured
abbrev pub uncaptured : ChildOutput
uncaptured = Split (record { stdout = None; stderr = None })

-- no bytes yet, of a stream that is captured
abbrev pub nothing_where : Bool → Option (List ℕ)
nothing_where captured = if captured then Some [] else None

-- the output before the first piece, of the streams that are captured
abbrev pub nothing_of_split : Bool → Bool → ChildOutput
nothing_of_split stdout stderr = Split (record { stdout = nothing_where stdout; stderr = nothing_where stderr })

-- the output before the first piece
abbrev pub nothing_of : CaptureStrategy → ChildOutput
nothing_of strategies.None = uncaptured
nothing_of strategies.Split = Split (record { stdout = Some []; stderr = Some [] })
nothing_of strategies.Combined = Combined []

-- the bytes of a stream, where it is captured
abbrev pub bytes_of : ChildOutput → Stream → Option (List ℕ)
bytes_of (Split split) streams.Stdout = split.stdout
bytes_of (Split split) streams.Stderr = split.stderr
bytes_of (Split split) streams.Combined = None
bytes_of (Combined output) streams.Stdout = None
bytes_of (Combined output) streams.Stderr = None
bytes_of (Combined output) streams.Combined = Some output

-- whether a stream is captured
abbrev pub is_captured : ChildOutput → Stream → Bool
is_captured output stream = is_some (bytes_of output stream)

-- bytes after those of a stream, where it is captured
abbrev pub joined : Option (List ℕ) → List ℕ → Option (List ℕ)
joined front bytes = option_map (λ taken. taken ++ bytes) front

-- the output with a piece of a stream: the piece stands after what the stream had, and the other stream stays
abbrev pub with_bytes : ChildOutput → Stream → List ℕ → ChildOutput
with_bytes (Split split) streams.Stdout bytes = Split (record split { stdout = joined split.stdout bytes })
with_bytes (Split split) streams.Stderr bytes = Split (record split { stderr = joined split.stderr bytes })
with_bytes (Split split) streams.Combined bytes = Split split
with_bytes (Combined output) streams.Stdout bytes = Combined output
with_bytes (Combined output) streams.Stderr bytes = Combined output
with_bytes (Combined output) streams.Combined bytes = Combined (output ++ bytes)

-- the lengths of standard output and standard error, where they are captured; of combined output its length
-- and none
abbrev pub lengths_of : ChildOutput → Option ℕ × Option ℕ
lengths_of (Split split) = (option_map length split.stdout, option_map length split.stderr)
lengths_of (Combined output) = (Some (length output), None)
