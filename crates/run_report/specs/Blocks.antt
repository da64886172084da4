-- What a child wrote, and what went wrong at it.
use Rattle.std.specs.Prelude.{ℕ, Bool, true, false, not, ◌&&◌, ◌==◌, if◌then◌else◌, List, [], ◌∷◌, ◌++◌, length, codes}
use Rattle.std.specs.Prelude.{Option, Some, None}
use Rattle.std.specs.List.{flat_map}
use Rattle.run_capture.specs.declared.test_output.ChildFdError.{ChildFdError}
use Rattle.run_capture.specs.declared.test_output.ChildFdError.TheVariants.{ReadStdout, ReadStderr, ReadCombined, Wait}
use Rattle.run_capture.specs.declared.test_output.ChildOutput.{ChildOutput}
use Rattle.run_capture.specs.declared.test_output.ChildOutput.TheVariants.{Split, Combined}
use Rattle.run_events.specs.declared.result.ChildExecutionOutput.{ChildExecutionOutput}
use Rattle.run_events.specs.declared.result.ChildExecutionOutput.TheVariants.{Output, StartError}
use Rattle.run_report.specs.declared.style.Style.{Style}
use Rattle.run_report.specs.declared.style.Style.TheVariants.{Plain}
use Rattle.run_report.specs.Indent.{output_shown}
use Rattle.run_report.specs.Style.{line_shown}
use Rattle.run_report.specs.Texts.{dashes}

-- the output of an attempt that passed or not; its headers are in a style
pub record Block : Type 0 where
  pub style : Style
  pub passed : Bool
  pub child : ChildExecutionOutput

-- a line over a stream, and an empty line
abbrev pub header_shown : Bool → Style → List ℕ → List ℕ
header_shown color style name = line_shown color ((Plain, codes "  ") ∷ (style, name) ∷ []) ++ (10 ∷ [])

-- a stream, unless it is empty
abbrev pub stream_shown : Bool → Style → List ℕ → List ℕ → List ℕ
stream_shown color style name bytes = if length bytes == 0 then []
    else header_shown color style name ++ output_shown bytes

-- a stream, where it was captured
abbrev pub stream_where : Bool → Style → List ℕ → Option (List ℕ) → List ℕ
stream_where color style name (Some bytes) = stream_shown color style name bytes
stream_where color style name None = []

-- the streams of a child
abbrev pub streams_shown : Bool → Style → ChildOutput → List ℕ
streams_shown color style (Split split) =
    stream_where color style (codes "stdout " ++ dashes 3) split.stdout
    ++ stream_where color style (codes "stderr " ++ dashes 3) split.stderr
streams_shown color style (Combined output) = stream_shown color style (codes "output " ++ dashes 3) output

-- where a fault came up
abbrev pub fault_source : ChildFdError → List ℕ
fault_source (ReadStdout text) = codes "stdout: "
fault_source (ReadStderr text) = codes "stderr: "
fault_source (ReadCombined text) = codes "combined: "
fault_source (Wait text) = codes "wait: "

-- the text of its error
abbrev pub fault_said : ChildFdError → List ℕ
fault_said (ReadStdout text) = text
fault_said (ReadStderr text) = text
fault_said (ReadCombined text) = text
fault_said (Wait text) = text

-- an error and where it came up
abbrev pub error_shown : Bool → List ℕ → List ℕ → List ℕ
error_shown color source text =
    line_shown color ((Plain, codes "  error: ") ∷ (Plain, source) ∷ (Plain, text) ∷ [])

-- the errors that came up at a child
abbrev pub errors_shown : Bool → List ChildFdError → List ℕ
errors_shown color errors = flat_map (λ fault. error_shown color (fault_source fault) (fault_said fault)) errors

-- what a child wrote, and what went wrong at it
abbrev pub said_shown : Bool → Style → ChildExecutionOutput → List ℕ
said_shown color style (StartError text) = error_shown color [] text
said_shown color style (Output output errors) = streams_shown color style output ++ errors_shown color errors

-- whether a stream has no byte
abbrev pub is_unwritten : Option (List ℕ) → Bool
is_unwritten (Some bytes) = length bytes == 0
is_unwritten None = true

-- whether a child wrote nothing
abbrev pub is_silent : ChildOutput → Bool
is_silent (Split split) = is_unwritten split.stdout && is_unwritten split.stderr
is_silent (Combined output) = length output == 0

-- whether it wrote nothing, and nothing went wrong at it
abbrev pub says_nothing : ChildExecutionOutput → Bool
says_nothing (StartError text) = false
says_nothing (Output output errors) = is_silent output && (length errors == 0)

-- that there is nothing
abbrev pub silence_said : Bool → List ℕ
silence_said color = line_shown color ((Plain, codes "  ") ∷ (Plain, codes "(no output)") ∷ [])

-- the same, where nothing stands for a failed attempt
abbrev pub silence_shown : Bool → Bool → ChildExecutionOutput → List ℕ
silence_shown color passed child = if says_nothing child && not passed then silence_said color else []

-- the output of an attempt
unfoldable pub block_shown : Bool → Block → List ℕ
block_shown color block =
    said_shown color block.style block.child ++ silence_shown color block.passed block.child
