-- The pieces of an information round.
use Rattle.std.specs.Prelude.{ℕ, true, ◌+◌, nat_lt, if◌then◌else◌, List, [], ◌∷◌, ◌++◌, Option, Some, None, codes}
use Rattle.std.specs.Prelude.{decimal}
use Rattle.run_events.specs.declared.events.InfoAnswered.{InfoAnswered}
use Rattle.run_events.specs.declared.info.InfoResponse.{InfoResponse}
use Rattle.run_events.specs.declared.info.InfoSubject.{InfoSubject}
use Rattle.run_events.specs.declared.info.InfoSubject.TheVariants as subjects
use Rattle.run_events.specs.declared.info.UnitState.{UnitState}
use Rattle.run_events.specs.declared.info.UnitState.TheVariants.{Running, Terminating, Exiting, Exited, Delay}
use Rattle.run_events.specs.declared.result.ExecutionResult.{ExecutionResult}
use Rattle.run_report.specs.declared.style.Style.TheVariants as styles
use Rattle.run_report.specs.Blocks.{Block}
use Rattle.run_report.specs.Finished.{piece_if}
use Rattle.run_report.specs.Lines.{lead_text, test_id_spans}
use Rattle.run_report.specs.Pieces.{Piece, note, output, rule, words}
use Rattle.run_report.specs.Style.{Span}
use Rattle.run_report.specs.Texts.{plural_text, seconds_text}
use Rattle.run_report.specs.Words.{long_word}

-- how many units are asked
abbrev pub asked_piece : ℕ → Piece
asked_piece total = words styles.Bold (codes "info") (plural_text total (codes "unit") ++ codes " asked")

-- a round starts, with so many units asked
abbrev pub asked_pieces : ℕ → List Piece
asked_pieces total = piece_if true rule ++ piece_if true (asked_piece total)

-- which unit answers
abbrev pub subject_spans : InfoSubject → List Span
subject_spans (subjects.Test test attempt attempts) =
    (styles.Plain, lead_text test.stress_index) ∷ test_id_spans test.id
subject_spans (subjects.Script script) =
    (styles.Plain, lead_text script.stress_index) ∷ (styles.Magenta, script.id) ∷ []

-- which answer it is, of how many
abbrev pub place_text : InfoAnswered → List ℕ
place_text told = codes "  " ++ (decimal (told.index + 1) ++ (codes "/" ++ (decimal told.total ++ codes ": ")))

unfoldable pub answer_spans : InfoAnswered → List Span
answer_spans told = (styles.Plain, place_text told) ∷ subject_spans told.response.subject

-- its attempt, where it may have several
abbrev pub attempt_said : InfoSubject → List ℕ
attempt_said (subjects.Test test attempt attempts) = if nat_lt 1 attempts
    then codes "attempt " ++ (decimal attempt ++ (codes "/" ++ (decimal attempts ++ codes ", "))) else []
attempt_said (subjects.Script script) = []

-- for how long its child has run
abbrev pub runs_said : List ℕ → ℕ → ℕ → List ℕ
runs_said word time pid = word ++ (seconds_text time ++ (codes "s as PID " ++ decimal pid))

-- how it ended, and when it is tried again
abbrev pub ended_said : ExecutionResult → List ℕ
ended_said ended = codes "ended: " ++ long_word ended

abbrev pub again_said : ℕ → List ℕ
again_said remaining = codes "tried again in " ++ (seconds_text remaining ++ codes "s")

-- what it is doing
unfoldable pub state_said : UnitState → List ℕ
state_said (Running pid time slow) = runs_said (codes "running for ") time pid
state_said (Terminating pid time reason method waiting) = runs_said (codes "terminating for ") time pid
state_said (Exiting pid time slow ended waiting) = runs_said (codes "waits for its streams, ran ") time pid
state_said (Exited ended time slow fault) = ended_said ended
state_said (Delay ended slow waiting) = again_said waiting.remaining

-- after how long it was reported slow
abbrev pub slow_reported : UnitState → Option ℕ
slow_reported (Running pid time slow) = slow
slow_reported (Terminating pid time reason method waiting) = None
slow_reported (Exiting pid time slow ended waiting) = slow
slow_reported (Exited ended time slow fault) = slow
slow_reported (Delay ended slow waiting) = None

abbrev pub status_spans : InfoResponse → List Span
status_spans response = (styles.Plain, codes "    status: ") ∷ (styles.Plain, attempt_said response.subject)
    ∷ (styles.Plain, state_said response.state) ∷ []

abbrev pub slow_spans : ℕ → List Span
slow_spans time = (styles.Plain, codes "    slow after ") ∷ (styles.Plain, seconds_text time)
    ∷ (styles.Plain, codes "s") ∷ []

abbrev pub slow_pieces_of : Option ℕ → List Piece
slow_pieces_of (Some time) = piece_if true (note (slow_spans time))
slow_pieces_of None = []

-- what its child wrote so far
abbrev pub answer_block : InfoResponse → Block
answer_block response = record { style = styles.Bold; passed = true; child = response.output }

-- who answers, and what it is doing
abbrev pub doing_pieces : InfoAnswered → List Piece
doing_pieces told = piece_if true (note (answer_spans told)) ++ piece_if true (note (status_spans told.response))

-- an answer
unfoldable pub answer_pieces : InfoAnswered → List Piece
answer_pieces told = (doing_pieces told ++ slow_pieces_of (slow_reported told.response.state))
    ++ piece_if true (output (answer_block told.response))

-- that some gave no answer
abbrev pub missing_spans : ℕ → List Span
missing_spans missing = (styles.Plain, codes "  missing: ") ∷ (styles.Plain, plural_text missing (codes "unit"))
    ∷ (styles.Plain, codes " gave no answer") ∷ []

abbrev pub missing_pieces : ℕ → List Piece
missing_pieces missing = piece_if (nat_lt 0 missing) (note (missing_spans missing))

-- the end of a round
abbrev pub answered_pieces : ℕ → List Piece
answered_pieces missing = missing_pieces missing ++ piece_if true rule
