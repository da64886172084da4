-- The pieces of a report, and their bytes.
use Rattle.std.specs.Prelude.{ℕ, Bool, ◌&&◌, ◌||◌, ◌==◌, nat_lt, if◌then◌else◌, List, [], ◌∷◌, ◌++◌}
use Rattle.std.specs.Prelude.{codes, decimal}
use Rattle.std.specs.List.{flat_map}
use Rattle.run_events.specs.declared.stats.RunStats.{RunStats}
use Rattle.run_events.specs.Outcome.{has_failures}
use Rattle.run_progress.specs.Summary.{progress_text, summary_text}
use Rattle.run_report.specs.declared.levels.ReportSettings.{ReportSettings}
use Rattle.run_report.specs.declared.style.Style.{Style}
use Rattle.run_report.specs.declared.style.Style.TheVariants as styles
use Rattle.run_report.specs.Blocks.{Block, block_shown}
use Rattle.run_report.specs.Lines.{ScriptLine, TestLine, script_spans, test_spans, word_spans}
use Rattle.run_report.specs.Style.{Span, line_shown}
use Rattle.run_report.specs.Texts.{dashes, took_text}

-- a piece of a report
pub data Piece : Type 0 where
  -- a line of dashes
  rule : Piece
  -- a word in a style, and what is said
  words : Style → List ℕ → List ℕ → Piece
  -- a warning
  warning : List ℕ → Piece
  -- another line
  note : List Span → Piece
  -- a line about a script
  script : ScriptLine → Piece
  -- a line about a test that goes on
  test : TestLine → Piece
  -- the final line of a test
  final : TestLine → Piece
  -- its line at the end of the run or the sub-run
  again : TestLine → Piece
  -- the output of an attempt, as it is told
  output : Block → Piece
  -- an output at the end of the run or the sub-run
  output_again : Block → Piece
  -- the counts of a run or a sub-run that took so long
  summary : ℕ → RunStats → Piece
  -- the counts of a run so far, which has taken so long, and how many of its tests run
  counts : ℕ → RunStats → ℕ → Piece

-- how many tests ran, of how many
abbrev pub ran_count : RunStats → List ℕ
ran_count stats = if stats.finished_count == stats.initial_run_count then decimal stats.finished_count
    else decimal stats.finished_count ++ (codes "/" ++ decimal stats.initial_run_count)

-- what they are called
abbrev pub ran_noun : RunStats → List ℕ
ran_noun stats = if (stats.finished_count == 1) && (stats.initial_run_count == 1) then codes " test run: "
    else codes " tests run: "

-- green where all ran and nothing failed
abbrev pub summary_style : RunStats → Style
summary_style stats = if has_failures stats || nat_lt stats.finished_count stats.initial_run_count
    then styles.Red else styles.Green

-- how many ran, and how they ended
abbrev pub ran_said : RunStats → List ℕ
ran_said stats = ran_count stats ++ (ran_noun stats ++ summary_text stats)

-- what a summary says
unfoldable pub summary_said : ℕ → RunStats → List ℕ
summary_said elapsed stats = took_text elapsed ++ ran_said stats

-- a warning
abbrev pub warning_shown : Bool → List ℕ → List ℕ
warning_shown color said = line_shown color ((styles.Yellow, codes "warning") ∷ (styles.Plain, codes ": ")
    ∷ (styles.Plain, said) ∷ [])

-- a line of dashes
abbrev pub rule_shown : Bool → List ℕ
rule_shown color = line_shown color ((styles.Plain, dashes 12) ∷ [])

-- the counts of a run so far
abbrev pub counts_shown : Bool → ℕ → RunStats → ℕ → List ℕ
counts_shown color elapsed stats running =
    line_shown color ((styles.Plain, progress_text elapsed stats running) ∷ [])

-- the counts of a run or a sub-run
abbrev pub summary_shown : Bool → ℕ → RunStats → List ℕ
summary_shown color elapsed stats =
    line_shown color (word_spans (summary_style stats) (codes "Summary") (summary_said elapsed stats))

-- the bytes of a piece
abbrev pub bytes_of_piece : Bool → Piece → List ℕ
bytes_of_piece color rule = rule_shown color
bytes_of_piece color (words style word said) = line_shown color (word_spans style word said)
bytes_of_piece color (warning said) = warning_shown color said
bytes_of_piece color (note spans) = line_shown color spans
bytes_of_piece color (script line) = line_shown color (script_spans line)
bytes_of_piece color (test line) = line_shown color (test_spans line)
bytes_of_piece color (final line) = line_shown color (test_spans line)
bytes_of_piece color (again line) = line_shown color (test_spans line)
bytes_of_piece color (output block) = block_shown color block
bytes_of_piece color (output_again block) = block_shown color block
bytes_of_piece color (summary elapsed stats) = summary_shown color elapsed stats
bytes_of_piece color (counts elapsed stats running) = counts_shown color elapsed stats running

abbrev pub piece_bytes : ReportSettings → Piece → List ℕ
piece_bytes settings piece = bytes_of_piece settings.color piece

-- the bytes of pieces, one after another
unfoldable pub pieces_bytes : ReportSettings → List Piece → List ℕ
pieces_bytes settings pieces = flat_map (piece_bytes settings) pieces
