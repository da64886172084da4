-- The pieces of a finished test.
use Rattle.std.specs.Prelude.{ℕ, Bool, true, ◌||◌, if◌then◌else◌, List, [], ◌∷◌, ◌++◌, Option, Some, None}
use Rattle.run_events.specs.declared.events.TestFinished.{TestFinished}
use Rattle.run_events.specs.declared.message.TestFinish.{TestFinish}
use Rattle.run_events.specs.declared.result.ExecuteStatus.{ExecuteStatus}
use Rattle.run_events.specs.Result.{is_success}
use Rattle.run_report.specs.declared.levels.ReportSettings.{ReportSettings}
use Rattle.run_report.specs.declared.style.Style.{Style}
use Rattle.run_report.specs.Blocks.{Block, block_shown}
use Rattle.run_report.specs.Finish.{final_level, final_word, kind_style, last_attempt, output_when, status_level}
use Rattle.run_report.specs.Finish.{told_word, verdict_of}
use Rattle.run_report.specs.Levels.{is_at_end, is_at_once, shows, shows_at_end}
use Rattle.run_report.specs.Lines.{TestLine}
use Rattle.run_report.specs.Pieces.{Piece, again, final, output, output_again}
use Rattle.run_report.specs.Texts.{counter_text, took_text}

-- a piece, where it is shown
abbrev pub piece_if : Bool → Piece → List Piece
piece_if shown piece = if shown then piece ∷ [] else []

-- whether the output of a finished test is shown behind its line
abbrev pub is_output_told : ReportSettings → TestFinish → Bool
is_output_told settings finish = is_at_once (output_when settings (verdict_of finish).kind)

-- whether its line is shown: where its level says so, and wherever its output stands behind it
abbrev pub is_line_told : ReportSettings → TestFinish → Bool
is_line_told settings finish =
    shows settings.status (status_level (verdict_of finish).kind) || is_output_told settings finish

-- how long it took, and how many have finished with it
abbrev pub finish_middle : TestFinished → List ℕ
finish_middle told = took_text (verdict_of told.finish).time
    ++ counter_text told.stats.finished_count told.stats.initial_run_count

-- a line of it, with this word
abbrev pub finish_line : List ℕ → TestFinished → TestLine
finish_line word told = record {
  style = kind_style (verdict_of told.finish).kind;
  word = word;
  middle = finish_middle told;
  test = told.finish.test;
}

-- its final line
abbrev pub final_line : TestFinished → TestLine
final_line told = finish_line (told_word (verdict_of told.finish)) told

-- its line at the end
abbrev pub again_line : TestFinished → TestLine
again_line told = finish_line (final_word (verdict_of told.finish)) told

-- an attempt's output, in a style
abbrev pub status_block : Style → ExecuteStatus → Block
status_block style status = record { style = style; passed = is_success status.result; child = status.output }

-- the output of its last attempt, as a piece of a kind
abbrev pub last_output : (Block → Piece) → TestFinish → Option ExecuteStatus → List Piece
last_output piece finish (Some last) = piece (status_block (kind_style (verdict_of finish).kind) last) ∷ []
last_output piece finish None = []

-- the bytes of that
abbrev pub last_shown : Bool → TestFinish → Option ExecuteStatus → List ℕ
last_shown color finish (Some last) = block_shown color (status_block (kind_style (verdict_of finish).kind) last)
last_shown color finish None = []

-- its output, where it is shown
abbrev pub output_if : Bool → (Block → Piece) → TestFinish → List Piece
output_if shown piece finish = if shown then last_output piece finish (last_attempt finish) else []

-- a finished test: its final line, and its output behind it
unfoldable pub finish_pieces : ReportSettings → TestFinished → List Piece
finish_pieces settings told = piece_if (is_line_told settings told.finish) (final (final_line told))
    ++ output_if (is_output_told settings told.finish) output told.finish

-- whether its output is shown at the end
abbrev pub is_output_kept : ReportSettings → TestFinish → Bool
is_output_kept settings finish = is_at_end (output_when settings (verdict_of finish).kind)

-- whether it is shown again at the end: where its level says so, and wherever its output stands there
abbrev pub is_kept : ReportSettings → TestFinish → Bool
is_kept settings finish = shows_at_end settings.final_status (final_level (verdict_of finish).kind)
    || is_output_kept settings finish

-- a finished test at the end: its line, and its output behind it
unfoldable pub kept_pieces : ReportSettings → TestFinished → List Piece
kept_pieces settings told = piece_if true (again (again_line told))
    ++ output_if (is_output_kept settings told.finish) output_again told.finish
