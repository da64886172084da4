-- What holds of every report.
use Rattle.std.specs.Prelude.{ℕ, ◌≡◌, ◌≤◌, ◌⊎◌, Bool, true, false, if◌then◌else◌, List, [], ◌∷◌, ◌++◌, length, map}
use Rattle.std.specs.Prelude.{Option, Some, None}
use Rattle.std.specs.List.{filter, filter_map}
use Rattle.run_events.specs.declared.events.ReporterEvent.{ReporterEvent}
use Rattle.run_events.specs.declared.events.ReporterEvent.TheVariants.{Tick, Test}
use Rattle.run_events.specs.declared.events.RunFinishedStats.{RunFinishedStats}
use Rattle.run_events.specs.declared.events.RunFinishedStats.TheVariants.{Single, Stress}
use Rattle.run_events.specs.declared.events.TestEventKind.{TestEventKind}
use Rattle.run_events.specs.declared.events.TestEventKind.TheVariants as kinds
use Rattle.run_events.specs.declared.events.TestFinished.{TestFinished}
use Rattle.run_events.specs.declared.message.TestFinish.{TestFinish}
use Rattle.run_events.specs.declared.result.ExecuteStatus.{ExecuteStatus}
use Rattle.run_events.specs.declared.stats.RunStats.{RunStats}
use Rattle.run_report.specs.declared.levels.ReportSettings.{ReportSettings}
use Rattle.run_report.specs.declared.levels.StatusLevel.TheVariants as levels
use Rattle.run_report.specs.Blocks.{Block}
use Rattle.run_report.specs.Finish.{counts_failed, kind_style, last_attempt, verdict_of}
use Rattle.run_report.specs.Finished.{final_line, finish_pieces, is_kept, is_output_kept, is_output_told, is_line_told}
use Rattle.run_report.specs.Finished.{kept_pieces, status_block}
use Rattle.run_report.specs.Heard.{ends, finish_in_event, kept_finishes, late_pieces, since_end}
use Rattle.run_report.specs.Levels.{shows}
use Rattle.run_report.specs.Lines.{TestLine}
use Rattle.run_report.specs.Pieces.{Piece, final, output, output_again, piece_bytes, summary}
use Rattle.run_report.specs.Report.{report_pieces}
use Rattle.run_report.specs.Style.{shown_text}

-- the final line that a piece is
abbrev pub final_in : Piece → Option TestLine
final_in (final line) = Some line
final_in _ = None

-- there is one final line for each finished test that is shown, in order, with its test, its word and its counter; a
-- failed test is shown at each level but the lowest, and every test at the highest
pub record FinalLines : Type 0 where
  pub each : (settings : ReportSettings) (told : List ReporterEvent)
      → filter_map final_in (report_pieces settings told)
      ≡ map final_line (filter (λ x. is_line_told settings x.finish) (filter_map finish_in_event told))
  pub failed : (settings : ReportSettings) (finish : TestFinish) → shows settings.status levels.Fail ≡ true
      → counts_failed (verdict_of finish).kind ≡ true → is_line_told settings finish ≡ true
  pub highest : (settings : ReportSettings) (finish : TestFinish) → settings.status ≡ levels.All
      → is_line_told settings finish ≡ true

-- the output that a piece is
abbrev pub block_in : Piece → Option Block
block_in (output block) = Some block
block_in (output_again block) = Some block
block_in _ = None

-- the output of the last attempt of a finished test
abbrev pub own_block : TestFinish → Option ExecuteStatus → List Block
own_block finish (Some last) = status_block (kind_style (verdict_of finish).kind) last ∷ []
own_block finish None = []

-- the same, where it is shown
abbrev pub own_output : Bool → TestFinish → List Block
own_output shown finish = if shown then own_block finish (last_attempt finish) else []

-- behind the line of a finished test stands its own output, once, or none where that isn't to be shown; so at the end
-- of its run or sub-run; what is shown again there are the finished tests since the end before it that are to be shown
-- again, each as often as it was told; and no end shows any that was told before an earlier end
pub record Outputs : Type 0 where
  pub at_once : (settings : ReportSettings) (told : TestFinished)
      → filter_map block_in (finish_pieces settings told)
      ≡ own_output (is_output_told settings told.finish) told.finish
  pub at_end : (settings : ReportSettings) (told : TestFinished)
      → filter_map block_in (kept_pieces settings told)
      ≡ own_output (is_output_kept settings told.finish) told.finish
  pub each : (settings : ReportSettings) (told : List ReporterEvent) (is_one : TestFinished → Bool)
      → length (filter is_one (kept_finishes settings told))
      ≡ length (filter is_one (filter (λ x. is_kept settings x.finish) (filter_map finish_in_event (since_end told))))
  pub ended : (settings : ReportSettings) (told : List ReporterEvent) (event : ReporterEvent) → ends event ≡ true
      → late_pieces settings (told ++ event ∷ []) ≡ []

-- the counts that a piece is
abbrev pub counts_in_piece : Piece → Option (ℕ × RunStats)
counts_in_piece (summary elapsed stats) = Some (elapsed, stats)
counts_in_piece _ = None

-- the counts that an event tells at the end of a run or a sub-run, and how long that took
abbrev pub counts_at_finish : ℕ → RunFinishedStats → Option (ℕ × RunStats)
counts_at_finish elapsed (Single stats) = Some (elapsed, stats)
counts_at_finish elapsed (Stress stats) = None

abbrev pub counts_at_kind : ℕ → TestEventKind → Option (ℕ × RunStats)
counts_at_kind elapsed (kinds.StressSubRunFinished told) = Some (told.sub_elapsed, told.stats)
counts_at_kind elapsed (kinds.RunFinished told) = counts_at_finish elapsed told.stats
counts_at_kind elapsed _ = None

abbrev pub counts_at_end : ReporterEvent → Option (ℕ × RunStats)
counts_at_end Tick = None
counts_at_end (Test event) = counts_at_kind event.elapsed event.kind

-- the summaries show the counts that were told at the ends, in order
abbrev pub SummariesAreTold : Type 0
SummariesAreTold = (settings : ReportSettings) (told : List ReporterEvent)
    → filter_map counts_in_piece (report_pieces settings told) ≡ filter_map counts_at_end told

-- no byte of these ends a line, and none begins an escape sequence: none is below a blank
abbrev pub ArePlain : List ℕ → Type 0
ArePlain [] = Unit {0}
ArePlain (b ∷ bs) = (32 ≤ b) × ArePlain bs

-- no byte of these ends a line: each is the escape character, or none below a blank
abbrev pub AreColored : List ℕ → Type 0
AreColored [] = Unit {0}
AreColored (b ∷ bs) = ((b ≡ 27) ⊎ (32 ≤ b)) × AreColored bs

-- whether a piece has bytes that a child wrote
abbrev pub is_output : Piece → Bool
is_output (output block) = true
is_output (output_again block) = true
is_output _ = false

-- a line whose bytes before its end are of a kind
abbrev pub IsLineOf : (List ℕ → Type 0) → List ℕ → Type 0
IsLineOf are bytes = (front : List ℕ) × are front × (bytes ≡ front ++ 10 ∷ [])

-- no text of a name, an id, a command or an error has a line feed or the escape character as it is shown; so whatever
-- its parts are, each piece but an output is one line, with escape characters of its styles alone where colours are on
pub record NoForgedLine : Type 0 where
  pub texts : (text : List ℕ) → ArePlain (shown_text text)
  pub colored : (settings : ReportSettings) (piece : Piece) → is_output piece ≡ false
      → IsLineOf AreColored (piece_bytes settings piece)
  pub plain : (settings : ReportSettings) (piece : Piece) → settings.color ≡ false → is_output piece ≡ false
      → IsLineOf ArePlain (piece_bytes settings piece)
