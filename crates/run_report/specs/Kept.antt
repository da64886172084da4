-- What is kept of finished tests for the next end.
use Rattle.std.specs.Prelude.{ℕ, Bool, if◌then◌else◌, List}
use Rattle.std.specs.List.{flat_map}
use Rattle.run_events.specs.declared.events.TestFinished.{TestFinished}
use Rattle.run_report.specs.declared.kept.Kept.{Kept}
use Rattle.run_report.specs.declared.levels.ReportSettings.{ReportSettings}
use Rattle.run_report.specs.Finished.{is_kept, kept_pieces}
use Rattle.run_report.specs.Heard.{id_behind, placed}
use Rattle.run_report.specs.Pieces.{pieces_bytes}

-- what is kept of one
abbrev pub kept_for : ReportSettings → TestFinished → Kept
kept_for settings told = record {
  id = told.finish.test.id;
  shown = pieces_bytes settings (kept_pieces settings told);
}

-- whether the second of two stands behind the first
abbrev pub kept_behind : Kept → Kept → Bool
kept_behind first second = id_behind first.id second.id

-- what is kept after one more
abbrev pub kept_after : ReportSettings → List Kept → TestFinished → List Kept
kept_after settings kept told =
    if is_kept settings told.finish then placed kept_behind (kept_for settings told) kept else kept

-- what is shown of them
abbrev pub kept_bytes : List Kept → List ℕ
kept_bytes kept = flat_map (λ test. test.shown) kept
