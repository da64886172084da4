-- The report of a run: its pieces, and their bytes.
use Rattle.std.specs.Prelude.{ℕ, true, List, [], ◌∷◌, ◌++◌, codes}
use Rattle.run_events.specs.declared.events.ReporterEvent.{ReporterEvent}
use Rattle.run_events.specs.declared.events.ReporterEvent.TheVariants.{Tick, Test}
use Rattle.run_events.specs.declared.events.RunFinished.{RunFinished}
use Rattle.run_events.specs.declared.events.RunFinishedStats.{RunFinishedStats}
use Rattle.run_events.specs.declared.events.RunFinishedStats.TheVariants.{Single, Stress}
use Rattle.run_events.specs.declared.events.TestEventKind.{TestEventKind}
use Rattle.run_events.specs.declared.events.TestEventKind.TheVariants as kinds
use Rattle.run_report.specs.declared.levels.ReportSettings.{ReportSettings}
use Rattle.run_report.specs.declared.style.Style.TheVariants as styles
use Rattle.run_report.specs.Ends.{stress_pieces, unseen_pieces}
use Rattle.run_report.specs.Finished.{finish_pieces, piece_if}
use Rattle.run_report.specs.Heard.{late_pieces, total_told}
use Rattle.run_report.specs.Info.{answer_pieces, answered_pieces, asked_pieces}
use Rattle.run_report.specs.Pieces.{Piece, counts, pieces_bytes, script, words}
use Rattle.run_report.specs.Runs.{cancel_text, end_pieces, job_text, start_pieces, sub_run_pieces}
use Rattle.run_report.specs.Scripts.{script_end_pieces, script_slow_line, script_start_line}
use Rattle.run_report.specs.Units.{attempt_pieces, retry_pieces, skip_pieces, slow_pieces}

-- what the counts of a run's end add, with what is shown again there
abbrev pub stats_pieces : ℕ → RunFinishedStats → List Piece → List Piece
stats_pieces elapsed (Single stats) late = end_pieces elapsed stats late
stats_pieces elapsed (Stress stats) late = stress_pieces elapsed stats

-- what a run's end adds
abbrev pub finished_pieces : ℕ → RunFinished → List Piece → List Piece
finished_pieces elapsed told late = stats_pieces elapsed told.stats late ++ unseen_pieces told.not_seen

-- what an event of the run or of a script adds that tells no end
abbrev pub of_the_run : ℕ → TestEventKind → List Piece
of_the_run elapsed (kinds.RunStarted told) = start_pieces told
of_the_run elapsed (kinds.StressSubRunStarted so_far) = sub_run_pieces so_far
of_the_run elapsed (kinds.SetupScriptStarted told) = piece_if true (script (script_start_line told))
of_the_run elapsed (kinds.SetupScriptSlow told) = piece_if true (script (script_slow_line told))
of_the_run elapsed (kinds.SetupScriptFinished told) = script_end_pieces told
of_the_run elapsed (kinds.InputEnter told) = piece_if true (counts elapsed told.stats told.running)
of_the_run elapsed (kinds.RunBeginCancel told) =
    piece_if true (words styles.Red (codes "Cancelling") (cancel_text told))
of_the_run elapsed (kinds.RunBeginKill told) = piece_if true (words styles.Red (codes "Killing") (cancel_text told))
of_the_run elapsed (kinds.RunPaused told) = piece_if true (words styles.Green (codes "Pausing") (job_text told))
of_the_run elapsed (kinds.RunContinued told) = piece_if true (words styles.Green (codes "Continuing") (job_text told))
of_the_run elapsed _ = []

-- what an event of an information round adds
abbrev pub of_a_round : TestEventKind → List Piece
of_a_round (kinds.InfoStarted told) = asked_pieces told.total
of_a_round (kinds.InfoResponse told) = answer_pieces told
of_a_round (kinds.InfoFinished missing) = answered_pieces missing
of_a_round _ = []

-- what an event of a test adds, where there are so many tests to run
abbrev pub of_a_test : ReportSettings → ℕ → TestEventKind → List Piece
of_a_test settings total (kinds.TestSlow told) = slow_pieces settings total told
of_a_test settings total (kinds.TestAttemptFailedWillRetry told) = attempt_pieces settings total told.failed
of_a_test settings total (kinds.TestRetryStarted told) = retry_pieces settings total told.retry
of_a_test settings total (kinds.TestFinished told) = finish_pieces settings told
of_a_test settings total (kinds.TestSkipped told) = skip_pieces settings total told
of_a_test settings total _ = []

-- what an event adds that tells no end
abbrev pub going_pieces : ReportSettings → ℕ → ℕ → TestEventKind → List Piece
going_pieces settings total elapsed kind = (of_the_run elapsed kind ++ of_a_round kind) ++ of_a_test settings total kind

-- what an event adds, with what is shown again where it is an end
abbrev pub kind_pieces : ReportSettings → ℕ → List Piece → ℕ → TestEventKind → List Piece
kind_pieces settings total late elapsed (kinds.StressSubRunFinished told) =
    end_pieces told.sub_elapsed told.stats late
kind_pieces settings total late elapsed (kinds.RunFinished told) = finished_pieces elapsed told late
kind_pieces settings total late elapsed kind = going_pieces settings total elapsed kind

abbrev pub event_pieces : ReportSettings → ℕ → List Piece → ReporterEvent → List Piece
event_pieces settings total late Tick = []
event_pieces settings total late (Test event) = kind_pieces settings total late event.elapsed event.kind

-- what events add behind those before them
abbrev pub pieces_behind : ReportSettings → List ReporterEvent → List ReporterEvent → List Piece
pieces_behind settings before [] = []
pieces_behind settings before (event ∷ later) =
    event_pieces settings (total_told 0 before) (late_pieces settings before) event
    ++ pieces_behind settings (before ++ event ∷ []) later

-- the pieces of a report of these events
unfoldable pub report_pieces : ReportSettings → List ReporterEvent → List Piece
report_pieces settings told = pieces_behind settings [] told

-- its text
abbrev pub report_text : ReportSettings → List ReporterEvent → List ℕ
report_text settings told = pieces_bytes settings (report_pieces settings told)
