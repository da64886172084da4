-- The pieces of the end of a stress run, and of a rerun.
use Rattle.std.specs.Prelude.{ℕ, true, List, [], ◌∷◌, ◌++◌, Option, Some, None, codes, decimal}
use Rattle.std.specs.List.{flat_map}
use Rattle.run_events.specs.declared.events.TestsNotSeen.{TestsNotSeen}
use Rattle.run_events.specs.declared.outcome.FinalRunStats.{FinalRunStats}
use Rattle.run_events.specs.declared.outcome.FinalRunStats.TheVariants.{Success}
use Rattle.run_events.specs.declared.plan.TestInstanceId.{TestInstanceId}
use Rattle.run_events.specs.declared.stress.StressRunStats.{StressRunStats}
use Rattle.run_progress.specs.Lines.{name_text}
use Rattle.run_report.specs.declared.style.Style.{Style}
use Rattle.run_report.specs.declared.style.Style.TheVariants as styles
use Rattle.run_report.specs.Finished.{piece_if}
use Rattle.run_report.specs.Pieces.{Piece, rule, warning, words}
use Rattle.run_report.specs.Texts.{plural_text, took_text}

-- how many sub-runs there were to be, where they had an end
abbrev pub of_runs : Option ℕ → List ℕ
of_runs (Some total) = codes "/" ++ decimal total
of_runs None = []

-- how many passed and failed
unfoldable pub passed_runs : StressRunStats → List ℕ
passed_runs stats = codes " stress run iterations: " ++ (decimal stats.success_count ++ (codes " passed, "
    ++ (decimal stats.failed_count ++ codes " failed")))

-- what is said of the end of a stress run
unfoldable pub stress_text : ℕ → StressRunStats → List ℕ
stress_text elapsed stats = took_text elapsed ++ (decimal stats.completed.current
    ++ (of_runs stats.completed.total ++ passed_runs stats))

-- green where the last sub-run was a success
abbrev pub last_style : FinalRunStats → Style
last_style Success = styles.Green
last_style _ = styles.Red

abbrev pub stress_style : StressRunStats → Style
stress_style stats = last_style stats.last_final_stats

-- the end of a stress run
abbrev pub stress_pieces : ℕ → StressRunStats → List Piece
stress_pieces elapsed stats = piece_if true rule
    ++ piece_if true (words (stress_style stats) (codes "Summary") (stress_text elapsed stats))

-- tests, one after another
abbrev pub all_named : List TestInstanceId → List ℕ
all_named [] = []
all_named (id ∷ ids) = name_text id ++ flat_map (λ other. codes ", " ++ name_text other) ids

-- what is said of tests that were expected and not seen
unfoldable pub unseen_said : TestsNotSeen → List ℕ
unseen_said tests = plural_text tests.total_not_seen (codes "test")
    ++ (codes " expected and not seen, as " ++ all_named tests.not_seen)

abbrev pub unseen_pieces : Option TestsNotSeen → List Piece
unseen_pieces (Some tests) = piece_if true (warning (unseen_said tests))
unseen_pieces None = []
