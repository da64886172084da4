-- The pieces of the run's own events.
use Rattle.std.specs.Prelude.{ℕ, true, ◌+◌, ◌-◌, ◌==◌, nat_lt, if◌then◌else◌, List, [], ◌∷◌, ◌++◌, Option, Some, None}
use Rattle.std.specs.Prelude.{codes}
use Rattle.std.specs.Prelude.{decimal}
use Rattle.uuid.specs.Text.{hyphenated_text, lower}
use Rattle.run_events.specs.declared.cancel.CancelReason.{CancelReason}
use Rattle.run_events.specs.declared.events.JobControlled.{JobControlled}
use Rattle.run_events.specs.declared.events.RunCancelled.{RunCancelled}
use Rattle.run_events.specs.declared.events.RunStarted.{RunStarted}
use Rattle.run_events.specs.declared.stats.RunStats.{RunStats}
use Rattle.run_events.specs.declared.stress.StressProgress.{StressProgress}
use Rattle.run_events.specs.declared.stress.StressProgress.TheVariants as progress
use Rattle.run_report.specs.declared.style.Style.TheVariants as styles
use Rattle.run_report.specs.Finished.{piece_if}
use Rattle.run_report.specs.Pieces.{Piece, rule, summary, warning, words}
use Rattle.run_report.specs.Texts.{plural_text, seconds_text}
use Rattle.run_report.specs.Words.{reason_text}

-- what is said of the run that starts
unfoldable pub run_text : RunStarted → List ℕ
run_text started = codes "ID " ++ (hyphenated_text lower started.run_id
    ++ (codes " with nextest profile: " ++ started.profile))

-- a line of dashes, and a line that is a word and what is said
abbrev pub titled_pieces : List ℕ → List ℕ → List Piece
titled_pieces word said = rule ∷ words styles.Green word said ∷ []

-- which run it is
abbrev pub run_pieces : RunStarted → List Piece
run_pieces started = titled_pieces (codes "Nextest run") (run_text started)

-- how many tests it has
abbrev pub tests_piece : RunStarted → Piece
tests_piece started = words styles.Green (codes "Starting") (plural_text started.tests (codes "test"))

-- the start of a run
unfoldable pub start_pieces : RunStarted → List Piece
start_pieces started = run_pieces started ++ piece_if true (tests_piece started)

-- what is said of the sub-run that starts, after so many that took so long
abbrev pub next_run_text : ℕ → ℕ → List ℕ
next_run_text ended elapsed = codes "iteration " ++ (decimal (ended + 1) ++ (codes " ("
    ++ (seconds_text elapsed ++ codes "s elapsed so far)")))

abbrev pub sub_run_text : StressProgress → List ℕ
sub_run_text (progress.Count total elapsed completed) = next_run_text completed elapsed
sub_run_text (progress.Time total elapsed completed) = next_run_text completed elapsed

-- the start of a sub-run
abbrev pub sub_run_pieces : StressProgress → List Piece
sub_run_pieces so_far = titled_pieces (codes "Stress test") (sub_run_text so_far)

-- why a run didn't go on
abbrev pub why_text : Option CancelReason → List ℕ
why_text (Some reason) = reason_text reason
why_text None = codes "an end before they ran"

-- what still runs: scripts, or else tests
abbrev pub still_text : ℕ → ℕ → List ℕ
still_text running scripts = if nat_lt 0 scripts then plural_text scripts (codes "setup script")
    else plural_text running (codes "test")

-- what is said of a run that is cancelled or killed
abbrev pub cancel_text : RunCancelled → List ℕ
cancel_text cancelled = codes "due to " ++ (why_text cancelled.stats.cancel_reason ++ (codes ": "
    ++ (still_text cancelled.running cancelled.scripts_running ++ codes " still running")))

-- what is stopped or goes on: scripts, or else tests
abbrev pub job_text : JobControlled → List ℕ
job_text job = (if nat_lt 0 job.scripts_running then plural_text job.scripts_running (codes "setup script")
    else plural_text job.running (codes "running test")) ++ codes " due to signal"

-- what is said where not all tests ran
abbrev pub unrun_noun : ℕ → List ℕ
unrun_noun all = if all == 1 then codes " test was not run due to " else codes " tests were not run due to "

abbrev pub unrun_text : RunStats → List ℕ
unrun_text stats = decimal (stats.initial_run_count - stats.finished_count) ++ (codes "/"
    ++ (decimal stats.initial_run_count ++ (unrun_noun stats.initial_run_count ++ why_text stats.cancel_reason)))

-- that not all tests ran
abbrev pub unrun_pieces : RunStats → List Piece
unrun_pieces stats = piece_if (nat_lt stats.finished_count stats.initial_run_count) (warning (unrun_text stats))

-- a line of dashes, and the counts of a run or a sub-run that took so long
abbrev pub count_pieces : ℕ → RunStats → List Piece
count_pieces elapsed stats = rule ∷ summary elapsed stats ∷ []

-- the end of a run or a sub-run: its counts, the lines that are shown again, and whether all ran
unfoldable pub end_pieces : ℕ → RunStats → List Piece → List Piece
end_pieces elapsed stats late = (count_pieces elapsed stats ++ late) ++ unrun_pieces stats
