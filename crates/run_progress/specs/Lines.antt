-- The lines of a display.
use Rattle.std.specs.Prelude.{ℕ, ◌-◌, ◌==◌, nat_lt, max, if◌then◌else◌, List, [], ◌∷◌, ◌++◌, length, take, drop, map}
use Rattle.std.specs.Prelude.{replicate, codes, decimal, encode_utf8_all}
use Rattle.std.specs.List.{flat_map}
use Rattle.std.specs.Str.{chars}
use Rattle.run_events.specs.declared.plan.TestInstanceId.{TestInstanceId}
use Rattle.run_events.specs.declared.retry_policy.RunMode.{RunMode}
use Rattle.run_events.specs.declared.retry_policy.RunMode.TheVariants as modes
use Rattle.run_progress.specs.declared.max_running.MaxProgressRunning.{MaxProgressRunning}
use Rattle.run_progress.specs.declared.max_running.MaxProgressRunning.TheVariants.{Count, Infinite}
use Rattle.run_progress.specs.declared.running_test.RunningTest.{RunningTest}
use Rattle.run_progress.specs.declared.running_test.RunningTestStatus.{RunningTestStatus}
use Rattle.run_progress.specs.declared.running_test.RunningTestStatus.TheVariants as statuses
use Rattle.run_progress.specs.declared.seen.Seen.{Seen}
use Rattle.run_progress.specs.declared.lines.Showing.{Showing}
use Rattle.run_progress.specs.Seen.{shows_tests}
use Rattle.run_progress.specs.Summary.{counts_text, head_text}
use Rattle.run_progress.specs.Texts.{bracket}

-- a status, in five columns
abbrev pub status_text : RunningTestStatus → List ℕ
status_text statuses.Running = codes "     "
status_text statuses.Slow = codes " SLOW"
status_text (statuses.Delay delay) = codes "DELAY"
status_text statuses.Retry = codes "RETRY"

-- the time that a status shows, from the time since the start: while the next attempt is waited for, what is left
abbrev pub shown_time : RunningTestStatus → ℕ → ℕ
shown_time statuses.Running age = age
shown_time statuses.Slow age = age
shown_time (statuses.Delay delay) age = delay - age
shown_time statuses.Retry age = age

-- a text of at most so many characters: of a longer one, three dots and its last characters
unfoldable pub cut : ℕ → List ℕ → List ℕ
cut most text = if nat_lt most (length (chars text))
    then codes "..." ++ encode_utf8_all (drop (length (chars text) - (most - 3)) (chars text)) else text

-- how many characters a name has at most, on a terminal of this width
abbrev pub name_width : ℕ → ℕ
name_width width = max width 40 - 25

-- a test by its binary and its name
abbrev pub name_text : TestInstanceId → List ℕ
name_text test = test.binary ++ (codes " " ++ test.name)

-- a running test: its status, its time without its pauses, and its name
unfoldable pub test_line : ℕ → ℕ → RunningTest → List ℕ
test_line now width test = codes "       " ++ (status_text test.status ++ (codes " "
    ++ (bracket (shown_time test.status (now - test.start - test.paused))
    ++ cut (name_width width) (name_text test.test))))

-- the first running tests, as many as are shown
abbrev pub shown_of : MaxProgressRunning → List RunningTest → List RunningTest
shown_of (Count most) tests = take most tests
shown_of Infinite tests = tests

-- what the tests of a run are called, one and several
abbrev pub noun : RunMode → ℕ → List ℕ
noun modes.Test n = if n == 1 then codes "test" else codes "tests"
noun modes.Benchmark n = if n == 1 then codes "benchmark" else codes "benchmarks"

-- how many more tests run, where some aren't shown
abbrev pub more_lines : RunMode → ℕ → List (List ℕ)
more_lines mode more = if more == 0 then []
    else (codes "             ... and " ++ (decimal more ++ (codes " more "
    ++ (noun mode more ++ codes " running")))) ∷ []

-- the lines of the running tests
unfoldable pub test_lines : Showing → ℕ → ℕ → List RunningTest → List (List ℕ)
test_lines showing now width tests = map (test_line now width) (shown_of showing.max tests)
    ++ more_lines showing.mode (length tests - length (shown_of showing.max tests))

-- each line with a line feed before it
abbrev pub below : List (List ℕ) → List ℕ
below lines = flat_map (λ line. 10 ∷ line) lines

-- the lines, and as many empty ones as make up the most lines that were shown so far
abbrev pub filled : ℕ → List (List ℕ) → List ℕ
filled most lines = below lines ++ replicate (most - length lines) 10

-- the counts, and where running tests are shown, their lines
unfoldable pub message_text : Showing → Seen → ℕ → ℕ → List ℕ
message_text showing seen now width = counts_text seen.counts.running seen.counts.stats ++ (codes "     "
    ++ (if shows_tests showing.max then filled showing.most_lines (test_lines showing now width seen.tests) else []))

-- after a message the most lines shown so far may be those of it
unfoldable pub shown_after : Showing → Seen → ℕ → ℕ → Showing
shown_after showing seen now width = if shows_tests showing.max
    then record showing { most_lines = max showing.most_lines (length (test_lines showing now width seen.tests)) }
    else showing

-- what the run does, for how long without its pauses, how many of its tests have finished, and the message
unfoldable pub tick_of : Showing → Seen → ℕ → ℕ → List ℕ
tick_of showing seen now width = head_text (now - seen.paused) seen.counts.stats ++ message_text showing seen now width
