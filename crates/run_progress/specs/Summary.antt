-- Counts of tests as they are shown.
use Rattle.std.specs.Prelude.{ℕ, nat_lt, if◌then◌else◌, List, [], ◌∷◌, ◌++◌, Option, None, Some, codes, decimal}
use Rattle.run_events.specs.declared.stats.RunStats.{RunStats}
use Rattle.run_events.specs.declared.cancel.CancelReason.{CancelReason}
use Rattle.run_events.specs.declared.cancel.CancelReason.TheVariants.{SecondSignal}
use Rattle.run_progress.specs.Texts.{right, bracket}

-- a count and what it counts, where it is above 0
abbrev pub count_text : ℕ → List ℕ → List (List ℕ)
count_text n words = if nat_lt 0 n then (decimal n ++ words) ∷ [] else []

-- texts, with a comma and a space between them
abbrev pub comma_joined : List (List ℕ) → List ℕ
comma_joined [] = []
comma_joined (text ∷ []) = text
comma_joined (text ∷ rest) = text ++ (codes ", " ++ comma_joined rest)

-- texts in parentheses, and nothing where there are none
abbrev pub in_parentheses : List (List ℕ) → List ℕ
in_parentheses [] = []
in_parentheses texts = codes " (" ++ (comma_joined texts ++ codes ")")

-- which of the passed tests were slow, flaky and leaky
unfoldable pub passed_kinds : RunStats → List ℕ
passed_kinds stats = in_parentheses
    (count_text stats.passed_slow (codes " slow") ++ (count_text stats.flaky (codes " flaky")
    ++ count_text stats.leaky (codes " leaky")))

-- which of the failed tests failed for a leak
abbrev pub failed_kinds : RunStats → List ℕ
failed_kinds stats = in_parentheses (count_text stats.leaky_failed (codes " due to being leaky"))

-- each part that isn't left out, in order
abbrev pub summary_parts : RunStats → List (List ℕ)
summary_parts stats = (decimal stats.passed ++ (codes " passed" ++ passed_kinds stats))
    ∷ (count_text stats.failed (codes " failed" ++ failed_kinds stats)
    ++ (count_text stats.exec_failed (codes " exec failed")
    ++ (count_text stats.failed_timed_out (codes " timed out")
    ++ ((decimal stats.skipped ++ codes " skipped") ∷ []))))

-- how many tests passed, failed, and were skipped
unfoldable pub summary_text : RunStats → List ℕ
summary_text stats = comma_joined (summary_parts stats)

-- what the run does
abbrev pub doing : Option CancelReason → List ℕ
doing None = codes "Running"
doing (Some SecondSignal) = codes "Killing"
doing (Some reason) = codes "Cancelling"

-- what the run does, for how long, and how many of its tests have finished
unfoldable pub head_text : ℕ → RunStats → List ℕ
head_text elapsed stats = right 12 (doing stats.cancel_reason) ++ (codes " " ++ (bracket elapsed
    ++ (decimal stats.finished_count ++ (codes "/" ++ (decimal stats.initial_run_count ++ codes ": ")))))

-- how many tests run, and how the finished ones ended
unfoldable pub counts_text : ℕ → RunStats → List ℕ
counts_text running stats = decimal running ++ (codes " running, " ++ summary_text stats)

-- a run's progress, in one line
abbrev pub progress_text : ℕ → RunStats → ℕ → List ℕ
progress_text elapsed stats running = head_text elapsed stats ++ counts_text running stats
