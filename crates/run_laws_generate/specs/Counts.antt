-- The plan of a generated run, and how its children exit, by counts.
use Rattle.std.specs.Prelude.{ℕ, zero, pos, ◌≡◌, ◌≢◌, ◌+◌, ◌/◌, ◌==◌, List, length, map, count_by, Bool, true, false}
use Rattle.std.specs.Prelude.{Some, is_none, is_some, codes}
use Rattle.std.specs.List.{range_with_len}
use Rattle.run_events.specs.declared.plan.PlanTest.{PlanTest}
use Rattle.run_events.specs.declared.result.ChildExit.{ChildExit}
use Rattle.run_events.specs.declared.result.ChildExit.TheVariants.{Code}
use Rattle.run_events.specs.declared.turn.Turn.TheVariants.{Exit}
use Rattle.run_model.specs.declared.entry.Entry.{Entry}
use Rattle.run_model.specs.Attempts.{attempt_in, pieces_of}
use Rattle.run_model.specs.Backoff.{retry_count}
use Rattle.run_model.specs.Journal.{IsLegal, past_of}
use Rattle.run_model.specs.Words.{sub_run}
use Rattle.run_laws_events.specs.PlanLimits.{is_of_group}
use Rattle.run_generate.specs.Plan.{generated_plan, generated_settings}
use Rattle.run_generate.specs.Turns.{exit_at, next_turn}

-- how many tests of a generated plan are so
abbrev pub tests_that : (PlanTest → Bool) → ℕ → ℕ
tests_that is n = count_by is (generated_plan n).tests

-- whether a test is skipped, is in no group, takes so much of the limits, and is tried again so often
abbrev pub is_skipped : PlanTest → Bool
is_skipped test = is_some test.skip

abbrev pub is_ungrouped : PlanTest → Bool
is_ungrouped test = is_none test.group

abbrev pub weighs : ℕ → PlanTest → Bool
weighs weight test = test.weight == weight

abbrev pub is_repeated : ℕ → PlanTest → Bool
is_repeated count test = retry_count test.retries == count

-- of n tests every eleventh is skipped; every fifth is in the group `g`, from the first on, and the others in none;
-- every seventh is tried again, and once, from the fourth on; and every third takes 1 of the limits, from the first on,
-- 2, from the second on, or 3
pub record HasCounts (n : ℕ) : Type 0 where
  pub tests : length (generated_plan n).tests ≡ n
  pub skipped : tests_that is_skipped n ≡ n / 11
  pub grouped : tests_that (is_of_group (codes "g")) n ≡ (n + 4) / 5
  pub ungrouped : tests_that is_ungrouped n + (n + 4) / 5 ≡ n
  pub retried : tests_that (is_repeated 1) n ≡ (n + 3) / 7
  pub untried : tests_that (is_repeated 0) n + (n + 3) / 7 ≡ n
  pub light : tests_that (weighs 1) n ≡ (n + 2) / 3
  pub middle : tests_that (weighs 2) n ≡ (n + 1) / 3
  pub heavy : tests_that (weighs 3) n ≡ n / 3

-- that holds of each generated plan
abbrev pub PlansAreCounted : Type 0
PlansAreCounted = (n : ℕ) → HasCounts n

-- whether a child failed by how it exited
abbrev pub exits_badly : ChildExit → Bool
exits_badly (Code (pos zero)) = false
exits_badly exit = true

-- how many of n tests fail at the attempt of this number
abbrev pub failed_at : ℕ → ℕ → ℕ
failed_at attempt n = count_by exits_badly (map (λ k. exit_at k attempt) (range_with_len 0 n))

-- of n tests every thirteenth fails at each attempt, and at its first one each that is tried again; every 91st is both,
-- from the 39th on
pub record HasFailures (n : ℕ) : Type 0 where
  pub first : failed_at 1 n + (n + 52) / 91 ≡ n / 13 + (n + 3) / 7
  pub later : (attempt : ℕ) → attempt ≢ 1 → failed_at attempt n ≡ n / 13

abbrev pub FailuresAreCounted : Type 0
FailuresAreCounted = (n : ℕ) → HasFailures n

-- an exit that comes next after a legal journal is that of the attempt at which its unit is by its own turns
abbrev pub ExitsAreMade : Type 0
ExitsAreMade = (n : ℕ) (journal : List Entry) (k : ℕ) (exit : ChildExit) → IsLegal (generated_settings n) journal
    → next_turn (generated_settings n) journal ≡ Some (Exit k exit)
    → exit ≡ exit_at k (attempt_in (pieces_of k (sub_run (past_of (generated_settings n) journal))))
