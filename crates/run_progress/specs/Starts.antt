-- Running tests beside the numbers of their starts.
use Rattle.std.specs.Prelude.{ℕ, ◌≡◌, ◌<◌, Bool, false, List, map, Option, None, Some, IfSome}
use Rattle.std.specs.BTreeMap.{is_at}
use Rattle.std.specs.List.{AllByRecursion}
use Rattle.std.specs.List.Sorted.{IsStrictlySortedBy}
use Rattle.std.specs.Map.{keys_of, remove_entry, set_value}
use Rattle.std.specs.Ordering.{nat_cmp}
use Rattle.run_events.specs.declared.plan.TestInstanceId.{TestInstanceId}
use Rattle.run_progress.specs.declared.running_test.RunningTest.{RunningTest}
use Rattle.run_progress.specs.declared.running_test.RunningTestStatus.TheVariants as statuses
use Rattle.run_progress.specs.Deeds.{is_same}
use Rattle.run_progress.specs.Edits.{paused_more}

-- whether a test's last start, if it has one, has this number
abbrev pub is_start : Option ℕ → ℕ → Bool
is_start None number = false
is_start (Some last) number = is_at (nat_cmp last) number

-- tests with the numbers of their starts: they are in order, the test of an id is exactly that at the id's last start,
-- and the next start comes after each
pub record FindsEach (last_start : TestInstanceId → Option ℕ) (next : ℕ) (tests : List (ℕ × RunningTest)) : Type 0 where
  pub ordered : IsStrictlySortedBy nat_cmp (keys_of tests)
  pub found : (id : TestInstanceId) → AllByRecursion (λ e. is_same e.1.test id ≡ is_start (last_start id) e.0) tests
  pub tests_before : AllByRecursion (λ e. e.0 < next) tests
  pub starts_before : (id : TestInstanceId) → IfSome (last_start id) (λ number. number < next)

-- the tests but that of a start
abbrev pub without_start : Option ℕ → List (ℕ × RunningTest) → List (ℕ × RunningTest)
without_start None tests = tests
without_start (Some number) tests = remove_entry (is_at (nat_cmp number)) tests

-- tests, of which that of a start is slow where there is one
abbrev pub slow_where : Option RunningTest → ℕ → List (ℕ × RunningTest) → List (ℕ × RunningTest)
slow_where None number tests = tests
slow_where (Some running) number tests =
    set_value (is_at (nat_cmp number)) tests (record running { status = statuses.Slow })

-- tests after one more pause
abbrev pub paused_each : ℕ → List (ℕ × RunningTest) → List (ℕ × RunningTest)
paused_each pause tests = map (λ e. (e.0, paused_more pause e.1)) tests
