-- Which tests a run has, which of them passed in it, and which ones a chain of runs leaves outstanding.
use Rattle.std.specs.Prelude.{ℕ, suc, ◌≡◌, ◌==◌, List, [], ◌∷◌, map, length, filter, filter_map, Bool, false}
use Rattle.std.specs.Prelude.{if◌then◌else◌, not, Option, Some, None}
use Rattle.std.specs.List.{list_all, list_any}
use Rattle.std.specs.List.Sorted.{IsStrictlySortedBy}
use Rattle.std.specs.Option.{option_map_or, option_or}
use Rattle.run_events.specs.Stats.{adds_of}
use Rattle.run_events.specs.declared.events.ReporterEvent.{ReporterEvent}
use Rattle.run_events.specs.declared.events.ReporterEvent.TheVariants.{Test}
use Rattle.run_events.specs.declared.events.TestEventKind.{TestEventKind}
use Rattle.run_events.specs.declared.events.TestEventKind.TheVariants.{TestFinished}
use Rattle.run_events.specs.declared.message.TestFinish.{TestFinish}
use Rattle.run_events.specs.declared.plan.Plan.{Plan}
use Rattle.run_events.specs.declared.plan.PlanTest.{PlanTest}
use Rattle.run_events.specs.declared.plan.TestInstanceId.{TestInstanceId}
use Rattle.run_model.specs.Admission.{is_matched}
use Rattle.run_model.specs.Reruns.{id_order, is_one_test}
use Rattle.run_model.specs.Words.{finished_test}
use Rattle.run_rerun.specs.declared.answers.RunTests.{RunTests}

-- the matched tests of a list whose first test is this unit, each with its unit, in order
abbrev pub matched_from : ℕ → List PlanTest → List (ℕ × TestInstanceId)
matched_from unit [] = []
matched_from unit (test ∷ tests) =
    if is_matched test then (unit, test.id) ∷ matched_from (suc unit) tests else matched_from (suc unit) tests

-- the tests that a run has: those of its plan that match, each with its unit, in plan order
abbrev pub tests_had : Plan → List (ℕ × TestInstanceId)
tests_had plan = matched_from (length plan.scripts) plan.tests

-- the finish of a test that an event tells, if it does
abbrev pub finish_told_in : TestEventKind → Option TestFinish
finish_told_in (TestFinished event) = Some event.finish
finish_told_in _ = None

abbrev pub finish_told : ReporterEvent → Option TestFinish
finish_told (Test event) = finish_told_in event.kind
finish_told _ = None

-- the finishes of the test with this unit that events tell, in order
abbrev pub finishes_of : ℕ → List ReporterEvent → List TestFinish
finishes_of unit events = filter (λ f. f.test.unit == unit) (filter_map finish_told events)

-- whether a finish adds to the tests that passed
abbrev pub adds_pass : TestFinish → Bool
adds_pass finish = (adds_of (finished_test finish)).passed == 1

-- some finishes are passes: there is one at least, and each of them is
abbrev pub are_passes : List TestFinish → Bool
are_passes [] = false
are_passes (finish ∷ finishes) = list_all adds_pass (finish ∷ finishes)

-- whether the test with this unit passed, by the events told
abbrev pub is_told_passed : List ReporterEvent → ℕ → Bool
is_told_passed events unit = are_passes (finishes_of unit events)

-- the tests that a run of a plan has, and those of them that passed by the events told
abbrev pub ids_had : Plan → List TestInstanceId
ids_had plan = map (λ t. t.1) (tests_had plan)

abbrev pub ids_passed : Plan → List ReporterEvent → List TestInstanceId
ids_passed plan events = map (λ t. t.1) (filter (λ t. is_told_passed events t.0) (tests_had plan))

-- whether a test is among some
abbrev pub has_id : List TestInstanceId → TestInstanceId → Bool
has_id ids id = list_any (is_one_test id) ids

-- the latest run of a chain, oldest first, that has a test
abbrev pub latest : TestInstanceId → List RunTests → Option RunTests
latest id [] = None
latest id (run ∷ later) = option_or (latest id later) (if has_id run.has id then Some run else None)

-- whether a chain leaves a test outstanding: a run has it, and it didn't pass in the latest of those
abbrev pub is_outstanding : List RunTests → TestInstanceId → Bool
is_outstanding chain id = option_map_or (λ run. not (has_id run.passed id)) (latest id chain) false

-- these are the outstanding tests of a chain, in ascending order, each of them once
pub record AreOutstanding (chain : List RunTests) (ids : List TestInstanceId) : Type 0 where
  pub ascending : IsStrictlySortedBy id_order ids
  pub exactly : (id : TestInstanceId) → has_id ids id ≡ is_outstanding chain id
