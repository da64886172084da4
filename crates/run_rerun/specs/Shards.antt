-- Whether recorded shards of one plan are together the whole of it.
use Rattle.std.specs.Prelude.{ℕ, ◌≡◌, ◌<◌, ◌≤◌, List, [], ◌∷◌, length, map, filter, slice_get, Bool, true, false}
use Rattle.std.specs.Prelude.{◌&&◌, if◌then◌else◌, Option, Some, None, codes, bytes_eq, count_by}
use Rattle.std.specs.List.{All, list_any, slice_index_or}
use Rattle.std.specs.Option.{option_map_or}
use Rattle.run_events.specs.declared.plan.PlanTest.{PlanTest}
use Rattle.run_events.specs.declared.plan.TestInstanceId.{TestInstanceId}
use Rattle.run_input.specs.Input.{plan_line_of}
use Rattle.run_model.specs.Admission.{is_matched}
use Rattle.run_rerun.specs.declared.answers.ShardsVerdict.{ShardsVerdict}
use Rattle.run_rerun.specs.declared.answers.ShardsVerdict.TheVariants.{Whole, Cut, Other, Twice, Missing}
use Rattle.run_rerun.specs.declared.answers.StoredRun.{StoredRun}
use Rattle.run_rerun.specs.Outstanding.{has_id}

-- whether a test is skipped because it is of another part
abbrev pub is_parted : Option (List ℕ) → Bool
is_parted None = false
is_parted (Some reason) = bytes_eq reason (codes "partition")

-- a test as the whole plan has it
abbrev pub unparted : PlanTest → PlanTest
unparted test = if is_parted test.skip then record test { skip = None } else test

-- the tests of the whole plan, by the plan line of a shard
abbrev pub whole_tests : List ℕ → List PlanTest
whole_tests line = option_map_or (λ said. map unparted said.1.tests) (plan_line_of line) []

-- those of them that are wanted: all that are skipped for no other reason
abbrev pub wanted_of : List PlanTest → List TestInstanceId
wanted_of tests = map (λ test. test.id) (filter is_matched tests)

-- the plan line of the first shard, and the tests that it wants
abbrev pub first_line : List StoredRun → List ℕ
first_line [] = []
first_line (shard ∷ shards) = shard.line

abbrev pub tests_wanted : List StoredRun → List TestInstanceId
tests_wanted shards = wanted_of (whole_tests (first_line shards))

-- whether a shard is complete: its store is whole, and its run is over
abbrev pub is_entire : StoredRun → Bool
is_entire shard = shard.whole && shard.tests.over

-- how many shards have a test, and whether it passed in some
abbrev pub shards_with : List StoredRun → TestInstanceId → ℕ
shards_with shards id = count_by (λ shard. has_id shard.tests.has id) shards

abbrev pub passed_once : List StoredRun → TestInstanceId → Bool
passed_once shards id = list_any (λ shard. has_id shard.tests.passed id) shards

-- all shards are complete; and their plans have the same tests, but for which are skipped because they are of another
-- part
abbrev pub AreComplete : List StoredRun → Type 0
AreComplete shards = All (λ shard. is_entire shard ≡ true) shards

abbrev pub AreOfOnePlan : List StoredRun → Type 0
AreOfOnePlan shards = All (λ shard. whole_tests shard.line ≡ whole_tests (first_line shards)) shards

-- shards are together the whole of one plan: each is complete, and each test that the plan wants is in exactly one
pub record AreWhole (shards : List StoredRun) : Type 0 where
  pub complete : AreComplete shards
  pub one_plan : AreOfOnePlan shards
  pub once : All (λ id. shards_with shards id ≡ 1) (tests_wanted shards)

-- the item at a place is the first that isn't as it is to be
pub record IsFirstAmiss {X : Type 0} (Right : X → Type 0) (xs : List X) (place : ℕ) (x : X) : Type 0 where
  pub at : slice_get xs place ≡ Some x
  pub amiss : ¬ Right x
  pub before : (k : ℕ) (d : X) → k < place → Right (slice_index_or xs k d)

-- what each verdict says of shards
abbrev pub SaysShards : List StoredRun → ShardsVerdict → Type 0
SaysShards shards (Whole tests passed) =
    AreWhole shards × (tests ≡ length (tests_wanted shards))
    × (passed ≡ length (filter (passed_once shards) (tests_wanted shards)))
SaysShards shards (Cut place) =
    (shard : StoredRun) × IsFirstAmiss (λ shard. is_entire shard ≡ true) shards place shard
SaysShards shards (Other place) = AreComplete shards × ((shard : StoredRun)
    × IsFirstAmiss (λ shard. whole_tests shard.line ≡ whole_tests (first_line shards)) shards place shard)
SaysShards shards (Twice id) = AreComplete shards × AreOfOnePlan shards
    × ((place : ℕ) × IsFirstAmiss (λ id. shards_with shards id ≤ 1) (tests_wanted shards) place id)
SaysShards shards (Missing id) = AreComplete shards × AreOfOnePlan shards
    × All (λ id. shards_with shards id ≤ 1) (tests_wanted shards)
    × ((place : ℕ) × IsFirstAmiss (λ id. 0 < shards_with shards id) (tests_wanted shards) place id)
