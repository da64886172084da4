-- What looking for the first item that is amiss answers.
use Rattle.std.specs.Prelude.{ℕ, ◌≡◌, ◌≤◌, ◌<◌, List, length, filter, Option, Some, None}
use Rattle.std.specs.List.{All}
use Rattle.run_events.specs.declared.plan.TestInstanceId.{TestInstanceId}
use Rattle.run_rerun.specs.declared.answers.ShardsVerdict.{ShardsVerdict}
use Rattle.run_rerun.specs.declared.answers.ShardsVerdict.TheVariants.{Whole, Cut, Other, Twice, Missing}
use Rattle.run_rerun.specs.declared.answers.StoredRun.{StoredRun}
use Rattle.run_rerun.specs.Shards.{IsFirstAmiss, passed_once, shards_with}

-- the place of the first item that is amiss, or that none is
abbrev pub FindsPlace : {X : Type 0} → (X → Type 0) → List X → Option ℕ → Type 0
FindsPlace {X} Right xs (Some place) = (x : X) × IsFirstAmiss Right xs place x
FindsPlace Right xs None = All Right xs

-- the same by the item
abbrev pub FindsItem : {X : Type 0} → (X → Type 0) → List X → Option X → Type 0
FindsItem Right xs (Some x) = (place : ℕ) × IsFirstAmiss Right xs place x
FindsItem Right xs None = All Right xs

-- what each verdict says of how many shards have these tests
abbrev pub SaysHad : List StoredRun → List TestInstanceId → ShardsVerdict → Type 0
SaysHad shards ids (Whole tests passed) = All (λ id. shards_with shards id ≡ 1) ids × (tests ≡ length ids)
    × (passed ≡ length (filter (passed_once shards) ids))
SaysHad shards ids (Twice id) = (place : ℕ) × IsFirstAmiss (λ id. shards_with shards id ≤ 1) ids place id
SaysHad shards ids (Missing id) = All (λ id. shards_with shards id ≤ 1) ids
    × ((place : ℕ) × IsFirstAmiss (λ id. 0 < shards_with shards id) ids place id)
SaysHad shards ids (Cut place) = ⊥
SaysHad shards ids (Other place) = ⊥
