-- The stores that a call was given, before and after.
use Rattle.std.specs.Prelude.{ℕ, List, Option}
use Rattle.run_rerun_cli.specs.declared.stores.Stores.{Ghosts as OfStores}
use Rattle.run_rerun_cli.specs.Visits.{StoreAct, DoesNext}

-- stores before and after: the bytes of each name, where they are told, and how often they have failed
pub record Shelf : Type 0 where
  pub bytes : List ℕ → Option (List ℕ)
  pub faults : ℕ
  pub faults_after : ℕ

abbrev pub shelf_of : {T X : Type 0} → OfStores T X → T → T → Shelf
shelf_of t old new = record { bytes = t.bytes old; faults = t.faults old; faults_after = t.faults new }

-- just this was done with them, in order
abbrev pub doing_of : {T X : Type 0} → OfStores T X → T → T → List StoreAct → Type 0
doing_of t old new acts = DoesNext t.did old new acts
