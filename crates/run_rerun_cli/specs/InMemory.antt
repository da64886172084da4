-- Stores in memory.
use Rattle.std.specs.Prelude.{ℕ, ◌≡◌, ◌+◌, ◌-◌, ◌^◌, List, [], ◌∷◌, min, Bool, Option, Some, None, bytes_eq}
use Rattle.std.specs.Prelude.{if◌then◌else◌}
use Rattle.run_capture.specs.InMemory.{MemoryRead}
use Rattle.run_rerun_cli.specs.declared.counted_source.CountedSource.{CountedSource}
use Rattle.run_rerun_cli.specs.declared.memory_stores.MemoryStore.{MemoryStore}
use Rattle.run_rerun_cli.specs.declared.memory_stores.MemoryStores.{MemoryStores}
use Rattle.run_rerun_cli.specs.Visits.{StoreAct, opened, unopened, given_back}

-- the bytes of the first store with a name
abbrev pub bytes_named : List MemoryStore → List ℕ → Option (List ℕ)
bytes_named [] name = None
bytes_named (store ∷ stores) name = if bytes_eq store.name name then Some store.bytes else bytes_named stores name

-- how often a store was opened, and given back
abbrev pub openings : List StoreAct → ℕ
openings [] = 0
openings (opened name ∷ acts) = openings acts + 1
openings (unopened name ∷ acts) = openings acts
openings (given_back ∷ acts) = openings acts

abbrev pub returns_in : List StoreAct → ℕ
returns_in [] = 0
returns_in (opened name ∷ acts) = returns_in acts
returns_in (unopened name ∷ acts) = returns_in acts
returns_in (given_back ∷ acts) = returns_in acts + 1

-- stores in memory count what was done with them; a count stays at the greatest u64
pub record HasCounted (stores : MemoryStores) (acts : List StoreAct) : Type 0 where
  pub opened_so : stores.opened ≡ min (openings acts) (2 ^ 64 - 1)
  pub returned_so : stores.returned ≡ min (returns_in acts) (2 ^ 64 - 1)

-- how often stores in memory have failed
abbrev pub failed_so : MemoryStores → ℕ
failed_so stores = stores.faults

-- the bytes that a source in memory has left
abbrev pub memory_left : CountedSource MemoryRead → Option (List ℕ)
memory_left source = Some source.inner.left
