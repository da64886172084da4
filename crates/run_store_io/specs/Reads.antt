-- What reading a store answers.
use Rattle.std.specs.Prelude.{ℕ, ◌≡◌, ◌<◌, ◌≤◌, ◌^◌, List, drop, length, ⊤, Option, Bool, true, false, Result, Ok, Err}
use Rattle.std.specs.Prelude.{if◌then◌else◌}
use Rattle.run_capture.specs.Bytes.{Gives, AtEnd}
use Rattle.run_store.specs.Stores.{header, agrees, whole, torn, no_plan, bad, IsReading}
use Rattle.run_store_io.specs.declared.error.StoreError.{StoreError}
use Rattle.run_store_io.specs.declared.error.StoreError.TheVariants.{Read, TooLong, Bad, NoPlan, OutOfMemory}
use Rattle.run_store_io.specs.Steps.{AreRecords}
use Rattle.run_store_io.specs.declared.stored.Stored.{Stored}

-- the most bytes of a store that is read
abbrev pub most_stored : ℕ
most_stored = 2 ^ 25

-- bytes are read so: whole, torn, with no plan or with a bad record; want of memory says nothing of them
abbrev pub IsReadAs : List ℕ → Result Stored StoreError → Type 0
IsReadAs bytes (Ok s) = IsReading bytes (if s.whole then whole s.plan s.turns else torn s.plan s.turns)
IsReadAs bytes (Err NoPlan) = IsReading bytes no_plan
IsReadAs bytes (Err (Bad place)) = IsReading bytes (bad place)
IsReadAs bytes (Err OutOfMemory) = ⊤
IsReadAs bytes (Err _) = ⊥

-- a plan line and the records after it are read so
abbrev pub IsReadAfter : List ℕ → List ℕ → Result Stored StoreError → Type 0
IsReadAfter plan records (Ok s) = (s.plan ≡ plan) × AreRecords records (Ok (s.turns, s.whole))
IsReadAfter plan records (Err e) = AreRecords records (Err e)

-- bytes after a header are read so, as far as the header is there
abbrev pub IsReadHeaded : List ℕ → Result Stored StoreError → Type 0
IsReadHeaded rest result = (bytes : List ℕ) → agrees bytes header ≡ true → drop 8 bytes ≡ rest → IsReadAs bytes result

-- whether the source failed
abbrev pub source_failed : {T : Type 0} → Result T StoreError → Bool
source_failed (Err Read) = true
source_failed _ = false

-- what a source gave is read so: all that it had left, and no more than a store may have; or it failed, or gave more,
-- or memory was wanting, and what it gave is lost
abbrev pub ReadsStore : Option (List ℕ) → Option (List ℕ) → Result Stored StoreError → Type 0
ReadsStore before after (Err Read) = (lost : List ℕ) × Gives before after lost × (length lost ≤ most_stored)
ReadsStore before after (Err TooLong) = (lost : List ℕ) × Gives before after lost × (most_stored < length lost)
ReadsStore before after (Err OutOfMemory) = (lost : List ℕ) × Gives before after lost
ReadsStore before after result =
    (bytes : List ℕ) × Gives before after bytes × AtEnd after × (length bytes ≤ most_stored) × IsReadAs bytes result
