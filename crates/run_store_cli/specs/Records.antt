-- How recording an input ends.
use Rattle.std.specs.Prelude.{ℕ, ◌≡◌, ◌⊎◌, ◌≤◌, List, Bool, true, false}
use Rattle.run_output.specs.declared.fault.Fault.{Fault}
use Rattle.run_output.specs.declared.fault.Fault.TheVariants.{Line, Read, TooLong, Memory}
use Rattle.run_store_io.specs.Recorded.{HasRecorded, HasRecordedPart}
use Rattle.run_store_io.specs.declared.error.StoreError.{StoreError}
use Rattle.run_store_io.specs.declared.error.StoreError.TheVariants.{Write, OutOfMemory, TooLong as TooManyBytes}
use Rattle.run_cli.specs.Call.{Reading, Writing, HasReadFault, HasWriteFault, Writes}
use Rattle.run_cli.specs.Given.{IsAllOf, IsWithin, IsTooLong, HasBadLine}
use Rattle.run_cli.specs.Short.{IsShort}
use Rattle.run_cli.specs.Text.{fault_only}

-- how it ends: the store was written; a line is bad; the sink failed, or the source; the source gave too much; memory
-- was wanting
pub data RecordEnd : Type 0 where
  recorded : RecordEnd
  bad_line : ℕ → RecordEnd
  unwritten : RecordEnd
  unread : RecordEnd
  too_much : RecordEnd
  unstorable : RecordEnd
  no_memory : RecordEnd

-- the status of each end
abbrev pub record_status : RecordEnd → ℕ
record_status recorded = 0
record_status (bad_line number) = 3
record_status unwritten = 9
record_status unread = 10
record_status too_much = 12
record_status unstorable = 12
record_status no_memory = 11

-- the status of a store that wasn't written whole
abbrev pub store_error_status : StoreError → ℕ
store_error_status Write = 9
store_error_status TooManyBytes = 12
store_error_status _ = 11

-- where memory was wanting: a front part of a fault's line went out, and then of memory's, or that alone; or, of the
-- store text of the input, nothing or a front part, and not all
abbrev pub RecordsShort : Reading → Writing → Type 0
RecordsShort r w =
    ((fault : Fault) × IsShort (fault_only fault) w)
    ⊎ (Writes w (fault_only Memory)
    ⊎ ((bytes : List ℕ) × IsAllOf r bytes × ((w.taken_after ≡ w.taken)
    ⊎ HasRecordedPart bytes w.taken w.taken_after OutOfMemory)))

-- what each end says of what was read and written
abbrev pub IsRecordEnd : Reading → Writing → RecordEnd → Type 0
IsRecordEnd r w recorded =
    (bytes : List ℕ) × IsAllOf r bytes × HasRecorded bytes w.taken w.taken_after × (w.faults_after ≡ w.faults)
IsRecordEnd r w (bad_line number) = HasBadLine r number × Writes w (fault_only (Line number))
IsRecordEnd r w unwritten =
    (bytes : List ℕ) × IsAllOf r bytes × HasRecordedPart bytes w.taken w.taken_after Write
    × (w.faults ≤ w.faults_after) × HasWriteFault w
IsRecordEnd r w unread = IsWithin r × HasReadFault r × Writes w (fault_only Read)
IsRecordEnd r w too_much = IsTooLong r × Writes w (fault_only TooLong)
IsRecordEnd r w unstorable =
    (bytes : List ℕ) × IsAllOf r bytes × HasRecordedPart bytes w.taken w.taken_after TooManyBytes
    × (w.faults_after ≡ w.faults)
IsRecordEnd r w no_memory = RecordsShort r w

-- whether the source failed in no end of this kind
abbrev pub is_sound : RecordEnd → Bool
is_sound unread = false
is_sound no_memory = false
is_sound _ = true

-- recording ends so, with the status of that end
pub record RecordsSo (r : Reading) (w : Writing) (status : ℕ) : Type 0 where
  pub end : RecordEnd
  pub status_is : status ≡ record_status end
  pub says : IsRecordEnd r w end
  pub sound : is_sound end ≡ true → r.faults_after ≡ r.faults
