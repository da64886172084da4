-- What is there of a record.
use Rattle.std.specs.Prelude.{ℕ, ◌≡◌, List, ◌++◌, length, None, true, false}
use Rattle.run_store.specs.Records.{framed, payload_in, Awaited, is_bad_length, is_bad}
use Rattle.run_store_io.specs.declared.record.Found.{Found}
use Rattle.run_store_io.specs.declared.record.Found.TheVariants.{Bad, Cut, Whole}

-- bytes begin with a record whose kind and length may stand at the place, and these bytes are after it
pub record IsRecord (awaited : Awaited) (bytes : List ℕ) (kind : ℕ) (payload after : List ℕ) : Type 0 where
  pub split : bytes ≡ framed kind payload ++ after
  pub may : awaited.kinds kind ≡ true
  pub fits : is_bad_length kind (length payload) ≡ false

-- this is there of a record
abbrev pub IsFound : Awaited → List ℕ → Found → Type 0
IsFound awaited bytes Bad = is_bad awaited bytes ≡ true
IsFound awaited bytes Cut = (is_bad awaited bytes ≡ false) × (payload_in bytes ≡ None)
IsFound awaited bytes (Whole kind payload after) = IsRecord awaited bytes kind payload.now after.now
