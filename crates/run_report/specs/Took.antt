-- What a sink took of a text.
use Rattle.std.specs.Prelude.{ℕ, ◌≤◌, List, length, take, Option, Result, Ok, Err}
use Rattle.run_capture.specs.Bytes.{Takes}

-- a front part of it
abbrev pub TookFront : Option (List ℕ) → Option (List ℕ) → List ℕ → Type 0
TookFront before now text = (n : ℕ) × (n ≤ length text) × Takes before now (take n text)

-- all of it, or a front part where the call failed
abbrev pub TookPart : {T E : Type 0} → Option (List ℕ) → Option (List ℕ) → List ℕ → Result T E → Type 0
TookPart before now text (Ok _) = Takes before now text
TookPart before now text (Err _) = TookFront before now text
