-- The records of a store: what each is, and which bytes no record has.
use Rattle.std.specs.Prelude.{ℕ, ◌^◌, ◌==◌, ◌&&◌, ◌||◌, List, [], ◌∷◌, ◌++◌, length, take, Option, Some, None, Bool}
use Rattle.std.specs.Prelude.{false, if◌then◌else◌, not, nat_lt}
use Rattle.std.specs.Option.{option_map_or}
use Rattle.std.specs.Int.{w32, to_be_bytes, from_be_bytes}

-- the most bytes of a payload
abbrev pub most_bytes : ℕ
most_bytes = 2 ^ 24

-- a record: its kind, the length of its payload as four bytes, and the payload
abbrev pub framed : ℕ → List ℕ → List ℕ
framed kind payload = kind ∷ (to_be_bytes w32 (length payload) ++ payload)

-- so many bytes at the front of a list, if it has them
abbrev pub first_bytes : ℕ → List ℕ → Option (List ℕ)
first_bytes n bytes = if nat_lt (length bytes) n then None else Some (take n bytes)

-- the length that a record says, if its four bytes are there
abbrev pub length_in : List ℕ → Option ℕ
length_in (kind ∷ a ∷ b ∷ c ∷ d ∷ bytes) = Some (from_be_bytes w32 (a ∷ b ∷ c ∷ d ∷ []))
length_in _ = None

-- the payload of a record, if all its bytes are there
abbrev pub payload_in : List ℕ → Option (List ℕ)
payload_in (kind ∷ a ∷ b ∷ c ∷ d ∷ bytes) = first_bytes (from_be_bytes w32 (a ∷ b ∷ c ∷ d ∷ [])) bytes
payload_in _ = None

-- the records that may stand at a place: those of these kinds that have such a payload
pub record Awaited : Type 0 where
  pub kinds : ℕ → Bool
  pub payloads : ℕ → List ℕ → Bool

-- a length that no record of this kind has
abbrev pub is_bad_length : ℕ → ℕ → Bool
is_bad_length kind n = nat_lt most_bytes n || (kind == 3 && not (n == 4))

-- a kind with the length and the payload that are there is of no record that may stand at the place
abbrev pub is_bad_of : Awaited → ℕ → Option ℕ → Option (List ℕ) → Bool
is_bad_of awaited kind said payload =
    not (awaited.kinds kind)
    || (option_map_or (is_bad_length kind) said false
    || option_map_or (λ payload. not (awaited.payloads kind payload)) payload false)

-- bytes, as far as they are there, begin no record that may stand at the place
abbrev pub is_bad : Awaited → List ℕ → Bool
is_bad awaited [] = false
is_bad awaited (kind ∷ bytes) =
    is_bad_of awaited kind (length_in (kind ∷ bytes)) (payload_in (kind ∷ bytes))
