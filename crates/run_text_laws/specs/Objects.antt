-- What stands at the keys of an object of fields.
use Rattle.std.specs.Prelude.{ℕ, suc, ◌≡◌, ◌≤◌, List, [], ◌∷◌, Option, None, if◌then◌else◌, IsUtf8, IfSome, bytes_eq, ⊤}
use Rattle.std.specs.Option.{option_or}
use Rattle.serde_json.specs.Data.{Data, depth}
use Rattle.serde_json.specs.Find.{get}
use Rattle.run_output.specs.Fields.{object_of}
use Rattle.run_text_laws.specs.Plain.{IsPlain}

-- the last value that a field has for a key, and what stood there before if none has one
abbrev pub field_at : List ℕ → List (List ℕ × Option Data) → Option Data → Option Data
field_at k [] before = before
field_at k (field ∷ fields) before = field_at k fields (if bytes_eq k field.0 then option_or field.1 before else before)

-- each key is UTF-8, and each value plain
abbrev pub ArePlainFields : List (List ℕ × Option Data) → Type 0
ArePlainFields [] = ⊤
ArePlainFields (field ∷ fields) = IsUtf8 field.0 × IfSome field.1 IsPlain × ArePlainFields fields

-- each value is no deeper than this
abbrev pub AreShallow : ℕ → List (List ℕ × Option Data) → Type 0
AreShallow n [] = ⊤
AreShallow n (field ∷ fields) = IfSome field.1 (λ d. depth d ≤ n) × AreShallow n fields

-- an object of fields has at each key what a field has for it; it is plain if they are, and one deeper than they are
pub record HasItsFields (fields : List (List ℕ × Option Data)) : Type 0 where
  pub at : (k : List ℕ) → get k (object_of fields) ≡ field_at k fields None
  pub plain : ArePlainFields fields → IsPlain (object_of fields)
  pub shallow : (n : ℕ) → AreShallow n fields → depth (object_of fields) ≤ suc n

-- each object of fields has its fields
abbrev pub ObjectsHaveFields : Type 0
ObjectsHaveFields = (fields : List (List ℕ × Option Data)) → HasItsFields fields
