-- When a line has a value.
use Rattle.std.proofs.Common.{◌≡◌, ℕ, List, Bool, true, false, Option, Some, None, refl}
use Rattle.std.proofs.lemmas.Str.{IsUtf8-from_is_utf8, is_utf8-from_IsUtf8}
use Rattle.std.specs.Str.{IsUtf8, is_utf8}
use Rattle.serde_json.specs.Data.{Data}
use Rattle.serde_json.specs.Read.{read}
use Rattle.serde_json.specs.Written.{has_float}
use Rattle.run_input.specs.ValueOf.{json_value}

-- a line that reads as a value with no float has that value
pub value_of-read : (line : List ℕ) (d : Data) → IsUtf8 line → read line ≡ Some d → has_float d ≡ false
    → json_value line ≡ Some d
unfolding json_value
value_of-read line d u r f = let t = is_utf8-from_IsUtf8 line u in rw (t, r, f) refl

-- a line that reads as a value with a float has none
pub value_of-float : (line : List ℕ) (d : Data) → IsUtf8 line → read line ≡ Some d → has_float d ≡ true
    → json_value line ≡ None
unfolding json_value
value_of-float line d u r f = let t = is_utf8-from_IsUtf8 line u in rw (t, r, f) refl

unread : (line : List ℕ) (b : Bool) → is_utf8 line ≡ b → (IsUtf8 line → read line ≡ None) → json_value line ≡ None
unfolding json_value
unread line false t r = rw t refl
unread line true t r = let e = r (IsUtf8-from_is_utf8 line t) in rw (t, e) refl

-- a line that reads as no value has none
pub value_of-unread : (line : List ℕ) → (IsUtf8 line → read line ≡ None) → json_value line ≡ None
value_of-unread line r = unread line (is_utf8 line) refl r

-- what is nothing in particular is nothing
pub none_where : {A : Type 0} (o : Option A) → ((x : A) → o ≡ Some x → ⊥) → o ≡ None
none_where None never = refl
none_where (Some x) never = absurd (never x refl)
