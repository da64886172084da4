-- What stands at the keys of an object of fields, and that it has no float.
use Rattle.std.proofs.Common.{◌≡◌, ◌∙◌, ℕ, zero, suc, ◌<◌, ◌^◌, ℤ, pos, negsuc, List, [], ◌∷◌, Bool, true, false}
use Rattle.std.proofs.Common.{◌&&◌, ◌||◌}
use Rattle.std.proofs.Common.{Option, Some, None, cond, refl, sym, ap, arith, nat_cmp, nat_eq, true≢false}
use Rattle.std.proofs.Common.{lt-ltb}
use Rattle.std.proofs.Common.{eqb-true, All, IfSome}
use Rattle.std.specs.Option.{option_map, option_or}
use Rattle.std.specs.Ordering.{match_ordering}
use Rattle.std.specs.Cmp.Lexicographic.{slice_cmp}
use Rattle.std.specs.declared.cmp.Ordering.{Ordering}
use Rattle.std.specs.declared.cmp.Ordering.TheVariants.{Less, Equal, Greater}
use Rattle.serde_json.specs.Data.{Data, Members, no_members, member, put, string}
use Rattle.serde_json.specs.Written.{has_float, members_have_float}
use Rattle.run_input.specs.Fields.{has_only, is_object_of, is_one_of, optional, or_usual, u32_of, u64_of}
use Rattle.run_output.specs.Fields.{count, object_of, put_all, signed}
use Rattle.run_plan_line.specs.PlanFields.{KeyedFields, number_unless, priority_unless_0}

pub option_or_none : {A : Type 0} (o : Option A) → option_or o None ≡ o
option_or_none None = refl
option_or_none (Some x) = refl

-- each key is one of some names
abbrev pub names_in : List (List ℕ) → KeyedFields → Bool
names_in names [] = true
names_in names (field ∷ fields) = is_one_of field.0 names && names_in names fields

both_true : (a b : Bool) → (a && b) ≡ true → (a ≡ true) × (b ≡ true)
both_true true b h = (refl, h)
both_true false b h = absurd (true≢false (sym h))

-- members with one more at one of some names have no other names
only_put : (names : List (List ℕ)) (key : List ℕ) (value : Data) (ms : Members) → is_one_of key names ≡ true
    → has_only names ms ≡ true → has_only names (put key value ms) ≡ true
only_put names key value no_members one h = ap (λ b. b && true) one
only_put names key value (member l e ms) one h =
    let parts = both_true (is_one_of l names) (has_only names ms) h in
    by (slice_cmp nat_cmp key l) parts.0 (only_put names key value ms one parts.1)
  where
    by : (o : Ordering) → is_one_of l names ≡ true → has_only names (put key value ms) ≡ true
        → has_only names (match_ordering o (member key value (member l e ms)) (member l value ms)
        (member l e (put key value ms))) ≡ true
    by Less first rest = ap (λ b. b && has_only names (member l e ms)) one ∙ h
    by Equal first rest = h
    by Greater first rest = ap (λ b. b && has_only names (put key value ms)) first ∙ rest

only_fields : (names : List (List ℕ)) (fields : KeyedFields) (ms : Members) → names_in names fields ≡ true
    → has_only names ms ≡ true → has_only names (put_all fields ms) ≡ true
only_fields names [] ms h only = only
only_fields names ((key, None) ∷ fields) ms h only =
    only_fields names fields ms (both_true (is_one_of key names) (names_in names fields) h).1 only
only_fields names ((key, Some d) ∷ fields) ms h only =
    let parts = both_true (is_one_of key names) (names_in names fields) h in
    only_fields names fields (put key d ms) parts.1 (only_put names key d ms parts.0 only)

-- an object of fields has no names but theirs
pub object_names : (names : List (List ℕ)) (fields : KeyedFields) → names_in names fields ≡ true
    → is_object_of names (object_of fields) ≡ true
object_names names fields h = only_fields names fields no_members h refl

both_false : (a b : Bool) → (a || b) ≡ false → (a ≡ false) × (b ≡ false)
both_false true b h = absurd (true≢false h)
both_false false b h = (refl, h)

-- members with one more that has no float have none
float_put : (key : List ℕ) (value : Data) (ms : Members) → has_float value ≡ false → members_have_float ms ≡ false
    → members_have_float (put key value ms) ≡ false
float_put key value no_members a h = ap (λ b. b || false) a
float_put key value (member l e ms) a h =
    let parts = both_false (has_float e) (members_have_float ms) h in
    by (slice_cmp nat_cmp key l) parts.0 parts.1 (float_put key value ms a parts.1)
  where
    by : (o : Ordering) → has_float e ≡ false → members_have_float ms ≡ false
        → members_have_float (put key value ms) ≡ false
        → members_have_float (match_ordering o (member key value (member l e ms)) (member l value ms)
        (member l e (put key value ms))) ≡ false
    by Less first rest more = ap (λ b. b || members_have_float (member l e ms)) a ∙ h
    by Equal first rest more = ap (λ b. b || members_have_float ms) a ∙ rest
    by Greater first rest more = ap (λ b. b || members_have_float (put key value ms)) first ∙ more

-- whether what stands at a key has a float, and whether one of some fields has one
abbrev pub float_in : Option Data → Bool
float_in None = false
float_in (Some d) = has_float d

abbrev pub any_float : KeyedFields → Bool
any_float [] = false
any_float (field ∷ fields) = float_in field.1 || any_float fields

fields_whole : (fields : KeyedFields) (ms : Members) → any_float fields ≡ false → members_have_float ms ≡ false
    → members_have_float (put_all fields ms) ≡ false
fields_whole [] ms h whole = whole
fields_whole ((key, None) ∷ fields) ms h whole = fields_whole fields ms h whole
fields_whole ((key, Some d) ∷ fields) ms h whole =
    let parts = both_false (has_float d) (any_float fields) h in
    fields_whole fields (put key d ms) parts.1 (float_put key d ms parts.0 whole)

-- an object of fields without a float has none
pub object_whole : (fields : KeyedFields) → any_float fields ≡ false → has_float (object_of fields) ≡ false
object_whole fields h = fields_whole fields no_members h refl

-- what may be left out has no float
pub unless_whole : (b : Bool) (d : Data) → has_float d ≡ false → float_in (cond b None (Some d)) ≡ false
unless_whole true d h = refl
unless_whole false d h = h

pub count_whole : (n : Option ℕ) → float_in (option_map count n) ≡ false
count_whole None = refl
count_whole (Some n) = refl

pub text_whole : (text : Option (List ℕ)) → float_in (option_map string text) ≡ false
text_whole None = refl
text_whole (Some text) = refl

-- a number that is left out where it is the usual one is read as it was
number_by : (usual n : ℕ) (b : Bool) → nat_eq n usual ≡ b
    → or_usual usual u64_of (cond b None (Some (count n))) ≡ Some n
number_by usual n true is = ap Some (sym (eqb-true n usual is))
number_by usual n false is = refl

pub number_again : (usual n : ℕ) → or_usual usual u64_of (number_unless usual n) ≡ Some n
number_again usual n = number_by usual n (nat_eq n usual) refl

u32_again : (n : ℕ) → n < 2 ^ 32 → u32_of (count n) ≡ Some n
u32_again n fits = rw (lt-ltb n (2 ^ 32) fits) refl

small_by : (usual n : ℕ) (b : Bool) → n < 2 ^ 32 → nat_eq n usual ≡ b
    → or_usual usual u32_of (cond b None (Some (count n))) ≡ Some n
small_by usual n true fits is = ap Some (sym (eqb-true n usual is))
small_by usual n false fits is = u32_again n fits

pub small_again : (usual n : ℕ) → n < 2 ^ 32 → or_usual usual u32_of (number_unless usual n) ≡ Some n
small_again usual n fits = small_by usual n (nat_eq n usual) fits refl

-- a number that may be missing
pub count_again : (n : Option ℕ) → IfSome n (λ n. n < 2 ^ 32) → optional u32_of (option_map count n) ≡ Some n
count_again None fits = refl
count_again (Some n) fits = ap (option_map Some) (u32_again n fits)

pub time_again : (n : Option ℕ) → optional u64_of (option_map count n) ≡ Some n
time_again None = refl
time_again (Some n) = refl

-- a priority is left out where it is 0
pub priority_left_out : (z : ℤ) → z ≡ pos 0 → priority_unless_0 z ≡ None
priority_left_out z is = ap priority_unless_0 is

pub priority_said : (z : ℤ) → (z ≡ pos 0 → ⊥) → priority_unless_0 z ≡ Some (signed z)
priority_said (pos zero) other = absurd (other refl)
priority_said (pos (suc n)) other = refl
priority_said (negsuc n) other = refl

-- what holds of all of a list holds of its first, and of all others
pub all_first : {X : Type 0} (P : X → Type 0) (x : X) (xs : List X) → All P (x ∷ xs) → P x
all_first P x xs h = h 0 x (omega arith)

pub all_rest : {X : Type 0} (P : X → Type 0) (x : X) (xs : List X) → All P (x ∷ xs) → All P xs
all_rest P x xs h k d below = h (suc k) d (omega (arith, below))
