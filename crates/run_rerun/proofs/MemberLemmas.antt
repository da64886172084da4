-- A value with another one at a key.
use Rattle.std.proofs.Common.{◌≡◌, ◌∙◌, ℕ, suc, ◌≤◌, ◌&&◌, ◌||◌, List, Bool, true, false, bytes_eq, refl, sym, ap}
use Rattle.std.proofs.Common.{arith, nat_cmp, true≢false, Some}
use Rattle.std.specs.Ordering.{match_ordering}
use Rattle.std.specs.Cmp.Lexicographic.{slice_cmp}
use Rattle.std.specs.declared.cmp.Ordering.{Ordering}
use Rattle.std.specs.declared.cmp.Ordering.TheVariants.{Less, Equal, Greater}
use Rattle.std.proofs.lemmas.Cmp.{nat_list_cmp_total, tied_itself}
use Rattle.std.proofs.lemmas.Slice.Eq.{bytes_eq-Decides}
use Rattle.serde_json.specs.Data.{Data, null, boolean, number, string, array, object, Members, no_members, member, put}
use Rattle.serde_json.specs.Data.{depth, members_depth}
use Rattle.serde_json.specs.Find.{get}
use Rattle.serde_json.specs.Written.{has_float, members_have_float}
use Rattle.serde_json.proofs.Views.{get_member-put, get_member-put_other}
use Rattle.run_input.specs.Fields.{has_only, is_object_of, is_one_of}
use Rattle.run_rerun.specs.Made.{with_member}

-- another key keeps its value
pub get-other : (k key : List ℕ) (value d : Data) → bytes_eq k key ≡ false → get k (with_member key value d) ≡ get k d
get-other k key value null h = refl
get-other k key value (boolean b) h = refl
get-other k key value (number n) h = refl
get-other k key value (string s) h = refl
get-other k key value (array ds) h = refl
get-other k key value (object ms) h =
    get_member-put_other k key value ms (λ same. true≢false (sym ((bytes_eq-Decides k key).1 same) ∙ h))

both_true : (a b : Bool) → (a && b) ≡ true → (a ≡ true) × (b ≡ true)
both_true true b h = (refl, h)
both_true false b h = absurd (true≢false (sym h))

-- members with one more at one of some names have no other names
only-put : (names : List (List ℕ)) (key : List ℕ) (value : Data) (ms : Members) → is_one_of key names ≡ true
    → has_only names ms ≡ true → has_only names (put key value ms) ≡ true
only-put names key value no_members one h = ap (λ b. b && true) one
only-put names key value (member l e ms) one h =
    let parts = both_true (is_one_of l names) (has_only names ms) h in
    by (slice_cmp nat_cmp key l) parts.0 (only-put names key value ms one parts.1)
  where
    by : (o : Ordering) → is_one_of l names ≡ true → has_only names (put key value ms) ≡ true
        → has_only names (match_ordering o (member key value (member l e ms)) (member l value ms)
        (member l e (put key value ms))) ≡ true
    by Less first rest = ap (λ b. b && has_only names (member l e ms)) one ∙ h
    by Equal first rest = h
    by Greater first rest = ap (λ b. b && has_only names (put key value ms)) first ∙ rest

-- an object with no key but some names has none with one more value at one of them
pub object-with : (names : List (List ℕ)) (key : List ℕ) (value d : Data) → is_one_of key names ≡ true
    → is_object_of names d ≡ true → is_object_of names (with_member key value d) ≡ true
object-with names key value null one h = h
object-with names key value (boolean b) one h = h
object-with names key value (number n) one h = h
object-with names key value (string s) one h = h
object-with names key value (array ds) one h = h
object-with names key value (object ms) one h = only-put names key value ms one h

-- members are no deeper for one more that isn't
depth-put : (key : List ℕ) (value : Data) (ms : Members) (n : ℕ) → depth value ≤ n → members_depth ms ≤ n
    → members_depth (put key value ms) ≤ n
depth-put key value no_members n a b = omega (arith, a)
depth-put key value (member l e ms) n a b =
    by (slice_cmp nat_cmp key l) (omega (arith, b)) (omega (arith, b)) (depth-put key value ms n a (omega (arith, b)))
  where
    by : (o : Ordering) → depth e ≤ n → members_depth ms ≤ n → members_depth (put key value ms) ≤ n
        → members_depth (match_ordering o (member key value (member l e ms)) (member l value ms)
        (member l e (put key value ms))) ≤ n
    by Less first rest more = omega (arith, a, first, rest)
    by Equal first rest more = omega (arith, a, rest)
    by Greater first rest more = omega (arith, first, more)

-- a value is no deeper for one that is less deep
pub depth-with : (key : List ℕ) (value d : Data) (n : ℕ) → depth value ≤ n → depth d ≤ suc n
    → depth (with_member key value d) ≤ suc n
depth-with key value null n a b = b
depth-with key value (boolean x) n a b = b
depth-with key value (number x) n a b = b
depth-with key value (string s) n a b = b
depth-with key value (array ds) n a b = b
depth-with key value (object ms) n a b =
    let within : members_depth ms ≤ n = omega (arith, b) in omega (arith, depth-put key value ms n a within)

pub both_false : (a b : Bool) → (a || b) ≡ false → (a ≡ false) × (b ≡ false)
both_false true b h = absurd (true≢false h)
both_false false b h = (refl, h)

-- members with one more that has no float have none
whole-put : (key : List ℕ) (value : Data) (ms : Members) → has_float value ≡ false → members_have_float ms ≡ false
    → members_have_float (put key value ms) ≡ false
whole-put key value no_members a h = ap (λ b. b || false) a
whole-put key value (member l e ms) a h =
    let parts = both_false (has_float e) (members_have_float ms) h in
    by (slice_cmp nat_cmp key l) parts.0 parts.1 (whole-put key value ms a parts.1)
  where
    by : (o : Ordering) → has_float e ≡ false → members_have_float ms ≡ false
        → members_have_float (put key value ms) ≡ false
        → members_have_float (match_ordering o (member key value (member l e ms)) (member l value ms)
        (member l e (put key value ms))) ≡ false
    by Less first rest more = ap (λ b. b || members_have_float (member l e ms)) a ∙ h
    by Equal first rest more = ap (λ b. b || members_have_float ms) a ∙ rest
    by Greater first rest more = ap (λ b. b || members_have_float (put key value ms)) first ∙ more

-- a value with one more that has no float has none
pub whole-with : (key : List ℕ) (value d : Data) → has_float value ≡ false → has_float d ≡ false
    → has_float (with_member key value d) ≡ false
whole-with key value null a h = h
whole-with key value (boolean b) a h = h
whole-with key value (number n) a h = h
whole-with key value (string s) a h = h
whole-with key value (array ds) a h = h
whole-with key value (object ms) a h = whole-put key value ms a h

same_text : (key : List ℕ) → slice_cmp nat_cmp key key ≡ Equal
same_text key = tied_itself nat_list_cmp_total key

-- a value put twice at a key is there as it was put last
pub put-put : (key : List ℕ) (first last : Data) (ms : Members)
    → put key last (put key first ms) ≡ put key last ms
put-put key first last no_members = rw same_text
put-put key first last (member l e ms) = by (slice_cmp nat_cmp key l) refl (put-put key first last ms)
  where
    by : (o : Ordering) → slice_cmp nat_cmp key l ≡ o → put key last (put key first ms) ≡ put key last ms
        → put key last (match_ordering o (member key first (member l e ms)) (member l first ms)
        (member l e (put key first ms)))
        ≡ match_ordering o (member key last (member l e ms)) (member l last ms) (member l e (put key last ms))
    by Less is more = rw same_text
    by Equal is more = rw is
    by Greater is more = rw is (ap (member l e) more)

-- a name among some isn't one that isn't
pub apart : (k key : List ℕ) (names : List (List ℕ)) → is_one_of key names ≡ false → is_one_of k names ≡ true
    → bytes_eq k key ≡ false
apart k key names out one = by (bytes_eq k key) refl
  where
    by : (b : Bool) → bytes_eq k key ≡ b → bytes_eq k key ≡ false
    by true same =
        absurd (true≢false (sym one ∙ ap (λ x. is_one_of x names) ((bytes_eq-Decides k key).0 same) ∙ out))
    by false same = same

-- the key of an object of some keys has its new value
pub get-put : (names : List (List ℕ)) (key : List ℕ) (value d : Data) → is_object_of names d ≡ true
    → get key (with_member key value d) ≡ Some value
get-put names key value null h = absurd (true≢false (sym h))
get-put names key value (boolean b) h = absurd (true≢false (sym h))
get-put names key value (number n) h = absurd (true≢false (sym h))
get-put names key value (string s) h = absurd (true≢false (sym h))
get-put names key value (array ds) h = absurd (true≢false (sym h))
get-put names key value (object ms) h = get_member-put key value ms
