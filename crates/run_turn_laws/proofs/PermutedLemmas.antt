-- Fields in another order make the same object, if no two have one key.
use Rattle.std.proofs.Common.{◌≡◌, ◌∙◌, ◌≤◌, ℕ, List, [], ◌∷◌, Option, Some, None, Bool, true, false, if◌then◌else◌}
use Rattle.std.proofs.Common.{bytes_eq, map, refl, sym, ap, subst, nat_cmp, Ordering, Less, Equal, Greater, IsUtf8}
use Rattle.std.proofs.Common.{◌⊎◌, inl, inr}
use Rattle.std.specs.Prelude.{IfSome}
use Rattle.std.specs.Option.{option_or}
use Rattle.std.specs.Ordering.{ordering_reverse, is_eq}
use Rattle.std.specs.Cmp.Lexicographic.{slice_cmp}
use Rattle.std.specs.List.{All, AllByRecursion, IsDistinct}
use Rattle.std.specs.List.Sorted.{IsPermutation}
use Rattle.std.proofs.lemmas.Cmp.{nat_list_cmp_total, nat_list_eq_equiv, tied_itself}
use Rattle.std.proofs.lemmas.List.Elements.{All-nil, All-cons, All-weaker, All-from_recursion, recursion_from_All}
use Rattle.std.proofs.lemmas.List.Sorted.{All-permutation, IsPermutation-map, IsPermutation-sym}
use Rattle.std.proofs.lemmas.Map.Keys.{IsDistinct-head, IsDistinct-tail, IsDistinct-IsPermutation}
use Rattle.std.proofs.lemmas.Map.Text.{is_eq-slice_cmp}
use Rattle.std.proofs.lemmas.Slice.Eq.{bytes_eq-Decides}
use Rattle.serde_json.specs.Data.{Data, Members, no_members, member, object, depth}
use Rattle.serde_json.specs.Find.{get_member}
use Rattle.run_output.specs.Fields.{put_all, object_of}
use Rattle.run_text_laws.specs.Objects.{field_at, ArePlainFields, AreShallow}
use Rattle.run_text_laws.specs.Plain.{IsBelowAll, IsPlain, MembersArePlain}
use Rattle.run_text_laws.proofs.ObjectLemmas.{has_fields}

-- a key, and what stands there if anything does
abbrev Field : Type 0
Field = List ℕ × Option Data

abbrev pub key_of : Field → List ℕ
key_of field = field.0

-- ---- members in order are known by what stands at each key

-- a key before all isn't there
none_below : (k : List ℕ) (ms : Members) → IsBelowAll k ms → get_member k ms ≡ None
none_below k no_members h = refl
none_below k (member l e ms) h = rw h.0 (none_below k ms h.1)

-- nor is one before that
none_behind : (k l : List ℕ) (ms : Members) → slice_cmp nat_cmp k l ≡ Less → IsBelowAll l ms → get_member k ms ≡ None
none_behind k l no_members is h = refl
none_behind k l (member j e ms) is h = rw (nat_list_cmp_total.trans k l j is h.0) (none_behind k l ms is h.1)

-- a key before the first isn't there
none_before : (k l : List ℕ) (e : Data) (ms : Members) → slice_cmp nat_cmp k l ≡ Less → IsBelowAll l ms
    → get_member k (member l e ms) ≡ None
none_before k l e ms is h = rw is (none_behind k l ms is h)

-- at the first key stands its value
first_at : (k : List ℕ) (d : Data) (ms : Members) → get_member k (member k d ms) ≡ Some d
first_at k d ms = rw (tied_itself nat_list_cmp_total k) refl

-- keys that compare as equal are the same
same_key : (k l : List ℕ) → slice_cmp nat_cmp k l ≡ Equal → k ≡ l
same_key k l is = (bytes_eq-Decides k l).0 (sym (is_eq-slice_cmp k l) ∙ ap is_eq is)

-- what stands behind a first key, at each key
behind : (o : Ordering) (k j : List ℕ) (d : Data) (ms ns : Members) → slice_cmp nat_cmp j k ≡ o → IsBelowAll k ms
    → IsBelowAll k ns → get_member j (member k d ms) ≡ get_member j (member k d ns) → get_member j ms ≡ get_member j ns
behind Less k j d ms ns is a b same = rw is at same
behind Greater k j d ms ns is a b same = rw is at same
behind Equal k j d ms ns is a b same =
    subst (λ l. get_member l ms ≡ get_member l ns) (sym (same_key j k is)) (none_below k ms a ∙ sym (none_below k ns b))

-- nothing is no value
no_value : (d : Data) → None ≡ Some d → ⊥
no_value d e = cc

-- there is one value in a `Some`
one_value : (d e : Data) → Some d ≡ Some e → d ≡ e
one_value d e same = cc

-- members in order that have the same at each key have the same first key, if what stands behind it tells the rest
same_from : (o : Ordering) (k l : List ℕ) (d e : Data) (ms ns : Members) → slice_cmp nat_cmp k l ≡ o
    → MembersArePlain (member k d ms) → MembersArePlain (member l e ns)
    → (((j : List ℕ) → get_member j ms ≡ get_member j ns) → ms ≡ ns)
    → ((j : List ℕ) → get_member j (member k d ms) ≡ get_member j (member l e ns)) → member k d ms ≡ member l e ns
same_from Less k l d e ms ns is p q rest h =
    absurd (no_value d (sym (none_before k l e ns is q.2) ∙ sym (h k) ∙ first_at k d ms))
same_from Greater k l d e ms ns is p q rest h =
    let below : slice_cmp nat_cmp l k ≡ Less = nat_list_cmp_total.antisymm l k ∙ ap ordering_reverse is in
    absurd (no_value e (sym (none_before l k d ms below p.2) ∙ h l ∙ first_at l e ns))
same_from Equal k l d e ms ns is p q rest h =
    let key : k ≡ l = same_key k l is in
    let here : (j : List ℕ) → get_member j (member k d ms) ≡ get_member j (member k e ns) =
    λ j. h j ∙ ap (λ i. get_member j (member i e ns)) (sym key) in
    let first : d ≡ e = one_value d e (sym (first_at k d ms) ∙ here k ∙ first_at k e ns) in
    let below : IsBelowAll k ns = subst (λ i. IsBelowAll i ns) (sym key) q.2 in
    let others : ms ≡ ns = rest (λ j. behind (slice_cmp nat_cmp j k) k j d ms ns refl p.2 below
    (here j ∙ ap (λ x. get_member j (member k x ns)) (sym first))) in
    ap (member k d) others ∙ ap (λ x. member k x ns) first ∙ ap (λ i. member i e ns) key

-- members in order that have the same at each key are the same
same_members : (ms ns : Members) → MembersArePlain ms → MembersArePlain ns
    → ((k : List ℕ) → get_member k ms ≡ get_member k ns) → ms ≡ ns
same_members no_members no_members p q h = refl
same_members no_members (member l e ns) p q h = absurd (no_value e (h l ∙ first_at l e ns))
same_members (member k d ms) no_members p q h = absurd (no_value d (sym (h k) ∙ first_at k d ms))
same_members (member k d ms) (member l e ns) p q h =
    same_from (slice_cmp nat_cmp k l) k l d e ms ns refl p q (λ there. same_members ms ns p.3 q.3 there) h

-- ---- what fields have for a key

-- a key that no field has
absent : (k : List ℕ) (fields : List Field) (before : Option Data)
    → AllByRecursion (λ l. bytes_eq k l ≡ false) (map key_of fields) → field_at k fields before ≡ before
absent k [] before h = refl
absent k (field ∷ fields) before h = rw h.0 (absent k fields before h.1)

-- the value of a field is what some fields have for its key, whatever stood there before
abbrev IsFound : List Field → Field → Type 0
IsFound fields field = (d : Data) (before : Option Data) → field.1 ≡ Some d
    → field_at (key_of field) fields before ≡ Some d

-- that of the first, if no other has its key
first_found : (field : Field) (fields : List Field)
    → AllByRecursion (λ l. bytes_eq (key_of field) l ≡ false) (map key_of fields) → IsFound (field ∷ fields) field
first_found field fields apart d before is =
    absent (key_of field) fields _ apart
    ∙ rw ((bytes_eq-Decides (key_of field) (key_of field)).1 refl, is) refl

-- that of each, if no two have one key
all_found : (fields : List Field) → IsDistinct bytes_eq (map key_of fields) → All (IsFound fields) fields
all_found [] apart = All-nil _
all_found (field ∷ fields) apart =
    All-cons (IsFound (field ∷ fields)) field fields
    (first_found field fields (IsDistinct-head bytes_eq (key_of field) (map key_of fields) apart))
    (All-weaker (IsFound fields) (IsFound (field ∷ fields)) (λ f h d before is. h d _ is) fields
    (all_found fields (IsDistinct-tail bytes_eq (key_of field) (map key_of fields) apart)))

-- what a field puts at a key is its value, or stood there before
from_field : (b : Bool) (ys : List Field) (field : Field) (k : List ℕ) (d : Data) (before : Option Data)
    → IsFound ys field → bytes_eq k (key_of field) ≡ b → (if b then option_or field.1 before else before) ≡ Some d
    → (field_at k ys None ≡ Some d) ⊎ (before ≡ Some d)
from_field false ys field k d before h is e = inr e
from_field true ys (key, None) k d before h is e = inr e
from_field true ys (key, Some x) k d before h is e =
    inl (subst (λ l. field_at l ys None ≡ Some d) (sym ((bytes_eq-Decides k key).0 is)) (h d None e))

-- what fields have for a key is the value of one of them, or stood there before
from_fields : (ys fields : List Field) (k : List ℕ) (d : Data) (before : Option Data)
    → AllByRecursion (IsFound ys) fields → field_at k fields before ≡ Some d
    → (field_at k ys None ≡ Some d) ⊎ (before ≡ Some d)
from_fields ys [] k d before h e = inr e
from_fields ys (field ∷ fields) k d before h e =
    elim (from_fields ys fields k d (if bytes_eq k (key_of field) then option_or field.1 before else before) h.1 e) [
      | inl found ↦ inl found
      | inr put ↦ from_field (bytes_eq k (key_of field)) ys field k d before h.0 refl put
    ]

-- the one has for a key what the other has
has_same : (xs ys : List Field) (k : List ℕ) (d : Data) → IsDistinct bytes_eq (map key_of ys) → IsPermutation ys xs
    → field_at k xs None ≡ Some d → field_at k ys None ≡ Some d
has_same xs ys k d apart permuted e =
    let found : All (IsFound ys) xs = All-permutation (IsFound ys) ys xs permuted (all_found ys apart) in
    elim (from_fields ys xs k d None (recursion_from_All (IsFound ys) xs found) e) [
      | inl there ↦ there
      | inr none ↦ absurd (no_value d none)
    ]

-- two that have each other's values are the same
agree : (a b : Option Data) → ((d : Data) → a ≡ Some d → b ≡ Some d) → ((d : Data) → b ≡ Some d → a ≡ Some d) → a ≡ b
agree None None f g = refl
agree None (Some d) f g = g d refl
agree (Some d) b f g = sym (f d refl)

-- ---- what holds of each field

-- a field is plain, and its value nests nothing
abbrev IsFlatField : Field → Type 0
IsFlatField field = IsUtf8 field.0 × IfSome field.1 IsPlain × IfSome field.1 (λ d. depth d ≤ 0)

-- of plain fields that nest nothing each is such a field
each_flat : (fields : List Field) → ArePlainFields fields → AreShallow 0 fields → AllByRecursion IsFlatField fields
each_flat [] h low = tt
each_flat (field ∷ fields) h low = ((h.0, h.1, low.0), each_flat fields h.2 low.1)

-- fields that are such fields are plain, and nest nothing
plain_each : (fields : List Field) → AllByRecursion IsFlatField fields → ArePlainFields fields
plain_each [] h = tt
plain_each (field ∷ fields) h = (h.0.0, h.0.1, plain_each fields h.1)

shallow_each : (fields : List Field) → AllByRecursion IsFlatField fields → AreShallow 0 fields
shallow_each [] h = tt
shallow_each (field ∷ fields) h = (h.0.2, shallow_each fields h.1)

-- what fields in another order are: plain, they nest nothing, and they make the same object
pub record IsSameObject (xs ys : List Field) : Type 0 where
  pub plain : ArePlainFields ys
  pub shallow : AreShallow 0 ys
  pub same : object_of ys ≡ object_of xs

pub same_object : (xs ys : List Field) → ArePlainFields xs → AreShallow 0 xs → IsDistinct bytes_eq (map key_of xs)
    → IsPermutation xs ys → IsSameObject xs ys
same_object xs ys h low apart permuted =
    let back : IsPermutation ys xs = IsPermutation-sym xs ys permuted in
    let keys : IsDistinct bytes_eq (map key_of ys) =
    IsDistinct-IsPermutation bytes_eq nat_list_eq_equiv.symm (map key_of xs) (map key_of ys)
    (IsPermutation-map key_of xs ys permuted) apart in
    let all : All IsFlatField ys =
    All-permutation IsFlatField xs ys permuted (All-from_recursion IsFlatField xs (each_flat xs h low)) in
    let flat : AllByRecursion IsFlatField ys = recursion_from_All IsFlatField ys all in
    let at : (k : List ℕ) → field_at k ys None ≡ field_at k xs None = λ k. agree _ _
    (λ d e. has_same ys xs k d apart permuted e) (λ d e. has_same xs ys k d keys back e) in
    record {
      plain = plain_each ys flat;
      shallow = shallow_each ys flat;
      same = ap object (same_members (put_all ys no_members) (put_all xs no_members)
          ((has_fields ys).plain (plain_each ys flat)) ((has_fields xs).plain h)
          (λ k. (has_fields ys).at k ∙ at k ∙ sym ((has_fields xs).at k)));
    }
