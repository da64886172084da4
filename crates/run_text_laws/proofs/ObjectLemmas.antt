-- What stands at the keys of an object of fields.
use Rattle.std.proofs.Common.{◌≡◌, ◌∙◌, ℕ, ◌≤◌, List, [], ◌∷◌, Option, Some, None, Bool, true, false, if◌then◌else◌}
use Rattle.std.proofs.Common.{bytes_eq, refl, sym, ap, subst, arith, nat_cmp, true≢false, Ordering, Less, Equal}
use Rattle.std.proofs.Common.{Greater}
use Rattle.std.specs.Option.{option_or}
use Rattle.std.specs.Ordering.{match_ordering}
use Rattle.std.specs.Cmp.Lexicographic.{slice_cmp}
use Rattle.std.proofs.lemmas.Slice.Eq.{bytes_eq-Decides}
use Rattle.serde_json.specs.Data.{Data, Members, no_members, member, put, depth, members_depth}
use Rattle.serde_json.specs.Find.{get_member}
use Rattle.serde_json.proofs.Views.{get_member-put, get_member-put_other}
use Rattle.run_text_laws.specs.Plain.{MembersArePlain}
use Rattle.run_output.specs.Fields.{put_some, put_all}
use Rattle.run_text_laws.specs.Objects.{field_at, ArePlainFields, AreShallow, HasItsFields}
use Rattle.run_text_laws.proofs.PutLemmas.{put_plain}

-- at a key stands what was put there, and else what stood there before
put_at : (b : Bool) (k key : List ℕ) (value : Option Data) (ms : Members) → bytes_eq k key ≡ b
    → get_member k (put_some key value ms) ≡ (if b then option_or value (get_member k ms) else get_member k ms)
put_at true k key None ms is = refl
put_at true k key (Some d) ms is =
    let same : k ≡ key = (bytes_eq-Decides k key).0 is in
    subst (λ l. get_member k (put l d ms) ≡ Some d) same (get_member-put k d ms)
put_at false k key None ms is = refl
put_at false k key (Some d) ms is =
    get_member-put_other k key d ms (λ same. true≢false (sym ((bytes_eq-Decides k key).1 same) ∙ is))

-- at a key stands what the fields have for it
get-put_all : (k : List ℕ) (fields : List (List ℕ × Option Data)) (ms : Members)
    → get_member k (put_all fields ms) ≡ field_at k fields (get_member k ms)
get-put_all k [] ms = refl
get-put_all k (field ∷ fields) ms =
    get-put_all k fields (put_some field.0 field.1 ms)
    ∙ ap (field_at k fields) (put_at (bytes_eq k field.0) k field.0 field.1 ms refl)

-- plain fields put into plain members leave these plain
all_plain : (fields : List (List ℕ × Option Data)) (ms : Members) → ArePlainFields fields → MembersArePlain ms
    → MembersArePlain (put_all fields ms)
all_plain [] ms h p = p
all_plain ((key, None) ∷ fields) ms h p = all_plain fields ms h.2 p
all_plain ((key, Some d) ∷ fields) ms h p = all_plain fields (put key d ms) h.2 (put_plain key d ms h.0 h.1 p)

-- a member that is put in at any place is no deeper than it and the others
depth_at : (o : Ordering) (k l : List ℕ) (d e : Data) (ms more : Members) (n : ℕ) → depth d ≤ n → depth e ≤ n
    → members_depth ms ≤ n → members_depth more ≤ n
    → members_depth (match_ordering o (member k d (member l e ms)) (member l d ms) (member l e more)) ≤ n
depth_at Less k l d e ms more n a b c f = omega (arith, a, b, c)
depth_at Equal k l d e ms more n a b c f = omega (arith, a, c)
depth_at Greater k l d e ms more n a b c f = omega (arith, b, f)

-- members are no deeper for one more that isn't
depth_put : (k : List ℕ) (d : Data) (ms : Members) (n : ℕ) → depth d ≤ n → members_depth ms ≤ n
    → members_depth (put k d ms) ≤ n
depth_put k d no_members n a b = omega (arith, a)
depth_put k d (member l e ms) n a b =
    depth_at (slice_cmp nat_cmp k l) k l d e ms (put k d ms) n a (omega (arith, b)) (omega (arith, b))
    (depth_put k d ms n a (omega (arith, b)))

-- members are no deeper for fields that aren't
all_shallow : (n : ℕ) (fields : List (List ℕ × Option Data)) (ms : Members) → AreShallow n fields → members_depth ms ≤ n
    → members_depth (put_all fields ms) ≤ n
all_shallow n [] ms h p = p
all_shallow n ((key, None) ∷ fields) ms h p = all_shallow n fields ms h.1 p
all_shallow n ((key, Some d) ∷ fields) ms h p = all_shallow n fields (put key d ms) h.1 (depth_put key d ms n h.0 p)

-- each object of fields has its fields
pub has_fields : (fields : List (List ℕ × Option Data)) → HasItsFields fields
has_fields fields = record {
  at = λ k. get-put_all k fields no_members;
  plain = λ h. all_plain fields no_members h tt;
  shallow = λ n h. omega (arith, all_shallow n fields no_members h (omega arith));
}
