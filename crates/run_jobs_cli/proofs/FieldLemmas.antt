-- The members of lines.
use Rattle.std.proofs.Common.{◌≡◌, ◌∙◌, ◌||◌, List, [], ◌∷◌, ℕ, Bool, true, false, refl, ap, true≢false, sym, BTreeMap}
use Rattle.std.proofs.Common.{String, Global, string_bytes, string_cmp, nat_cmp}
use Rattle.std.specs.Borrow.{Bor}
use Rattle.std.specs.BTreeMap.{insert_entry}
use Rattle.std.specs.Ordering.{match_ordering}
use Rattle.std.specs.Cmp.Lexicographic.{slice_cmp}
use Rattle.std.specs.declared.cmp.Ordering.{Ordering}
use Rattle.std.specs.declared.cmp.Ordering.TheVariants.{Less, Equal, Greater}
use Rattle.serde_json.specs.Data.{Data, object, Members, no_members, member, put}
use Rattle.serde_json.specs.View.{members_view, view}
use Rattle.serde_json.specs.Written.{compact_text, has_float, members_have_float}
use Rattle.serde_json.specs.declared.value.Value.{Value, Object}
use Rattle.serde_json.proofs.Views.{Entry, members_view-insert_entry, view-Object}
use Rattle.run_output.specs.Fields.{object_text, put_all, rows}
use Rattle.run_jobs_cli.specs.declared.fields.Leaf.{Leaf}
use Rattle.run_jobs_cli.specs.declared.fields.Leaf.TheVariants.{Word, Number}
use Rattle.run_jobs_cli.specs.Objects.{leaf_member, leaf_value}

-- the members of a map with one more entry
pub put_entry : (old new : List Entry) (name : String Global) (value : Value) (key : List ℕ) (d : Data)
    → string_bytes name ≡ key → view value ≡ d → new ≡ insert_entry string_cmp old name value
    → members_view new ≡ put key d (members_view old)
put_entry old new name value key d named valued is =
    ap members_view is ∙ members_view-insert_entry old name value
    ∙ ap (λ k. put k (view value) (members_view old)) named
    ∙ ap (λ v. put key v (members_view old)) valued

both_false : (a b : Bool) → (a || b) ≡ false → (a ≡ false) × (b ≡ false)
both_false true b h = absurd (true≢false h)
both_false false b h = (refl, h)

-- members with one more that has no float have none
whole_put : (key : List ℕ) (value : Data) (ms : Members) → has_float value ≡ false → members_have_float ms ≡ false
    → members_have_float (put key value ms) ≡ false
whole_put key value no_members a h = ap (λ b. b || false) a
whole_put key value (member l e ms) a h =
    let parts = both_false (has_float e) (members_have_float ms) h in
    by (slice_cmp nat_cmp key l) parts.0 parts.1 (whole_put key value ms a parts.1)
  where
    by : (o : Ordering) → has_float e ≡ false → members_have_float ms ≡ false
        → members_have_float (put key value ms) ≡ false
        → members_have_float (match_ordering o (member key value (member l e ms)) (member l value ms)
        (member l e (put key value ms))) ≡ false
    by Less first rest more = ap (λ b. b || members_have_float (member l e ms)) a ∙ h
    by Equal first rest more = ap (λ b. b || members_have_float ms) a ∙ rest
    by Greater first rest more = ap (λ b. b || members_have_float (put key value ms)) first ∙ more

whole_leaf : (leaf : Leaf) → has_float (leaf_value leaf) ≡ false
whole_leaf (Word word) = refl
whole_leaf (Number number) = refl

-- fields have no float
whole_fields : (fields : List (Bor (List ℕ) × Leaf)) (ms : Members) → members_have_float ms ≡ false
    → members_have_float (put_all (rows leaf_member fields) ms) ≡ false
whole_fields [] ms h = h
whole_fields (field ∷ fields) ms h =
    whole_fields fields (put field.0.now (leaf_value field.1) ms)
    (whole_put field.0.now (leaf_value field.1) ms (whole_leaf field.1) h)

-- the text of the object of fields
pub fields_text : (fields : List (Bor (List ℕ) × Leaf)) (members : BTreeMap (String Global) Value)
    (text : String Global) (line : List ℕ) → members_view members.entries ≡ put_all (rows leaf_member fields) no_members
    → (has_float (view (Object members)) ≡ false → string_bytes text ≡ compact_text (view (Object members)))
    → line ≡ string_bytes text → line ≡ object_text (rows leaf_member fields)
fields_text fields members text line are written is =
    let value : view (Object members) ≡ object (put_all (rows leaf_member fields) no_members) =
    view-Object members ∙ ap object are in
    is ∙ written (ap has_float value ∙ whole_fields fields no_members refl) ∙ ap compact_text value
