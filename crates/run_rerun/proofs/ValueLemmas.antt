-- The value of the plan line of a rerun is no deeper than that of the one that it is made of, and has no float.
use Rattle.std.proofs.Common.{◌≡◌, ◌∙◌, ℕ, suc, ◌≤◌, ◌||◌, List, [], ◌∷◌, map, Bool, true, false, refl, sym, ap, subst}
use Rattle.std.proofs.Common.{arith}
use Rattle.std.proofs.Common.{true≢false, codes, cond, Some, None, unwrap_or, IsSome, nat_cmp}
use Rattle.std.specs.Option.{option_and_then}
use Rattle.std.specs.Ordering.{match_ordering}
use Rattle.std.specs.Cmp.Lexicographic.{slice_cmp}
use Rattle.std.specs.Str.{is_utf8}
use Rattle.std.specs.declared.cmp.Ordering.{Ordering}
use Rattle.std.specs.declared.cmp.Ordering.TheVariants.{Less, Equal, Greater}
use Rattle.serde_json.specs.Data.{Data, null, boolean, number, string, array, object, Items, no_items, item}
use Rattle.serde_json.specs.Data.{Members, no_members, member, depth, items_depth, members_depth}
use Rattle.serde_json.specs.Find.{get, get_member}
use Rattle.serde_json.specs.Read.{read}
use Rattle.serde_json.specs.View.{items_of}
use Rattle.serde_json.specs.Written.{has_float, items_have_float, members_have_float}
use Rattle.run_events.specs.declared.plan.TestInstanceId.{TestInstanceId}
use Rattle.run_input.specs.PlanTest.{id_of}
use Rattle.run_input.specs.Input.{plan_line_of}
use Rattle.run_input.specs.PlanLine.{plan_of}
use Rattle.run_input.specs.ValueOf.{json_value, unless_float}
use Rattle.run_output.specs.Fields.{array_of}
use Rattle.run_output.specs.Texts.{test_data}
use Rattle.run_rerun.specs.Made.{is_to_skip, made, made_items, made_test, made_tests, with_member}
use Rattle.run_rerun.proofs.MemberLemmas.{both_false, depth-with, whole-with}

-- what stands at a key of members is no deeper than they are
depth_at : (k : List ℕ) (ms : Members) (n : ℕ) → members_depth ms ≤ n → depth (unwrap_or (get_member k ms) null) ≤ n
depth_at k no_members n h = omega arith
depth_at k (member l e ms) n h = by (slice_cmp nat_cmp k l) (omega (arith, h)) (depth_at k ms n (omega (arith, h)))
  where
    by : (o : Ordering) → depth e ≤ n → depth (unwrap_or (get_member k ms) null) ≤ n
        → depth (unwrap_or (match_ordering o (get_member k ms) (Some e) (get_member k ms)) null) ≤ n
    by Less first more = more
    by Equal first more = first
    by Greater first more = more

depth_got : (k : List ℕ) (d : Data) (n : ℕ) → depth d ≤ suc n → depth (unwrap_or (get k d) null) ≤ n
depth_got k null n h = omega arith
depth_got k (boolean b) n h = omega arith
depth_got k (number x) n h = omega arith
depth_got k (string s) n h = omega arith
depth_got k (array ds) n h = omega arith
depth_got k (object ms) n h = depth_at k ms n (omega (arith, h))

depth_test : (ids : List TestInstanceId) (d : Data) (n : ℕ) → depth d ≤ suc n → depth (made_test ids d) ≤ suc n
depth_test ids d n h = by (is_to_skip ids (id_of d) (get (codes "skip") d))
  where
    by : (b : Bool) → depth (cond b (with_member (codes "skip") (string (codes "rerun")) d) d) ≤ suc n
    by true = depth-with (codes "skip") (string (codes "rerun")) d n (omega arith) h
    by false = h

depth_items : (ids : List TestInstanceId) (ds : Items) (n : ℕ) → items_depth ds ≤ suc n
    → items_depth (made_items ids ds) ≤ suc n
depth_items ids no_items n h = h
depth_items ids (item d ds) n h =
    let first : depth d ≤ suc n = omega (arith, h) in
    let more : items_depth ds ≤ suc n = omega (arith, h) in
    omega (arith, depth_test ids d n first, depth_items ids ds n more)

depth_tests : (ids : List TestInstanceId) (d : Data) (n : ℕ) → depth d ≤ suc (suc n)
    → depth (made_tests ids d) ≤ suc (suc n)
depth_tests ids null n h = h
depth_tests ids (boolean b) n h = h
depth_tests ids (number x) n h = h
depth_tests ids (string s) n h = h
depth_tests ids (array ds) n h =
    let within : items_depth ds ≤ suc n = omega (arith, h) in omega (arith, depth_items ids ds n within)
depth_tests ids (object ms) n h = h

depth_ids : (ids : List TestInstanceId) → items_depth (items_of (map test_data ids)) ≤ 1
depth_ids [] = omega arith
depth_ids (id ∷ ids) = omega (arith, depth_ids ids)

-- the value of the plan line of a rerun is no deeper
pub depth_made : (ids : List TestInstanceId) (d : Data) (n : ℕ) → depth d ≤ suc (suc (suc n))
    → depth (made ids d) ≤ suc (suc (suc n))
depth_made ids d n h =
    let tests = made_tests ids (unwrap_or (get (codes "tests") d) null) in
    let got = depth_tests ids (unwrap_or (get (codes "tests") d) null) n
    (depth_got (codes "tests") d (suc (suc n)) h) in
    let expected : depth (array_of test_data ids) ≤ suc (suc n) = omega (arith, depth_ids ids) in
    depth-with (codes "expected") (array_of test_data ids) (with_member (codes "tests") tests d) (suc (suc n)) expected
    (depth-with (codes "tests") tests d (suc (suc n)) got h)

-- what stands at a key of members without a float has none
whole_at : (k : List ℕ) (ms : Members) → members_have_float ms ≡ false
    → has_float (unwrap_or (get_member k ms) null) ≡ false
whole_at k no_members h = refl
whole_at k (member l e ms) h =
    let parts = both_false (has_float e) (members_have_float ms) h in
    by (slice_cmp nat_cmp k l) parts.0 (whole_at k ms parts.1)
  where
    by : (o : Ordering) → has_float e ≡ false → has_float (unwrap_or (get_member k ms) null) ≡ false
        → has_float (unwrap_or (match_ordering o (get_member k ms) (Some e) (get_member k ms)) null) ≡ false
    by Less first more = more
    by Equal first more = first
    by Greater first more = more

whole_got : (k : List ℕ) (d : Data) → has_float d ≡ false → has_float (unwrap_or (get k d) null) ≡ false
whole_got k null h = refl
whole_got k (boolean b) h = refl
whole_got k (number x) h = refl
whole_got k (string s) h = refl
whole_got k (array ds) h = refl
whole_got k (object ms) h = whole_at k ms h

whole_test : (ids : List TestInstanceId) (d : Data) → has_float d ≡ false → has_float (made_test ids d) ≡ false
whole_test ids d h = by (is_to_skip ids (id_of d) (get (codes "skip") d))
  where
    by : (b : Bool) → has_float (cond b (with_member (codes "skip") (string (codes "rerun")) d) d) ≡ false
    by true = whole-with (codes "skip") (string (codes "rerun")) d refl h
    by false = h

whole_items : (ids : List TestInstanceId) (ds : Items) → items_have_float ds ≡ false
    → items_have_float (made_items ids ds) ≡ false
whole_items ids no_items h = h
whole_items ids (item d ds) h =
    let parts = both_false (has_float d) (items_have_float ds) h in
    ap (λ b. b || items_have_float (made_items ids ds)) (whole_test ids d parts.0) ∙ whole_items ids ds parts.1

whole_tests : (ids : List TestInstanceId) (d : Data) → has_float d ≡ false → has_float (made_tests ids d) ≡ false
whole_tests ids null h = h
whole_tests ids (boolean b) h = h
whole_tests ids (number x) h = h
whole_tests ids (string s) h = h
whole_tests ids (array ds) h = whole_items ids ds h
whole_tests ids (object ms) h = h

whole_ids : (ids : List TestInstanceId) → items_have_float (items_of (map test_data ids)) ≡ false
whole_ids [] = refl
whole_ids (id ∷ ids) = whole_ids ids

-- and has no float
pub whole_made : (ids : List TestInstanceId) (d : Data) → has_float d ≡ false → has_float (made ids d) ≡ false
whole_made ids d h =
    let tests = made_tests ids (unwrap_or (get (codes "tests") d) null) in
    whole-with (codes "expected") (array_of test_data ids) (with_member (codes "tests") tests d) (whole_ids ids)
    (whole-with (codes "tests") tests d (whole_tests ids (unwrap_or (get (codes "tests") d) null)
    (whole_got (codes "tests") d h)) h)

-- the value of a plan line has no float, and is what is read
pub plan_value : (line : List ℕ) (d : Data) → is_utf8 line ≡ true → read line ≡ Some d → IsSome (plan_line_of line)
    → (has_float d ≡ false) × (json_value line ≡ Some d)
unfolding json_value
plan_value line d utf8 is said = by (has_float d) refl
  where
    value : json_value line ≡ unless_float d
    value = ap (λ b. cond b (option_and_then unless_float (read line)) None) utf8 ∙ ap (option_and_then unless_float) is

    by : (b : Bool) → has_float d ≡ b → (has_float d ≡ false) × (json_value line ≡ Some d)
    by true float =
        let none : plan_line_of line ≡ None =
        ap (option_and_then plan_of) (value ∙ ap (λ b. cond b None (Some d)) float) in
        absurd (true≢false (sym (subst IsSome none said)))
    by false whole = (whole, value ∙ ap (λ b. cond b None (Some d)) whole)

-- a text that is read as a value without a float has it
pub text_value : (text : List ℕ) (d : Data) → is_utf8 text ≡ true → read text ≡ Some d → has_float d ≡ false
    → json_value text ≡ Some d
unfolding json_value
text_value text d utf8 is whole =
    ap (λ b. cond b (option_and_then unless_float (read text)) None) utf8 ∙ ap (option_and_then unless_float) is
    ∙ ap (λ b. cond b None (Some d)) whole
