-- What has no float has none in its parts.
use Rattle.std.proofs.Common.{◌≡◌, ◌∙◌, ℕ, List, Bool, true, false, ◌||◌, Option, Some, sym, ap, refl, true≢false}
use Rattle.std.proofs.Common.{Ordering, Less, Equal, Greater, None, if◌then◌else◌, option_and_then}
use Rattle.std.specs.Cmp.Lexicographic.{slice_cmp}
use Rattle.std.specs.Ordering.{match_ordering, nat_cmp}
use Rattle.std.specs.Str.{is_utf8}
use Rattle.serde_json.specs.Data.{Data, Items, Members, null, boolean, number, string, array, object, item}
use Rattle.serde_json.specs.Data.{no_members, member}
use Rattle.serde_json.specs.Find.{as_array, get, get_member}
use Rattle.serde_json.specs.Read.{read}
use Rattle.serde_json.specs.Written.{has_float, items_have_float, members_have_float}
use Rattle.run_input.specs.ValueOf.{json_value, unless_float}

first_plain : (x y : Bool) → (x || y) ≡ false → x ≡ false
first_plain false y e = refl
first_plain true y e = e

rest_plain : (x y : Bool) → (x || y) ≡ false → y ≡ false
rest_plain false y e = e
rest_plain true y e = absurd (true≢false e)

by_order : (o : Ordering) (rest : Option Data) (e d : Data) → (rest ≡ Some d → has_float d ≡ false)
    → has_float e ≡ false → match_ordering o rest (Some e) rest ≡ Some d → has_float d ≡ false
by_order Less rest e d later plain is = later is
by_order Equal rest e d later plain is =
    let same : e ≡ d = cc in
    sym (ap has_float same) ∙ plain
by_order Greater rest e d later plain is = later is

member_plain : (key : List ℕ) (ms : Members) (d : Data) → get_member key ms ≡ Some d
    → members_have_float ms ≡ false → has_float d ≡ false
member_plain key no_members d is plain = cc
member_plain key (member own e ms) d is plain =
    by_order (slice_cmp nat_cmp key own) (get_member key ms) e d
    (λ there. member_plain key ms d there (rest_plain (has_float e) (members_have_float ms) plain))
    (first_plain (has_float e) (members_have_float ms) plain) is

-- what stands at a key
pub at_plain : (key : List ℕ) (d e : Data) → get key d ≡ Some e → has_float d ≡ false → has_float e ≡ false
at_plain key null e is plain = cc
at_plain key (boolean b) e is plain = cc
at_plain key (number n) e is plain = cc
at_plain key (string s) e is plain = cc
at_plain key (array ds) e is plain = cc
at_plain key (object ms) e is plain = member_plain key ms e is plain

-- the items of an array
pub items_plain : (d : Data) (ds : Items) → as_array d ≡ Some ds → has_float d ≡ false → items_have_float ds ≡ false
items_plain null ds is plain = cc
items_plain (boolean b) ds is plain = cc
items_plain (number n) ds is plain = cc
items_plain (string s) ds is plain = cc
items_plain (array es) ds is plain =
    let same : es ≡ ds = cc in
    sym (ap items_have_float same) ∙ plain
items_plain (object ms) ds is plain = cc

-- of two parts
pub first_has_none : (d : Data) (ds : Items) → items_have_float (item d ds) ≡ false → has_float d ≡ false
first_has_none d ds plain = first_plain (has_float d) (items_have_float ds) plain

pub rest_has_none : (d : Data) (ds : Items) → items_have_float (item d ds) ≡ false → items_have_float ds ≡ false
rest_has_none d ds plain = rest_plain (has_float d) (items_have_float ds) plain

by_float : (b : Bool) (d e : Data) → has_float d ≡ b → (if b then None else Some d) ≡ Some e → has_float e ≡ false
by_float true d e is none = cc
by_float false d e is there =
    let same : d ≡ e = cc in
    sym (ap has_float same) ∙ is

by_reading : (b : Bool) (o : Option Data) (d : Data)
    → (if b then option_and_then unless_float o else None) ≡ Some d → has_float d ≡ false
by_reading false o d is = cc
by_reading true None d is = cc
by_reading true (Some e) d is = by_float (has_float e) e d refl is

-- the value of a line
pub value_plain : (line : List ℕ) (d : Data) → json_value line ≡ Some d → has_float d ≡ false
unfolding json_value
value_plain line d is = by_reading (is_utf8 line) (read line) d is
