-- Values that have a text of their own, and their texts.
use Rattle.std.proofs.Common.{◌≡◌, ◌∙◌, ◌≤◌, ℕ, nat_eq, List, Option, Some, None, option_map, option_and_then}
use Rattle.std.proofs.Common.{IfSome, Bool, true, false, if◌then◌else◌, is_some, refl, sym, ap, subst}
use Rattle.std.proofs.Common.{true≢false, arith}
use Rattle.std.specs.Option.{option_eq}
use Rattle.std.specs.Ordering.{nat_cmp, match_ordering}
use Rattle.std.specs.Cmp.Lexicographic.{slice_cmp}
use Rattle.std.specs.declared.cmp.Ordering.{Ordering}
use Rattle.std.specs.declared.cmp.Ordering.TheVariants.{Less, Equal, Greater}
use Rattle.std.specs.Str.{is_utf8}
use lib.Pointwise.{bytes_decides, pointwise}
use Rattle.std.proofs.lemmas.Bool.{or_parts}
use Rattle.std.proofs.lemmas.Option.{same_Some}
use Rattle.serde_json.specs.Data.{Data, null, boolean, number, string, array, object, depth, members_depth}
use Rattle.serde_json.specs.Data.{Members, no_members, member}
use Rattle.serde_json.specs.Find.{get, get_member}
use Rattle.serde_json.specs.Read.{max_depth, read}
use Rattle.serde_json.specs.Written.{compact_text, has_float, members_have_float}
use Rattle.serde_json.proofs.Nesting.{depth-read}
use Rattle.run_input.specs.ValueOf.{json_value, unless_float}
use Rattle.run_audit_machines.specs.SameData.{same_data}
use Rattle.run_audit_machines.proofs.SameDataLemmas.{data_decides}
use Rattle.run_audit_passes.specs.Texts.{HasOwnText, IsOwnText, known_value_in}

-- a value that was read has one
unless_own : (text : List ℕ) (d v : Data) (b : Bool) → has_float d ≡ b → read text ≡ Some d
    → (if b then None else Some d) ≡ Some v → HasOwnText v
unless_own text d v true float is said = absurd (true≢false (ap is_some (sym said)))
unless_own text d v false whole is said =
    subst HasOwnText (same_Some d v said) (whole, depth-read text d is)

read_own : (text : List ℕ) (o : Option Data) (v : Data) → read text ≡ o → option_and_then unless_float o ≡ Some v
    → HasOwnText v
read_own text None v is said = absurd (true≢false (ap is_some (sym said)))
read_own text (Some d) v is said = unless_own text d v (has_float d) refl is said

by_utf8 : (text : List ℕ) (v : Data) (b : Bool)
    → (if b then option_and_then unless_float (read text) else None) ≡ Some v → HasOwnText v
by_utf8 text v true said = read_own text (read text) v refl said
by_utf8 text v false said = absurd (true≢false (ap is_some (sym said)))

pub value_own : (text : List ℕ) (v : Data) → json_value text ≡ Some v → HasOwnText v
unfolding json_value
value_own text v said = by_utf8 text v (is_utf8 text) said

-- and so has each that stands at a key of it
abbrev OwnWithin : ℕ → Data → Type 0
OwnWithin n d = (has_float d ≡ false) × (depth d ≤ n)

member_own : (k : List ℕ) (ms : Members) (n : ℕ) → members_have_float ms ≡ false → members_depth ms ≤ n
    → IfSome (get_member k ms) (OwnWithin n)
member_own k no_members n whole deep = tt
member_own k (member l e ms) n whole deep =
    let parts = or_parts (has_float e) (members_have_float ms) whole in
    by (slice_cmp nat_cmp k l) (parts.0, omega (arith, deep)) (member_own k ms n parts.1 (omega (arith, deep)))
  where
    by : (o : Ordering) → OwnWithin n e → IfSome (get_member k ms) (OwnWithin n)
        → IfSome (match_ordering o (get_member k ms) (Some e) (get_member k ms)) (OwnWithin n)
    by Less first more = more
    by Equal first more = first
    by Greater first more = more

pub got_own : (k : List ℕ) (d : Data) → HasOwnText d → IfSome (get k d) HasOwnText
got_own k null own = tt
got_own k (boolean b) own = tt
got_own k (number n) own = tt
got_own k (string s) own = tt
got_own k (array ds) own = tt
got_own k (object ms) own = member_own k ms max_depth own.0 (omega (arith, own.1))

-- what is read of a value that is there, by what stands there
pub some_own : {X : Type 0} (f : X → Data) (o : Option X) (d : Option Data) → option_map f o ≡ d
    → IfSome d HasOwnText → IfSome o (λ x. HasOwnText (f x))
some_own f None d is own = tt
some_own f (Some x) d is own = subst (λ o. IfSome o HasOwnText) (sym is) own

-- two texts are the same just where their values are
same_answer : (a b : Bool) → (a ≡ true → b ≡ true) → (b ≡ true → a ≡ true) → a ≡ b
same_answer true b to from = sym (to refl)
same_answer false true to from = from refl
same_answer false false to from = refl

pub same_texts : (s t : List ℕ) → IsOwnText s → IsOwnText t
    → pointwise nat_eq s t ≡ option_eq same_data (known_value_in (Some s)) (known_value_in (Some t))
same_texts s t own other =
    same_answer (pointwise nat_eq s t) (same_data own.0 other.0)
    (λ is. (data_decides own.0 other.0).1
    (same_Some own.0 other.0 (sym own.2 ∙ ap read ((bytes_decides s t).0 is) ∙ other.2)))
    (λ is. (bytes_decides s t).1
    (own.1 ∙ ap compact_text ((data_decides own.0 other.0).0 is) ∙ sym other.1))
    ∙ by own.2 other.2
  where
    by : read s ≡ Some own.0 → read t ≡ Some other.0
        → same_data own.0 other.0 ≡ option_eq same_data (read s) (read t)
    by left right =
        ap (λ o. option_eq same_data o (Some other.0)) (sym left)
        ∙ ap (λ o. option_eq same_data (read s) o) (sym right)
