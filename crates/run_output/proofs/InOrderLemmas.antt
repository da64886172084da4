-- Fields whose keys stand in byte order already.
use Rattle.std.proofs.Common.{◌≡◌, refl, ap, sym, ◌∙◌, arith, ℕ, zero, suc, ◌+◌, ◌-◌, ◌<◌, ◌≤◌, List, [], ◌∷◌, ◌++◌}
use Rattle.std.proofs.Common.{length, drop, get_or, append_assoc, Option, Some, None, is_none, true, false}
use Rattle.std.specs.Prelude.{⊤}
use Rattle.std.proofs.lemmas.List.{append-nil, drop_more, drop_all, length-drop}
use Rattle.std.specs.Borrow.{Bor}
use Rattle.std.specs.Ordering.{nat_cmp, match_ordering, is_gt}
use Rattle.std.specs.Cmp.Lexicographic.{slice_cmp}
use Rattle.std.specs.declared.cmp.Ordering.TheVariants.{Greater}
use Rattle.json.specs.Token.{Token, begin_object, end_object}
use Rattle.json.specs.Token as token
use Rattle.json.specs.Tree.{members_tokens}
use Rattle.serde_json.specs.Data.{Data, object, Members, no_members, member, put}
use Rattle.serde_json.specs.Written.{members_outline}
use Rattle.run_output.specs.Fields.{put_all, put_some, rows, object_of}
use Rattle.run_output.specs.Printer.{data_tokens, member_tokens, or_null}
use Rattle.run_output.specs.Rows.{ascend}
use Rattle.run_output.proofs.PrintLemmas.{object_tokens}
use Rattle.run_output.proofs.RowLemmas.{Ascend, StartsAbove, ascend_if, ascend_from, above_both}

-- ---- the members that fields in order are

-- a member in front of others, where there is a value
abbrev pub put_front : List ℕ → Option Data → Members → Members
put_front key None held = held
put_front key (Some value) held = member key value held

-- the members of these fields, in the order in which they come
abbrev pub members_in : {F : Type 0} → (F → Option Data) → List (Bor (List ℕ) × F) → Members
members_in printed [] = no_members
members_in printed (field ∷ fields) = put_front field.0.now (printed field.1) (members_in printed fields)

-- each of these keys stands above one
abbrev AllAbove : {F : Type 0} → List ℕ → List (Bor (List ℕ) × F) → Type 0
AllAbove key [] = ⊤
AllAbove key (field ∷ fields) = (slice_cmp nat_cmp field.0.now key ≡ Greater) × AllAbove key fields

-- what stands above a higher key stands above a lower one
all_above_lower : {F : Type 0} (high low : List ℕ) (fields : List (Bor (List ℕ) × F))
    → slice_cmp nat_cmp high low ≡ Greater → AllAbove high fields → AllAbove low fields
all_above_lower high low [] e all = tt
all_above_lower high low (field ∷ fields) e all =
    (above_both field.0.now high low all.0 e, all_above_lower high low fields e all.1)

-- keys that ascend stand above the first
all_above_first : {F : Type 0} (field : Bor (List ℕ) × F) (fields : List (Bor (List ℕ) × F))
    → Ascend (field ∷ fields) → AllAbove field.0.now fields
all_above_first field [] up = tt
all_above_first field (next ∷ fields) up =
    (up.0, all_above_lower next.0.now field.0.now fields up.0 (all_above_first next fields up.1))

-- a member whose key stands above the first is put behind it
put_behind : (low : List ℕ) (first : Data) (key : List ℕ) (value : Option Data) (held : Members)
    → slice_cmp nat_cmp key low ≡ Greater
    → put_some key value (member low first held) ≡ member low first (put_some key value held)
put_behind low first key None held e = refl
put_behind low first key (Some value) held e = ap
    (λ o. match_ordering o (member key value (member low first held)) (member low value held)
    (member low first (put key value held))) e

-- so are fields whose keys do
put_all_behind : {F : Type 0} (printed : F → Option Data) (low : List ℕ) (first : Data)
    (fields : List (Bor (List ℕ) × F)) (held : Members) → AllAbove low fields
    → put_all (rows printed fields) (member low first held) ≡ member low first (put_all (rows printed fields) held)
put_all_behind printed low first [] held all = refl
put_all_behind printed low first (field ∷ fields) held all =
    ap (put_all (rows printed fields)) (put_behind low first field.0.now (printed field.1) held all.0)
    ∙ put_all_behind printed low first fields (put_some field.0.now (printed field.1) held) all.1

-- the first of them, put before the others
put_first : {F : Type 0} (printed : F → Option Data) (key : List ℕ) (value : Option Data)
    (fields : List (Bor (List ℕ) × F)) → AllAbove key fields
    → put_all (rows printed fields) (put_some key value no_members)
    ≡ put_front key value (put_all (rows printed fields) no_members)
put_first printed key None fields all = refl
put_first printed key (Some value) fields all = put_all_behind printed key value fields no_members all

all_in_order : {F : Type 0} (printed : F → Option Data) (fields : List (Bor (List ℕ) × F)) → Ascend fields
    → put_all (rows printed fields) no_members ≡ members_in printed fields
all_in_order printed [] up = refl
all_in_order printed (field ∷ fields) up =
    put_first printed field.0.now (printed field.1) fields (all_above_first field fields up)
    ∙ ap (put_front field.0.now (printed field.1)) (all_in_order printed fields up.1)

-- ---- one member

pub no_member : (name : List ℕ) (value : Option Data) (old : List Token) → is_none value ≡ true
    → old ≡ old ++ member_tokens name value
no_member name None old e = sym (append-nil old)
no_member name (Some value) old e = absurd (cc)

pub one_member : (name : List ℕ) (value : Option Data) (old named new : List Token) → is_none value ≡ false
    → named ≡ old ++ token.key name ∷ [] → new ≡ named ++ data_tokens (or_null value)
    → new ≡ old ++ member_tokens name value
one_member name None old named new e first second = absurd (cc)
one_member name (Some value) old named new e first second =
    second ∙ ap (λ ts. ts ++ data_tokens value) first ∙ append_assoc old (token.key name ∷ []) (data_tokens value)

-- the tokens of members with one in front
front_tokens : (name : List ℕ) (value : Option Data) (held : Members)
    → members_tokens (members_outline (put_front name value held))
    ≡ member_tokens name value ++ members_tokens (members_outline held)
unfolding data_tokens
front_tokens name None held = refl
front_tokens name (Some value) held = refl

-- ---- the loop

-- one more member
pub member_printed : {F : Type 0} (printed : F → Option Data) (fields : List (Bor (List ℕ) × F)) (i : ℕ)
    (field : Bor (List ℕ) × F) (old new : List Token) → field ≡ get_or fields i field → i < length fields
    → new ≡ old ++ member_tokens field.0.now (printed field.1)
    → new ++ members_tokens (members_outline (members_in printed (drop (i + 1) fields)))
    ≡ old ++ members_tokens (members_outline (members_in printed (drop i fields)))
member_printed printed fields i field old new is below more =
    let later = members_in printed (drop (i + 1) fields) in
    let rest = members_tokens (members_outline later) in
    ap (λ ts. ts ++ rest) more ∙ append_assoc old (member_tokens field.0.now (printed field.1)) rest
    ∙ ap (λ ts. old ++ ts) (sym (front_tokens field.0.now (printed field.1) later))
    ∙ ap (λ (f : Bor (List ℕ) × _). old ++ members_tokens (members_outline (put_front f.0.now (printed f.1) later))) is
    ∙ ap (λ l. old ++ members_tokens (members_outline (members_in printed l))) (sym (drop_more fields i field below))

-- the object as a whole
pub in_order_printed : {F : Type 0} (printed : F → Option Data) (fields : List (Bor (List ℕ) × F)) (i : ℕ)
    (start opened out done : List Token) → ascend fields ≡ true → opened ≡ start ++ begin_object ∷ []
    → out ++ members_tokens (members_outline (members_in printed (drop i fields)))
    ≡ opened ++ members_tokens (members_outline (members_in printed fields)) → length fields ≤ i
    → done ≡ out ++ end_object ∷ []
    → done ≡ start ++ data_tokens (object_of (rows printed fields))
in_order_printed printed fields i start opened out done up begun before end ended =
    let all = members_tokens (members_outline (members_in printed fields)) in
    ended ∙ ap (λ l. out ++ members_tokens (members_outline (members_in printed l))) (sym (drop_all i fields end))
    ∙ before ∙ ap (λ ts. ts ++ all) begun ∙ append_assoc start (begin_object ∷ []) all
    ∙ ap (λ ts. start ++ ts) (sym (object_tokens (members_in printed fields)))
    ∙ ap (λ held. start ++ data_tokens (object held)) (sym (all_in_order printed fields (ascend_if fields up)))

-- ---- the search for a key out of order

-- at most one field is in order
pub one_in_order : {F : Type 0} (fields : List (Bor (List ℕ) × F)) → length fields ≤ 1 → ascend fields ≡ true
one_in_order [] e = refl
one_in_order (field ∷ []) e = refl
one_in_order (field ∷ (next ∷ fields)) e = absurd (omega (arith, e))

-- and so is what stands from the last on
pub last_in_order : {F : Type 0} (fields : List (Bor (List ℕ) × F)) (at : ℕ) → length fields ≤ at
    → ascend (drop (at - 1) fields) ≡ true
last_in_order fields at past =
    one_in_order (drop (at - 1) fields) (omega (arith, past, length-drop (at - 1) fields))
