-- The numbers of the units that were admitted and aren't over, as the units change.
use Rattle.std.proofs.Common.{◌≡◌, ◌⊎◌, inl, inr, ℕ, zero, suc, ◌+◌, ◌<◌, ◌≤◌, ◌++◌, List, [], ◌∷◌, map, take, drop}
use Rattle.std.proofs.Common.{length}
use Rattle.std.proofs.Common.{get_or, set, Bool, true, false, not, if◌then◌else◌, Option, Some, None, option_map}
use Rattle.std.proofs.Common.{refl, ap, ap₂, sym, subst, ◌∙◌, arith}
use Rattle.std.proofs.Common.{Result, Ok, Err}
use Rattle.std.specs.List.{insert, remove}
use Rattle.std.specs.List.Sorted.{IsBinarySearchResult}
use Rattle.std.specs.Ordering.{nat_cmp}
use Rattle.std.proofs.lemmas.Bool.{cases_lt}
use Rattle.std.proofs.lemmas.List.{map-append, map-set, set-get_or, take-append-drop}
use Rattle.std.proofs.lemmas.List.Sorted.{searched}
use Rattle.std.proofs.lemmas.Option.{same_Some}
use Rattle.std.proofs.Math.ListN.{get_or-map}
use Rattle.run_events.specs.declared.request.Request.{Request}
use Rattle.run_model.specs.declared.phase.Phase.{Phase}
use Rattle.run_model.specs.declared.unit_turn.UnitTurn.{UnitTurn}
use Rattle.run_model.specs.declared.unit_view.UnitView.{UnitView}
use Rattle.run_model.specs.Admission.{is_last}
use Rattle.run_model.specs.Board.{Board, unit_in}
use Rattle.run_model.specs.Turns.{unit_takes}
use Rattle.run_model.specs.Unit.{is_live, reached, takes}
use Rattle.run_state.specs.Counted.{is_working, places, working_in}
use Rattle.run_state.specs.First.{phase_of}
use Rattle.run_state.specs.Settle.{IsFirstTaker, NoneTakes}
use Rattle.run_state.proofs.CountedLemmas.{not_last, stands_inside}

-- the places are no less than the number of the first
above : (i : ℕ) (bs : List Bool) (k : ℕ) → k < length (places i bs) → i ≤ get_or (places i bs) k 0
above i [] k below = absurd (omega arith)
above i (false ∷ bs) k below =
    let more : i + 1 ≤ get_or (places (i + 1) bs) k 0 = above (i + 1) bs k below in omega arith
above i (true ∷ bs) zero below = omega arith
above i (true ∷ bs) (suc k) below =
    let more : i + 1 ≤ get_or (places (i + 1) bs) k 0 = above (i + 1) bs k (omega arith) in omega arith

-- they ascend
ascend : (i : ℕ) (bs : List Bool) (a b : ℕ) → a ≤ b → b < length (places i bs)
    → get_or (places i bs) a 0 ≤ get_or (places i bs) b 0
ascend i [] a b le below = absurd (omega arith)
ascend i (false ∷ bs) a b le below = ascend (i + 1) bs a b le below
ascend i (true ∷ bs) zero zero le below = omega arith
ascend i (true ∷ bs) zero (suc b) le below =
    let more : i + 1 ≤ get_or (places (i + 1) bs) b 0 = above (i + 1) bs b (omega arith) in omega arith
ascend i (true ∷ bs) (suc a) zero le below = absurd (omega arith)
ascend i (true ∷ bs) (suc a) (suc b) le below = ascend (i + 1) bs a b (omega arith) (omega arith)

-- one that is true stands among them
found : (i : ℕ) (bs : List Bool) (k x : ℕ) → x ≡ i + k → get_or bs k false ≡ true
    → (at : ℕ) × (at < length (places i bs)) × (get_or (places i bs) at 0 ≡ x)
found i [] k x is on = cc
found i (false ∷ bs) zero x is on = cc
found i (true ∷ bs) zero x is on = (zero, omega arith, omega arith)
found i (false ∷ bs) (suc k) x is on = found (i + 1) bs k x (omega arith) on
found i (true ∷ bs) (suc k) x is on =
    let later = found (i + 1) bs k x (omega arith) on in
    let below : later.0 < length (places (i + 1) bs) = later.1 in
    (suc later.0, omega arith, later.2)

-- what stands among them is true
flagged : (i : ℕ) (bs : List Bool) (k x : ℕ) → k < length (places i bs) → get_or (places i bs) k 0 ≡ i + x
    → get_or bs x false ≡ true
flagged i [] k x below is = absurd (omega arith)
flagged i (false ∷ bs) k zero below is =
    let more : i + 1 ≤ get_or (places (i + 1) bs) k 0 = above (i + 1) bs k below in absurd (omega arith)
flagged i (false ∷ bs) k (suc x) below is = flagged (i + 1) bs k x below (omega arith)
flagged i (true ∷ bs) zero zero below is = refl
flagged i (true ∷ bs) zero (suc x) below is = absurd (omega arith)
flagged i (true ∷ bs) (suc k) zero below is =
    let more : i + 1 ≤ get_or (places (i + 1) bs) k 0 = above (i + 1) bs k (omega arith) in absurd (omega arith)
flagged i (true ∷ bs) (suc k) (suc x) below is = flagged (i + 1) bs k x (omega arith) (omega arith)

-- one becomes true: its number comes after those that are no greater
pub places-put : (i : ℕ) (bs : List Bool) (k at x : ℕ) → x ≡ i + k → k < length bs → get_or bs k false ≡ false
    → at ≤ length (places i bs) → ((j : ℕ) → j < at → get_or (places i bs) j 0 ≤ x)
    → (at < length (places i bs) → x < get_or (places i bs) at 0)
    → places i (set bs k true) ≡ insert (places i bs) at x
places-put i [] k at x is inside off within before after = absurd (omega arith)
places-put i (true ∷ bs) zero at x is inside off within before after = cc
places-put i (false ∷ bs) zero zero x is inside off within before after =
    let same : i ≡ x = omega arith in ap (λ n. n ∷ places (i + 1) bs) same
places-put i (false ∷ bs) zero (suc at) x is inside off within before after =
    let least : i + 1 ≤ get_or (places (i + 1) bs) 0 0 = above (i + 1) bs 0 (omega arith) in
    let most : get_or (places (i + 1) bs) 0 0 ≤ x = before 0 (omega arith) in
    absurd (omega arith)
places-put i (true ∷ bs) (suc k) zero x is inside off within before after =
    let less : x < i = after (omega arith) in absurd (omega arith)
places-put i (true ∷ bs) (suc k) (suc at) x is inside off within before after =
    ap (λ ns. i ∷ ns)
    (places-put (i + 1) bs k at x (omega arith) (omega arith) off (omega arith) (λ j less. before (suc j) (omega arith))
    (λ less. after (omega arith)))
places-put i (false ∷ bs) (suc k) at x is inside off within before after =
    places-put (i + 1) bs k at x (omega arith) (omega arith) off within before after

-- one is true no more: its number goes
pub places-taken : (i : ℕ) (bs : List Bool) (k at x : ℕ) → x ≡ i + k → get_or bs k false ≡ true
    → at < length (places i bs) → get_or (places i bs) at 0 ≡ x
    → places i (set bs k false) ≡ remove (places i bs) at
places-taken i [] k at x is on within here = cc
places-taken i (false ∷ bs) zero at x is on within here = cc
places-taken i (true ∷ bs) zero zero x is on within here = refl
places-taken i (true ∷ bs) zero (suc at) x is on within here =
    let more : i + 1 ≤ get_or (places (i + 1) bs) at 0 = above (i + 1) bs at (omega arith) in
    let same : get_or (places (i + 1) bs) at 0 ≡ x = here in
    absurd (omega arith)
places-taken i (true ∷ bs) (suc k) zero x is on within here =
    let same : i ≡ x = here in absurd (omega arith)
places-taken i (true ∷ bs) (suc k) (suc at) x is on within here =
    ap (λ ns. i ∷ ns) (places-taken (i + 1) bs k at x (omega arith) on (omega arith) here)
places-taken i (false ∷ bs) (suc k) at x is on within here =
    places-taken (i + 1) bs k at x (omega arith) on within here

-- none stands nowhere that is true
pub places-some : (bs : List Bool) (x : ℕ) (ns : List ℕ) → ns ≡ places 0 bs
    → ((k : ℕ) → k < length ns → get_or ns k 0 ≡ x → ⊥) → get_or bs x false ≡ true → ⊥
places-some bs x ns is none on =
    let at = found 0 bs x x (omega arith) on in
    none at.0 (subst (λ ms. at.0 < length ms) (sym is) at.1) (ap (λ ms. get_or ms at.0 0) is ∙ at.2)

-- of units none of which was admitted none is working
absent-from : (i : ℕ) (us : List (Option UnitView)) → ((k : ℕ) → get_or us k None ≡ None)
    → places i (map is_working us) ≡ []
absent-from i [] none = refl
absent-from i (u ∷ us) none = rw (none 0) (absent-from (i + 1) us (λ k. none (suc k)))

pub absent_working : (us : List (Option UnitView)) → ((k : ℕ) → get_or us k None ≡ None) → [] ≡ working_in us
absent_working us none = sym (absent-from 0 us none)

-- a unit was set, whose flag is this
pub working-set : (us : List (Option UnitView)) (k : ℕ) (v : UnitView) (over : Bool) (ns : List ℕ)
    → is_last v.phase ≡ over → ns ≡ places 0 (set (map is_working us) k (not over))
    → ns ≡ working_in (set us k (Some v))
working-set us k v over ns ends is =
    is ∙ ap (λ b. places 0 (set (map is_working us) k (not b))) (sym ends)
    ∙ ap (places 0) (sym (map-set is_working us k (Some v)))

-- the flag of a unit
pub flag-at : (us : List (Option UnitView)) (k : ℕ) (d : Option UnitView) (b : Bool) → is_working (get_or us k d) ≡ b
    → get_or (map is_working us) k (is_working d) ≡ b
flag-at us k d b is = get_or-map is_working us k d ∙ is

-- a request leaves which units are working
working_reached : (request : Request) (v : Option UnitView) → is_working (option_map (reached request) v) ≡ is_working v
working_reached request None = refl
working_reached request (Some u) = by_live (is_live u.phase)
  where
    by_live : (b : Bool)
        → is_working (Some (if b then record u { line = u.line ++ request ∷ [] } else u)) ≡ is_working (Some u)
    by_live true = refl
    by_live false = refl

all_reached : (request : Request) (us : List (Option UnitView))
    → map is_working (map (option_map (reached request)) us) ≡ map is_working us
all_reached request [] = refl
all_reached request (u ∷ us) = ap₂ (λ b bs. b ∷ bs) (working_reached request u) (all_reached request us)

-- also where the first ones alone were reached
pub working-some : (request : Request) (n : ℕ) (us vs : List (Option UnitView))
    → vs ≡ map (option_map (reached request)) (take n us) ++ drop n us → map is_working vs ≡ map is_working us
working-some request n us vs is =
    ap (map is_working) is ∙ map-append is_working (map (option_map (reached request)) (take n us)) (drop n us)
    ∙ ap (λ bs. bs ++ map is_working (drop n us)) (all_reached request (take n us))
    ∙ sym (map-append is_working (take n us) (drop n us)) ∙ ap (map is_working) (take-append-drop n us)

-- and where one of the rest was set to what it was
pub working-failed : (request : Request) (n : ℕ) (us vs : List (Option UnitView)) (k : ℕ) (new d : Option UnitView)
    → vs ≡ map (option_map (reached request)) (take n us) ++ drop n us → new ≡ get_or vs k d
    → map is_working (set vs k new) ≡ map is_working us
working-failed request n us vs k new d is same =
    ap (λ v. map is_working (set vs k v)) same ∙ ap (map is_working) (set-get_or vs k d)
    ∙ working-some request n us vs is

-- a unit that takes a turn was admitted and isn't over
pub taken_working : (now : ℕ) (o : Option UnitView) (turn : UnitTurn) → unit_takes now o turn ≡ true
    → is_working o ≡ true
taken_working now None turn e = cc
taken_working now (Some u) turn e = ap not (not_last now u turn e)

idle : (now : ℕ) (turn : UnitTurn) (o : Option UnitView) → is_working o ≡ false → unit_takes now o turn ≡ false
idle now turn o off = by_taken (unit_takes now o turn) refl
  where
    by_taken : (t : Bool) → unit_takes now o turn ≡ t → t ≡ false
    by_taken false e = refl
    by_taken true e = sym (taken_working now o turn e) ∙ off

listed : (us : List (Option UnitView)) (k : ℕ) → is_working (get_or us k None) ≡ true
    → (at : ℕ) × (at < length (working_in us)) × (get_or (working_in us) at 0 ≡ k)
listed us k on = found 0 (map is_working us) k k (omega arith) (flag-at us k None true on)

-- what is so of each unit that isn't working, and of those listed before a unit, is so of all before it
pub all_before : (us : List (Option UnitView)) (P : Option UnitView → Type 0)
    → ((o : Option UnitView) → is_working o ≡ false → P o) → (at unit : ℕ) → at < length (working_in us)
    → get_or (working_in us) at 0 ≡ unit → ((j : ℕ) → j < at → P (get_or us (get_or (working_in us) j 0) None))
    → (k : ℕ) → k < unit → P (get_or us k None)
all_before us P rest at unit inside here so k less = by_flag (is_working (get_or us k None)) refl
  where
    by_place : (j : ℕ) → j < length (working_in us) → get_or (working_in us) j 0 ≡ k → (j < at) ⊎ (at ≤ j)
        → P (get_or us k None)
    by_place j below stands (inl first) = subst (λ n. P (get_or us n None)) stands (so j first)
    by_place j below stands (inr later) =
        let le : get_or (working_in us) at 0 ≤ get_or (working_in us) j 0 =
        ascend 0 (map is_working us) at j later below in
        absurd (omega arith)

    by_flag : (f : Bool) → is_working (get_or us k None) ≡ f → P (get_or us k None)
    by_flag false off = rest (get_or us k None) off
    by_flag true on = let it = listed us k on in by_place it.0 it.1 it.2 (cases_lt it.0 at)

-- what is so of each unit that isn't working, and of all listed, is so of all
pub all_units : (us : List (Option UnitView)) (P : Option UnitView → Type 0)
    → ((o : Option UnitView) → is_working o ≡ false → P o)
    → ((j : ℕ) → j < length (working_in us) → P (get_or us (get_or (working_in us) j 0) None))
    → (k : ℕ) → P (get_or us k None)
all_units us P rest so k = by_flag (is_working (get_or us k None)) refl
  where
    by_flag : (f : Bool) → is_working (get_or us k None) ≡ f → P (get_or us k None)
    by_flag false off = rest (get_or us k None) off
    by_flag true on =
        let it = listed us k on in subst (λ n. P (get_or us n None)) it.2 (so it.0 it.1)

-- a unit that isn't working is in no phase but the last
pub not_in : (phase : Phase) → is_last phase ≡ false → (o : Option UnitView) → is_working o ≡ false
    → phase_of o ≡ Some phase → ⊥
not_in phase going None off is = cc
not_in phase going (Some u) off is =
    let same : u.phase ≡ phase = same_Some _ _ is in
    let never : true ≡ false = sym (ap not going) ∙ ap (λ ph. not (is_last ph)) (sym same) ∙ off in cc

-- a unit that takes a turn, of which those listed before it take none, is the first
pub first_working : (b : Board) (turn : UnitTurn) (at unit : ℕ) → at < length (working_in b.units)
    → get_or (working_in b.units) at 0 ≡ unit
    → ((j : ℕ) → j < at → unit_takes b.clock (unit_in b (get_or (working_in b.units) j 0)) turn ≡ false)
    → unit_takes b.clock (unit_in b unit) turn ≡ true → IsFirstTaker b turn unit
first_working b turn at unit inside here none takes = record {
  within = by_unit (unit_in b unit) refl takes;
  takes = takes;
  before = all_before b.units (λ o. unit_takes b.clock o turn ≡ false) (idle b.clock turn) at unit inside here none;
}
  where
    by_unit : (o : Option UnitView) → unit_in b unit ≡ o → unit_takes b.clock o turn ≡ true → unit < length b.units
    by_unit None e t = cc
    by_unit (Some u) e t = stands_inside b.units unit u e

-- where none of those listed takes a turn, none does
pub none_working : (b : Board) (turn : UnitTurn) (n : ℕ)
    → ((j : ℕ) → j < length (working_in b.units)
    → unit_takes b.clock (unit_in b (get_or (working_in b.units) j 0)) turn ≡ false) → NoneTakes b turn n
none_working b turn n none k below =
    all_units b.units (λ o. unit_takes b.clock o turn ≡ false) (idle b.clock turn) none k

-- the same of numbers that are such places
pub put-of : (ns : List ℕ) (flags : List Bool) (at x : ℕ) → ns ≡ places 0 flags → x < length flags
    → get_or flags x false ≡ false → at ≤ length ns → ((j : ℕ) → j < at → get_or ns j 0 ≤ x)
    → (at < length ns → x < get_or ns at 0) → insert ns at x ≡ places 0 (set flags x true)
put-of ns flags at x is inside off within before after =
    ap (λ ms. insert ms at x) is
    ∙ sym (places-put 0 flags x at x (omega arith) inside off (subst (λ ms. at ≤ length ms) is within)
    (λ j less. subst (λ ms. get_or ms j 0 ≤ x) is (before j less))
    (λ less. subst (λ ms. x < get_or ms at 0) is (after (subst (λ ms. at < length ms) (sym is) less))))

pub taken-of : (ns : List ℕ) (flags : List Bool) (at x : ℕ) → ns ≡ places 0 flags → get_or flags x false ≡ true
    → at < length ns → get_or ns at 0 ≡ x → remove ns at ≡ places 0 (set flags x false)
taken-of ns flags at x is on within here =
    ap (λ ms. remove ms at) is
    ∙ sym (places-taken 0 flags x at x (omega arith) on (subst (λ ms. at < length ms) is within)
    (subst (λ ms. get_or ms at 0 ≡ x) is here))

rises : (ns : List ℕ) (flags : List Bool) → ns ≡ places 0 flags → (i j : ℕ) → i ≤ j → j < length ns
    → get_or ns i 0 ≤ get_or ns j 0
rises ns flags is i j le below =
    subst (λ ms. get_or ms i 0 ≤ get_or ms j 0) (sym is) (ascend 0 flags i j le (subst (λ ms. j < length ms) is below))

-- a search for a number whose flag isn't set ends where it comes
pub put-near : (ns : List ℕ) (flags : List Bool) (x : ℕ) (r : Result ℕ ℕ) (at : ℕ) → ns ≡ places 0 flags
    → x < length flags → get_or flags x false ≡ false → IsBinarySearchResult (λ y. nat_cmp y x) ns r
    → (r ≡ Ok at) ⊎ (r ≡ Err at) → insert ns at x ≡ places 0 (set flags x true)
put-near ns flags x (Ok i) at is inside off sought e =
    let it = searched ns x (Ok i) sought (rises ns flags is) in
    let here : get_or (places 0 flags) i 0 ≡ x = ap (λ ms. get_or ms i 0) (sym is) ∙ it.1 in
    let on : get_or flags x false ≡ true =
    flagged 0 flags i x (subst (λ ms. i < length ms) is it.0) (omega arith) in
    cc
put-near ns flags x (Err i) at is inside off sought (inl e) = cc
put-near ns flags x (Err i) at is inside off sought (inr e) =
    let it = searched ns x (Err i) sought (rises ns flags is) in
    let same : i ≡ at = cc in
    subst (λ k. insert ns k x ≡ places 0 (set flags x true)) same
    (put-of ns flags i x is inside off it.0 (λ j less. omega (arith, it.1 j less)) (λ less. it.2 i (omega arith) less))

-- a search for one whose flag is set finds it
pub take-near : (ns : List ℕ) (flags : List Bool) (x : ℕ) (i : ℕ) → ns ≡ places 0 flags → get_or flags x false ≡ true
    → IsBinarySearchResult (λ y. nat_cmp y x) ns (Ok i) → remove ns i ≡ places 0 (set flags x false)
take-near ns flags x i is on sought =
    let it = searched ns x (Ok i) sought (rises ns flags is) in taken-of ns flags i x is on it.0 it.1

pub none-near : (ns : List ℕ) (flags : List Bool) (x i : ℕ) → ns ≡ places 0 flags → get_or flags x false ≡ true
    → IsBinarySearchResult (λ y. nat_cmp y x) ns (Err i) → ⊥
none-near ns flags x i is on sought =
    let it = searched ns x (Err i) sought (rises ns flags is) in
    places-some flags x ns is
    (λ k below same. elim (cases_lt k i) [
      | inl less ↦ let lower : get_or ns k 0 < x = it.1 k less in omega arith
      | inr later ↦ let higher : x < get_or ns k 0 = it.2 k later below in omega arith
    ])
    on

-- what is so of the first numbers and of the next one
pub next_too : (P : ℕ → Type 0) (n : ℕ) → ((j : ℕ) → j < n → P j) → P n → (j : ℕ) → j < n + 1 → P j
next_too P n all here j below = at (cases_lt j n)
  where
    at : (j < n) ⊎ (n ≤ j) → P j
    at (inl less) = all j less
    at (inr from) = let same : n ≡ j = omega arith in subst P same here
