-- How many units aren't over, as they change.
use Rattle.std.proofs.Common.{◌≡◌, ℕ, zero, suc, ◌+◌, ◌-◌, ◌<◌, ◌≤◌, List, [], ◌∷◌, ◌++◌, map, take, drop, length}
use Rattle.std.proofs.Common.{get_or, set}
use Rattle.std.proofs.Common.{Bool, true, if◌then◌else◌, option_map}
use Rattle.std.proofs.Common.{false, not, cond, Option, Some, None, count_by, refl, ap, sym, ◌∙◌, arith}
use Rattle.std.proofs.lemmas.List.Sums.{sum_by-cons, sum_by-append, sum_by-set, get_or-le-sum_by}
use Rattle.std.proofs.lemmas.List.{take-append-drop, set-get_or}
use Rattle.run_model.specs.declared.unit_view.UnitView.{UnitView}
use Rattle.run_model.specs.declared.phase.Phase.{Phase}
use Rattle.run_model.specs.declared.phase.Phase.TheVariants.{Over}
use Rattle.run_model.specs.declared.unit_turn.UnitTurn.{UnitTurn}
use Rattle.run_events.specs.declared.request.Request.{Request}
use Rattle.run_model.specs.Unit.{takes, takes_at, is_live, reached}
use Rattle.run_model.specs.Admission.{is_last}
use Rattle.run_model.specs.Story.{is_live_unit}
use Rattle.run_model.specs.Turns.{live_in}
use Rattle.run_state.specs.Counted.{is_left}

-- of units none of which was admitted all are left
pub absent_left : (us : List (Option UnitView)) → ((k : ℕ) → get_or us k None ≡ None)
    → count_by is_left us ≡ length us
absent_left [] none = refl
absent_left (u ∷ us) none =
    sum_by-cons (λ u. cond (is_left u) 1 0) u us ∙ ap (λ u. cond (is_left u) 1 0 + count_by is_left us) (none 0)
    ∙ one_more (count_by is_left us) ∙ ap (λ n. suc n) (absent_left us (λ k. none (suc k)))
  where
    one_more : (n : ℕ) → 1 + n ≡ suc n
    one_more n = omega arith

-- a unit that takes a turn isn't over
pub not_last : (now : ℕ) (u : UnitView) (turn : UnitTurn) → takes now u turn ≡ true → is_last u.phase ≡ false
not_last now u turn e = by_phase u.phase e
  where
    by_phase : (ph : Phase) → takes_at now ph u turn ≡ true → is_last ph ≡ false
    by_phase Over e = cc
    by_phase ph e = refl

-- a unit that was admitted stands in the list
pub stands_inside : (us : List (Option UnitView)) (k : ℕ) (u : UnitView) → get_or us k None ≡ Some u → k < length us
stands_inside [] k u e = cc
stands_inside (v ∷ us) zero u e = omega arith
stands_inside (v ∷ us) (suc k) u e = let inside : k < length us = stands_inside us k u e in omega arith

-- what stands there is the unit, whatever stands for a missing one
pub stands_same : (us : List (Option UnitView)) (k : ℕ) (u : UnitView) (other : Option UnitView)
    → get_or us k None ≡ Some u → get_or us k other ≡ Some u
stands_same [] k u other e = cc
stands_same (v ∷ us) zero u other e = e
stands_same (v ∷ us) (suc k) u other e = stands_same us k u other e

-- how many are left after one of them was set
left_set : (us : List (Option UnitView)) (k : ℕ) (new : Option UnitView) → is_left (get_or us k None) ≡ true
    → k < length us → count_by is_left (set us k new) + 1 ≡ count_by is_left us + cond (is_left new) 1 0
left_set us k new is inside =
    ap (λ b. count_by is_left (set us k new) + cond b 1 0) (sym is)
    ∙ sum_by-set (λ u. cond (is_left u) 1 0) us k new None inside

-- there is one
pub some_left : (us : List (Option UnitView)) (k left : ℕ) → left ≡ count_by is_left us
    → is_left (get_or us k None) ≡ true → k < length us → 1 ≤ left
some_left us k left e is inside =
    let one : ◌≡◌ {A = ℕ} (cond (is_left (get_or us k None)) 1 0) 1 = ap (λ b. cond {A = ℕ} b 1 0) is in
    let within = get_or-le-sum_by (λ u. cond (is_left u) 1 0) us k None inside in
    omega (arith, one, within)

-- one that is left becomes another, which is over or not
pub set_left : (us : List (Option UnitView)) (k left : ℕ) (v : UnitView) (over : Bool) → left ≡ count_by is_left us
    → is_left (get_or us k None) ≡ true → k < length us → is_last v.phase ≡ over
    → left - cond over 1 0 ≡ count_by is_left (set us k (Some v))
set_left us k left v over e is inside ends =
    less over (left_set us k (Some v) is inside ∙ ap (λ b. count_by is_left us + cond (not b) 1 0) ends)
  where
    less : (over : Bool)
        → count_by is_left (set us k (Some v)) + 1 ≡ count_by is_left us + cond (not over) 1 0
        → left - cond over 1 0 ≡ count_by is_left (set us k (Some v))
    less true more = omega arith
    less false more = omega arith

-- a request leaves which units are left, and which are live
reached_left : (request : Request) (v : Option UnitView) → is_left (option_map (reached request) v) ≡ is_left v
reached_left request None = refl
reached_left request (Some u) = by_live (is_live u.phase)
  where
    by_live : (b : Bool)
        → is_left (Some (if b then record u { line = u.line ++ request ∷ [] } else u)) ≡ is_left (Some u)
    by_live true = refl
    by_live false = refl

reached_live : (request : Request) (v : Option UnitView)
    → is_live_unit (option_map (reached request) v) ≡ is_live_unit v
reached_live request None = refl
reached_live request (Some u) = by_live (is_live u.phase)
  where
    by_live : (b : Bool)
        → is_live_unit (Some (if b then record u { line = u.line ++ request ∷ [] } else u)) ≡ is_live_unit (Some u)
    by_live true = refl
    by_live false = refl

-- what it leaves of each unit it leaves of the count
all_reached : (f : Option UnitView → Bool) (request : Request) (us : List (Option UnitView))
    → ((v : Option UnitView) → f (option_map (reached request) v) ≡ f v)
    → count_by f (map (option_map (reached request)) us) ≡ count_by f us
all_reached f request [] same = refl
all_reached f request (u ∷ us) same =
    sum_by-cons (λ u. cond (f u) 1 0) (option_map (reached request) u) (map (option_map (reached request)) us)
    ∙ ap (λ b. cond b 1 0 + count_by f (map (option_map (reached request)) us)) (same u)
    ∙ ap (λ n. cond (f u) 1 0 + n) (all_reached f request us same)
    ∙ sym (sum_by-cons (λ u. cond (f u) 1 0) u us)

-- also where the first ones alone were reached
some_reached : (f : Option UnitView → Bool) (request : Request) (n : ℕ) (us : List (Option UnitView))
    → ((v : Option UnitView) → f (option_map (reached request) v) ≡ f v)
    → count_by f (map (option_map (reached request)) (take n us) ++ drop n us) ≡ count_by f us
some_reached f request n us same =
    sum_by-append (λ u. cond (f u) 1 0) (map (option_map (reached request)) (take n us)) (drop n us)
    ∙ ap (λ m. m + count_by f (drop n us)) (all_reached f request (take n us) same)
    ∙ sym (sum_by-append (λ u. cond (f u) 1 0) (take n us) (drop n us))
    ∙ ap (count_by f) (take-append-drop n us)

-- and where one of the rest was set to what it was
failed : (f : Option UnitView → Bool) (request : Request) (n : ℕ) (us vs : List (Option UnitView)) (k : ℕ)
    (new d : Option UnitView)
    → ((v : Option UnitView) → f (option_map (reached request) v) ≡ f v)
    → vs ≡ map (option_map (reached request)) (take n us) ++ drop n us → new ≡ get_or vs k d
    → count_by f (set vs k new) ≡ count_by f us
failed f request n us vs k new d same vs-is kept =
    ap (λ v. count_by f (set vs k v)) kept ∙ ap (count_by f) (set-get_or vs k d)
    ∙ ap (count_by f) vs-is ∙ some_reached f request n us same

pub failed_left : (request : Request) (n : ℕ) (us vs : List (Option UnitView)) (k : ℕ) (new d : Option UnitView)
    → vs ≡ map (option_map (reached request)) (take n us) ++ drop n us → new ≡ get_or vs k d
    → count_by is_left (set vs k new) ≡ count_by is_left us
failed_left request n us vs k new d vs-is kept =
    failed is_left request n us vs k new d (reached_left request) vs-is kept

pub failed_live : (request : Request) (n : ℕ) (us vs : List (Option UnitView)) (k : ℕ) (new d : Option UnitView)
    → vs ≡ map (option_map (reached request)) (take n us) ++ drop n us → new ≡ get_or vs k d
    → live_in (set vs k new) ≡ live_in us
failed_live request n us vs k new d vs-is kept =
    failed is_live_unit request n us vs k new d (reached_live request) vs-is kept

pub some_live : (request : Request) (n : ℕ) (us vs : List (Option UnitView))
    → vs ≡ map (option_map (reached request)) (take n us) ++ drop n us → live_in vs ≡ live_in us
some_live request n us vs vs-is = ap live_in vs-is ∙ some_reached is_live_unit request n us (reached_live request)
