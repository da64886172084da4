-- What reads a unit that is over: no turn, no seat, no request and no count.
use Rattle.std.proofs.Common.{◌≡◌, inl, inr, ℕ, zero, suc, ◌<◌, ◌||◌, List, [], ◌∷◌, length, get_or, map, take, drop}
use Rattle.std.proofs.Common.{min, Bool, true, false, cond, sum, Option, Some, None, ext_get_or, length-take}
use Rattle.std.proofs.Common.{get_or-take, refl, ap, sym, ◌∙◌, arith}
use Rattle.std.specs.List.{list_all, list_any}
use Rattle.std.proofs.lemmas.List.{drop-map, length-map}
use Rattle.std.proofs.lemmas.List.Folds.{list_all-map}
use Rattle.std.proofs.lemmas.List.Sums.{sum-map}
use Rattle.run_events.specs.declared.request.Request.{Request}
use Rattle.run_events.specs.declared.settings.Settings.{Settings}
use Rattle.run_admission.specs.declared.seat.Seat.TheVariants.{Gone}
use Rattle.run_model.specs.declared.phase.Phase.{Phase}
use Rattle.run_model.specs.declared.phase.Phase.TheVariants.{Over}
use Rattle.run_model.specs.declared.unit_turn.UnitTurn.{UnitTurn}
use Rattle.run_model.specs.declared.unit_view.UnitView.{UnitView}
use Rattle.run_model.specs.Admission.{is_last, is_done, seat_of, scripts_in, scripts_of, limits_of}
use Rattle.run_model.specs.Same.{is_request}
use Rattle.run_model.specs.Story.{is_live_unit}
use Rattle.run_model.specs.Unit.{is_live, takes_at}
use Rattle.run_model.specs.Turns.{holds, is_held, live_in, unit_takes}
use Rattle.run_laws.proofs.board.Newcomers.{script_number}
use Rattle.run_state.proofs.SeatLemmas.{seat_over}
use Rattle.run_engine.specs.Forgotten.{line_kept, MayForget, AreForgotten}

-- a list of what a function gives, at a place
pub at_map : {X Y : Type 0} (f : X → Y) (d : X) (us : List X) (k : ℕ) → get_or (map f us) k (f d) ≡ f (get_or us k d)
at_map f d [] k = refl
at_map f d (u ∷ us) zero = refl
at_map f d (u ∷ us) (suc k) = at_map f d us k

-- a function that gives the same at each place of two lists
map_same : {X Y : Type 0} (f : X → Y) (d : X) (us vs : List X) → length vs ≡ length us
    → ((k : ℕ) → f (get_or vs k d) ≡ f (get_or us k d)) → map f vs ≡ map f us
map_same f d us vs whole same =
    ext_get_or (f d) (map f vs) (map f us) (length-map vs f ∙ whole ∙ sym (length-map us f))
    (λ k h. at_map f d vs k ∙ same k ∙ sym (at_map f d us k))

-- tests and counts of the entries are those of what the function gives
any_map : {X : Type 0} (f : X → Bool) (us : List X) → list_any f us ≡ list_any (λ b. b) (map f us)
any_map f [] = refl
any_map f (u ∷ us) = ap (λ b. f u || b) (any_map f us)

any_same : {X : Type 0} (f : X → Bool) (us vs : List X) → map f vs ≡ map f us → list_any f vs ≡ list_any f us
any_same f us vs e = any_map f vs ∙ ap (list_any (λ b. b)) e ∙ sym (any_map f us)

all_same : {X : Type 0} (f : X → Bool) (us vs : List X) → map f vs ≡ map f us → list_all f vs ≡ list_all f us
all_same f us vs e = sym (list_all-map (λ b. b) f vs) ∙ ap (list_all (λ b. b)) e ∙ list_all-map (λ b. b) f us

-- the last phase
pub last_is : (ph : Phase) → is_last ph ≡ true → ph ≡ Over
last_is Over last = refl
last_is ph last = cc

-- what a unit that is over holds of the limits; it isn't live, holds no request and takes no turn
over_seat : (u : Option UnitView) → is_done u ≡ true → line_kept u ≡ [] → seat_of u ≡ Gone
over_seat None over line = cc
over_seat (Some u) over line = seat_over u over

over_live : (u : Option UnitView) → is_done u ≡ true → line_kept u ≡ [] → is_live_unit u ≡ false
over_live None over line = cc
over_live (Some u) over line = ap is_live (last_is u.phase over)

over_holds : (request : Request) (u : Option UnitView) → is_done u ≡ true → line_kept u ≡ [] → holds request u ≡ false
over_holds request None over line = cc
over_holds request (Some u) over line = ap (list_any (is_request request)) line

over_takes : (now : ℕ) (turn : UnitTurn) (u : Option UnitView) → is_done u ≡ true → line_kept u ≡ []
    → unit_takes now u turn ≡ false
over_takes now turn None over line = cc
over_takes now turn (Some u) over line = ap (λ ph. takes_at now ph u turn) (last_is u.phase over)

-- what is the same of all units that are over is the same of what is kept
pub kept_same : {Y : Type 0} (p : Settings) (k : ℕ) (f : Option UnitView → Y) (y : Y)
    → ((u : Option UnitView) → is_done u ≡ true → line_kept u ≡ [] → f u ≡ y) → (u v : Option UnitView)
    → MayForget p k u v → f v ≡ f u
kept_same p k f y all u v (inl e) = ap f e
kept_same p k f y all u v (inr o) = all v o.kept_over o.kept_line ∙ sym (all u o.over o.line)

map_kept : {Y : Type 0} (p : Settings) (f : Option UnitView → Y) (y : Y)
    → ((u : Option UnitView) → is_done u ≡ true → line_kept u ≡ [] → f u ≡ y) → (us vs : List (Option UnitView))
    → AreForgotten p us vs → map f vs ≡ map f us
map_kept p f y all us vs h = map_same f None us vs h.whole
    (λ k. kept_same p k f y all (get_or us k None) (get_or vs k None) (h.each k))

-- a unit that takes a turn is kept as it is
pub kept_taker : (p : Settings) (k now : ℕ) (turn : UnitTurn) (u v : Option UnitView) → MayForget p k u v
    → unit_takes now u turn ≡ true → v ≡ u
kept_taker p k now turn u v (inl e) takes = e
kept_taker p k now turn u v (inr o) takes =
    let never : false ≡ true = sym (over_takes now turn u o.over o.line) ∙ takes in cc

pub kept_takes : (p : Settings) (k now : ℕ) (turn : UnitTurn) (u v : Option UnitView) → MayForget p k u v
    → unit_takes now v turn ≡ unit_takes now u turn
kept_takes p k now turn = kept_same p k (λ u. unit_takes now u turn) false (over_takes now turn)

-- what the units hold of the limits
pub limits_same : (p : Settings) (us vs : List (Option UnitView)) → AreForgotten p us vs
    → limits_of p vs ≡ limits_of p us
limits_same p us vs h = ap (λ seats. record (limits_of p us) { seats = seats })
    (sym (drop-map seat_of (scripts_in p) vs)
    ∙ ap (drop (scripts_in p)) (map_kept p seat_of Gone over_seat us vs h)
    ∙ drop-map seat_of (scripts_in p) us)

-- how many are live, whether each is over, and whether one holds a request
pub live_same : (p : Settings) (us vs : List (Option UnitView)) → AreForgotten p us vs → live_in vs ≡ live_in us
live_same p us vs h =
    sym (sum-map counts vs) ∙ ap sum (map_kept p counts 0 (λ u over line. ap (λ b. cond b 1 0) (over_live u over line))
    us vs h) ∙ sum-map counts us
  where
    counts : Option UnitView → ℕ
    counts u = cond (is_live_unit u) 1 0

pub done_same : (p : Settings) (us vs : List (Option UnitView)) → AreForgotten p us vs
    → list_all is_done vs ≡ list_all is_done us
done_same p us vs h = all_same is_done us vs (map_kept p is_done true (λ u over line. over) us vs h)

pub held_same : (p : Settings) (asks : Option Request) (us vs : List (Option UnitView)) → AreForgotten p us vs
    → is_held asks vs ≡ is_held asks us
held_same p None us vs h = refl
held_same p (Some request) us vs h =
    any_same (holds request) us vs (map_kept p (holds request) false (over_holds request) us vs h)

-- the scripts are kept as they are
pub scripts_same : (p : Settings) (us vs : List (Option UnitView)) → AreForgotten p us vs
    → scripts_of p vs ≡ scripts_of p us
scripts_same p us vs h =
    ext_get_or None (take n vs) (take n us)
    (length-take n vs ∙ ap (min n) h.whole ∙ sym (length-take n us))
    (λ k lt. let below : k < n = omega (arith, length-take n vs) in
    get_or-take n vs k None below ∙ same k below (h.each k) ∙ sym (get_or-take n us k None below))
  where
    n : ℕ
    n = scripts_in p

    same : (k : ℕ) → k < scripts_in p → MayForget p k (get_or us k None) (get_or vs k None)
        → get_or vs k None ≡ get_or us k None
    same k below (inl e) = e
    same k below (inr o) = let never : true ≡ false = sym (script_number p k below) ∙ o.test in cc
