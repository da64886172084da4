-- Tests stay in their places, as the units change.
use Rattle.std.proofs.Common.{◌≡◌, ◌⊎◌, inl, inr, ℕ, zero, suc, ◌+◌, ◌-◌, nat_le, max, ◌<◌, ◌≤◌, ◌==◌, ◌++◌, ◌∷◌}
use Rattle.std.proofs.Common.{List, [], map, take, drop, length, get_or, set, Bool, true, false, if◌then◌else◌}
use Rattle.std.proofs.Common.{Option, Some, None, option_map, refl, ap, ap₂, sym, subst, ◌∙◌, arith}
use Rattle.std.proofs.lemmas.Option.{same_Some, slice_get_within}
use Rattle.std.proofs.lemmas.List.{length-map, length-drop, length-set, map-append, set-get_or, take-append-drop}
use Rattle.std.proofs.Math.ListN.{get_or-map}
use Rattle.std.proofs.Math.Seq.{map-set_same}
use Rattle.run_admission.specs.declared.seat.Admitted.{Admitted}
use Rattle.run_admission.specs.declared.seat.Admitted.TheVariants.{Skip as Skipped, Run}
use Rattle.run_admission.specs.declared.seat.Seat.{Seat}
use Rattle.run_admission.specs.declared.seat.Seat.TheVariants.{Gone, InUse}
use Rattle.run_admission.specs.InUse.{Admissions, released, seats_after}
use Rattle.run_events.specs.declared.request.Request.{Request}
use Rattle.run_events.specs.declared.settings.Settings.{Settings}
use Rattle.run_events.specs.declared.stress.StressIndex.{StressIndex}
use Rattle.run_model.specs.declared.unit_turn.UnitTurn.{UnitTurn}
use Rattle.run_model.specs.declared.unit_view.UnitView.{UnitView}
use Rattle.run_model.specs.Environment.{number}
use Rattle.run_model.specs.Unit.{at_moment, is_live, reached, row}
use Rattle.run_model.specs.Admission.{limits_of, scripts_in, seat_of, newcomer, Newcomer}
use Rattle.run_laws.proofs.board.Newcomers.{Newcomes, Becomes, ScriptComes, newcomer_is}
use Rattle.run_laws.proofs.units.Rows.{row_keeps}
use Rattle.run_state.specs.Held.{given_back, units_with}
use Rattle.run_state.specs.Placed.{AreTests, HasSeats, is_no_script, is_test}

-- scripts and tests that stay in their places
pub tests-kept : (us vs : List (Option UnitView)) (a b : Admissions) → AreTests us a
    → map is_no_script vs ≡ map is_no_script us → length b.seats ≡ length a.seats → AreTests vs b
tests-kept us vs a b are same seats k u at le = by_old (get_or us k None) refl
  where
    kind : is_test u.role ≡ is_no_script (get_or us k None)
    kind =
        sym (ap is_no_script at) ∙ sym (get_or-map is_no_script vs k None) ∙ ap (λ bs. get_or bs k true) same
        ∙ get_or-map is_no_script us k None

    many : length us ≤ k + length a.seats
    many = omega (arith, le, seats, length-map us is_no_script, length-map vs is_no_script, ap (λ bs. length bs) same)

    by_old : (o : Option UnitView) → get_or us k None ≡ o → is_test u.role ≡ true
    by_old None e = kind ∙ ap is_no_script e
    by_old (Some v) e = kind ∙ ap is_no_script e ∙ are k v e many

-- a unit that took a turn is what it was
pub kinds-acted : (us : List (Option UnitView)) (k now : ℕ) (turn : UnitTurn) (u : UnitView) → get_or us k None ≡ Some u
    → map is_no_script (set us k (Some (row now turn u).next)) ≡ map is_no_script us
kinds-acted us k now turn u at =
    map-set_same is_no_script us k (Some (row now turn u).next) None
    (ap is_test (row_keeps now u.phase turn (at_moment now u) refl).role ∙ sym (ap is_no_script at))

-- and so are those that are reached
kind-reached : (request : Request) (v : Option UnitView)
    → is_no_script (option_map (reached request) v) ≡ is_no_script v
kind-reached request None = refl
kind-reached request (Some u) = by_live (is_live u.phase)
  where
    by_live : (b : Bool)
        → is_no_script (Some (if b then record u { line = u.line ++ request ∷ [] } else u)) ≡ is_no_script (Some u)
    by_live true = refl
    by_live false = refl

kinds-reached : (request : Request) (us : List (Option UnitView))
    → map is_no_script (map (option_map (reached request)) us) ≡ map is_no_script us
kinds-reached request [] = refl
kinds-reached request (u ∷ us) = ap₂ (λ b bs. b ∷ bs) (kind-reached request u) (kinds-reached request us)

-- also where the first ones alone were reached
pub kinds-some : (request : Request) (n : ℕ) (us vs : List (Option UnitView))
    → vs ≡ map (option_map (reached request)) (take n us) ++ drop n us → map is_no_script vs ≡ map is_no_script us
kinds-some request n us vs vs-is =
    ap (map is_no_script) vs-is
    ∙ map-append is_no_script (map (option_map (reached request)) (take n us)) (drop n us)
    ∙ ap (λ bs. bs ++ map is_no_script (drop n us)) (kinds-reached request (take n us))
    ∙ sym (map-append is_no_script (take n us) (drop n us))
    ∙ ap (map is_no_script) (take-append-drop n us)

-- and where one of the rest was set to what it was
pub kinds-failed : (request : Request) (n : ℕ) (us vs : List (Option UnitView)) (k : ℕ) (new d : Option UnitView)
    → vs ≡ map (option_map (reached request)) (take n us) ++ drop n us → new ≡ get_or vs k d
    → map is_no_script (set vs k new) ≡ map is_no_script us
kinds-failed request n us vs k new d vs-is same =
    ap (λ v. map is_no_script (set vs k v)) same ∙ ap (map is_no_script) (set-get_or vs k d)
    ∙ kinds-some request n us vs vs-is

-- a test gives back what it holds, and keeps its seat
pub seats-given : (p : Settings) (a : Admissions) (k : ℕ) (over : Bool)
    → length (if over then given_back p a k else a).seats ≡ length a.seats
seats-given p a k false = refl
seats-given p a k true = by_kind (nat_le (scripts_in p) k)
  where
    by_kind : (b : Bool) → length (if b then released a (k - scripts_in p) else a).seats ≡ length a.seats
    by_kind true = length-set a.seats (k - scripts_in p) Gone
    by_kind false = refl

-- so each test has a seat by then
pub seats-left : (p : Settings) (a b : Admissions) (k : ℕ) (over : Bool) → HasSeats a
    → b ≡ (if over then given_back p a k else a) → HasSeats b
seats-left p a b k over has left =
    ap (λ (b : Admissions). length b.seats) left ∙ seats-given p a k over ∙ has ∙ sym (claims over)
    ∙ sym (ap (λ (b : Admissions). length b.claims) left)
  where
    of_kind : (c : Bool) → length (if c then released a (k - scripts_in p) else a).claims ≡ length a.claims
    of_kind true = refl
    of_kind false = refl

    claims : (over : Bool) → length (if over then given_back p a k else a).claims ≡ length a.claims
    claims true = of_kind (nat_le (scripts_in p) k)
    claims false = refl

-- an admission leaves how many seats there are
pub seats-admitted : (seats : List Seat) (next : Option Admitted) → length (seats_after seats next) ≡ length seats
seats-admitted seats None = refl
seats-admitted seats (Some (Skipped test)) = length-set seats test Gone
seats-admitted seats (Some (Run test global group)) = length-set seats test (InUse global group)

-- there is one for each unit after the scripts
pub seats-many : (p : Settings) (us : List (Option UnitView))
    → length (limits_of p us).seats + scripts_in p ≡ max (scripts_in p) (length us)
seats-many p us =
    omega (arith, length-map (drop (scripts_in p) us) seat_of, length-drop (scripts_in p) us)

-- so a unit after the scripts is a test
pub is_placed : (p : Settings) (us : List (Option UnitView)) (a : Admissions) (k : ℕ) (u : UnitView) → AreTests us a
    → a ≡ limits_of p us → get_or us k None ≡ Some u → scripts_in p ≤ k → is_test u.role ≡ true
is_placed p us a k u are seated at le =
    are k u at (omega (arith, le, seats-many p us, ap (λ (a : Admissions). length a.seats) seated))

-- a unit that is set is what stands there
set_there : (us : List (Option UnitView)) (k : ℕ) (v u : UnitView) → get_or (set us k (Some v)) k None ≡ Some u → v ≡ u
set_there [] k v u e = cc
set_there (x ∷ us) zero v u e = same_Some _ _ e
set_there (x ∷ us) (suc k) v u e = set_there us k v u e

-- and the others stand as they were
set_other : (us : List (Option UnitView)) (k j : ℕ) (v : Option UnitView) → (j == k) ≡ false
    → get_or (set us k v) j None ≡ get_or us j None
set_other [] k j v e = refl
set_other (x ∷ us) zero zero v e = cc
set_other (x ∷ us) zero (suc j) v e = refl
set_other (x ∷ us) (suc k) zero v e = refl
set_other (x ∷ us) (suc k) (suc j) v e = set_other us k j v (grind (arith, e))

-- one more unit, which is a test where it has a seat
pub tests-set : (us : List (Option UnitView)) (a b : Admissions) (k : ℕ) (v : UnitView) → AreTests us a
    → length b.seats ≡ length a.seats → (length us ≤ k + length a.seats → is_test v.role ≡ true)
    → AreTests (set us k (Some v)) b
tests-set us a b k v are seats new j u at le = by_place (j == k) refl
  where
    many : length us ≤ j + length a.seats
    many = omega (arith, le, seats, length-set us k (Some v))

    by_place : (c : Bool) → (j == k) ≡ c → is_test u.role ≡ true
    by_place true e =
        let here : j ≡ k = grind (arith, e) in
        let same : v ≡ u = set_there us k v u (subst (λ i. get_or (set us k (Some v)) i None ≡ Some u) here at) in
        ap (λ (w : UnitView). is_test w.role) (sym same)
        ∙ new (subst (λ i. length us ≤ i + length a.seats) here many)
    by_place false e = are j u (sym (set_other us k j (Some v) e) ∙ at) many

-- the newcomer
pub tests-after : (p : Settings) (index : Option StressIndex) (us : List (Option UnitView)) (a b : Admissions)
    → AreTests us a → a ≡ limits_of p us
    → length b.seats ≡ length a.seats → scripts_in p ≤ length us → AreTests (units_with p us (newcomer p index us)) b
tests-after p index us a b are seated seats whole = by_new (newcomer p index us) refl
  where
    of_test : (new : Newcomer) → Newcomes p index us new → is_test new.unit.role ≡ true
    of_test new found = by_case found.is
      where
        by_case : Becomes p index us found.place found.test new → is_test new.unit.role ≡ true
        by_case (inl (reason, skip, is)) = ap (λ (n : Newcomer). is_test n.unit.role) is
        by_case (inr (skip, (global, (slot, runs, is)))) = ap (λ (n : Newcomer). is_test n.unit.role) is

    of_script : (new : Newcomer) → ScriptComes p index us new → number new.unit < scripts_in p
    of_script new found =
        subst (λ (n : Newcomer). number n.unit < scripts_in p) (sym found.is)
        (slice_get_within p.plan.scripts found.place found.script found.planned)

    by_kind : (new : Newcomer) → Newcomes p index us new ⊎ ScriptComes p index us new
        → length us ≤ number new.unit + length a.seats → is_test new.unit.role ≡ true
    by_kind new (inl found) le = of_test new found
    by_kind new (inr found) le =
        absurd (let below = of_script new found in
        omega (arith, below, le, whole, seats-many p us, ap (λ (a : Admissions). length a.seats) seated))

    by_new : (o : Option Newcomer) → newcomer p index us ≡ o → AreTests (units_with p us o) b
    by_new None e = tests-kept us us a b are refl seats
    by_new (Some new) e =
        tests-set us a b (number new.unit) new.unit are seats (by_kind new (newcomer_is p index us new e))
