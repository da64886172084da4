-- A sub-run before any unit was admitted: what its tests hold of the limits, and the dispatcher before any turn.
use Rattle.std.proofs.Common.{◌≡◌, ℕ, ◌+◌, ◌-◌, ◌<◌, List, [], length, get_or, Option, None, refl, ap, ap₂, sym, ◌∙◌}
use Rattle.std.proofs.Common.{map, drop, zero, suc, ◌∷◌}
use Rattle.std.proofs.Common.{replicate, Some, subst, true, arith}
use Rattle.std.proofs.lemmas.List.{ext_get_or, get_or-replicate, length-replicate, get_or-map, length-map}
use Rattle.std.proofs.lemmas.List.{get_or-drop, length-drop}
use Rattle.std.specs.List.{list_all}
use Rattle.run_admission.specs.declared.seat.Seat.{Seat}
use Rattle.run_admission.specs.declared.seat.Seat.TheVariants.{Waiting, InUse, Gone}
use Rattle.run_admission.specs.InUse.{Admissions, new_admissions, claim_of, is_waiting}
use Rattle.run_events.specs.declared.request.Request.{Request}
use Rattle.run_events.specs.declared.settings.Settings.{Settings}
use Rattle.run_model.proofs.RerunLemmas.{unseen-none}
use Rattle.run_model.specs.declared.dispatcher_view.DispatcherView.{DispatcherView}
use Rattle.run_model.specs.declared.unit_view.UnitView.{UnitView}
use Rattle.run_model.specs.Admission.{limits_of, scripts_in, seat_of, tests_in, units_in}
use Rattle.run_model.specs.Board.{board, dispatcher_of}
use Rattle.run_model.specs.Dispatch.{unbegun}
use Rattle.run_laws.proofs.board.Nothing.{tally-nil, units-nil}
use Rattle.run_unit.specs.Alike.{alike_of}
use Rattle.run_state.specs.Held.{Held, held, kept_of}
use Rattle.run_state.specs.Placed.{FitsUnits, HasSeats}
use Rattle.run_state.proofs.HoldersLemmas.{absent_held}

-- of units none of which was admitted, each after the scripts waits
waits : (us : List (Option UnitView)) (n many : ℕ) → ((k : ℕ) → get_or us k None ≡ None) → length (drop n us) ≡ many
    → replicate many Waiting ≡ map seat_of (drop n us)
waits us n many none long =
    ext_get_or Waiting (replicate many Waiting) (map seat_of (drop n us))
    (length-replicate many Waiting ∙ sym (length-map (drop n us) seat_of ∙ long))
    (λ i h. let below : i < many = omega (arith, length-replicate many Waiting) in
    get_or-replicate many i Waiting Waiting below ∙ sym (waiting i (omega (arith, below, long))))
  where
    waiting : (i : ℕ) → i < length (drop n us) → get_or (map seat_of (drop n us)) i Waiting ≡ Waiting
    waiting i inside =
        get_or-map seat_of (drop n us) i None Waiting inside ∙ ap seat_of (get_or-drop n us i None ∙ none (n + i))

-- of units that were forgotten none was admitted
pub forgotten : (us : List (Option UnitView)) (k : ℕ) → get_or (map {B = Option UnitView} (λ _. None) us) k None ≡ None
forgotten [] k = refl
forgotten (u ∷ us) zero = refl
forgotten (u ∷ us) (suc k) = forgotten us k

-- so the limits as a sub-run begins are those of these units
pub limits-anew : (p : Settings) (us : List (Option UnitView)) → ((k : ℕ) → get_or us k None ≡ None)
    → length (drop (scripts_in p) us) ≡ tests_in p → new_admissions p.threads p.plan.groups p.plan.tests ≡ limits_of
    p us
limits-anew p us none long =
    ap (λ seats. record (limits_of p us) { seats = seats }) (waits us (scripts_in p) (tests_in p) none long)

-- and so are limits of which no test has taken
all_waiting : (ss : List Seat) → list_all is_waiting ss ≡ true → ss ≡ replicate (length ss) Waiting
all_waiting [] e = refl
all_waiting (Waiting ∷ ss) e = ap (λ rest. Waiting ∷ rest) (all_waiting ss e)
all_waiting (InUse global group ∷ ss) e = cc
all_waiting (Gone ∷ ss) e = cc

pub limits-untouched : (p : Settings) (us : List (Option UnitView)) (a : Admissions) → a ≡ limits_of p us → HasSeats a
    → list_all is_waiting a.seats ≡ true → a ≡ new_admissions p.threads p.plan.groups p.plan.tests
limits-untouched p us a is has wait =
    let many : length a.seats ≡ tests_in p =
    has ∙ ap (λ (a : Admissions). length a.claims) is ∙ length-map p.plan.tests (claim_of p.plan.groups) in
    let seats : map seat_of (drop (scripts_in p) us) ≡ replicate (tests_in p) Waiting =
    sym (ap (λ (a : Admissions). a.seats) is) ∙ all_waiting a.seats wait ∙ ap (λ n. replicate n Waiting) many in
    is ∙ ap (λ seats. record (limits_of p us) { seats = seats }) seats

-- each test has a seat then
seats-anew : (p : Settings) → HasSeats (new_admissions p.threads p.plan.groups p.plan.tests)
seats-anew p = length-replicate (tests_in p) Waiting ∙ sym (length-map p.plan.tests (claim_of p.plan.groups))

-- and none has in its line what an open round asks
pub fits-anew : (p : Settings) (asks : Option Request) (us : List (Option UnitView)) (a : Admissions)
    → ((k : ℕ) → get_or us k None ≡ None) → a ≡ new_admissions p.threads p.plan.groups p.plan.tests → FitsUnits asks
    us 0 a
fits-anew p asks us a none limits = (
  (λ k u at many. let never : None ≡ Some u = sym (none k) ∙ at in cc),
  absent_held asks us none,
  subst HasSeats (sym limits) (seats-anew p),
)

-- where each test has a seat, the units after the scripts are as many as the tests
pub tests-many : (p : Settings) (us vs : List (Option UnitView)) (a : Admissions) → a ≡ limits_of p us → HasSeats a
    → length vs ≡ length us → length (drop (scripts_in p) vs) ≡ tests_in p
tests-many p us vs a seated has same =
    length-drop (scripts_in p) vs ∙ ap (λ n. n - scripts_in p) same ∙ sym (length-drop (scripts_in p) us)
    ∙ sym (length-map (drop (scripts_in p) us) seat_of) ∙ sym (ap (λ (a : Admissions). length a.seats) seated) ∙ has
    ∙ ap (λ (a : Admissions). length a.claims) seated ∙ length-map p.plan.tests (claim_of p.plan.groups)

-- the dispatcher of a run that hasn't new_admissions is that of the empty history
dispatcher-nil : (p : Settings) → unbegun p ≡ dispatcher_of p []
dispatcher-nil p =
    ap₂ (λ t rerun. record (unbegun p) { tally = t; rerun = rerun }) (tally-nil p)
    (sym (unseen-none [] (λ id. refl) p.expected))

-- and so is its state
pub state-nil : (p : Settings) (us : List (Option UnitView)) (d : DispatcherView) (s : Held)
    → s.board ≡ record (board p []) { units = us; dispatcher = d }
    → length us ≡ units_in p → ((k : ℕ) → get_or us k None ≡ None) → d ≡ unbegun p
    → s.kept.limits ≡ new_admissions p.threads p.plan.groups p.plan.tests → s.kept.alike ≡ alike_of p → s ≡ held p
    (board p [])
state-nil p us d s rests whole none unbegins limits alike =
    ap (λ board. record s { board = board }) rests
    ∙ ap₂ (λ d kept. record h { board = record h.board { units = us; dispatcher = d }; kept = kept })
    (unbegins ∙ dispatcher-nil p)
    (ap₂ (λ limits alike. record { limits = limits; alike = alike })
    (limits ∙ limits-anew p us none (omega (arith, length-drop (scripts_in p) us, whole))) alike)
    ∙ ap (λ us. record h { board = record h.board { units = us }; kept = kept_of p us }) (units-nil p us whole none)
  where
    h : Held
    h = held p (board p [])
