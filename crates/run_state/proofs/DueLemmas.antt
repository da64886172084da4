-- The timers of the units that were admitted and aren't over are those of all units.
use Rattle.std.proofs.Common.{◌≡◌, ℕ, zero, suc, ◌+◌, ◌<◌, List, [], ◌∷◌, map, take, length, get_or, Bool, true}
use Rattle.std.proofs.Common.{false, ◌||◌}
use Rattle.std.proofs.Common.{Option, Some, None, refl, ap, ap₂, sym, subst, ◌∙◌, arith}
use Rattle.std.specs.List.{list_any, range_with_len}
use Rattle.run_clock.specs.Sleep.{IsDueFrom}
use Rattle.run_events.specs.declared.settings.Settings.{Settings}
use Rattle.run_events.specs.declared.turn.Turn.{Turn}
use Rattle.run_events.specs.declared.turn.Turn.TheVariants.{GlobalDue, InfoDue, StopWaitDue, UnitDue}
use Rattle.run_model.specs.declared.unit_turn.UnitTurn.TheVariants.{Due}
use Rattle.run_model.specs.Admission.{units_in}
use Rattle.run_model.specs.Board.{Board}
use Rattle.run_model.specs.Dispatch.{dispatch_takes}
use Rattle.run_model.specs.Turns.{enabled_on, facts, unit_takes}
use Rattle.run_model.specs.declared.unit_view.UnitView.{UnitView}
use Rattle.run_state.specs.Counted.{is_working, places, working_in}
use Rattle.run_state.specs.Due.{is_any_due}
use Rattle.run_state.specs.Settle.{of_each}
use Rattle.run_state.proofs.WorkingLemmas.{taken_working}

-- what is due alike is due from the same moment on
pub due-same : (f g : ℕ → Bool) (first : Option ℕ) → ((now : ℕ) → f now ≡ g now) → IsDueFrom f first → IsDueFrom g first
due-same f g None same due = λ now below. sym (same now) ∙ due now below
due-same f g (Some first) same due = λ now below. sym (same now) ∙ due now below

-- no timer of a unit is due that wasn't admitted, or is over
idle_due : (now : ℕ) (o : Option UnitView) → is_working o ≡ false → unit_takes now o Due ≡ false
idle_due now o off = by_taken (unit_takes now o Due) refl
  where
    by_taken : (t : Bool) → unit_takes now o Due ≡ t → t ≡ false
    by_taken false e = refl
    by_taken true e = sym (taken_working now o Due e) ∙ off

-- one of the first, and of one more
pub any-taken : (f : ℕ → Bool) (ns : List ℕ) (i : ℕ) → i < length ns
    → list_any f (take (suc i) ns) ≡ (list_any f (take i ns) || f (get_or ns i 0))
any-taken f [] i inside = absurd (omega arith)
any-taken f (n ∷ ns) zero inside = by_first (f n)
  where
    by_first : (b : Bool) → (b || false) ≡ (false || b)
    by_first true = refl
    by_first false = refl
any-taken f (n ∷ ns) (suc i) inside =
    by_first (f n) (list_any f (take (suc i) ns)) (list_any f (take i ns)) (f (get_or ns i 0))
    (any-taken f ns i (omega arith))
  where
    by_first : (a b c d : Bool) → b ≡ (c || d) → (a || b) ≡ ((a || c) || d)
    by_first true b c d is = refl
    by_first false b c d is = is

-- one of those listed, the first of whose places has this number
any_flagged : (g : Option UnitView → Bool) (h : ℕ → Bool) (i : ℕ) (u : Option UnitView) (us : List (Option UnitView))
    → (is_working u ≡ false → g u ≡ false) → h i ≡ g u
    → list_any h (places (i + 1) (map is_working us)) ≡ list_any g us → (b : Bool) → is_working u ≡ b
    → list_any h (places i (map is_working (u ∷ us))) ≡ list_any g (u ∷ us)
any_flagged g h i u us idle first later true on = rw on (ap₂ (λ a b. a || b) first later)
any_flagged g h i u us idle first later false off =
    rw off (later ∙ ap (λ b. b || list_any g us) (sym (idle off)))

any-from : (g : Option UnitView → Bool) (h : ℕ → Bool) (i : ℕ) (us : List (Option UnitView))
    → ((u : Option UnitView) → is_working u ≡ false → g u ≡ false)
    → ((k n : ℕ) → n ≡ i + k → h n ≡ g (get_or us k None))
    → list_any h (places i (map is_working us)) ≡ list_any g us
any-from g h i [] idle same = refl
any-from g h i (u ∷ us) idle same =
    any_flagged g h i u us (idle u) (same 0 i (omega arith))
    (any-from g h (i + 1) us idle (λ k n at. same (suc k) n (omega arith))) (is_working u) refl

pub any-working : (now : ℕ) (us : List (Option UnitView))
    → list_any (λ k. unit_takes now (get_or us k None) Due) (working_in us) ≡ list_any (λ u. unit_takes now u Due) us
any-working now us =
    any-from (λ u. unit_takes now u Due) (λ k. unit_takes now (get_or us k None) Due) 0 us (idle_due now)
    (λ k n at. ap (λ m. unit_takes now (get_or us m None) Due) (omega arith))

-- one of a turn of each unit, by number
any-each : {X : Type 0} (f : X → Bool) (t : ℕ → X) (g : Option UnitView → Bool) (i : ℕ) (us : List (Option UnitView))
    → ((k n : ℕ) → n ≡ i + k → f (t n) ≡ g (get_or us k None))
    → list_any f (map t (range_with_len i (length us))) ≡ list_any g us
any-each f t g i [] same = refl
any-each f t g i (u ∷ us) same =
    ap₂ (λ a b. a || b) (same 0 i (omega arith))
    (any-each f t g (i + 1) us (λ k n at. same (suc k) n (omega arith)))

-- a due turn is that of the run's timer, of the open round's wait, or of a unit's timer, in a run that isn't over
or_assoc : (a b c d : Bool) → ((a || (b || c)) || d) ≡ (a || (b || (c || d)))
or_assoc true b c d = refl
or_assoc false true c d = refl
or_assoc false false c d = refl

pub any-due : (p : Settings) (b : Board) (now : ℕ) → b.dispatcher.over ≡ false → length b.units ≡ units_in p
    → ((dispatch_takes b.dispatcher (facts b) now GlobalDue
    || (dispatch_takes b.dispatcher (facts b) now StopWaitDue || dispatch_takes b.dispatcher (facts b) now InfoDue))
    || list_any (λ u. unit_takes now u Due) b.units)
    ≡ is_any_due p b now
any-due p b now going whole =
    or_assoc (dispatch_takes b.dispatcher (facts b) now GlobalDue)
    (dispatch_takes b.dispatcher (facts b) now StopWaitDue)
    (dispatch_takes b.dispatcher (facts b) now InfoDue) (list_any (λ u. unit_takes now u Due) b.units)
    ∙ ap₂ (λ a c. a || c) global (ap₂ (λ a c. a || c) stop (ap₂ (λ a c. a || c) info each))
  where
    at : Board
    at = record b { clock = now }

    global : dispatch_takes b.dispatcher (facts b) now GlobalDue ≡ enabled_on p at GlobalDue
    global = rw going refl

    stop : dispatch_takes b.dispatcher (facts b) now StopWaitDue ≡ enabled_on p at StopWaitDue
    stop = rw going refl

    info : dispatch_takes b.dispatcher (facts b) now InfoDue ≡ enabled_on p at InfoDue
    info = rw going refl

    one : (k : ℕ) → enabled_on p at (UnitDue k) ≡ unit_takes now (get_or b.units k None) Due
    one k = rw going refl

    each : list_any (λ u. unit_takes now u Due) b.units
        ≡ list_any (enabled_on p at) (map UnitDue (range_with_len 0 (units_in p)))
    each = sym (subst (λ n. list_any (enabled_on p at) (map UnitDue (range_with_len 0 n))
        ≡ list_any (λ u. unit_takes now u Due) b.units) whole
        (any-each (enabled_on p at) UnitDue (λ u. unit_takes now u Due) 0 b.units
        (λ k n is. one n ∙ ap (λ m. unit_takes now (get_or b.units m None) Due) (omega arith))))

-- none is due in one that is over
none_of : (f : Turn → Bool) (ts : List Turn) → ((t : Turn) → f t ≡ false) → list_any f ts ≡ false
none_of f [] none = refl
none_of f (t ∷ ts) none = rw (none t) (none_of f ts none)

pub over-due : (p : Settings) (b : Board) (now : ℕ) → b.dispatcher.over ≡ true → is_any_due p b now ≡ false
over-due p b now over =
    none_of (enabled_on p (record b { clock = now })) (GlobalDue ∷ StopWaitDue ∷ InfoDue ∷ of_each p UnitDue)
    (λ t. rw over refl)
