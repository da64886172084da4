-- How many units are live, and how many have in their lines what the open round asks, as the units change.
use Rattle.std.proofs.Common.{◌≡◌, ◌⊎◌, inl, inr, ℕ, zero, suc, ◌+◌, ◌<◌, ◌≤◌, ◌^◌, nat_lt, List, [], ◌∷◌, length}
use Rattle.std.proofs.Common.{get_or, set}
use Rattle.std.proofs.Common.{Bool, true, false, cond, Option, Some, None, count_by, refl, ap, sym, ◌∙◌, ◌||◌, arith}
use Rattle.std.specs.List.{list_any}
use Rattle.std.proofs.lemmas.List.{get_or-drop, length-set}
use Rattle.std.proofs.lemmas.List.Sums.{sum_by-cons, sum_by-set, get_or-le-sum_by, count_by-le-length}
use Rattle.run_events.specs.declared.request.Request.{Request}
use Rattle.run_events.specs.declared.settings.Settings.{Settings}
use Rattle.run_events.specs.declared.stress.StressIndex.{StressIndex}
use Rattle.run_model.specs.declared.unit_view.UnitView.{UnitView}
use Rattle.run_model.specs.Admission.{Newcomer, newcomer, scripts_in, unit_of_test}
use Rattle.run_model.specs.Environment.{number}
use Rattle.run_model.specs.Same.{is_request}
use Rattle.run_model.specs.Story.{is_live_unit}
use Rattle.run_model.specs.Turns.{holds, is_held, live_in}
use Rattle.run_laws.proofs.board.Newcomers.{Becomes, Newcomes, ScriptComes, newcomer_is}
use Rattle.run_state.specs.Counted.{holders_in, holds_asked}
use Rattle.run_state.specs.Held.{units_with}

-- one of some units was set, which was counted or not, and is or isn't now: how many are counted by then
pub counted_set : (f : Option UnitView → Bool) (us : List (Option UnitView)) (k count new : ℕ) (v : Option UnitView)
    (was is : Bool)
    → count ≡ count_by f us → k < length us → was ≡ f (get_or us k None) → is ≡ f v
    → new + cond was 1 0 ≡ count + cond is 1 0 → new ≡ count_by f (set us k v)
counted_set f us k count new v was is counts inside old now by =
    let sets = sum_by-set (λ u. cond (f u) 1 0) us k v None inside in
    let before : ◌≡◌ {A = ℕ} (cond was 1 0) (cond (f (get_or us k None)) 1 0) = ap (λ b. cond b 1 0) old in
    let after : ◌≡◌ {A = ℕ} (cond is 1 0) (cond (f v) 1 0) = ap (λ b. cond b 1 0) now in
    omega arith

-- it was counted where it is one of those, and there is room for it
pub counted_within : (f : Option UnitView → Bool) (us : List (Option UnitView)) (k count : ℕ) (was : Bool)
    → count ≡ count_by f us → k < length us → was ≡ f (get_or us k None) → cond was 1 0 ≤ count
counted_within f us k count was counts inside old =
    let within = get_or-le-sum_by (λ u. cond (f u) 1 0) us k None inside in
    let before : ◌≡◌ {A = ℕ} (cond was 1 0) (cond (f (get_or us k None)) 1 0) = ap (λ b. cond b 1 0) old in
    omega arith

pub counted_fits : (f : Option UnitView → Bool) (us : List (Option UnitView)) (k count : ℕ) (v : Option UnitView)
    (was is : Bool)
    → count ≡ count_by f us → k < length us → length us < 2 ^ 32 → was ≡ f (get_or us k None) → is ≡ f v
    → count + cond is 1 0 < 2 ^ 32 + cond was 1 0
counted_fits f us k count v was is counts inside few old now =
    let sets = sum_by-set (λ u. cond (f u) 1 0) us k v None inside in
    let most = count_by-le-length f (set us k v) in
    let same = length-set us k v in
    let before : ◌≡◌ {A = ℕ} (cond was 1 0) (cond (f (get_or us k None)) 1 0) = ap (λ b. cond b 1 0) old in
    let after : ◌≡◌ {A = ℕ} (cond is 1 0) (cond (f v) 1 0) = ap (λ b. cond b 1 0) now in
    omega arith

-- a unit that wasn't admitted holds nothing
none_holds : (asks : Option Request) → holds_asked asks None ≡ false
none_holds None = refl
none_holds (Some request) = refl

-- of units none of which was admitted none is live
pub absent_live : (us : List (Option UnitView)) → ((k : ℕ) → get_or us k None ≡ None) → 0 ≡ live_in us
absent_live [] none = refl
absent_live (u ∷ us) none =
    let first = sum_by-cons (λ u. cond (is_live_unit u) 1 0) u us in
    let no : ◌≡◌ {A = ℕ} (cond (is_live_unit u) 1 0) 0 = ap (λ u. cond (is_live_unit u) 1 0) (none 0) in
    let rest = absent_live us (λ k. none (suc k)) in
    omega arith

-- and none holds what an open round asks
pub absent_held : (asks : Option Request) (us : List (Option UnitView)) → ((k : ℕ) → get_or us k None ≡ None)
    → 0 ≡ holders_in asks us
absent_held asks [] none = refl
absent_held asks (u ∷ us) none =
    let first = sum_by-cons (λ u. cond (holds_asked asks u) 1 0) u us in
    let no : ◌≡◌ {A = ℕ} (cond (holds_asked asks u) 1 0) 0 =
    ap (λ u. cond (holds_asked asks u) 1 0) (none 0) ∙ ap (λ b. cond {A = ℕ} b 1 0) (none_holds asks) in
    let rest = absent_held asks us (λ k. none (suc k)) in
    omega arith

-- where no round is open none has what it asks
pub none_held : (us : List (Option UnitView)) → 0 ≡ holders_in None us
none_held [] = refl
none_held (u ∷ us) =
    let first = sum_by-cons (λ u. cond (holds_asked None u) 1 0) u us in let rest = none_held us in omega arith

-- one of some is counted where the count isn't 0
any_counted : (f : Option UnitView → Bool) (us : List (Option UnitView)) → nat_lt 0 (count_by f us) ≡ list_any f us
any_counted f [] = refl
any_counted f (u ∷ us) =
    ap (nat_lt 0) (sum_by-cons (λ u. cond (f u) 1 0) u us) ∙ by_first (f u) ∙ ap (λ b. f u || b) (any_counted f us)
  where
    by_first : (b : Bool) → nat_lt 0 (cond b 1 0 + count_by f us) ≡ (b || nat_lt 0 (count_by f us))
    by_first true = grind arith
    by_first false = grind arith

pub held_counted : (asks : Option Request) (us : List (Option UnitView)) (count : ℕ) → count ≡ holders_in asks us
    → nat_lt 0 count ≡ is_held asks us
held_counted None us count is = ap (nat_lt 0) (is ∙ sym (none_held us))
held_counted (Some request) us count is = ap (nat_lt 0) is ∙ any_counted (holds request) us

-- a unit that is admitted has nothing in its line
fresh_holds : (asks : Option Request) (v : UnitView) → v.line ≡ [] → holds_asked asks (Some v) ≡ false
fresh_holds None v line = refl
fresh_holds (Some request) v line = ap (list_any (is_request request)) line

fresh_set : (asks : Option Request) (us : List (Option UnitView)) (k : ℕ) (v : UnitView) → get_or us k None ≡ None
    → v.line ≡ [] → holders_in asks us ≡ holders_in asks (set us k (Some v))
fresh_set asks [] k v absent line = refl
fresh_set asks (u ∷ us) zero v absent line =
    sum_by-cons (λ u. cond (holds_asked asks u) 1 0) u us
    ∙ ap (λ b. cond b 1 0 + holders_in asks us)
    (ap (holds_asked asks) absent ∙ none_holds asks ∙ sym (fresh_holds asks v line))
    ∙ sym (sum_by-cons (λ u. cond (holds_asked asks u) 1 0) (Some v) us)
fresh_set asks (u ∷ us) (suc k) v absent line =
    sum_by-cons (λ u. cond (holds_asked asks u) 1 0) u us
    ∙ ap (λ n. cond (holds_asked asks u) 1 0 + n) (fresh_set asks us k v absent line)
    ∙ sym (sum_by-cons (λ u. cond (holds_asked asks u) 1 0) u (set us k (Some v)))

pub holders_joined : (asks : Option Request) (p : Settings) (index : Option StressIndex) (us : List (Option UnitView))
    → holders_in asks us ≡ holders_in asks (units_with p us (newcomer p index us))
holders_joined asks p index us = by_new (newcomer p index us) refl
  where
    by_kind : (new : Newcomer) → Newcomes p index us new ⊎ ScriptComes p index us new
        → holders_in asks us ≡ holders_in asks (set us (number new.unit) (Some new.unit))
    by_kind new (inl found) = by_case found.is
      where
        absent : get_or us (unit_of_test p found.place) None ≡ None
        absent = sym (get_or-drop (scripts_in p) us found.place None) ∙ found.absent

        by_case : Becomes p index us found.place found.test new
            → holders_in asks us ≡ holders_in asks (set us (number new.unit) (Some new.unit))
        by_case (inl (reason, skip, is)) =
            fresh_set asks us (number new.unit) new.unit
            (ap (λ (n : Newcomer). get_or us (number n.unit) None) is ∙ absent) (ap (λ (n : Newcomer). n.unit.line) is)
        by_case (inr (skip, (global, (slot, runs, is)))) =
            fresh_set asks us (number new.unit) new.unit
            (ap (λ (n : Newcomer). get_or us (number n.unit) None) is ∙ absent) (ap (λ (n : Newcomer). n.unit.line) is)
    by_kind new (inr found) =
        fresh_set asks us (number new.unit) new.unit
        (ap (λ (n : Newcomer). get_or us (number n.unit) None) found.is ∙ found.absent)
        (ap (λ (n : Newcomer). n.unit.line) found.is)

    by_new : (o : Option Newcomer) → newcomer p index us ≡ o → holders_in asks us ≡ holders_in asks (units_with p us o)
    by_new None e = refl
    by_new (Some new) e = by_kind new (newcomer_is p index us new e)
