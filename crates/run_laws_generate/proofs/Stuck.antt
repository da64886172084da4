-- A generated run that isn't over and takes no turn by itself has a child that is asked for or runs.
use Rattle.std.proofs.Common.{◌≡◌, ℕ, zero, suc, ◌<◌, ◌≤◌, ◌&&◌, not, List, [], ◌∷◌, ◌++◌, length, get_or, map}
use Rattle.std.proofs.Common.{Bool}
use Rattle.std.proofs.Common.{true, false, Option, Some, None, nat_lt, cond, if◌then◌else◌, is_none, is_some}
use Rattle.std.proofs.Common.{refl, ap, sym, ◌∙◌, arith, zero-add}
use Rattle.std.specs.List.{list_all, range_with_len, position_or_len}
use Rattle.std.proofs.lemmas.Bool.Decides.{nat_tests}
use Rattle.std.proofs.lemmas.List.FromFn.{get_or-range_with_len, length-range_with_len}
use Rattle.std.proofs.lemmas.List.Sums.{fails_before_first}
use Rattle.run_events.specs.declared.message.Message.{Message}
use Rattle.run_events.specs.declared.settings.Settings.{Settings}
use Rattle.run_events.specs.declared.turn.Turn.{Turn}
use Rattle.run_events.specs.declared.turn.Turn.TheVariants as turns
use Rattle.run_model.specs.Admission.{is_done, is_last, units_in}
use Rattle.run_model.specs.Board.{Board, unit_in}
use Rattle.run_model.specs.Dispatch.{is_halted, is_main}
use Rattle.run_model.specs.Turns.{enabled_on, is_complete, is_empty, unit_takes}
use Rattle.run_model.specs.Unit.{takes_at}
use Rattle.run_model.specs.declared.phase.Phase.{Phase}
use Rattle.run_model.specs.declared.phase.Phase.TheVariants.{StartSent, Starting, Running, Grace, KillWait, Leak}
use Rattle.run_model.specs.declared.phase.Phase.TheVariants.{EnvWait, Deciding, Delay, RetrySent, Over}
use Rattle.run_model.specs.declared.unit_turn.UnitTurn.{UnitTurn}
use Rattle.run_model.specs.declared.unit_turn.UnitTurn.TheVariants as own
use Rattle.run_model.specs.declared.unit_view.UnitView.{UnitView}
use Rattle.run_state.specs.Settle.{first_enabled, first_turns, last_turns, of_each, settling}
use Rattle.run_laws_generate.proofs.Moves.{IsCalm}
use Rattle.run_laws_generate.proofs.Steps.{IsKnown, is_sent, within_list}
use Rattle.run_laws_generate.proofs.Next.{is_asked, is_running, stands_as, first_in}
use Rattle.run_laws_generate.proofs.Weights.{IsEasy, StandsIn}

-- of some turns of which none is enabled, each isn't
none_first : (p : Settings) (b : Board) (xs ys : List Turn) → first_enabled p b (xs ++ ys) ≡ None
    → (first_enabled p b xs ≡ None) × (first_enabled p b ys ≡ None)
none_first p b [] ys none = (refl, none)
none_first p b (x ∷ xs) ys none = by_first (enabled_on p b x) none (none_first p b xs ys)
  where
    by_first : (en : Bool) → (if en then Some x else first_enabled p b (xs ++ ys)) ≡ None
        → (first_enabled p b (xs ++ ys) ≡ None → (first_enabled p b xs ≡ None) × (first_enabled p b ys ≡ None))
        → ((if en then Some x else first_enabled p b xs) ≡ None) × (first_enabled p b ys ≡ None)
    by_first true none rest = cc
    by_first false none rest = rest none

-- nor is the first
none_here : (en : Bool) (t : Turn) (o : Option Turn) → (if en then Some t else o) ≡ None → en ≡ false
none_here true t o none = cc
none_here false t o none = refl

-- nor is one of those after it
none_after : (en : Bool) (t : Turn) (o : Option Turn) → (if en then Some t else o) ≡ None → o ≡ None
none_after true t o none = cc
none_after false t o none = none

-- nor is the turn of any of some units
none_each : (p : Settings) (b : Board) (turn : ℕ → Turn) (ks : List ℕ) (i : ℕ) → first_enabled p b (map turn ks) ≡ None
    → i < length ks → enabled_on p b (turn (get_or ks i 0)) ≡ false
none_each p b turn [] i none within = absurd (omega arith)
none_each p b turn (k ∷ ks) zero none within =
    none_here (enabled_on p b (turn k)) (turn k) (first_enabled p b (map turn ks)) none
none_each p b turn (k ∷ ks) (suc i) none within =
    none_each p b turn ks i
    (none_after (enabled_on p b (turn k)) (turn k) (first_enabled p b (map turn ks)) none) (omega arith)

-- nor is that of any unit of the plan
none_of : (p : Settings) (b : Board) (turn : ℕ → Turn) (k : ℕ) → first_enabled p b (of_each p turn) ≡ None
    → k < units_in p → enabled_on p b (turn k) ≡ false
none_of p b turn k none within =
    let at : get_or (range_with_len 0 (units_in p)) k 0 ≡ k =
    get_or-range_with_len 0 (units_in p) k 0 within ∙ zero-add k in
    sym (ap (λ k. enabled_on p b (turn k)) at)
    ∙ none_each p b turn (range_with_len 0 (units_in p)) k none (omega (arith, length-range_with_len 0 (units_in p)))

-- none of the turns that a run takes by itself is enabled
pub record IsStuck (p : Settings) (b : Board) : Type 0 where
  pub begin : enabled_on p b turns.Begin ≡ false
  pub deliver : enabled_on p b turns.Deliver ≡ false
  pub decide : (k : ℕ) → k < units_in p → enabled_on p b (turns.Decide k 0) ≡ false
  pub due : (k : ℕ) → k < units_in p → enabled_on p b (turns.UnitDue k) ≡ false
  pub admit : enabled_on p b turns.Admit ≡ false
  pub end : enabled_on p b turns.End ≡ false

-- so it is where the first enabled one is none
pub stuck : (p : Settings) (b : Board) → first_enabled p b (settling p 0) ≡ None → IsStuck p b
stuck p b none =
    let starts = none_first p b first_turns
    (of_each p turns.Take ++ (of_each p (λ k. turns.Decide k 0) ++ (of_each p turns.UnitDue ++ last_turns))) none in
    let takes = none_first p b (of_each p turns.Take)
    (of_each p (λ k. turns.Decide k 0) ++ (of_each p turns.UnitDue ++ last_turns)) starts.1 in
    let decides = none_first p b (of_each p (λ k. turns.Decide k 0)) (of_each p turns.UnitDue ++ last_turns) takes.1 in
    let dues = none_first p b (of_each p turns.UnitDue) last_turns decides.1 in
    let cancels = none_after (enabled_on p b turns.Begin) turns.Begin
    (first_enabled p b (turns.ReportCancel ∷ turns.Deliver ∷ [])) starts.0 in
    let delivers = none_after (enabled_on p b turns.ReportCancel) turns.ReportCancel
    (first_enabled p b (turns.Deliver ∷ [])) cancels in
    let admits = none_after (enabled_on p b turns.GlobalDue) turns.GlobalDue
    (first_enabled p b (turns.Admit ∷ turns.End ∷ [])) dues.1 in
    let ends = none_after (enabled_on p b turns.Admit) turns.Admit (first_enabled p b (turns.End ∷ [])) admits in
    record {
      begin = none_here (enabled_on p b turns.Begin) turns.Begin
          (first_enabled p b (turns.ReportCancel ∷ turns.Deliver ∷ [])) starts.0;
      deliver = none_here (enabled_on p b turns.Deliver) turns.Deliver None delivers;
      decide = λ k within. none_of p b (λ k. turns.Decide k 0) k decides.0 within;
      due = λ k within. none_of p b turns.UnitDue k dues.0 within;
      admit = none_here (enabled_on p b turns.Admit) turns.Admit (first_enabled p b (turns.End ∷ [])) admits;
      end = none_here (enabled_on p b turns.End) turns.End None ends;
    }

-- where no child stands so, no unit's does
none_found : (child : Phase → Bool) (b : Board) (k : ℕ) (u : UnitView) → first_in child b ≡ None → unit_in b k ≡ Some u
    → child u.phase ≡ false
none_found child b k u none is =
    sym (ap (stands_as child) is) ∙ fails_before_first (stands_as child) b.units k None (omega (arith, most, within))
  where
    n : ℕ
    n = position_or_len (stands_as child) b.units

    within : k < length b.units
    within = within_list b.units k u is

    by_test : (test : Bool) → nat_lt n (length b.units) ≡ test → cond test (Some n) None ≡ None → length b.units ≤ n
    by_test true e none = cc
    by_test false e none = grind (arith, nat_tests)

    most : length b.units ≤ n
    most = by_test (nat_lt n (length b.units)) refl none

-- a unit of a stuck run is over
is_over_in : (now : ℕ) (ph : Phase) (u : UnitView) → StandsIn now false ph u → is_sent ph ≡ false
    → is_asked ph ≡ false → is_running ph ≡ false
    → takes_at now ph u (own.Decide 0) ≡ false → takes_at now ph u own.Due ≡ false → ph ≡ Over
is_over_in now StartSent u stands sent asked runs decide due = cc
is_over_in now Starting u stands sent asked runs decide due = cc
is_over_in now Running u stands sent asked runs decide due = cc
is_over_in now Grace u stands sent asked runs decide due = absurd stands
is_over_in now KillWait u stands sent asked runs decide due = absurd stands
is_over_in now Leak u stands sent asked runs decide due = absurd stands
is_over_in now EnvWait u stands sent asked runs decide due = absurd stands
is_over_in now Deciding u stands sent asked runs decide due = cc
is_over_in now Delay u stands sent asked runs decide due = let never : true ≡ false = sym stands ∙ due in cc
is_over_in now RetrySent u stands sent asked runs decide due = cc
is_over_in now Over u stands sent asked runs decide due = refl

-- units of a list that were admitted are all over, or one wasn't admitted
record IsAbsent (us : List (Option UnitView)) : Type 0 where
  place : ℕ
  within : place < length us
  none : get_or us place None ≡ None

-- where not all are done, one was not admitted
absent_in : (us : List (Option UnitView)) → ((k : ℕ) (u : UnitView) → get_or us k None ≡ Some u → u.phase ≡ Over)
    → list_all is_done us ≡ false → IsAbsent us
absent_in [] over some = cc
absent_in (None ∷ us) over some = record { place = 0; within = omega arith; none = refl }
absent_in (Some u ∷ us) over some =
    let last : is_last u.phase ≡ true = ap is_last (over 0 u refl) in
    let rest = absent_in us (λ k u is. over (suc k) u is) (sym (ap (λ b. b && list_all is_done us) last) ∙ some) in
    record { place = suc rest.place; within = omega (arith, rest.within); none = rest.none }

-- a run that isn't over, of which nothing is settled, has a child that is asked for or runs
pub never_stuck : (p : Settings) (b : Board) → IsKnown p b → IsCalm None b → b.dispatcher.over ≡ false → IsStuck p b
    → first_in is_asked b ≡ None → first_in is_running b ≡ None → ⊥
never_stuck p b known calm going idle asked runs = by_all (list_all is_done b.units) refl
  where
    on_if : (on over : Bool) → over ≡ false → (not over && (not on && not over)) ≡ false → on ≡ true
    on_if true over e none = refl
    on_if false true e none = cc
    on_if false false e none = cc

    on : b.dispatcher.on ≡ true
    on = on_if b.dispatcher.on b.dispatcher.over going idle.begin

    main : is_main b.dispatcher ≡ true
    main = ap (λ c. c && is_none b.dispatcher.rounds.asks) on ∙ ap is_none calm.quiet.asks

    empty_if : (over free : Bool) (q : List Message) → over ≡ false → free ≡ true
        → (not over && (free && not (is_empty q))) ≡ false → q ≡ []
    empty_if true free q e m none = cc
    empty_if false false q e m none = cc
    empty_if false true [] e m none = refl
    empty_if false true (x ∷ q) e m none = cc

    empty : b.queue ≡ []
    empty = empty_if b.dispatcher.over (is_main b.dispatcher) b.queue going main idle.deliver

    not_taken : (k : ℕ) (u : UnitView) (to : UnitTurn) → unit_in b k ≡ Some u
        → (not b.dispatcher.over && unit_takes b.clock (unit_in b k) to) ≡ false
        → takes_at b.clock u.phase u to ≡ false
    not_taken k u to is none =
        sym (ap (λ over. not over && unit_takes b.clock (unit_in b k) to) going
        ∙ ap (λ o. unit_takes b.clock o to) is) ∙ none

    over : (k : ℕ) (u : UnitView) → unit_in b k ≡ Some u → u.phase ≡ Over
    over k u is =
        let easy : IsEasy b.clock false u = calm.easy k u is in
        let inside : k < length b.units = within_list b.units k u is in
        let whole = known.whole in
        let within : k < units_in p = omega arith in
        is_over_in b.clock u.phase u easy.stands (known.waits empty k u is) (none_found is_asked b k u asked is)
        (none_found is_running b k u runs is) (not_taken k u (own.Decide 0) is (idle.decide k within))
        (not_taken k u own.Due is (idle.due k within))

    by_all : (all : Bool) → list_all is_done b.units ≡ all → ⊥
    by_all true all =
        let complete : is_complete b ≡ true =
        ap (λ q. is_empty q && list_all is_done b.units) empty ∙ all in
        let en : enabled_on p b turns.End ≡ true =
        ap (λ c. not c && (is_main b.dispatcher && is_complete b && not (is_halted b.dispatcher))) going
        ∙ ap (λ c. c && is_complete b && not (is_halted b.dispatcher)) main
        ∙ ap (λ c. c && not (is_halted b.dispatcher)) complete
        ∙ ap (λ o. not (is_some o)) calm.quiet.opened in
        let never : true ≡ false = sym en ∙ idle.end in cc
    by_all false some =
        let absent = absent_in b.units over some in
        let en : enabled_on p b turns.Admit ≡ true = known.admits on over absent.place absent.within absent.none in
        let never : true ≡ false = sym en ∙ idle.admit in cc
