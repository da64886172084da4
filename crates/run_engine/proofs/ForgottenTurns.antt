-- A board as it is kept takes the turns that the board takes, with the same deeds.
use Rattle.std.proofs.Common.{◌≡◌, inl, inr, ℕ, ◌+◌, ◌≤◌, List, [], ◌∷◌, get_or, set, Bool, true, false, not, ◌&&◌}
use Rattle.std.proofs.Common.{if◌then◌else◌, Option, Some, None, is_some, option_and_then, slice_get, refl, ap, sym}
use Rattle.std.proofs.Common.{subst, ◌∙◌, arith}
use Rattle.std.specs.List.{list_all}
use Rattle.run_events.specs.declared.settings.Settings.{Settings}
use Rattle.run_events.specs.declared.message.Message.{Message}
use Rattle.run_events.specs.declared.plan.PlanTest.{PlanTest}
use Rattle.run_events.specs.declared.stress.StressIndex.{StressIndex}
use Rattle.run_events.specs.declared.turn.Turn.{Turn}
use Rattle.run_events.specs.declared.turn.Turn.TheVariants.{Admit, Clock}
use Rattle.run_admission.specs.InUse.{admitted}
use Rattle.run_admission.specs.declared.seat.Admitted.{Admitted}
use Rattle.run_admission.specs.declared.seat.Admitted.TheVariants.{Skip as Skipped, Run}
use Rattle.run_model.specs.declared.unit_turn.UnitTurn.{UnitTurn}
use Rattle.run_model.specs.declared.unit_turn.UnitTurn.TheVariants.{Answered}
use Rattle.run_model.specs.declared.unit_view.UnitView.{UnitView}
use Rattle.run_model.specs.Words.{ns_of}
use Rattle.run_model.specs.Admission.{Newcomer, is_done, limits_of, scripts_of, unit_of_test, slots_of, handed_from}
use Rattle.run_model.specs.Admission.{first_view, started_newcomer, newcomer_as, test_of, test_newcomer, open_script}
use Rattle.run_model.specs.Admission.{script_newcomer, newcomer}
use Rattle.run_model.specs.Board.{Board, Deed, unit_in, anew, moved_in, step, answered}
use Rattle.run_model.specs.Dispatch.{dispatch_takes, go_of}
use Rattle.run_model.specs.Turns.{admission, answer_to, delivers, delivery, done_by, deed_on, enabled_on, facts}
use Rattle.run_model.specs.Turns.{index_of, is_empty, is_third_signal, keys_at, live_in, run_takes, signals_at}
use Rattle.run_model.specs.Turns.{starting, taken_deed, takes_turn, turn_of_unit, unit_takes}
use Rattle.run_laws.specs.Ready.{IsTimelyBoard, CanTakeTurn, CanAnswer, CanDeliverOldest, CanAdvance}
use Rattle.run_laws.proofs.board.ByTurn.{Cases, by_turn}
use Rattle.run_state.specs.Held.{kept_of}
use Rattle.run_state.specs.Settle.{first_enabled}
use Rattle.run_engine.specs.Forgotten.{latest_kept, AreOver, MayForget, AreForgotten, IsForgotten}
use Rattle.run_engine.proofs.ForgottenLemmas.{done_same, held_same, kept_taker, kept_takes, limits_same, live_same}
use Rattle.run_engine.proofs.ForgottenLemmas.{scripts_same}
use Rattle.run_engine.proofs.ForgottenMoves.{forgotten-anew, forgotten-moved, forgotten-one, over_more}

-- the board with what is kept of its units
abbrev with_units : Board → List (Option UnitView) → Board
with_units b vs = record b { units = vs }

-- what an admission makes
as_same : (p : Settings) (index : Option StressIndex) (us vs : List (Option UnitView)) (a : Admitted)
    (test : Option PlanTest) → scripts_of p vs ≡ scripts_of p us
    → newcomer_as p index vs a test ≡ newcomer_as p index us a test
as_same p index us vs a None scripts = refl
as_same p index us vs (Skipped j) (Some test) scripts = refl
as_same p index us vs (Run j global slot) (Some test) scripts =
    ap (λ ss. Some (started_newcomer (first_view p index (unit_of_test p j) (slots_of test global slot)
    (handed_from test.scripts 0 ss) test))) scripts

test_same : (p : Settings) (index : Option StressIndex) (us vs : List (Option UnitView)) → AreForgotten p us vs
    → test_newcomer p index vs ≡ test_newcomer p index us
test_same p index us vs h =
    ap (λ limits. option_and_then (λ a. newcomer_as p index vs a (slice_get p.plan.tests (test_of a)))
    (admitted limits))
    (limits_same p us vs h)
    ∙ by_admitted (admitted (limits_of p us))
  where
    by_admitted : (a : Option Admitted)
        → option_and_then (λ a. newcomer_as p index vs a (slice_get p.plan.tests (test_of a))) a
        ≡ option_and_then (λ a. newcomer_as p index us a (slice_get p.plan.tests (test_of a))) a
    by_admitted None = refl
    by_admitted (Some a) = as_same p index us vs a (slice_get p.plan.tests (test_of a)) (scripts_same p us vs h)

pub newcomer_same : (p : Settings) (index : Option StressIndex) (us vs : List (Option UnitView))
    → AreForgotten p us vs → newcomer p index vs ≡ newcomer p index us
newcomer_same p index us vs h =
    ap (λ new. if list_all is_done (scripts_of p vs) then new else next (scripts_of p vs)) (test_same p index us vs h)
    ∙ ap (λ ss. if list_all is_done ss then test_newcomer p index us else next ss) (scripts_same p us vs h)
  where
    next : List (Option UnitView) → Option Newcomer
    next ss = option_and_then (λ i. script_newcomer p index i (slice_get p.plan.scripts i)) (open_script ss)

-- what the dispatcher asks of the rest of the run
facts_same : (p : Settings) (b : Board) (vs : List (Option UnitView)) → AreForgotten p b.units vs
    → facts (with_units b vs) ≡ facts b
facts_same p b vs h =
    ap (λ n. record (facts (with_units b vs)) { live = n }) (live_same p b.units vs h)
    ∙ ap (λ held. record (facts (with_units b vs)) { live = live_in b.units; held = held })
    (held_same p b.dispatcher.rounds.asks b.units vs h)
    ∙ ap (λ done. record (facts b) { complete = is_empty b.queue && done }) (done_same p b.units vs h)

-- the same turns are enabled
run_same : (p : Settings) (b : Board) (vs : List (Option UnitView)) (turn : Turn) → AreForgotten p b.units vs
    → run_takes p (with_units b vs) turn ≡ run_takes p b turn
run_same p b vs Admit h =
    ap (λ new. b.dispatcher.on && is_some new) (newcomer_same p (index_of b.dispatcher) b.units vs h)
run_same p b vs (Clock ns) h = refl
run_same p b vs turn h = ap (λ f. dispatch_takes b.dispatcher f b.clock turn) (facts_same p b vs h)

takes_same : (p : Settings) (b : Board) (vs : List (Option UnitView)) (turn : Turn) (named : Option (ℕ × UnitTurn))
    → AreForgotten p b.units vs → takes_turn p (with_units b vs) turn named ≡ takes_turn p b turn named
takes_same p b vs turn None h = run_same p b vs turn h
takes_same p b vs turn (Some named) h =
    kept_takes p named.0 b.clock named.1 (get_or b.units named.0 None) (get_or vs named.0 None) (h.each named.0)

pub enabled_same : (p : Settings) (b c : Board) (turn : Turn) → IsForgotten p b c
    → enabled_on p c turn ≡ enabled_on p b turn
enabled_same p b c turn h = subst (λ (c : Board). enabled_on p c turn ≡ enabled_on p b turn) (sym h.rest)
    (ap (λ takes. not b.dispatcher.over && takes) (takes_same p b c.units turn (turn_of_unit turn) h.units))

-- the unit that takes a turn is kept as it is
taker : (p : Settings) (b : Board) (vs : List (Option UnitView)) (k : ℕ) (turn : UnitTurn) → AreForgotten p b.units vs
    → CanTakeTurn b k turn → get_or vs k None ≡ get_or b.units k None
taker p b vs k turn h can = kept_taker p k b.clock turn (get_or b.units k None) (get_or vs k None) (h.each k)
    (ap (λ u. unit_takes b.clock u turn) can.is ∙ can.takes)

-- what is delivered
answer_same : (p : Settings) (b : Board) (vs : List (Option UnitView)) (k : Option ℕ) (go : Option Bool)
    → AreForgotten p b.units vs → CanAnswer b k go → answer_to (with_units b vs) k go ≡ answer_to b k go
answer_same p b vs (Some k) (Some go) h can =
    ap (taken_deed b.clock k (Answered go)) (taker p b vs k (Answered go) h can)
answer_same p b vs k go h can = refl

delivery_same : (p : Settings) (b : Board) (vs : List (Option UnitView)) (queue : List Message)
    → AreForgotten p b.units vs → CanDeliverOldest b queue → delivery (with_units b vs) queue ≡ delivery b queue
delivery_same p b vs [] h can = refl
delivery_same p b vs (m ∷ rest) h can = ap (delivers b.clock b.dispatcher m)
    (answer_same p b vs (starting m) (go_of b.dispatcher.tally m) h can.1)

-- the first of some turns that is enabled, and which shutdown signals are taken no more
pub first_same : (p : Settings) (b c : Board) (turns : List Turn) → IsForgotten p b c
    → first_enabled p c turns ≡ first_enabled p b turns
first_same p b c [] h = refl
first_same p b c (t ∷ ts) h =
    ap (λ on. if on then Some t else first_enabled p c ts) (enabled_same p b c t h)
    ∙ ap (λ first. if enabled_on p b t then Some t else first) (first_same p b c ts h)

pub third_same : (p : Settings) (b c : Board) (turn : Turn) → IsForgotten p b c
    → is_third_signal c turn ≡ is_third_signal b turn
third_same p b c turn h = ap (λ (c : Board). is_third_signal c turn) h.rest

-- a turn that can be taken has the same deed
abbrev HasSameDeed : Settings → Board → List (Option UnitView) → Turn → Option (ℕ × UnitTurn) → Type 0
HasSameDeed p b vs turn named =
    CanAdvance p b turn named → done_by p (with_units b vs) turn named ≡ done_by p b turn named

pub deed_same : (p : Settings) (b c : Board) (turn : Turn) → IsForgotten p b c
    → CanAdvance p b turn (turn_of_unit turn) → deed_on p c turn ≡ deed_on p b turn
deed_same p b c turn h = subst (λ (c : Board). CanAdvance p b turn (turn_of_unit turn)
    → deed_on p c turn ≡ deed_on p b turn) (sym h.rest) (by_turn (HasSameDeed p b vs) cases turn)
  where
    vs : List (Option UnitView)
    vs = c.units

    live : live_in vs ≡ live_in b.units
    live = live_same p b.units vs h.units

    cases : Cases (HasSameDeed p b vs)
    cases = record {
      begin = λ can. refl;
      admit = λ can. ap admission (newcomer_same p (index_of b.dispatcher) b.units vs h.units);
      deliver = λ can. delivery_same p b vs b.queue h.units can.1;
      clock = λ ns can. refl;
      signal = λ signal can. ap (λ n. signals_at b.clock n b.dispatcher signal) live;
      global_due = λ can. refl;
      report_cancel = λ can. refl;
      end = λ can. refl;
      key = λ key can. ap (λ n. keys_at b.clock n b.dispatcher key) live;
      tick = λ can. refl;
      stop_wait_due = λ can. refl;
      answer = λ can. refl;
      info_due = λ can. refl;
      named = λ turn k to own can. ap (taken_deed b.clock k to) (taker p b vs k to h.units can);
    }

-- and it can be taken
can_take : (p : Settings) (b : Board) (vs : List (Option UnitView)) (k : ℕ) (turn : UnitTurn)
    → AreForgotten p b.units vs → CanTakeTurn b k turn → CanTakeTurn (with_units b vs) k turn
can_take p b vs k turn h can = record {
  unit = can.unit;
  is = taker p b vs k turn h can ∙ can.is;
  named = can.named;
  below = omega (arith, h.whole, can.below);
  takes = can.takes;
  later = can.later;
}

can_answer : (p : Settings) (b : Board) (vs : List (Option UnitView)) (k : Option ℕ) (go : Option Bool)
    → AreForgotten p b.units vs → CanAnswer b k go → CanAnswer (with_units b vs) k go
can_answer p b vs (Some k) (Some go) h can = can_take p b vs k (Answered go) h can
can_answer p b vs k go h can = tt

can_deliver : (p : Settings) (b : Board) (vs : List (Option UnitView)) (queue : List Message)
    → AreForgotten p b.units vs → CanDeliverOldest b queue → CanDeliverOldest (with_units b vs) queue
can_deliver p b vs [] h can = can
can_deliver p b vs (m ∷ rest) h can =
    (can.0, can_answer p b vs (starting m) (go_of b.dispatcher.tally m) h can.1)

abbrev CanToo : Settings → Board → List (Option UnitView) → Turn → Option (ℕ × UnitTurn) → Type 0
CanToo p b vs turn named = CanAdvance p b turn named → CanAdvance p (with_units b vs) turn named

pub can_advance_same : (p : Settings) (b c : Board) (turn : Turn) → IsForgotten p b c
    → CanAdvance p b turn (turn_of_unit turn) → CanAdvance p c turn (turn_of_unit turn)
can_advance_same p b c turn h = subst (λ (c : Board). CanAdvance p b turn (turn_of_unit turn)
    → CanAdvance p c turn (turn_of_unit turn)) (sym h.rest) (by_turn (CanToo p b vs) cases turn)
  where
    vs : List (Option UnitView)
    vs = c.units

    cases : Cases (CanToo p b vs)
    cases = record {
      begin = λ can. can;
      admit = λ can. (
        can.0,
        record {
          candidate = ap is_some (newcomer_same p (index_of b.dispatcher) b.units vs h.units) ∙ can.1.candidate;
          whole = h.units.whole ∙ can.1.whole;
        },
      );
      deliver = λ can. (can.0, can_deliver p b vs b.queue h.units can.1);
      clock = λ ns can. can;
      signal = λ signal can. can;
      global_due = λ can. can;
      report_cancel = λ can. can;
      end = λ can. can;
      key = λ key can. can;
      tick = λ can. can;
      stop_wait_due = λ can. can;
      answer = λ can. can;
      info_due = λ can. can;
      named = λ turn k to own can. can_take p b vs k to h.units can;
    }

-- no turn was taken later than the clock is
pub timely_same : (p : Settings) (b c : Board) → IsForgotten p b c → IsTimelyBoard b → IsTimelyBoard c
timely_same p b c h timely = subst IsTimelyBoard (sym h.rest) (record {
  dispatcher = timely.dispatcher;
  units = λ k v is. kept k (get_or b.units k None) (get_or c.units k None) (h.units.each k) (timely.units k) v is;
})
  where
    before : (u : Option UnitView) → is_done u ≡ true → ((v : UnitView) → u ≡ Some v → v.latest ≤ b.clock)
        → latest_kept u ≤ b.clock
    before None over was = cc
    before (Some u) over was = was u refl

    kept : (k : ℕ) (u w : Option UnitView) → MayForget p k u w
        → ((v : UnitView) → u ≡ Some v → v.latest ≤ b.clock) → (v : UnitView) → w ≡ Some v → v.latest ≤ b.clock
    kept k u w (inl e) was v is = was v (sym e ∙ is)
    kept k u w (inr o) was v is =
        let at : latest_kept w ≡ v.latest = ap latest_kept is in
        let early : latest_kept u ≤ b.clock = before u o.over was in
        let le : latest_kept w ≤ latest_kept u = o.latest in omega arith

-- what is held of the limits
pub kept_of_same : (p : Settings) (b c : Board) → IsForgotten p b c → kept_of p c.units ≡ kept_of p b.units
kept_of_same p b c h =
    ap (λ limits. record (kept_of p b.units) { limits = limits }) (limits_same p b.units c.units h.units)

-- the board after a deed, as it is kept
pub forgotten-step : (p : Settings) (b c : Board) (turn : Turn) (deed : Deed) → IsForgotten p b c
    → IsForgotten p (step b turn deed) (step c turn deed)
forgotten-step p b c turn deed h = subst (λ (c : Board). IsForgotten p (step b turn deed) (step c turn deed))
    (sym h.rest) (by_begin deed.begins)
  where
    kept : Board
    kept = with_units b c.units

    by_begin : (begins : Bool)
        → IsForgotten p (record (moved_in (if begins then anew b else b) deed) { clock = b.clock + ns_of turn })
        (record (moved_in (if begins then anew kept else kept) deed) { clock = b.clock + ns_of turn })
    by_begin true = record {
      rest = refl;
      units = forgotten-moved p b.clock deed.part deed.request _ _ (forgotten-anew p b.units c.units h.units);
    }
    by_begin false = record {
      rest = refl;
      units = forgotten-moved p b.clock deed.part deed.request b.units c.units h.units;
    }

-- and after the reporter's answers
pub forgotten-answered : (p : Settings) (b c : Board) (refused : List Bool) → IsForgotten p b c
    → IsForgotten p (answered b refused) (answered c refused)
forgotten-answered p b c refused h =
    subst (λ (c : Board). IsForgotten p (answered b refused) (answered c refused)) (sym h.rest)
    (record { rest = refl; units = h.units })

-- so is the board after a turn that can be taken
pub forgotten-turn : (p : Settings) (b c : Board) (turn : Turn) (refused : List Bool) → IsForgotten p b c
    → CanAdvance p b turn (turn_of_unit turn)
    → IsForgotten p (answered (step b turn (deed_on p b turn)) refused)
    (answered (step c turn (deed_on p c turn)) refused)
forgotten-turn p b c turn refused h can =
    subst (λ deed. IsForgotten p (answered (step b turn (deed_on p b turn)) refused)
    (answered (step c turn deed) refused)) (sym (deed_same p b c turn h can))
    (forgotten-answered p (step b turn (deed_on p b turn)) (step c turn (deed_on p b turn)) refused
    (forgotten-step p b c turn (deed_on p b turn) h))

-- a board is kept as it is, and then with one more unit forgotten
pub forgotten-none : (p : Settings) (b : Board) → IsForgotten p b b
forgotten-none p b = record { rest = refl; units = record { whole = refl; each = λ k. inl refl } }

pub forgotten-more : (p : Settings) (b c : Board) (k : ℕ) (v : Option UnitView) → IsForgotten p b c
    → AreOver p k (unit_in c k) v → IsForgotten p b (record c { units = set c.units k v })
forgotten-more p b c k v h o = record {
  rest = ap (λ (c : Board). record c { units = set kept k v }) h.rest;
  units = forgotten-one p b.units kept k v h.units
      (inr (over_more p k (get_or b.units k None) (get_or kept k None) v (h.units.each k) o));
}
  where
    kept : List (Option UnitView)
    kept = c.units
