-- What a delivery does to the board of a generated run.
use Rattle.std.proofs.Common.{◌≡◌, ℕ, suc, ◌+◌, ◌≤◌, ◌&&◌, not, List, [], ◌∷◌, length, drop, Bool, true, false}
use Rattle.std.proofs.Common.{Option, Some, None, is_none, if◌then◌else◌, option_map, refl, ap, sym, subst, arith}
use Rattle.run_clock.specs.Counted.{other}
use Rattle.run_events.specs.declared.message.Message.{Message}
use Rattle.run_events.specs.declared.message.Message.TheVariants as messages
use Rattle.run_events.specs.declared.settings.Settings.{Settings}
use Rattle.run_events.specs.declared.turn.Turn.TheVariants as turns
use Rattle.run_model.specs.Board.{Board, Deed, moved, step, unit_in}
use Rattle.run_model.specs.Cancel.{cause_of, caused, failure_cause}
use Rattle.run_model.specs.Dispatch.{Moment, event, go_of, is_main, may_go, moment_by, retried_event, started_event}
use Rattle.run_model.specs.Dispatch.{told_of, with_start}
use Rattle.run_events.specs.declared.events.TestEventKind.TheVariants.{SetupScriptStarted}
use Rattle.std.proofs.Common.{length-drop}
use Rattle.run_model.specs.Rounds.{act_of}
use Rattle.run_model.specs.Turns.{answer_to, deed_on, delivery, enabled_on, message_deed, is_empty, nothing_done}
use Rattle.run_model.specs.Turns.{run_takes, starting, tally_by, taken_deed, told_by}
use Rattle.run_model.specs.declared.dispatcher_view.CancelRules.{CancelRules}
use Rattle.run_model.specs.declared.dispatcher_view.Tally.{Tally}
use Rattle.run_events.specs.declared.retry_policy.MaxFail.TheVariants.{All}
use Rattle.run_model.specs.declared.unit_turn.UnitTurn.TheVariants as own
use Rattle.run_model.specs.declared.unit_view.UnitView.{UnitView}
use Rattle.run_laws_generate.proofs.Moves.{Eases, IsCalm, plain_eases, step_eases, unit_eases}
use Rattle.run_laws_generate.proofs.Rows.{answered_row}
use Rattle.run_laws_generate.proofs.Steps.{IsKnown, IsOfTest, both-left, both-right, within_list}
use Rattle.run_laws_generate.proofs.Sums.{sum_of}
use Rattle.run_laws_generate.proofs.Next.{at_rest}
use Rattle.run_laws_generate.proofs.Weights.{IsEasy}

-- no message cancels it
uncaused : (rules : CancelRules) (t : Tally) (m : Message) → rules.max_fail ≡ All → IsOfTest m
    → cause_of rules t m ≡ None
uncaused rules t (messages.ScriptFinish finish) all kind = absurd kind
uncaused rules t (messages.Finish finish) all kind = ap (λ most. failure_cause most t.stats) all
uncaused rules t m all kind = refl

-- what a delivery tells pauses nothing
told_apart : (moment : Moment) (t : Tally) (m : Message) → act_of (option_map (event moment) (told_of t m)) ≡ other
told_apart moment t (messages.ScriptStart start) = by_go (may_go t)
  where
    by_go : (b : Bool)
        → act_of (option_map (event moment) (if b then Some (SetupScriptStarted start) else None)) ≡ other
    by_go true = refl
    by_go false = refl
told_apart moment t (messages.Start start) = by_go (may_go t)
  where
    by_go : (b : Bool)
        → act_of (option_map (event moment) (if b then Some (started_event start (with_start t)) else None)) ≡ other
    by_go true = refl
    by_go false = refl
told_apart moment t (messages.Retry retry) = by_go (may_go t)
  where
    by_go : (b : Bool)
        → act_of (option_map (event moment) (if b then Some (retried_event retry t) else None)) ≡ other
    by_go true = refl
    by_go false = refl
told_apart moment t m = refl

-- what holds of nothing and of an answer to a unit holds of the answer to a message
by_answer : (P : Deed → Type 0) (b : Board) (o : Option ℕ) (g : Option Bool) → P nothing_done
    → ((k : ℕ) (go : Bool) (u : UnitView) → unit_in b k ≡ Some u → P (taken_deed b.clock k (own.Answered go) (Some u)))
    → P (answer_to b o g)
by_answer P b None g none acts = none
by_answer P b (Some k) None none acts = none
by_answer P b (Some k) (Some go) none acts = by_unit (unit_in b k) refl
  where
    by_unit : (v : Option UnitView) → unit_in b k ≡ v → P (taken_deed b.clock k (own.Answered go) v)
    by_unit None is = none
    by_unit (Some u) is = acts k go u is

-- the delivery of the oldest message
pub deliver_eases : (p : Settings) (b : Board) → IsKnown p b → IsCalm None b → enabled_on p b turns.Deliver ≡ true
    → Eases at_rest at_rest 1 None b (step b turns.Deliver (deed_on p b turns.Deliver))
deliver_eases p b known calm en =
    step_eases at_rest at_rest 1 None b turns.Deliver (deed_on p b turns.Deliver)
    (by_queue b.queue refl (both-right (is_main b.dispatcher) (not (is_empty b.queue)) taken))
  where
    taken : (is_main b.dispatcher && not (is_empty b.queue)) ≡ true
    taken = both-right (not b.dispatcher.over) (run_takes p b turns.Deliver) en

    on : b.dispatcher.on ≡ true
    on = both-left b.dispatcher.on (is_none b.dispatcher.rounds.asks)
        (both-left (is_main b.dispatcher) (not (is_empty b.queue)) taken)

    shorter : (m : Message) (rest : List Message) → b.queue ≡ m ∷ rest → length (drop 1 b.queue) + 1 ≤ length b.queue
    shorter m rest is =
        let some : length b.queue ≡ suc (length rest) = ap length is in omega (arith, length-drop 1 b.queue)

    sums : (s q n : ℕ) → q + 1 ≤ n → s + 0 + q + 21 + 1 ≤ s + n + 21
    sums s q n less = omega arith

    heard : (m : Message) (rest : List Message) (is : b.queue ≡ m ∷ rest)
        → Eases at_rest at_rest 1 None b
        (moved b (message_deed b.clock b.dispatcher m (answer_to b (starting m) (go_of b.dispatcher.tally m))))
    heard m rest is =
        by_answer (λ answer. Eases at_rest at_rest 1 None b (moved b (message_deed b.clock b.dispatcher m answer)))
        b (starting m) (go_of b.dispatcher.tally m)
        (plain_eases at_rest at_rest 1 None None b None None [] true (told_by b.clock b.dispatcher m) None calm
        (told_apart (moment_by b.clock b.dispatcher.watch) b.dispatcher.tally m) calm.easy calm.before
        (sums (sum_of b.units) (length (drop 1 b.queue)) (length b.queue) (shorter m rest is)))
        (λ k go u at.
        let easy : IsEasy b.clock false u = calm.easy k u at in
        unit_eases at_rest at_rest 1 0 None None b k u (own.Answered go) true (told_by b.clock b.dispatcher m)
        calm at (within_list b.units k u at) (told_apart (moment_by b.clock b.dispatcher.watch) b.dispatcher.tally m)
        (answered_row b.clock go false u.phase u refl easy.stands easy.line (known.plain k u at)) (λ j e. refl)
        (let less : length (drop 1 b.queue) + 1 ≤ length b.queue = shorter m rest is in omega arith))

    by_queue : (q : List Message) → b.queue ≡ q → not (is_empty q) ≡ true
        → Eases at_rest at_rest 1 None b (moved b (delivery b q))
    by_queue [] is some = cc
    by_queue (m ∷ rest) is some =
        let t : Tally = tally_by b.clock b.dispatcher m in
        let answer : Deed = answer_to b (starting m) (go_of b.dispatcher.tally m) in
        subst (λ o. Eases at_rest at_rest 1 None b
        (moved b (caused (moment_by b.clock b.dispatcher.watch) t o (message_deed b.clock b.dispatcher m answer))))
        (sym (uncaused b.dispatcher.rules t m calm.quiet.all (known.kinds m rest is))) (heard m rest is)
