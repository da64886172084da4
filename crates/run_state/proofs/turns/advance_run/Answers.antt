use Rattle.std.proofs.Common.{◌+◌, refl, ap, sym, subst, ◌∙◌}
use Rattle.run_events.specs.Hearing.{heard_key}
use Rattle.run_model.specs.Board.{Board, step}
use Rattle.run_model.specs.Cancel.{event_refused, time_is_up}
use Rattle.run_model.specs.Dispatch.{heard_by}
use Rattle.run_model.specs.Turns.{answered_by, cancelled, end_deed, informs_at, keys_at, live_in, oldest_of, signals_at}
use Rattle.run_model.specs.Turns.{run_turn, stops_itself, ticks}
use Rattle.run_state.specs.Held.{Held, KeepsSeats}
use Rattle.run_state.proofs.DeedLemmas.{answer_seated, done_seated, nothing_moved}
use Rattle.run_state.proofs.RoundLemmas.{answered_on, answered_part, end_own, key_own, signal_own}
use Rattle.run_state.proofs.turns.advance_run.Goals as goal

pub returns-in-Signal-clause-seated : goal.returns-in-Signal-clause-seated
returns-in-Signal-clause-seated c =
    let b = c.args.state.now.board in
    let own =
    signal_own b.clock (live_in b.units) b.dispatcher c.in-Signal.signal
    (heard_by b.dispatcher.rules.hearing c.in-Signal.signal) in
    answer_seated c.args.settings.now c.args.state.now c.hear_signal.new.state
    (signals_at b.clock (live_in b.units) b.dispatcher c.in-Signal.signal) c.hear_signal.result
    c.requires.seated own.part own.begins c.hear_signal.ensures

pub returns-in-Key-clause-seated : goal.returns-in-Key-clause-seated
returns-in-Key-clause-seated c =
    let b = c.args.state.now.board in
    let own =
    key_own b.clock (live_in b.units) b.dispatcher (heard_key b.dispatcher.rules.hearing.input c.in-Key.key) in
    answer_seated c.args.settings.now c.args.state.now c.hear_key.new.state
    (keys_at b.clock (live_in b.units) b.dispatcher c.in-Key.key) c.hear_key.result
    c.requires.seated own.part own.begins c.hear_key.ensures

pub returns-in-Tick-clause-seated : goal.returns-in-Tick-clause-seated
returns-in-Tick-clause-seated c =
    let b = c.args.state.now.board in
    answer_seated c.args.settings.now c.args.state.now c.tick.new.state ticks c.tick.result
    c.requires.seated refl refl c.tick.ensures

pub returns-in-StopWaitDue-clause-seated : goal.returns-in-StopWaitDue-clause-seated
returns-in-StopWaitDue-clause-seated c =
    done_seated c.args.settings.now c.args.state.now c.stop_itself.new.state stops_itself c.requires.seated refl refl
    c.stop_itself.ensures.after c.stop_itself.ensures.kept

pub returns-in-Answer-clause-seated : goal.returns-in-Answer-clause-seated
returns-in-Answer-clause-seated c =
    let b = c.args.state.now.board in
    answer_seated c.args.settings.now c.args.state.now c.tell_answer.new.state
    (answered_by b (oldest_of b.answers)) c.tell_answer.result
    c.requires.seated (answered_part b (oldest_of b.answers)) (answered_on b (oldest_of b.answers))
    c.tell_answer.ensures

pub returns-in-InfoDue-clause-seated : goal.returns-in-InfoDue-clause-seated
returns-in-InfoDue-clause-seated c =
    let b = c.args.state.now.board in
    answer_seated c.args.settings.now c.args.state.now c.end_round.new.state
    (informs_at b.clock b.dispatcher) c.end_round.result
    c.requires.seated refl refl c.end_round.ensures

pub returns-in-GlobalDue-clause-seated : goal.returns-in-GlobalDue-clause-seated
returns-in-GlobalDue-clause-seated c =
    let b = c.args.state.now.board in
    answer_seated c.args.settings.now c.args.state.now c.run_out.new.state (cancelled b time_is_up) c.run_out.result
    c.requires.seated refl refl c.run_out.ensures

pub returns-in-ReportCancel-clause-seated : goal.returns-in-ReportCancel-clause-seated
returns-in-ReportCancel-clause-seated c =
    let b = c.args.state.now.board in
    answer_seated c.args.settings.now c.args.state.now c.refuse.new.state (cancelled b event_refused) c.refuse.result
    c.requires.seated refl refl c.refuse.ensures

pub returns-in-End-clause-seated : goal.returns-in-End-clause-seated
returns-in-End-clause-seated c =
    let b = c.args.state.now.board in
    let own = end_own b.clock b.dispatcher b.dispatcher.head.stress in
    answer_seated c.args.settings.now c.args.state.now c.end.new.state (end_deed b) c.end.result
    c.requires.seated own.part own.begins c.end.ensures

pub returns-in-Clock-clause-seated : goal.returns-in-Clock-clause-seated
returns-in-Clock-clause-seated c = subst (KeepsSeats c.args.settings.now) (sym c.pass.ensures) c.requires.seated

pub returns-in-Clock-clause-after : goal.returns-in-Clock-clause-after
returns-in-Clock-clause-after c =
    let p = c.args.settings.now in
    let ns = c.in-Clock.ns in
    let b = c.args.state.now.board in
    ap (λ (h : Held). h.board) c.pass.ensures
    ∙ ap (λ (x : Board). record x { clock = b.clock + ns }) (nothing_moved b)
    ∙ ap (λ turn. step b turn (run_turn p b turn)) (sym c.in-Clock.is)
