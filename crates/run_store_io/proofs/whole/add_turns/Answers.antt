use Rattle.std.proofs.Common.{◌∙◌, ◌<◌, ◌≤◌, List, length, take, ap, sym, subst, true≢false, arith, Err}
use Rattle.std.proofs.lemmas.List.{take_all}
use Rattle.run_events.specs.declared.turn.Turn.{Turn}
use Rattle.run_store_io.specs.Written.{IsOpen}
use Rattle.run_store_io.specs.declared.error.StoreError.{StoreError}
use Rattle.run_store_io.proofs.StoreLemmas.{take_one, refused_at}
use Rattle.run_store_io.proofs.whole.add_turns.Goals as goal

pub returns-in-Err-clause-err : goal.returns-in-Err-clause-err
returns-in-Err-clause-err g c = λ start plan h.
    let l = c.loop-turn in
    let below : l.turn-index < length c.args.turns.now = omega arith in
    let done : List Turn = take l.turn-index c.args.turns.now in
    let so_far = l.invariant.open_so_far start plan h in
    refused_at g.K.Sink start plan c.args.turns.now l.turn-index c.turn-item.result c.in-Err.error c.turn.new.self below
    c.turn-item.is c.in-Err.ensures.known
    (λ e. true≢false (sym (c.in-Err.ensures.closed.0 (ap (λ (x : StoreError). Err x) e)) ∙ l.invariant.unclosed))
    (λ e. c.in-Err.ensures.too_long start plan done so_far (ap (λ (x : StoreError). Err x) e))
    (c.in-Err.ensures.err start plan done so_far)

pub loop-turn-preserved : goal.loop-turn-preserved
loop-turn-preserved g c =
    let l = c.loop-turn in
    let below : l.turn-index < length c.args.turns.now = omega arith in
    record {
      open_so_far = λ start plan h.
          subst (λ (ts : List Turn). IsOpen g.K.Sink start plan ts c.turn.new.self)
          (take_one c.args.turns.now l.turn-index c.turn-item.result below c.turn-item.is)
          (c.in-Ok.ensures.ok start plan (take l.turn-index c.args.turns.now)
          (l.invariant.open_so_far start plan h));
      unclosed = c.in-Ok.ensures.closes;
      faults = c.in-Ok.ensures.fault ∙ l.invariant.faults;
    }

pub returns-clause-ok : goal.returns-clause-ok
returns-clause-ok g c = λ start plan h.
    let l = c.loop-turn in
    let past : length c.args.turns.now ≤ l.turn-index = omega arith in
    subst (λ (ts : List Turn). IsOpen g.K.Sink start plan ts l.writer)
    (take_all l.turn-index c.args.turns.now past) (l.invariant.open_so_far start plan h)
