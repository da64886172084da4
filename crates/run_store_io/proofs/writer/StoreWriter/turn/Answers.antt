use Rattle.std.proofs.Common.{◌+◌, true, refl}
use Rattle.run_store_io.proofs.WriteLemmas.{still_open, now_shut}
use Rattle.run_store_io.proofs.writer.StoreWriter.turn.Goals as goal

pub returns-in-Ok-clause-ok : goal.returns-in-Ok-clause-ok
returns-in-Ok-clause-ok g c = λ start plan turns h.
    let says = c.in-Ok.ensures.says in
    still_open g.K.Sink start plan turns c.args.turn.now c.args.self.now
    (record { sink = c.write_turn.new.sink; turns = c.args.self.now.turns + 1; closed = c.args.self.now.closed })
    h says.0 says.1 says.2 refl c.if-self.false

pub returns-in-Err-clause-err : goal.returns-in-Err-clause-err
returns-in-Err-clause-err g c = λ start plan turns h.
    now_shut g.K.Sink start plan turns c.args.turn.now c.args.self.now
    (record { sink = c.write_turn.new.sink; turns = c.args.self.now.turns; closed = true }) c.in-Err.error h
    c.in-Err.ensures.says refl
