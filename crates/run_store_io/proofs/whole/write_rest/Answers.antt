use Rattle.std.proofs.Common.{sym, subst}
use Rattle.run_store.specs.Stores.{store_text}
use Rattle.run_store_io.specs.Taken.{TakesPart}
use Rattle.run_store_io.specs.Written.{IsStoreError}
use Rattle.run_store_io.proofs.StoreLemmas.{if_ok_then, if_err_then, end_error}
use Rattle.run_store_io.proofs.whole.write_rest.Goals as goal

pub returns-in-Ok-clause-ok : goal.returns-in-Ok-clause-ok
returns-in-Ok-clause-ok g c =
    if_ok_then c.finish.result _ _
    (λ k took start plan h.
    let all = c.in-Ok.ensures.ok start plan h in (all.storable, took start plan c.args.turns.now all))
    c.finish.ensures.ok

pub returns-in-Ok-clause-err : goal.returns-in-Ok-clause-err
returns-in-Ok-clause-err g c =
    if_err_then c.finish.result _ _
    (λ e k start plan h.
    let all = c.in-Ok.ensures.ok start plan h in (
      end_error g.K.Sink start plan c.args.turns.now e.0 _ c.in-Ok.ensures.unclosed k.0,
      k.1 start plan c.args.turns.now all,
    ))
    c.finish.ensures.err

pub returns-in-Err-clause-err : goal.returns-in-Err-clause-err
returns-in-Err-clause-err g c = λ start plan h.
    subst (λ (k : g.row.K.Denot). IsStoreError plan c.args.turns.now c.in-Err.error
    × TakesPart start (g.K.Sink.taken k) (store_text plan c.args.turns.now)) (sym c.into_sink.ensures)
    (c.in-Err.ensures.err start plan h)
