use Rattle.std.proofs.Common.{sym, subst}
use Rattle.run_store_io.specs.Written.{IsStoreError}
use Rattle.run_store_io.proofs.StoreLemmas.{if_ok_then, if_err_then, begun_part}
use Rattle.run_store_io.proofs.whole.write_store.Goals as goal

pub returns-in-Ok-clause-ok : goal.returns-in-Ok-clause-ok
returns-in-Ok-clause-ok g c =
    if_ok_then c.write_rest.result _ _
    (λ k h. h (g.K.Sink.taken c.args.sink) c.args.plan_line.now c.in-Ok.ensures.ok) c.write_rest.ensures.ok

pub returns-in-Ok-clause-err : goal.returns-in-Ok-clause-err
returns-in-Ok-clause-err g c =
    if_err_then c.write_rest.result _ _
    (λ e h. h (g.K.Sink.taken c.args.sink) c.args.plan_line.now c.in-Ok.ensures.ok) c.write_rest.ensures.err

pub returns-in-Err-clause-err : goal.returns-in-Err-clause-err
returns-in-Err-clause-err g c = (
  subst (IsStoreError c.args.plan_line.now c.args.turns.now) (sym c.in-Err.ensures.err.0) tt,
  begun_part _ _ c.args.plan_line.now c.args.turns.now c.in-Err.ensures.err.1,
)
