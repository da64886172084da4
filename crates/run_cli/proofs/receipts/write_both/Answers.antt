use Rattle.run_engine.proofs.PartLemmas.{on_err}
use Rattle.run_cli.proofs.TextLemmas.{front_of_first, front_take, front_after, on_err_then}
use Rattle.run_cli.proofs.receipts.write_both.Goals as goal

pub returns-in_err-write_all-clause-front : goal.returns-in_err-write_all-clause-front
returns-in_err-write_all-clause-front g c =
    let front = c.in_err-write_all.ensures.err in
    on_err c.from_residual.result _
    (front_of_first _ _ c.args.first.now c.args.last.now
    (front_take _ _ front.0 c.args.first.now front.1 front.2))

pub returns-clause-front : goal.returns-clause-front
returns-clause-front g c =
    on_err_then c.write_all-2.result _ _
    (λ front. front_after _ _ _ c.args.first.now c.args.last.now c.in_ok-write_all.ensures.ok
    (front_take _ _ front.0 c.args.last.now front.1 front.2))
    c.write_all-2.ensures.err
