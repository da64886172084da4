use Rattle.run_output.specs.Fields.{line_bytes}
use Rattle.run_cli.proofs.TextLemmas.{front_of_first, front_take, front_after, on_err_then}
use Rattle.run_engine.proofs.PartLemmas.{on_err}
use Rattle.run_cli.proofs.write.write_rest.Goals as goal

pub returns-in_err-write_all-clause-front : goal.returns-in_err-write_all-clause-front
returns-in_err-write_all-clause-front g c =
    let front = c.in_err-write_all.ensures.err in
    on_err c.from_residual.result _
    (front_of_first _ _ c.args.asks.now (line_bytes c.args.last)
    (front_take _ _ front.0 c.args.asks.now front.1 front.2))

pub returns-clause-front : goal.returns-clause-front
returns-clause-front g c =
    on_err_then c.write_line.result _ _
    (front_after _ _ _ c.args.asks.now (line_bytes c.args.last) c.in_ok-write_all.ensures.ok)
    c.write_line.ensures.front
