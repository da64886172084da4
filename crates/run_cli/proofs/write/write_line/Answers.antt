use Rattle.std.proofs.Common.{◌≡◌, subst, ◌∙◌}
use Rattle.run_output.specs.Fields.{line_bytes}
use Rattle.run_cli.specs.Call.{TakesFront}
use Rattle.run_cli.proofs.TextLemmas.{line_some, front_none, front_take}
use Rattle.run_engine.proofs.PartLemmas.{on_err}
use Rattle.run_cli.proofs.write.write_line.Goals as goal

pub returns-in_err-line-clause-front : goal.returns-in_err-line-clause-front
returns-in_err-line-clause-front g c =
    on_err c.from_residual.result _ (front_none _ (line_bytes c.args.line) (line_some c.args.line))

pub returns-in_err-write_all-clause-front : goal.returns-in_err-write_all-clause-front
returns-in_err-write_all-clause-front g c =
    let piece = c.as_bytes.result.now in
    let is : piece ≡ line_bytes c.args.line = c.as_bytes.ensures ∙ c.in_ok-line.ensures in
    let front = c.in_err-write_all.ensures.err in
    on_err c.from_residual-in_err-write_all.result _
    (subst (TakesFront _ _) is (front_take _ _ front.0 piece front.1 front.2))
