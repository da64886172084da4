use Rattle.std.proofs.Common.{◌≡◌, [], arith, subst, sym}
use Rattle.std.proofs.lemmas.Grind.{common_steps}
use Rattle.std.proofs.lemmas.Result.{IfOk-weaker}
use Rattle.run_input.specs.Lines.{lines_of}
use Rattle.run_jobs_cli.specs.WaveLines.{SaysLists}
use Rattle.run_jobs_cli.proofs.ListLemmas.{all_lists, lists_more, no_lists}
use Rattle.run_jobs_cli.proofs.wave_lines.read_lists.Goals as goal

pub lines-init : goal.lines-init
lines-init c = rw (c.new.ensures, c.new-2.ensures) (no_lists c.args.bytes.now)

pub lines-preserved : goal.lines-preserved
lines-preserved c =
    rw c.in_ok-add-in-Ok.ensures.ok
    (lists_more _ c.lines.rest.now _ c.split_line.result.0.now _ _ _ c.lines.invariant c.split_line.ensures.lines
    c.split_line.ensures.shorter c.in-Ok.ensures)

pub returns-clause-ok : goal.returns-clause-ok
returns-clause-ok c =
    let done : c.lines.rest.now ≡ [] = grind (arith, common_steps) in
    IfOk-weaker c.finish.result _ _
    (λ lists is. subst (SaysLists (lines_of c.args.bytes.now)) (sym is)
    (all_lists c.args.bytes.now c.lines.rest.now c.lines.lists c.lines.number c.lines.invariant done))
    c.finish.ensures.ok
