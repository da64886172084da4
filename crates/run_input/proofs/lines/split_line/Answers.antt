use Rattle.std.proofs.Common.{arith}
use Rattle.run_input.proofs.LineLemmas.{lines_of-range, lines_of-last}
use Rattle.run_input.proofs.lines.split_line.Goals as goal

pub returns-then-end-bytes-clause-lines : goal.returns-then-end-bytes-clause-lines
returns-then-end-bytes-clause-lines c =
    lines_of-range c.end_of_line-end.result c.args.bytes.now c.end_of_line-end.ensures.before c.if-end-bytes.true
    (c.end_of_line-end.ensures.found c.if-end-bytes.true)

pub returns-else-end-bytes-clause-lines : goal.returns-else-end-bytes-clause-lines
returns-else-end-bytes-clause-lines c =
    lines_of-last c.args.bytes.now c.requires
    (λ k below. c.end_of_line-end.ensures.before k (omega (arith, c.if-end-bytes.false)))
