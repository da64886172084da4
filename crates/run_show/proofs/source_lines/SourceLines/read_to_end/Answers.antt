-- What was read of a line.
use Rattle.std.proofs.Common.{arith, ◌∙◌}
use Rattle.std.proofs.lemmas.Result.{err_from_is_err_and}
use Rattle.run_show.proofs.source_lines.SourceLines.read_to_end.Goals as goal

pub returns-in_err-read_on-clause-refused : goal.returns-in_err-read_on-clause-refused
returns-in_err-read_on-clause-refused g c =
    let out = c.from_residual.result in
    let p = err_from_is_err_and c.from_residual.result c.from_residual.ensures.1 in
    λ before begun. rw (p.1, p.2) (c.in_err-read_on.ensures.refused before)

pub returns-in-Ended-clause-ended : goal.returns-in-Ended-clause-ended
returns-in-Ended-clause-ended g c =
    let part = rw c.in-Ended.is at c.in_ok-read_on.ensures.part in
    λ is before begun. part before (c.reads.invariant.begun before begun)

pub returns-in-Last-clause-begun : goal.returns-in-Last-clause-begun
returns-in-Last-clause-begun g c =
    let part = rw c.in-Last.is at c.in_ok-read_on.ensures.part in
    λ is before begun. part.1 before (c.reads.invariant.begun before begun)

pub returns-in-Last-clause-end : goal.returns-in-Last-clause-end
returns-in-Last-clause-end g c =
    let part = rw c.in-Last.is at c.in_ok-read_on.ensures.part in
    λ is. part.0

pub reads-preserved : goal.reads-preserved
reads-preserved g c =
    let part = rw c.in-Open.is at c.in_ok-read_on.ensures.part in
    record {
      begun = λ before begun. part.1 before (c.reads.invariant.begun before begun);
      empty = (rw c.in-Open.is at c.in_ok-read_on.ensures.ready) tt;
      long = omega (arith, part.0, c.reads.invariant.long);
      faults = c.in_ok-read_on.ensures.fault ∙ c.reads.invariant.faults;
    }

pub returns-after-reads-clause-refused : goal.returns-after-reads-clause-refused
returns-after-reads-clause-refused g c = λ before begun. (
  c.reads.line.items,
  _,
  c.reads.invariant.begun before begun,
  omega (arith, c.reads.invariant.long, c.reads.auto.reads-end, c.reads-test.false),
)

pub returns-then-len-gt-LINE_LIMIT-clause-refused : goal.returns-then-len-gt-LINE_LIMIT-clause-refused
returns-then-len-gt-LINE_LIMIT-clause-refused g c = λ before begun. (
  c.reads.line.items,
  _,
  c.reads.invariant.begun before begun,
  omega (arith, c.len.ensures, c.if-len-gt-LINE_LIMIT.true),
)
