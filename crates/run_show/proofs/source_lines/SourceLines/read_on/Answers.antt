-- What was read of a line.
use Rattle.std.proofs.Common.{arith, rules}
use Rattle.std.proofs.lemmas.Result.{err_from_is_err_and}
use Rattle.run_show.proofs.LineLemmas.{begun_on}
use Rattle.run_show.proofs.source_lines.SourceLines.read_on.Goals as goal

pub returns-then-not-branch-clause-part : goal.returns-then-not-branch-clause-part
returns-then-not-branch-clause-part g c =
    let ahead = c.in_ok-read_more.ensures.ahead in
    (c.in_ok-read_more.ensures.end (search rules), λ start begun. begun_on _ _ _ _ ahead begun)

pub returns-then-branch-clause-part : goal.returns-then-branch-clause-part
returns-then-branch-clause-part g c = λ start begun.
    c.in_ok-take_more.ensures.ended (search rules) _ (begun_on _ _ _ _ c.in_ok-read_more.ensures.ahead begun)

pub returns-clause-part : goal.returns-clause-part
returns-clause-part g c =
    let all = c.in_ok-take_more.ensures.all c.if-branch.false in
    let some = c.in_ok-read_more.ensures.some (search rules) in (
      omega (arith, all.1, some),
      λ start begun. c.in_ok-take_more.ensures.begun c.if-branch.false _
          (begun_on _ _ _ _ c.in_ok-read_more.ensures.ahead begun),
    )

pub returns-in_err-read_more-clause-refused : goal.returns-in_err-read_more-clause-refused
returns-in_err-read_more-clause-refused g c =
    let p = err_from_is_err_and c.from_residual.result c.from_residual.ensures.1 in
    λ before. rw (p.1, p.2) (c.in_err-read_more.ensures.refused before)
