-- A line that was read.
use Rattle.std.proofs.lemmas.Result.{err_from_is_err_and}
use Rattle.run_show.proofs.LineLemmas.{first_begun, first_rest}
use Rattle.run_show.proofs.source_lines.SourceLines.next_line.Goals as goal

pub returns-in_err-read_to_end-clause-refused : goal.returns-in_err-read_to_end-clause-refused
returns-in_err-read_to_end-clause-refused g c =
    let out = c.from_residual-in_err-read_to_end in
    let p = err_from_is_err_and out.result out.ensures.1 in
    let begun = c.in_ok-take_more.ensures.begun c.if-branch.false _ (rw c.new-line.ensures.items (first_begun _)) in
    rw (p.1, p.2) (c.in_err-read_to_end.ensures.refused _ begun)

pub returns-clause-line : goal.returns-clause-line
returns-clause-line g c =
    let begun = c.in_ok-take_more.ensures.begun c.if-branch.false _ (rw c.new-line.ensures.items (first_begun _)) in
    let read = c.in_ok-read_to_end.ensures in
    first_rest _ _ c.read_to_end.new.line.items _ (read.begun c.if-branch-2.false _ begun)
    (read.end c.if-branch-2.false) c.some_line.ensures
