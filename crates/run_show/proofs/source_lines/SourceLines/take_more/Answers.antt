-- What was taken of a line.
use Rattle.std.proofs.Common.{ap, drop}
use Rattle.run_show.proofs.LineLemmas.{next_ended, next_begun, taken_all}
use Rattle.run_show.proofs.source_lines.SourceLines.take_more.Goals as goal

pub returns-clause-ended : goal.returns-clause-ended
returns-clause-ended g c =
    let self = c.args.self.now in
    let new = c.take_part.new.self in
    λ is before begun. next_ended before (g.S.Source.left self.source) (g.S.Source.left new.source)
    c.args.line.now.items c.take_part.new.line.items (drop self.at self.read.items) (drop new.at new.read.items)
    c.in_ok-ended.ended (ap g.S.Source.left c.take_part.ensures.source) begun c.in_ok-ended.ensures.part is

pub returns-clause-begun : goal.returns-clause-begun
returns-clause-begun g c =
    let self = c.args.self.now in
    let new = c.take_part.new.self in
    λ is before begun. next_begun before (g.S.Source.left self.source) (g.S.Source.left new.source)
    c.args.line.now.items c.take_part.new.line.items (drop self.at self.read.items) (drop new.at new.read.items)
    c.in_ok-ended.ended (ap g.S.Source.left c.take_part.ensures.source) begun c.in_ok-ended.ensures.part is

pub returns-clause-all : goal.returns-clause-all
returns-clause-all g c =
    let self = c.args.self.now in
    let new = c.take_part.new.self in
    λ is. taken_all c.args.line.now.items c.take_part.new.line.items (drop self.at self.read.items)
    (drop new.at new.read.items) c.in_ok-ended.ended c.in_ok-ended.ensures.part is
