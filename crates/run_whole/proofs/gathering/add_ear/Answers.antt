use Rattle.std.proofs.Common.{length, arith, ◌+◌, refl}
use Rattle.run_live.proofs.GatherLemmas.{at_front}
use Rattle.run_whole.proofs.AllLemmas.{listener_of}
use Rattle.run_whole.proofs.gathering.add_ear.Goals as goal

pub returns-clause-gathered : goal.returns-clause-gathered
returns-clause-gathered g c = c.in_ok-add_more.ensures.gathered 1 c.requires.gathered

pub returns-clause-ear : goal.returns-clause-ear
returns-clause-ear g c =
    let all = c.args.all.now in
    rw (c.in_ok-add_more.ensures.workers, c.in_ok-add_more.ensures.receipts)
    (listener_of g.O.Outside.has_come c.args.hearing c.in-Some.ear.around.outside
    (length all.workers.keepers.items + 1) all.receipts c.in-Some.receipts c.in-Some.ear.dropped
    c.requires.gathered.lists c.in-Some.ensures.heard c.in-Some.ensures.calm)

pub returns-clause-before : goal.returns-clause-before
returns-clause-before g c = λ k rs below.
    let all = c.args.all.now in
    rw c.in_ok-add_more.ensures.receipts
    (at_front all.receipts c.in-Some.receipts rs k (length all.receipts) refl below)
