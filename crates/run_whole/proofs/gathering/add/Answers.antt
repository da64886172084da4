use Rattle.run_whole.proofs.AllLemmas.{gathered_push}
use Rattle.run_whole.proofs.gathering.add.Goals as goal

pub returns-clause-gathered : goal.returns-clause-gathered
returns-clause-gathered g c =
    let all = c.args.all.now in
    let e = c.in_ok-push_each.ensures in
    rw (e.third, e.fourth, e.first, e.second)
    (gathered_push g.W.Keeper.has_heard (λ s. s.parts) (λ s. s.amount) all.workers.keepers.items all.receipts
    all.workers.lost all.workers.orders c.push.new.self all.shares.items c.in-Some.parts.0 c.in-Some.parts.2
    c.in-Some.parts.3 c.in-Some.orders c.in-Some.parts.1 c.in-Some.ensures.part c.in-Some.ensures.rose
    c.in_ok-push.ensures.ok c.requires.gathered c.in-Some.ensures.own)
