use Rattle.run_live.proofs.GatherLemmas.{gathered_push}
use Rattle.run_live.proofs.gathering.add.Goals as goal

pub returns-clause-gathered : goal.returns-clause-gathered
returns-clause-gathered g c =
    let all = c.args.all.now in
    let e = c.in_ok-push_each.ensures in
    rw (e.third, e.fourth, e.first, e.second)
    (gathered_push g.W.Spawner.has_said (λ s. s.parts) (λ s. s.amount) all.workers.items all.receipts all.refused
    all.shares.items c.in-Some.parts.0 c.in-Some.parts.2 c.in-Some.parts.3 c.in-Some.parts.1 c.in-Some.ensures.part
    c.in-Some.ensures.rose c.requires.gathered c.in-Some.ensures.own)
