use Rattle.run_whole.proofs.AllLemmas.{beside_push}
use Rattle.run_whole.proofs.gathering.add_more.Goals as goal

pub returns-clause-gathered : goal.returns-clause-gathered
returns-clause-gathered g c =
    let all = c.args.all.now in λ more gathered.
    rw (c.in_ok-push_two.ensures.first, c.in_ok-push_two.ensures.second)
    (beside_push g.W.Keeper.has_heard (λ s. s.parts) (λ s. s.amount) all.workers.keepers.items all.receipts
    all.workers.lost all.workers.orders all.shares.items more c.args.receipts c.args.share c.requires.part
    c.requires.rose gathered)
