use Rattle.std.proofs.Common.{length}
use Rattle.run_live.proofs.GatherLemmas.{whole_push, ticker_of}
use Rattle.run_live.proofs.gathering.add_ticker.Goals as goal

pub returns-clause-whole : goal.returns-clause-whole
returns-clause-whole g c =
    let all = c.args.all.now in
    let rose = rw c.in-Some.is at c.requires.ticked.rose in
    let ticks = rw c.in-Some.is at c.requires.ticked.ticks in
    rw (c.in_ok-push_three.ensures.second, c.in_ok-push_three.ensures.third, c.in_ok-push_three.ensures.first)
    (whole_push g.W.Spawner.has_said (λ s. s.parts) (λ s. s.amount) all.workers.items all.receipts all.refused
    all.shares.items c.in-Some.work.receipts c.in-Some.work.refused c.args.ticked.share c.requires.ticked.part rose
    c.requires.gathered ticks)

pub returns-clause-ticker : goal.returns-clause-ticker
returns-clause-ticker g c =
    let all = c.args.all.now in
    let told = rw c.in-Some.is at c.requires.ticked.told in
    rw (c.in_ok-push_three.ensures.second, c.in_ok-push_three.ensures.third)
    (ticker_of g.T.Ticker.has_told c.args.ticked.ticker (length all.workers.items) all.receipts all.refused
    c.in-Some.work.receipts c.in-Some.work.refused c.requires.gathered.lists c.requires.gathered.refusals told)
