use Rattle.std.proofs.Common.{length, arith}
use Rattle.run_whole.proofs.AllLemmas.{ticker_of}
use Rattle.run_whole.proofs.gathering.add_ticker.Goals as goal

pub returns-clause-gathered : goal.returns-clause-gathered
returns-clause-gathered g c = c.in_ok-add_more.ensures.gathered 0 c.requires.gathered

pub returns-clause-ticker : goal.returns-clause-ticker
returns-clause-ticker g c =
    let all = c.args.all.now in
    rw (c.in_ok-add_more.ensures.workers, c.in_ok-add_more.ensures.receipts)
    (ticker_of g.T.Ticker.has_told c.in-Some.rounds.ticker (length all.workers.keepers.items) all.receipts
    c.in-Some.receipts c.in-Some.rounds.refused (omega (arith, c.requires.gathered.lists)) c.in-Some.ensures.told)
