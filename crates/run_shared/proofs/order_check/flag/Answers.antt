use Rattle.std.proofs.Common.{◌≡◌, rules}
use Rattle.run_shared.proofs.OrderLemmas.{unasked_one}
use Rattle.run_shared.proofs.order_check.flag.Goals as goal

pub returns-then-not-was_asked-clause-fault : goal.returns-then-not-was_asked-clause-fault
returns-then-not-was_asked-clause-fault c =
    unasked_one c.args.asks.now c.args.seen.now c.args.place c.args.errand
    (λ there. let yes = c.was_asked.ensures.answer.1 there in search rules)
