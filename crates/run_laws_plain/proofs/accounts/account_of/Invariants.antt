use Rattle.std.proofs.Common.{◌≡◌, take, map}
use Rattle.run_model.specs.Accounts.{account_of}
use Rattle.run_laws_plain.specs.News.{defined}
use Rattle.run_laws_plain.proofs.accounts.account_of.Given as goal

abbrev pub invariant-loop-event : goal.invariant-loop-event
invariant-loop-event l = map defined l.account ≡ account_of l.k (take l.event-index l.events)
