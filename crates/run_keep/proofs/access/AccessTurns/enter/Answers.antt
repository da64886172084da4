use Rattle.std.proofs.Common.{◌≡◌, Option, sym, subst, arith}
use Rattle.run_shared.specs.declared.offered.Refusal.{Refusal}
use Rattle.run_keep.specs.Entered.{EntersTurn}
use Rattle.run_keep.proofs.EnterLemmas.{enters_more}
use Rattle.run_keep.proofs.access.AccessTurns.enter.Goals as goal

pub returns-clause-enters : goal.returns-clause-enters
returns-clause-enters g c =
    let e = c.in_ok-answer.ensures in
    subst (λ (o : Option Refusal). EntersTurn c.args.receipts.now c.args.turn o c.settle-done.new.receipts)
    (sym e.value)
    (enters_more c.args.receipts.now c.offer.new.receipts c.settle-done.new.receipts c.args.turn
    c.in_ok-refusal.refusal c.in_ok-refusal.ensures.enters (rw e.done at c.settle-done.ensures.settles))

pub returns-clause-counted : goal.returns-clause-counted
returns-clause-counted g c =
    omega (arith, c.in_ok-refusal.ensures.counted, rw c.in_ok-answer.ensures.done at c.settle-done.ensures.counted)
