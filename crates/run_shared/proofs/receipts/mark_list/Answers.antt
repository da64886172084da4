use Rattle.std.proofs.Common.{◌≡◌, List, [], ◌∷◌, take, drop, ◌+◌, sym, subst}
use Rattle.run_shared.specs.declared.shared.Receipt.{Receipt}
use Rattle.run_shared.specs.Receipts.{HasFault, Looked}
use Rattle.run_shared.proofs.Marked.{cut_at, next_at, fault_after, looked_more}
use Rattle.run_shared.proofs.receipts.mark_list.Goals as goal

pub returns-in-Err-clause-fault : goal.returns-in-Err-clause-fault
returns-in-Err-clause-fault c =
    let xs = c.args.list.now in
    let i = c.loop-receipt.receipt-index in
    let x = c.receipt-item.result in
    subst (λ (rs : List Receipt). HasFault c.args.journal.now c.args.seen.now rs c.in-Err.kind)
    (sym (cut_at xs i x c.loop-receipt-test.true c.receipt-item.is))
    (fault_after c.args.journal.now c.args.seen.now c.loop-receipt.seen (take i xs) (x ∷ []) (drop (i + 1) xs)
    c.in-Err.kind c.loop-receipt.invariant c.in-Err.ensures.fault)

pub loop-receipt-preserved : goal.loop-receipt-preserved
loop-receipt-preserved c =
    let xs = c.args.list.now in
    let i = c.loop-receipt.receipt-index in
    let x = c.receipt-item.result in
    subst (Looked c.args.journal.now c.args.seen.now c.mark.new.seen)
    (sym (next_at xs i x c.loop-receipt-test.true c.receipt-item.is))
    (looked_more c.args.journal.now c.args.seen.now c.loop-receipt.seen c.mark.new.seen (take i xs) (x ∷ [])
    c.loop-receipt.invariant c.in_default.ensures.looked)
