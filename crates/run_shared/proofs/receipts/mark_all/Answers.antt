use Rattle.std.proofs.Common.{◌≡◌, List, take, drop, ◌+◌, sym, subst}
use Rattle.run_shared.specs.declared.shared.Receipt.{Receipt}
use Rattle.run_shared.specs.Receipts.{concatenated, HasFault, Looked}
use Rattle.run_shared.proofs.Marked.{cut_joined, next_joined, fault_after, looked_more}
use Rattle.run_shared.proofs.receipts.mark_all.Goals as goal

pub returns-in-Err-clause-fault : goal.returns-in-Err-clause-fault
returns-in-Err-clause-fault c =
    let xss = c.args.lists.now in
    let i = c.loop-list.list-index in
    let xs = c.list-item.result in
    subst (λ (rs : List Receipt). HasFault c.args.journal.now c.args.seen.now rs c.in-Err.kind)
    (sym (cut_joined xss i xs c.loop-list-test.true c.list-item.is))
    (fault_after c.args.journal.now c.args.seen.now c.loop-list.seen (concatenated (take i xss)) xs
    (concatenated (drop (i + 1) xss)) c.in-Err.kind c.loop-list.invariant
    (rw c.as_slice.ensures at c.in-Err.ensures.fault))

pub loop-list-preserved : goal.loop-list-preserved
loop-list-preserved c =
    let xss = c.args.lists.now in
    let i = c.loop-list.list-index in
    let xs = c.list-item.result in
    subst (Looked c.args.journal.now c.args.seen.now c.mark_list.new.seen)
    (sym (next_joined xss i xs c.loop-list-test.true c.list-item.is))
    (looked_more c.args.journal.now c.args.seen.now c.loop-list.seen c.mark_list.new.seen (concatenated (take i xss)) xs
    c.loop-list.invariant (rw c.as_slice.ensures at c.in_default.ensures.looked))
