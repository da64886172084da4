use Rattle.std.proofs.Common.{◌≡◌, List, Bool, length, false, replicate, ap, arith, rules}
use Rattle.std.proofs.lemmas.List.{length-replicate}
use Rattle.run_shared.specs.Receipts.{concatenated}
use Rattle.run_shared.proofs.Marked.{closes_of, fault_of}
use Rattle.run_shared.proofs.receipts.check.Goals as goal

pub returns-in-Err-clause-fault : goal.returns-in-Err-clause-fault
returns-in-Err-clause-fault c =
    let fault = rw c.as_slice.ensures at c.in-Err.ensures.fault in
    fault_of c.args.journal.now (length c.args.journal.now) (concatenated c.args.receipts.now) c.in-Err.kind
    (rw (c.as_mut_slice.ensures.value, c.in-Ok.ensures) at fault)

pub returns-clause-closes : goal.returns-clause-closes
returns-clause-closes c =
    let looked = rw c.as_slice.ensures at c.in_default-mark_all.ensures.looked in
    let len : length c.mark_all.new.seen ≡ length c.args.journal.now = omega (
      arith,
      c.mark_all.auto.seen,
      ap (λ (bs : List Bool). length bs) c.as_mut_slice.ensures.value,
      ap (λ (bs : List Bool). length bs) c.in-Ok.ensures,
      length-replicate (length c.args.journal.now) false,
    ) in
    closes_of c.args.journal.now (length c.args.journal.now) c.mark_all.new.seen (concatenated c.args.receipts.now) len
    (rw (c.as_mut_slice.ensures.value, c.in-Ok.ensures) at looked)
