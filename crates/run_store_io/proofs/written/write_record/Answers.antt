use Rattle.run_store_io.proofs.WriteLemmas.{on_err, on_err_then, part_take, part_of_first, part_after}
use Rattle.run_store_io.proofs.written.write_record.Goals as goal

pub returns-in_err-write_all-clause-err : goal.returns-in_err-write_all-clause-err
returns-in_err-write_all-clause-err g c =
    let front = c.in_err-write_all.ensures.err in
    on_err c.from_residual.result _
    (rw c.to_be_bytes.ensures at
    (part_of_first _ _ _ c.args.payload.now (part_take _ _ front.0 _ front.1 front.2)))

pub returns-clause-err : goal.returns-clause-err
returns-clause-err g c =
    let first = rw c.to_be_bytes.ensures at c.in_ok-write_all.ensures.ok in
    on_err_then c.write_all-2.result _ _
    (λ front. part_after _ _ _ _ c.args.payload.now first (part_take _ _ front.0 c.args.payload.now front.1 front.2))
    c.write_all-2.ensures.err
