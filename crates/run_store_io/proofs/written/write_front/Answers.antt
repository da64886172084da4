use Rattle.std.proofs.Common.{◌∙◌, List, ℕ, ◌++◌, subst}
use Rattle.run_capture.specs.Bytes.{Takes}
use Rattle.run_capture.proofs.BytesLemmas.{takes_both}
use Rattle.run_store.specs.Records.{framed}
use Rattle.run_store.specs.Stores.{header}
use Rattle.run_store_io.specs.Taken.{TakesPart}
use Rattle.run_store_io.proofs.WriteLemmas.{on_err, on_err_then, on_ok_then, part_take, part_of_first, part_after}
use Rattle.run_store_io.proofs.WriteLemmas.{front_none}
use Rattle.run_store_io.proofs.written.write_front.Goals as goal

pub returns-in_err-write_all-clause-err : goal.returns-in_err-write_all-clause-err
returns-in_err-write_all-clause-err g c =
    let front = c.in_err-write_all.ensures.err in
    let plan : List ℕ = c.args.plan_line.now in
    on_err c.from_residual.result _
    (subst (TakesPart _ _) (front_none plan)
    (part_of_first _ _ header (framed 1 plan) (part_take _ _ front.0 header front.1 front.2)))

pub returns-clause-ok : goal.returns-clause-ok
returns-clause-ok g c =
    let plan : List ℕ = c.args.plan_line.now in
    on_ok_then c.write_record.result _ _
    (λ took. subst (Takes _ _) (front_none plan)
    (takes_both _ _ _ header (framed 1 plan) c.in_ok-write_all.ensures.ok took)) c.write_record.ensures.ok

pub returns-clause-err : goal.returns-clause-err
returns-clause-err g c =
    let plan : List ℕ = c.args.plan_line.now in
    on_err_then c.write_record.result _ _
    (λ part. subst (TakesPart _ _) (front_none plan)
    (part_after _ _ _ header (framed 1 plan) c.in_ok-write_all.ensures.ok part)) c.write_record.ensures.err
