use Rattle.std.proofs.Common.{◌≡◌, ◌∙◌, ℕ, List, Bool, true, subst, ap}
use Rattle.run_capture.specs.Faults.{Rose, RoseExactlyIf}
use Rattle.run_store_io.specs.Taken.{is_write_error}
use Rattle.run_store_io.specs.declared.error.StoreError.{StoreError}
use Rattle.run_cli.specs.Call.{HasTaken}
use Rattle.run_record.specs.Kept.{writing_since}
use Rattle.run_record.proofs.RecordLemmas.{end_is_write, whole_text}
use Rattle.run_record.proofs.filling.end.Goals as goal

pub returns-in-Ok : goal.returns-in-Ok
returns-in-Ok g c = λ taken faults line turns stands same. (
  stands.storable,
  subst (λ (text : List ℕ). HasTaken (writing_since g.F.Sink taken faults c.in-Ok.sink) text)
      (whole_text c.args.over line turns c.if-not-over.false)
      (c.in-Ok.ensures.ok taken line turns stands),
  c.in-Ok.ensures.fault ∙ same,
)

pub returns-in-Err : goal.returns-in-Err
returns-in-Err g c = λ taken faults line turns stands same.
    let write : is_write_error c.in-Err.field-0-0 ≡ true =
    ap (λ (e : StoreError). is_write_error e)
    (end_is_write c.args.writer.closed c.in-Err.field-0-0 c.requires c.in-Err.ensures.err.0) in
    let rose = subst (λ (b : Bool). RoseExactlyIf b (g.F.Sink.faults c.args.writer.sink)
    (g.F.Sink.faults c.in-Err.sink)) write c.in-Err.ensures.fault in (
      c.in-Err.ensures.err.1 taken line turns stands,
      subst (λ (n : ℕ). Rose n (g.F.Sink.faults c.in-Err.sink)) same rose.1,
    )
