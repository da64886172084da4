use Rattle.std.proofs.Common.{◌≡◌, ℕ, List, Option, subst}
use Rattle.run_capture.specs.Faults.{RoseExactlyIf}
use Rattle.run_store_io.specs.Recorded.{IsRecordError, is_record_write_error}
use Rattle.run_store_io.specs.declared.recording.RecordError.{RecordError}
use Rattle.run_store_io.specs.declared.recording.RecordError.TheVariants.{Line}
use Rattle.run_cli.specs.Call.{writing_of}
use Rattle.run_store_cli.proofs.RecordLemmas.{line_end, store_end, stored_end}
use Rattle.run_store_cli.proofs.recorded.record_bytes.Goals as goal

pub returns-in-Err-Line-default : goal.returns-in-Err-Line-default
returns-in-Err-Line-default g c = λ r all quiet.
    let a = c.in-Err-Line-default in
    let before : Option (List ℕ) = g.K.Sink.taken c.args.sink in
    let between : Option (List ℕ) = g.K.Sink.taken a.sink in
    let said : IsRecordError c.args.bytes.now before between (Line a.line) =
    subst (λ (e : RecordError). IsRecordError c.args.bytes.now before between e) a.field-0-0-is a.ensures.err in
    let still : g.K.Sink.faults a.sink ≡ g.K.Sink.faults c.args.sink =
    subst (λ (e : RecordError). RoseExactlyIf (is_record_write_error e) (g.K.Sink.faults c.args.sink)
    (g.K.Sink.faults a.sink)) a.field-0-0-is a.ensures.fault in
    line_end r c.args.bytes.now a.line before between (g.K.Sink.taken c.end_at.result.sink)
    (g.K.Sink.faults c.args.sink) (g.K.Sink.faults a.sink) (g.K.Sink.faults c.end_at.result.sink)
    c.end_at.result.status all quiet said.0 said.1 still c.end_at.ensures

pub returns-in-Ok : goal.returns-in-Ok
returns-in-Ok g c = λ r all quiet.
    stored_end r (writing_of g.K.Sink c.args.sink c.in-Ok.sink) c.args.bytes.now all quiet c.in-Ok.ensures.ok
    c.in-Ok.ensures.fault

pub returns-in-Err-Store-default : goal.returns-in-Err-Store-default
returns-in-Err-Store-default g c = λ r all quiet.
    let a = c.in-Err-Store-default in
    let w = writing_of g.K.Sink c.args.sink a.sink in
    let said = subst (λ (e : RecordError). IsRecordError c.args.bytes.now w.taken w.taken_after e) a.field-0-0-is
    a.ensures.err in
    let rose = subst (λ (e : RecordError). RoseExactlyIf (is_record_write_error e) w.faults w.faults_after)
    a.field-0-0-is a.ensures.fault in
    rw c.status_of_error.ensures (store_end r w c.args.bytes.now a.error all quiet said rose)
