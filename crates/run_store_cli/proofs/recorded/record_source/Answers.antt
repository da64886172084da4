use Rattle.std.proofs.Common.{ℕ, List, length, subst}
use Rattle.run_capture.specs.Bytes.{Gives}
use Rattle.run_capture.specs.Faults.{RoseExactlyIf}
use Rattle.run_capture.specs.Reading.{IsUnreadAfter, has_failed}
use Rattle.run_capture.specs.declared.reading.ReadError.{ReadError}
use Rattle.std.specs.Prelude.{Err}
use Rattle.run_cli.specs.Call.{reading_of, writing_of}
use Rattle.run_store_cli.proofs.RecordLemmas.{memory_end, too_much_end, unread_end}
use Rattle.run_store_cli.proofs.recorded.record_source.Goals as goal

pub returns-in-Err-Failed : goal.returns-in-Err-Failed
returns-in-Err-Failed g c =
    let a = c.in-Err-Failed in
    let r = reading_of g.S.Source c.args.source.now c.read_all.new.source in
    let lost = subst (λ (e : ReadError). (lost : List ℕ) × Gives r.left r.left_after lost
    × IsUnreadAfter 16777216 e (length lost)) a.field-0-is a.ensures.refused in
    let rose = subst (λ (e : ReadError). RoseExactlyIf (has_failed {T = List ℕ} (Err e)) r.faults r.faults_after)
    a.field-0-is a.ensures.fault in
    unread_end r (writing_of g.K.Sink c.args.sink c.end_at.result.sink) c.end_at.result.status
    (lost.0, lost.1, lost.2) rose.1 c.end_at.ensures

pub returns-in-Err-TooLong : goal.returns-in-Err-TooLong
returns-in-Err-TooLong g c =
    let a = c.in-Err-TooLong in
    let end = c.end_at-in-Err-TooLong in
    let r = reading_of g.S.Source c.args.source.now c.read_all.new.source in
    let lost = subst (λ (e : ReadError). (lost : List ℕ) × Gives r.left r.left_after lost
    × IsUnreadAfter 16777216 e (length lost)) a.field-0-is a.ensures.refused in
    let still = subst (λ (e : ReadError). RoseExactlyIf (has_failed {T = List ℕ} (Err e)) r.faults r.faults_after)
    a.field-0-is a.ensures.fault in
    too_much_end r (writing_of g.K.Sink c.args.sink end.result.sink) end.result.status (lost.0, lost.1, lost.2.0) still
    end.ensures

pub returns-in-Err-OutOfMemory : goal.returns-in-Err-OutOfMemory
returns-in-Err-OutOfMemory g c =
    let end = c.end_at-in-Err-OutOfMemory in
    let r = reading_of g.S.Source c.args.source.now c.read_all.new.source in
    memory_end r (writing_of g.K.Sink c.args.sink end.result.sink) end.result.status end.ensures
