use Rattle.std.proofs.Common.{inr, Err, subst}
use Rattle.run_capture.specs.Faults.{RoseExactlyIf}
use Rattle.run_store_io.specs.Reads.{ReadsStore, source_failed}
use Rattle.run_store_io.specs.declared.error.StoreError.{StoreError}
use Rattle.run_store_io.specs.declared.stored.Stored.{Stored}
use Rattle.run_cli.specs.Call.{reading_of, writing_of}
use Rattle.run_store_cli.proofs.PlayLemmas.{stored_few, gives_bad, gives_planless, bad_plays, planless_plays}
use Rattle.run_store_cli.proofs.PlayLemmas.{other_plays}
use Rattle.run_store_cli.proofs.played.play_source.Goals as goal

pub play_stored-requires-clause-plan : goal.play_stored-requires-clause-plan
play_stored-requires-clause-plan g c =
    (stored_few (reading_of g.S.Source c.args.source.now c.read_store.new.source) c.in-Ok.stored c.in-Ok.ensures.says).0

pub play_stored-requires-clause-turns : goal.play_stored-requires-clause-turns
play_stored-requires-clause-turns g c =
    (stored_few (reading_of g.S.Source c.args.source.now c.read_store.new.source) c.in-Ok.stored c.in-Ok.ensures.says).1

pub returns-in-Err-Bad : goal.returns-in-Err-Bad
returns-in-Err-Bad g c =
    let a = c.in-Err-Bad in
    let r = reading_of g.S.Source c.args.source.now c.read_store.new.source in
    let w = writing_of g.K.Sink c.args.sink c.end_at_store.result.sink in
    let says = subst (λ (e : StoreError). ReadsStore r.left r.left_after (Err e)) a.field-0-is a.ensures.says in
    let quiet = subst (λ (e : StoreError). RoseExactlyIf (source_failed {T = Stored} (Err e)) r.faults r.faults_after)
    a.field-0-is a.ensures.fault in
    inr (quiet, bad_plays r w c.end_at_store.result.status a.place (gives_bad r a.place says) c.end_at_store.ensures)

pub returns-in-Err-NoPlan : goal.returns-in-Err-NoPlan
returns-in-Err-NoPlan g c =
    let a = c.in-Err-NoPlan in
    let end = c.end_at_store-in-Err-NoPlan in
    let r = reading_of g.S.Source c.args.source.now c.read_store.new.source in
    let w = writing_of g.K.Sink c.args.sink end.result.sink in
    let says = subst (λ (e : StoreError). ReadsStore r.left r.left_after (Err e)) a.field-0-is a.ensures.says in
    let quiet = subst (λ (e : StoreError). RoseExactlyIf (source_failed {T = Stored} (Err e)) r.faults r.faults_after)
    a.field-0-is a.ensures.fault in
    inr (quiet, planless_plays r w end.result.status (gives_planless r says) end.ensures)

pub returns-in-Err : goal.returns-in-Err
returns-in-Err g c =
    let end = c.end_at-in-Err in
    let r = reading_of g.S.Source c.args.source.now c.read_store.new.source in
    other_plays r (writing_of g.K.Sink c.args.sink end.result.sink) end.result.status c.in-Err.field-0
    c.in-Err.ensures.fault end.ensures
