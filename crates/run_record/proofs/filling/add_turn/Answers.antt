use Rattle.std.proofs.Common.{◌∙◌, [], ◌∷◌, ◌++◌, Some, Ok, Err, ap, sym, subst, true≢false}
use Rattle.run_store_io.specs.declared.error.StoreError.{StoreError}
use Rattle.run_record.specs.Kept.{IsUnderway}
use Rattle.run_record.specs.declared.outcome.RecordOutcome.{RecordOutcome}
use Rattle.run_record.proofs.KeptLemmas.{refused}
use Rattle.run_record.proofs.filling.add_turn.Goals as goal

pub returns-in-Ok : goal.returns-in-Ok
returns-in-Ok g c = λ taken faults line turns kept. (
  c.in-Ok.ensures.ok taken line turns kept.0,
  c.in-Ok.ensures.fault ∙ kept.1,
)

pub returns-in-Err : goal.returns-in-Err
returns-in-Err g c = λ taken faults line turns kept.
    let e = c.in-Err.error in
    let given_up = refused g.F.Sink taken faults line turns c.args.turn.now e c.args.writer.now c.turn.new.self kept
    c.in-Err.ensures.known
    (λ is. true≢false (sym (c.in-Err.ensures.closed.0 (ap (λ (x : StoreError). Err x) is)) ∙ kept.0.unclosed))
    (λ is. c.in-Err.ensures.too_long taken line turns kept.0 (ap (λ (x : StoreError). Err x) is))
    (c.in-Err.ensures.err taken line turns kept.0) c.in-Err.ensures.fault in
    subst (λ (end : RecordOutcome).
    IsUnderway g.F.Sink taken faults line (Ok c.turn.new.self) (turns ++ c.args.turn.now ∷ []) (Some end))
    (sym c.outcome_for.ensures) given_up
