use Rattle.std.proofs.Common.{[], ◌∷◌, ◌++◌, Option, Ok, subst, sym}
use Rattle.run_record.specs.Kept.{IsUnderway}
use Rattle.run_record.specs.declared.outcome.RecordOutcome.{RecordOutcome}
use Rattle.run_record.proofs.KeptLemmas.{given_up_later}
use Rattle.run_record.proofs.filling.add_to.Goals as goal

pub returns-in-Some : goal.returns-in-Some
returns-in-Some g c = λ taken faults line turns kept.
    subst (λ (o : Option RecordOutcome).
    IsUnderway g.F.Sink taken faults line c.args.begun.now (turns ++ c.args.turn.now ∷ []) o) (sym c.in-Some.is)
    (given_up_later g.F.Sink taken faults line c.args.begun.now turns c.args.turn.now c.in-Some.field-0
    (subst (λ (o : Option RecordOutcome). IsUnderway g.F.Sink taken faults line c.args.begun.now turns o) c.in-Some.is
    kept))

pub returns-in-Ok : goal.returns-in-Ok
returns-in-Ok g c = λ taken faults line turns kept.
    c.add_turn.ensures taken faults line turns
    (subst (λ (o : Option RecordOutcome). IsUnderway g.F.Sink taken faults line (Ok c.in-Ok.writer) turns o)
    c.in-None.is (subst (λ begun. IsUnderway g.F.Sink taken faults line begun turns c.args.given_up)
    c.in-Ok.is kept))
