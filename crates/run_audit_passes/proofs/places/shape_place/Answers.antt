use Rattle.std.proofs.Common.{◌∙◌, length, sym, ap₂, subst}
use Rattle.std.proofs.lemmas.Result.{IfOk-weaker}
use Rattle.run_model.specs.Words.{ended_runs}
use Rattle.run_audit_model.specs.Kept.{KeepsLaw}
use Rattle.run_audit_model.specs.Parts.{is_stress}
use Rattle.run_audit_model.specs.Places.{IsStopOf}
use Rattle.run_audit_machines.specs.Shape.{shape_machine, shape_start}
use Rattle.run_audit_machines.proofs.LawLemmas.{shape_is_machine}
use Rattle.run_audit_machines.proofs.MachineLemmas.{place_of_stop}
use Rattle.run_audit_passes.proofs.places.shape_place.Goals as goal

pub returns : goal.returns
returns c = IfOk-weaker c.first_stop.result _ _ (λ o stop p past stress runs.
    let start = ap₂ shape_start stress runs in
    place_of_stop shape_machine (shape_start (is_stress p) (length (ended_runs past))) (KeepsLaw p past 1)
    (shape_is_machine p past).accepts c.args.events.now o
    (subst (λ s. IsStopOf shape_machine s c.args.events.now o) (c.new-law.ensures
    ∙ sym start) stop)) c.first_stop.ensures.ok
