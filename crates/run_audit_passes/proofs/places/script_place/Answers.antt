use Rattle.std.proofs.lemmas.Result.{IfOk-weaker}
use Rattle.run_audit_model.specs.Kept.{KeepsLaw}
use Rattle.run_audit_machines.specs.Scripts.{same_script, script_machine}
use Rattle.run_audit_machines.proofs.LawLemmas.{scripts_are_machine}
use Rattle.run_audit_machines.proofs.MachineLemmas.{place_of_stop}
use Rattle.run_audit_machines.proofs.ScriptLemmas.{scripts_same}
use Rattle.run_audit_passes.specs.Due.{due_news}
use Rattle.run_audit_passes.proofs.places.script_place.Goals as goal

pub returns : goal.returns
returns g c =
    let status = g.S.DueStatus.status in
    let same = g.S.DueStatus.same in
    let decides = scripts_same same g.met.S.DueStatus.decides in
    IfOk-weaker c.first_stop.result _ _ (λ o stop p past dues are_due is.
    place_of_stop (script_machine (due_news status) (same_script same)) c.args.law (KeepsLaw p past 5)
    (scripts_are_machine _ (due_news status) (same_script same) decides p past dues are_due c.args.law is).accepts
    c.args.events.now o stop) c.first_stop.ensures.ok
