use Rattle.std.proofs.lemmas.Result.{IfOk-weaker}
use Rattle.run_audit_model.specs.Kept.{KeepsLaw}
use Rattle.run_audit_machines.specs.Cancels.{cancel_machine}
use Rattle.run_audit_machines.proofs.LawLemmas.{cancels_are_machine}
use Rattle.run_audit_machines.proofs.MachineLemmas.{place_of_stop}
use Rattle.run_audit_passes.proofs.AlwaysLemmas.{always_held}
use Rattle.run_audit_passes.proofs.places.cancel_place.Goals as goal

pub returns : goal.returns
returns c = IfOk-weaker c.first_stop.result _ _ (λ o stop p past is.
    place_of_stop cancel_machine c.args.law (KeepsLaw p past 4) (cancels_are_machine p past c.args.law is).accepts
    c.args.events.now o stop) c.first_stop.ensures.ok

pub first_stop-requires : goal.first_stop-requires
first_stop-requires c = always_held c.args.law
