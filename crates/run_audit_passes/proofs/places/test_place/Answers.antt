use Rattle.std.proofs.lemmas.Result.{IfOk-weaker}
use Rattle.run_audit_model.specs.Kept.{KeepsLaw}
use Rattle.run_audit_machines.specs.Tests.{same_news, test_machine}
use Rattle.run_audit_machines.proofs.LawLemmas.{accounts_are_machine}
use Rattle.run_audit_machines.proofs.MachineLemmas.{place_of_stop}
use Rattle.run_audit_machines.proofs.TestLemmas.{news_same}
use Rattle.run_audit_passes.specs.Due.{due_test_news}
use Rattle.run_audit_passes.proofs.places.test_place.Goals as goal

pub returns : goal.returns
returns g c =
    let status = g.S.DueStatus.status in
    let same = g.S.DueStatus.same in
    let decides = news_same same g.met.S.DueStatus.decides in
    IfOk-weaker c.first_stop.result _ _ (λ o stop p past dues are_due is.
    place_of_stop (test_machine (due_test_news status) (same_news same)) c.args.law (KeepsLaw p past 2)
    (accounts_are_machine _ (due_test_news status) (same_news same) decides p past dues are_due c.args.law is).accepts
    c.args.events.now o stop) c.first_stop.ensures.ok
