use Rattle.std.proofs.Common.{◌≡◌, ◌<◌, false, option_map, sym, subst}
use Rattle.std.specs.List.{list_any}
use Rattle.std.proofs.lemmas.Result.{on_ok_weaker}
use Rattle.run_model.specs.Reruns.{is_one_test}
use Rattle.run_audit_machines.specs.Accounts.{IsOnlyAt}
use Rattle.run_audit_machines.proofs.AccountPlaceLemmas.{only_within}
use Rattle.run_laws_audit.specs.Due.{test_news}
use Rattle.run_audit.specs.Told.{accounts_known, test_known}
use Rattle.run_audit.proofs.AccountLemmas.{added_with, news_known, nothing_told, others_with}
use Rattle.run_audit.proofs.AccountLemmas.{silent, something_told}
use Rattle.run_audit.proofs.tests.tell.Goals as goal

pub returns-in_default-clause-told : goal.returns-in_default-clause-told
returns-in_default-clause-told c =
    let e = c.args.event.now in
    sym (silent e (accounts_known (λ queue. queue.items) c.args.places.now c.args.due.now.items)
    (nothing_told c.id_in.result (test_news e) c.id_in.ensures c.in_default.is))

pub returns-in_default-place-clause-told : goal.returns-in_default-place-clause-told
returns-in_default-place-clause-told c =
    let e = c.args.event.now in
    let t = something_told c.id_in.result (test_news e) c.in-Some.id c.id_in.ensures c.in-Some.is in
    others_with (λ queue. queue.items) e t.0 c.args.places.now c.args.due.now.items t.1
    (subst (λ id. list_any (is_one_test id) c.args.places.now ≡ false) (sym t.2) c.in_default-place.ensures)

pub add_at-requires : goal.add_at-requires
add_at-requires c =
    let place = c.in-Some-place.place in
    subst (λ n. place < n) c.requires
    (only_within (is_one_test c.in-Some.id.now) c.args.places.now place c.in-Some-place.ensures)

pub returns-in-Some-2-clause-told : goal.returns-in-Some-2-clause-told
returns-in-Some-2-clause-told c =
    let e = c.args.event.now in
    let place = c.in-Some-place.place in
    let t = something_told c.id_in.result (test_news e) c.in-Some.id c.id_in.ensures c.in-Some.is in
    let only = subst (λ id. IsOnlyAt (is_one_test id) c.args.places.now place) (sym t.2) c.in-Some-place.ensures in
    let known = subst (λ o. option_map test_known o ≡ option_map (λ told. told.1) (test_news e)) c.in-Some-2.is
    c.in_ok-next.ensures in
    on_ok_weaker c.add_at.result (λ adds. added_with (λ queue. queue.items) e t.0 c.in-Some-2.next c.args.places.now
    c.args.due.now.items c.add_at.new.due.items place t.1 (news_known (test_news e) t.0 c.in-Some-2.next t.1 known)
    only adds) c.add_at.ensures
