use Rattle.std.proofs.Common.{◌≡◌, ◌∙◌, ◌<◌, false, Some, None, sym, ap, subst}
use Rattle.std.proofs.Common.{arith}
use Rattle.std.specs.List.{list_any}
use Rattle.std.proofs.lemmas.Result.{IfOk-weaker}
use Rattle.run_model.specs.Reruns.{is_one_test}
use Rattle.run_audit_model.specs.SeenTests.{seen_test}
use Rattle.run_audit_machines.specs.Accounts.{IsOnlyAt, PopsAt, accounts_by}
use Rattle.run_audit_machines.specs.Tests.{same_news}
use Rattle.run_audit_machines.proofs.AccountPlaceLemmas.{Made, empty_stopped, no_place, none_popped, one_popped}
use Rattle.run_audit_machines.proofs.AccountPlaceLemmas.{only_within, told_stopped, told_taken, untold}
use Rattle.run_audit_passes.specs.Due.{due_test_news, is_due_told}
use Rattle.run_audit_passes.proofs.TestPartLemmas.{none_told, one_told}
use Rattle.run_audit_passes.proofs.test_part.TestPartPartLaw.take.Goals as goal

pub returns-in_default-clause-taken : goal.returns-in_default-clause-taken
returns-in_default-clause-taken g c = λ yes.
    untold is_one_test (λ due told. same_news g.S.DueStatus.same (due_test_news g.S.DueStatus.status due) told)
    c.args.self.now (seen_test c.args.event.now)
    (none_told c.id_in.result (seen_test c.args.event.now) c.id_in.ensures c.in_default.is)

pub returns-in_default-place-clause-stopped : goal.returns-in_default-place-clause-stopped
returns-in_default-place-clause-stopped g c = λ no.
    let same = λ (due : _) (told : _). same_news g.S.DueStatus.same (due_test_news g.S.DueStatus.status due) told in
    let o = seen_test c.args.event.now in
    let t = one_told c.id_in.result o c.in-Some.id c.id_in.ensures c.in-Some.is in
    let names = g.N.TestPlaces.names c.self.inside.places in
    let none = subst (λ id. list_any (is_one_test id) names ≡ false) (sym t.2) c.in_default-place.ensures in
    subst (λ accounts. Made is_one_test (λ due told. same_news g.S.DueStatus.same
    (due_test_news g.S.DueStatus.status due) told) accounts o ≡ None)
    c.self.view_is
    (no_place is_one_test (λ due told. same_news g.S.DueStatus.same (due_test_news g.S.DueStatus.status due) told)
    (λ q. q.items) names c.self.inside.due.items o t.0 c.self.invariant.0 t.1 none)

pub next_at-requires : goal.next_at-requires
next_at-requires g c =
    let names = g.N.TestPlaces.names c.self.inside.places in
    let within = only_within (is_one_test c.in-Some.id.now) names c.in-Some-place.place c.in-Some-place.ensures in
    let long = c.self.invariant.0 in
    subst (λ n. c.in-Some-place.place < n) long within

pub invariant_of-self : goal.invariant_of-self
invariant_of-self g c =
    let popped = none_popped (λ q. q.items) c.self.inside.due.items c.next_at.new.due.items c.in-Some-place.place
    c.in_default-next_at.ensures in
    (c.self.invariant.0 ∙ sym popped.0, c.self.invariant.1 ∙ sym popped.1)

pub returns-in_default-next_at-clause-stopped : goal.returns-in_default-next_at-clause-stopped
returns-in_default-next_at-clause-stopped g c = λ no.
    let o = seen_test c.args.event.now in
    let t = one_told c.id_in.result o c.in-Some.id c.id_in.ensures c.in-Some.is in
    let names = g.N.TestPlaces.names c.self.inside.places in
    let only = subst (λ id. IsOnlyAt (is_one_test id) names c.in-Some-place.place) (sym t.2) c.in-Some-place.ensures in
    let pops : PopsAt (λ q. q.items) c.self.inside.due.items c.in-Some-place.place None c.next_at.new.due.items =
    c.in_default-next_at.ensures in
    subst (λ accounts. Made is_one_test (λ due told. same_news g.S.DueStatus.same
    (due_test_news g.S.DueStatus.status due) told) accounts o ≡ None)
    c.self.view_is
    (empty_stopped is_one_test (λ due told. same_news g.S.DueStatus.same (due_test_news g.S.DueStatus.status due) told)
    (λ q. q.items) names c.self.inside.due.items o t.0 c.in-Some-place.place pops.0 c.self.invariant.0 t.1 only
    pops.2 pops.3.0)

pub overflow_sub-self : goal.overflow_sub-self
overflow_sub-self g c =
    let popped = one_popped (λ q. q.items) c.self.inside.due.items c.next_at.new.due.items c.in-Some-place.place
    c.in-Some-next_at.next c.in-Some-next_at.ensures in
    let left = c.self.invariant.1 in
    let fewer = popped.1 in
    omega (arith, left, fewer)

pub invariant_of-self-2 : goal.invariant_of-self-2
invariant_of-self-2 g c =
    let popped = one_popped (λ q. q.items) c.self.inside.due.items c.next_at.new.due.items c.in-Some-place.place
    c.in-Some-next_at.next c.in-Some-next_at.ensures in
    let left = c.self.invariant.1 in
    let fewer = popped.1 in
    (c.self.invariant.0 ∙ sym popped.0, omega (arith, left, fewer))

pub returns-clause-taken : goal.returns-clause-taken
returns-clause-taken g c =
    let o = seen_test c.args.event.now in
    let t = one_told c.id_in.result o c.in-Some.id c.id_in.ensures c.in-Some.is in
    let names = g.N.TestPlaces.names c.self.inside.places in
    let only = subst (λ id. IsOnlyAt (is_one_test id) names c.in-Some-place.place) (sym t.2) c.in-Some-place.ensures in
    let next = c.in-Some-next_at.next in
    let pops : PopsAt (λ q. q.items) c.self.inside.due.items c.in-Some-place.place (Some next) c.next_at.new.due.items =
    c.in-Some-next_at.ensures in
    IfOk-weaker c.judge.result _ _ (λ told is yes.
    subst (λ accounts. Made is_one_test (λ due told. same_news g.S.DueStatus.same
    (due_test_news g.S.DueStatus.status due) told) accounts o
    ≡ Some (accounts_by (λ q. q.items) names c.next_at.new.due.items))
    c.self.view_is
    (told_taken is_one_test (λ due told. same_news g.S.DueStatus.same (due_test_news g.S.DueStatus.status due) told)
    (λ q. q.items) names c.self.inside.due.items c.next_at.new.due.items o t.0 c.in-Some-place.place next
    c.self.invariant.0 t.1 only pops
    (sym (ap (is_due_told g.S.DueStatus.status g.S.DueStatus.same next) t.1) ∙ sym is ∙ yes))) c.judge.ensures

pub returns-clause-stopped : goal.returns-clause-stopped
returns-clause-stopped g c =
    let o = seen_test c.args.event.now in
    let t = one_told c.id_in.result o c.in-Some.id c.id_in.ensures c.in-Some.is in
    let names = g.N.TestPlaces.names c.self.inside.places in
    let only = subst (λ id. IsOnlyAt (is_one_test id) names c.in-Some-place.place) (sym t.2) c.in-Some-place.ensures in
    let next = c.in-Some-next_at.next in
    let pops : PopsAt (λ q. q.items) c.self.inside.due.items c.in-Some-place.place (Some next) c.next_at.new.due.items =
    c.in-Some-next_at.ensures in
    IfOk-weaker c.judge.result _ _ (λ told is no.
    subst (λ accounts. Made is_one_test (λ due told. same_news g.S.DueStatus.same
    (due_test_news g.S.DueStatus.status due) told) accounts o ≡ None)
    c.self.view_is
    (told_stopped is_one_test (λ due told. same_news g.S.DueStatus.same (due_test_news g.S.DueStatus.status due) told)
    (λ q. q.items) names c.self.inside.due.items c.next_at.new.due.items o t.0 c.in-Some-place.place next
    c.self.invariant.0 t.1 only pops
    (sym (ap (is_due_told g.S.DueStatus.status g.S.DueStatus.same next) t.1) ∙ sym is ∙ no))) c.judge.ensures
