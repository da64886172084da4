use Rattle.std.proofs.Common.{◌≡◌, Some, None, sym, subst, true≢false}
use Rattle.std.proofs.lemmas.Result.{IfOk-weaker}
use Rattle.run_audit_model.specs.declared.audit_event.AuditEvent.TheVariants as seen
use Rattle.run_audit_machines.specs.Limits.{limit_part}
use Rattle.run_audit_machines.proofs.SeatStepLemmas.{finish_only, start_only}
use Rattle.run_audit_passes.proofs.LimitPartLemmas.{finish_comes, only_there, other_none, other_taken, place_within}
use Rattle.run_audit_passes.proofs.LimitPartLemmas.{start_comes, unknown_taken}
use Rattle.run_audit_passes.proofs.limit.LimitPartPartLaw.take.Goals as goal

pub start-requires : goal.start-requires
start-requires c =
    let now = c.args.self.now in
    let inside = c.self.inside in
    place_within now.seats c.in-TestStarted.test c.in-Some.place
    (only_there inside.settings.now inside.table.told inside.places c.in-TestStarted.test c.in-Some.place now
    c.self.view_is c.self.invariant.placed c.in-Some.ensures)

pub finish-requires : goal.finish-requires
finish-requires c =
    let now = c.args.self.now in
    let inside = c.self.inside in
    place_within now.seats c.in-Finished.test c.in-Some-place.place
    (only_there inside.settings.now inside.table.told inside.places c.in-Finished.test c.in-Some-place.place now
    c.self.view_is c.self.invariant.placed c.in-Some-place.ensures)

pub returns-in-Some-clause-taken : goal.returns-in-Some-clause-taken
returns-in-Some-clause-taken c =
    let now = c.args.self.now in
    let after = c.start.new.self in
    let inside = c.self.inside in
    let own = c.in-TestStarted.test in
    let place = c.in-Some.place in
    let only = only_there inside.settings.now inside.table.told inside.places own place now c.self.view_is
    c.self.invariant.placed c.in-Some.ensures in
    IfOk-weaker c.start.result _ _ (λ kept changes so.
    subst (λ e. limit_part.takes now e ≡ Some after) (sym c.in-TestStarted.is)
    ((start_comes now after own c.in-TestStarted.slot place kept only changes).0 so)) c.start.ensures

pub returns-in-Some-clause-stopped : goal.returns-in-Some-clause-stopped
returns-in-Some-clause-stopped c =
    let now = c.args.self.now in
    let after = c.start.new.self in
    let inside = c.self.inside in
    let own = c.in-TestStarted.test in
    let place = c.in-Some.place in
    let only = only_there inside.settings.now inside.table.told inside.places own place now c.self.view_is
    c.self.invariant.placed c.in-Some.ensures in
    IfOk-weaker c.start.result _ _ (λ kept changes so.
    subst (λ e. limit_part.takes now e ≡ None) (sym c.in-TestStarted.is)
    ((start_comes now after own c.in-TestStarted.slot place kept only changes).1 so)) c.start.ensures

pub returns-in-None-clause-taken : goal.returns-in-None-clause-taken
returns-in-None-clause-taken c = λ so.
    let inside = c.self.inside in
    let own = c.in-TestStarted.test in
    let slot = c.in-TestStarted.slot in
    subst (λ e. limit_part.takes c.args.self.now e ≡ Some c.args.self.now) (sym c.in-TestStarted.is)
    (subst (λ now. limit_part.takes now (seen.TestStarted own slot) ≡ Some now) c.self.view_is
    (unknown_taken inside.settings.now inside.table inside.places own (seen.TestStarted own slot)
    (c.self.invariant.whole c.if-broken.false) c.self.invariant.placed c.in-None.ensures (start_only own slot)))

pub returns-in-Some-place-clause-taken : goal.returns-in-Some-place-clause-taken
returns-in-Some-place-clause-taken c =
    let now = c.args.self.now in
    let after = c.finish.new.self in
    let inside = c.self.inside in
    let own = c.in-Finished.test in
    let place = c.in-Some-place.place in
    let only = only_there inside.settings.now inside.table.told inside.places own place now c.self.view_is
    c.self.invariant.placed c.in-Some-place.ensures in
    IfOk-weaker c.finish.result _ _ (λ kept changes so.
    subst (λ e. limit_part.takes now e ≡ Some after) (sym c.in-Finished.is)
    ((finish_comes now after own c.in-Finished.statuses place kept only changes).0 so)) c.finish.ensures

pub returns-in-Some-place-clause-stopped : goal.returns-in-Some-place-clause-stopped
returns-in-Some-place-clause-stopped c =
    let now = c.args.self.now in
    let after = c.finish.new.self in
    let inside = c.self.inside in
    let own = c.in-Finished.test in
    let place = c.in-Some-place.place in
    let only = only_there inside.settings.now inside.table.told inside.places own place now c.self.view_is
    c.self.invariant.placed c.in-Some-place.ensures in
    IfOk-weaker c.finish.result _ _ (λ kept changes so.
    subst (λ e. limit_part.takes now e ≡ None) (sym c.in-Finished.is)
    ((finish_comes now after own c.in-Finished.statuses place kept only changes).1 so)) c.finish.ensures

pub returns-in-None-place-clause-taken : goal.returns-in-None-place-clause-taken
returns-in-None-place-clause-taken c = λ so.
    let inside = c.self.inside in
    let own = c.in-Finished.test in
    let statuses = c.in-Finished.statuses in
    subst (λ e. limit_part.takes c.args.self.now e ≡ Some c.args.self.now) (sym c.in-Finished.is)
    (subst (λ now. limit_part.takes now (seen.Finished own statuses) ≡ Some now) c.self.view_is
    (unknown_taken inside.settings.now inside.table inside.places own (seen.Finished own statuses)
    (c.self.invariant.whole c.if-broken.false) c.self.invariant.placed c.in-None-place.ensures
    (finish_only own statuses)))

pub returns-in_default : goal.returns-in_default
returns-in_default c =
    let inside = c.self.inside in
    let e = c.args.event.now in
    record {
      taken = λ so. subst (λ now. limit_part.takes now e ≡ Some now) c.self.view_is
          (other_taken inside.settings.now inside.table e (c.self.invariant.whole c.if-broken.false)
          (other_none e c.in_default.not-TestStarted c.in_default.not-Finished));
      stopped = λ so. absurd (true≢false so);
    }
