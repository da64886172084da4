use Rattle.std.proofs.Common.{◌≡◌, length, ap, sym, subst, ◌∙◌, arith, slice_get}
use Rattle.std.proofs.Common.{set}
use Rattle.std.proofs.lemmas.Option.{same_Some}
use Rattle.std.specs.Vec.{with_items}
use Rattle.run_admission.specs.Lined.{room_of}
use Rattle.run_admission.specs.declared.seat.Seat.TheVariants.{Gone}
use Rattle.run_admission.proofs.ReadyLemmas.{within_of}
use Rattle.run_admission.proofs.ReleaseLemmas.{line_low, release_idle, release_ready}
use Rattle.std.proofs.lemmas.List.{get_or_read, with_items_is}
use Rattle.run_admission.specs.declared.seat.Claim.{Claim}
use Rattle.run_admission.specs.InUse.{is_test_in_use, released}
use Rattle.run_admission.specs.Kept.{CanGive, nobody, give_in}
use Rattle.run_admission.proofs.RuleLemmas.{may_leave, release_kept, release_seen}
use Rattle.run_admission.proofs.WholeLemmas.{length_give_in}
use Rattle.run_admission.proofs.admission.Admission.release.Goals as goal

pub give_back-requires : goal.give_back-requires
give_back-requires c =
    let v = c.self.inside in
    let can = may_leave v.waiting v.whole v.groups.items v.claims.items v.seats.items c.args.test _ _ c.index.result.now
    c.self.invariant.kept (ap (λ a. is_test_in_use a c.args.test) c.self.view_is
    ∙ c.requires) c.index.ensures c.in-InUse.is in
    let of = get_or_read v.claims.items c.args.test c.index-claim.result.now
    (omega (arith, can.inside, c.self.invariant.kept.paired))
    c.index-claim.ensures nobody.0 in
    subst (λ (d : Claim). CanGive v.whole c.in-InUse.global d.weight) (sym of) can.can

pub give_in_group-requires-clause-there : goal.give_in_group-requires-clause-there
give_in_group-requires-clause-there c =
    let v = c.self.inside in
    let can = may_leave v.waiting v.whole v.groups.items v.claims.items v.seats.items c.args.test _ _ c.index.result.now
    c.self.invariant.kept (ap (λ a. is_test_in_use a c.args.test) c.self.view_is
    ∙ c.requires) c.index.ensures c.in-InUse.is in
    let of = get_or_read v.claims.items c.args.test c.index-claim.result.now
    (omega (arith, can.inside, c.self.invariant.kept.paired))
    c.index-claim.ensures nobody.0 in
    λ g e. omega (
      arith,
      c.self.invariant.kept.members c.args.test g (ap (λ (d : Claim). d.group) (sym of) ∙ e),
      ap length c.deref_mut.ensures.value,
    )

pub give_in_group-requires-clause-held : goal.give_in_group-requires-clause-held
give_in_group-requires-clause-held c =
    let v = c.self.inside in
    let can = may_leave v.waiting v.whole v.groups.items v.claims.items v.seats.items c.args.test _ _ c.index.result.now
    c.self.invariant.kept (ap (λ a. is_test_in_use a c.args.test) c.self.view_is
    ∙ c.requires) c.index.ensures c.in-InUse.is in
    let of = get_or_read v.claims.items c.args.test c.index-claim.result.now
    (omega (arith, can.inside, c.self.invariant.kept.paired))
    c.index-claim.ensures nobody.0 in
    λ g n u e slot at. subst (λ (d : Claim). CanGive u n d.weight) (sym of)
    (can.cans g n u (ap (λ (d : Claim). d.group) (sym of) ∙ e) slot
    (ap (λ l. slice_get l g) (sym c.deref_mut.ensures.value) ∙ at))

pub room_of-room-requires : goal.room_of-room-requires
room_of-room-requires c =
    let v = c.self.inside in
    let w = c.self.invariant in
    let can = may_leave v.waiting v.whole v.groups.items v.claims.items v.seats.items c.args.test _ _ c.index.result.now
    w.kept (ap (λ a. is_test_in_use a c.args.test) c.self.view_is ∙ c.requires) c.index.ensures c.in-InUse.is in
    let claim = c.index-claim.result.now in
    let of = get_or_read v.claims.items c.args.test claim (omega (arith, can.inside, w.kept.paired))
    c.index-claim.ensures nobody.0 in
    let after : c.give_in_group.new.groups ≡ give_in v.groups.items claim.group c.in-InUse.group claim.weight =
    c.give_in_group.ensures ∙ ap (λ l. give_in l claim.group c.in-InUse.group claim.weight) c.deref_mut.ensures.value in
    let many : length c.give_in_group.new.groups ≡ v.groups.len =
    omega (arith, ap length after, length_give_in v.groups.items claim.group c.in-InUse.group claim.weight) in
    λ g u e. within_of v.waiting c.give_back.new.self (with_items v.groups c.give_in_group.new.groups).items
    v.claims.items (set v.seats.items c.args.test Gone)
    (release_kept v.waiting v.whole c.give_back.new.self v.groups.items
    (with_items v.groups c.give_in_group.new.groups).items v.claims.items v.seats.items c.args.test _ _
    claim w.kept can of c.give_back.ensures (with_items_is v.groups c.give_in_group.new.groups many ∙ after)) g u
    (ap (λ l. slice_get l g) (sym c.deref.ensures.value) ∙ e)

pub refresh-requires : goal.refresh-requires
refresh-requires c =
    let v = c.self.inside in
    let w = c.self.invariant in
    let can = may_leave v.waiting v.whole v.groups.items v.claims.items v.seats.items c.args.test _ _ c.index.result.now
    w.kept (ap (λ a. is_test_in_use a c.args.test) c.self.view_is ∙ c.requires) c.index.ensures c.in-InUse.is in
    let claim = c.index-claim.result.now in
    let of = get_or_read v.claims.items c.args.test claim (omega (arith, can.inside, w.kept.paired))
    c.index-claim.ensures nobody.0 in
    line_low v.waiting v.whole v.groups.items v.lines v.order.items v.claims.items v.seats.items c.args.test
    c.in-Some.line claim w of c.in-Some.is

pub invariant_of-self : goal.invariant_of-self
invariant_of-self c =
    let v = c.self.inside in
    let w = c.self.invariant in
    let can = may_leave v.waiting v.whole v.groups.items v.claims.items v.seats.items c.args.test _ _ c.index.result.now
    w.kept (ap (λ a. is_test_in_use a c.args.test) c.self.view_is ∙ c.requires) c.index.ensures c.in-InUse.is in
    let claim = c.index-claim.result.now in
    let of = get_or_read v.claims.items c.args.test claim (omega (arith, can.inside, w.kept.paired))
    c.index-claim.ensures nobody.0 in
    let after : c.give_in_group.new.groups ≡ give_in v.groups.items claim.group c.in-InUse.group claim.weight =
    c.give_in_group.ensures ∙ ap (λ l. give_in l claim.group c.in-InUse.group claim.weight) c.deref_mut.ensures.value in
    let many : length c.give_in_group.new.groups ≡ v.groups.len =
    omega (arith, ap length after, length_give_in v.groups.items claim.group c.in-InUse.group claim.weight) in
    release_ready v.waiting v.whole _ v.groups.items (with_items v.groups c.give_in_group.new.groups).items v.lines
    c.refresh.new.self v.order.items v.claims.items v.seats.items c.args.test _ c.in-Some.line
    c.room_of-room.result _ claim w can of c.give_back.ensures
    (with_items_is v.groups c.give_in_group.new.groups many ∙ after)
    (line_low v.waiting v.whole v.groups.items v.lines v.order.items v.claims.items v.seats.items c.args.test
    c.in-Some.line claim w of c.in-Some.is)
    (λ h e. same_Some c.in-Some.line h (sym c.in-Some.is ∙ e))
    (c.room_of-room.ensures ∙ ap (λ l. room_of l c.in-Some.line) c.deref.ensures.value) c.refresh.ensures

pub invariant_of-self-in_default-group : goal.invariant_of-self-in_default-group
invariant_of-self-in_default-group c =
    let v = c.self.inside in
    let w = c.self.invariant in
    let can = may_leave v.waiting v.whole v.groups.items v.claims.items v.seats.items c.args.test _ _ c.index.result.now
    w.kept (ap (λ a. is_test_in_use a c.args.test) c.self.view_is ∙ c.requires) c.index.ensures c.in-InUse.is in
    let claim = c.index-claim.result.now in
    let of = get_or_read v.claims.items c.args.test claim (omega (arith, can.inside, w.kept.paired))
    c.index-claim.ensures nobody.0 in
    let after : c.give_in_group.new.groups ≡ give_in v.groups.items claim.group c.in-InUse.group claim.weight =
    c.give_in_group.ensures ∙ ap (λ l. give_in l claim.group c.in-InUse.group claim.weight) c.deref_mut.ensures.value in
    let many : length c.give_in_group.new.groups ≡ v.groups.len =
    omega (arith, ap length after, length_give_in v.groups.items claim.group c.in-InUse.group claim.weight) in
    release_idle v.waiting v.whole _ v.groups.items (with_items v.groups c.give_in_group.new.groups).items v.lines
    v.order.items v.claims.items v.seats.items c.args.test _ _ claim w can of c.give_back.ensures
    (with_items_is v.groups c.give_in_group.new.groups many ∙ after)
    c.in_default-group.is

pub returns-in-Some : goal.returns-in-Some
returns-in-Some c =
    let v = c.self.inside in
    let claim = c.index-claim.result.now in
    let after : c.give_in_group.new.groups ≡ give_in v.groups.items claim.group c.in-InUse.group claim.weight =
    c.give_in_group.ensures ∙ ap (λ l. give_in l claim.group c.in-InUse.group claim.weight) c.deref_mut.ensures.value in
    let many : length c.give_in_group.new.groups ≡ v.groups.len =
    omega (arith, ap length after, length_give_in v.groups.items claim.group c.in-InUse.group claim.weight) in
    release_seen v.whole _ v.groups.items (with_items v.groups c.give_in_group.new.groups).items v.claims.items
    v.seats.items c.args.test _ _ claim c.give_back.ensures
    (with_items_is v.groups c.give_in_group.new.groups many ∙ after)
    ∙ ap (λ a. released a c.args.test) c.self.view_is

pub returns-in_default-group : goal.returns-in_default-group
returns-in_default-group c =
    let v = c.self.inside in
    let claim = c.index-claim.result.now in
    let after : c.give_in_group.new.groups ≡ give_in v.groups.items claim.group c.in-InUse.group claim.weight =
    c.give_in_group.ensures ∙ ap (λ l. give_in l claim.group c.in-InUse.group claim.weight) c.deref_mut.ensures.value in
    let many : length c.give_in_group.new.groups ≡ v.groups.len =
    omega (arith, ap length after, length_give_in v.groups.items claim.group c.in-InUse.group claim.weight) in
    release_seen v.whole _ v.groups.items (with_items v.groups c.give_in_group.new.groups).items v.claims.items
    v.seats.items c.args.test _ _ claim c.give_back.ensures
    (with_items_is v.groups c.give_in_group.new.groups many ∙ after)
    ∙ ap (λ a. released a c.args.test) c.self.view_is
