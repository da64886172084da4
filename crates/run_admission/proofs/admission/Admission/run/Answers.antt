use Rattle.std.proofs.Common.{◌≡◌, ◌-◌, length, get_or, set, map, ap, sym, subst, ◌∙◌, arith, refl, slice_get}
use Rattle.std.proofs.Math.ListN.{length-set}
use Rattle.std.specs.Vec.{with_items}
use Rattle.std.proofs.lemmas.List.{get_or_read, with_items_is}
use Rattle.run_admission.specs.declared.seat.Claim.{Claim}
use Rattle.run_admission.specs.declared.seat.Seat.TheVariants.{InUse}
use Rattle.run_admission.specs.InUse.{candidate, admitted, after_admission}
use Rattle.run_admission.specs.Kept.{Use, CanTake, nobody, free_within, take_in}
use Rattle.run_admission.specs.Lined.{Queues, empty, line_of, room_of, without}
use Rattle.run_admission.proofs.FirstLemmas.{first_is}
use Rattle.run_admission.specs.declared.seat.Candidate.TheVariants.{Fits}
use Rattle.run_admission.proofs.RuleLemmas.{can_run, run_kept, run_said, run_seen}
use Rattle.run_admission.proofs.WholeLemmas.{length_take_in}
use Rattle.run_admission.proofs.WaitLemmas.{one_fewer}
use Rattle.run_admission.proofs.ReadyLemmas.{in_line, run_ready, within_of}
use Rattle.run_admission.proofs.admission.Admission.run.Goals as goal

pub take-global-requires : goal.take-global-requires
take-global-requires c =
    let v = c.self.inside in
    let w = c.self.invariant in
    let is = ap candidate c.self.view_is ∙ c.requires in
    let can = can_run v.waiting v.whole v.groups.items v.claims.items v.seats.items c.args.test w.kept is in
    let claim = c.index.result.now in
    let of = get_or_read v.claims.items c.args.test claim (omega (arith, can.inside, w.kept.paired))
    c.index.ensures nobody.0 in
    subst (λ (d : Claim). CanTake v.whole d.weight) (sym of) can.can

pub take_in_group-group-requires-clause-there : goal.take_in_group-group-requires-clause-there
take_in_group-group-requires-clause-there c =
    let v = c.self.inside in
    let w = c.self.invariant in
    let is = ap candidate c.self.view_is ∙ c.requires in
    let can = can_run v.waiting v.whole v.groups.items v.claims.items v.seats.items c.args.test w.kept is in
    let claim = c.index.result.now in
    let of = get_or_read v.claims.items c.args.test claim (omega (arith, can.inside, w.kept.paired))
    c.index.ensures nobody.0 in
    λ g e. omega (
      arith,
      w.kept.members c.args.test g (ap (λ (d : Claim). d.group) (sym of) ∙ e),
      ap length c.deref_mut.ensures.value,
    )

pub take_in_group-group-requires-clause-room : goal.take_in_group-group-requires-clause-room
take_in_group-group-requires-clause-room c =
    let v = c.self.inside in
    let w = c.self.invariant in
    let is = ap candidate c.self.view_is ∙ c.requires in
    let can = can_run v.waiting v.whole v.groups.items v.claims.items v.seats.items c.args.test w.kept is in
    let claim = c.index.result.now in
    let of = get_or_read v.claims.items c.args.test claim (omega (arith, can.inside, w.kept.paired))
    c.index.ensures nobody.0 in
    λ g u e at. subst (λ (d : Claim). CanTake u d.weight) (sym of)
    (can.cans g u (ap (λ (d : Claim). d.group) (sym of) ∙ e)
    (ap (λ l. slice_get l g) (sym c.deref_mut.ensures.value) ∙ at))

pub room_of-room-requires : goal.room_of-room-requires
room_of-room-requires c =
    let v = c.self.inside in
    let w = c.self.invariant in
    let is = ap candidate c.self.view_is ∙ c.requires in
    let can = can_run v.waiting v.whole v.groups.items v.claims.items v.seats.items c.args.test w.kept is in
    let claim = c.index.result.now in
    let of = get_or_read v.claims.items c.args.test claim (omega (arith, can.inside, w.kept.paired))
    c.index.ensures nobody.0 in
    let after : c.take_in_group-group.new.groups ≡ take_in v.groups.items claim.group c.args.test claim.weight =
    c.take_in_group-group.ensures.after
    ∙ ap (λ l. take_in l claim.group c.args.test claim.weight) c.deref_mut.ensures.value in
    let many : length c.take_in_group-group.new.groups ≡ v.groups.len =
    omega (arith, ap length after, length_take_in v.groups.items claim.group c.args.test claim.weight) in
    λ g u e. within_of (v.waiting - 1) c.take-global.new.self
    (with_items v.groups c.take_in_group-group.new.groups).items v.claims.items
    (set v.seats.items c.args.test (InUse c.take-global.result c.take_in_group-group.result))
    (run_kept v.waiting (v.waiting - 1) v.whole c.take-global.new.self v.groups.items
    (with_items v.groups c.take_in_group-group.new.groups).items v.claims.items
    v.seats.items c.args.test c.take-global.result c.take_in_group-group.result claim w.kept is of
    c.take-global.ensures.slot (c.take_in_group-group.ensures.slot
    ∙ ap (λ l. free_within l claim.group) c.deref_mut.ensures.value) c.take-global.ensures.after
    (with_items_is v.groups c.take_in_group-group.new.groups many ∙ after)
    (omega (
      arith,
      w.kept.waits,
      one_fewer v.seats.items c.args.test (InUse c.take-global.result c.take_in_group-group.result)
          can.inside can.waits refl,
    ))) g u
    (ap (λ l. slice_get l g) (sym c.deref-2.ensures.value) ∙ e)

pub leave-requires-clause-line : goal.leave-requires-clause-line
leave-requires-clause-line c =
    let v = c.self.inside in
    let w = c.self.invariant in
    let is = ap candidate c.self.view_is ∙ c.requires in
    let can = can_run v.waiting v.whole v.groups.items v.claims.items v.seats.items c.args.test w.kept is in
    let claim = c.index.result.now in
    let of = get_or_read v.claims.items c.args.test claim (omega (arith, can.inside, w.kept.paired))
    c.index.ensures nobody.0 in
    let own : c.line_of-line.result
    ≡ line_of (map (λ (u : Use). u.limit) v.groups.items) (get_or v.claims.items c.args.test nobody.0) =
    c.line_of-line.ensures ∙ ap (λ l. line_of (map (λ (u : Use). u.limit) l) claim) c.deref.ensures.value
    ∙ ap (line_of (map (λ (u : Use). u.limit) v.groups.items)) of in
    let at = in_line v.waiting v.whole v.groups.items v.lines v.order.items v.claims.items v.seats.items
    c.first-first.result c.args.test c.line_of-line.result w
    (first_is v.waiting v.whole v.groups.items v.lines v.order.items v.claims.items v.seats.items c.first-first.result w
    c.first-first.ensures (Fits c.args.test) is) own in
    at.low

pub leave-requires-clause-test : goal.leave-requires-clause-test
leave-requires-clause-test c =
    let v = c.self.inside in
    let w = c.self.invariant in
    let is = ap candidate c.self.view_is ∙ c.requires in
    let can = can_run v.waiting v.whole v.groups.items v.claims.items v.seats.items c.args.test w.kept is in
    let claim = c.index.result.now in
    let of = get_or_read v.claims.items c.args.test claim (omega (arith, can.inside, w.kept.paired))
    c.index.ensures nobody.0 in
    let own : c.line_of-line.result
    ≡ line_of (map (λ (u : Use). u.limit) v.groups.items) (get_or v.claims.items c.args.test nobody.0) =
    c.line_of-line.ensures ∙ ap (λ l. line_of (map (λ (u : Use). u.limit) l) claim) c.deref.ensures.value
    ∙ ap (line_of (map (λ (u : Use). u.limit) v.groups.items)) of in
    let at = in_line v.waiting v.whole v.groups.items v.lines v.order.items v.claims.items v.seats.items
    c.first-first.result c.args.test c.line_of-line.result w
    (first_is v.waiting v.whole v.groups.items v.lines v.order.items v.claims.items v.seats.items c.first-first.result w
    c.first-first.ensures (Fits c.args.test) is) own in
    at.known

pub leave-requires-clause-place : goal.leave-requires-clause-place
leave-requires-clause-place c =
    let v = c.self.inside in
    let w = c.self.invariant in
    let is = ap candidate c.self.view_is ∙ c.requires in
    let can = can_run v.waiting v.whole v.groups.items v.claims.items v.seats.items c.args.test w.kept is in
    let claim = c.index.result.now in
    let of = get_or_read v.claims.items c.args.test claim (omega (arith, can.inside, w.kept.paired))
    c.index.ensures nobody.0 in
    let own : c.line_of-line.result
    ≡ line_of (map (λ (u : Use). u.limit) v.groups.items) (get_or v.claims.items c.args.test nobody.0) =
    c.line_of-line.ensures ∙ ap (λ l. line_of (map (λ (u : Use). u.limit) l) claim) c.deref.ensures.value
    ∙ ap (line_of (map (λ (u : Use). u.limit) v.groups.items)) of in
    let at = in_line v.waiting v.whole v.groups.items v.lines v.order.items v.claims.items v.seats.items
    c.first-first.result c.args.test c.line_of-line.result w
    (first_is v.waiting v.whole v.groups.items v.lines v.order.items v.claims.items v.seats.items c.first-first.result w
    c.first-first.ensures (Fits c.args.test) is) own in
    at.here

pub refresh-requires : goal.refresh-requires
refresh-requires c =
    let v = c.self.inside in
    let w = c.self.invariant in
    let is = ap candidate c.self.view_is ∙ c.requires in
    let can = can_run v.waiting v.whole v.groups.items v.claims.items v.seats.items c.args.test w.kept is in
    let claim = c.index.result.now in
    let of = get_or_read v.claims.items c.args.test claim (omega (arith, can.inside, w.kept.paired))
    c.index.ensures nobody.0 in
    let own : c.line_of-line.result
    ≡ line_of (map (λ (u : Use). u.limit) v.groups.items) (get_or v.claims.items c.args.test nobody.0) =
    c.line_of-line.ensures ∙ ap (λ l. line_of (map (λ (u : Use). u.limit) l) claim) c.deref.ensures.value
    ∙ ap (line_of (map (λ (u : Use). u.limit) v.groups.items)) of in
    let at = in_line v.waiting v.whole v.groups.items v.lines v.order.items v.claims.items v.seats.items
    c.first-first.result c.args.test c.line_of-line.result w
    (first_is v.waiting v.whole v.groups.items v.lines v.order.items v.claims.items v.seats.items c.first-first.result w
    c.first-first.ensures (Fits c.args.test) is) own in
    omega (
      arith,
      at.low,
      ap (λ (q : Queues). length q.lines) c.leave.ensures,
      length-set v.lines.lines c.line_of-line.result
          (without (get_or v.lines.lines c.line_of-line.result empty) (get_or v.lines.places c.first-first.result 0)),
    )

pub index_mut-requires : goal.index_mut-requires
index_mut-requires c =
    let v = c.self.inside in
    let w = c.self.invariant in
    let is = ap candidate c.self.view_is ∙ c.requires in
    let can = can_run v.waiting v.whole v.groups.items v.claims.items v.seats.items c.args.test w.kept is in
    let claim = c.index.result.now in
    let of = get_or_read v.claims.items c.args.test claim (omega (arith, can.inside, w.kept.paired))
    c.index.ensures nobody.0 in
    omega (arith, can.inside)

pub overflow_sub-self : goal.overflow_sub-self
overflow_sub-self c =
    let v = c.self.inside in
    let w = c.self.invariant in
    let is = ap candidate c.self.view_is ∙ c.requires in
    let can = can_run v.waiting v.whole v.groups.items v.claims.items v.seats.items c.args.test w.kept is in
    let claim = c.index.result.now in
    let of = get_or_read v.claims.items c.args.test claim (omega (arith, can.inside, w.kept.paired))
    c.index.ensures nobody.0 in
    omega (
      arith,
      w.kept.waits,
      one_fewer v.seats.items c.args.test (InUse c.take-global.result c.take_in_group-group.result)
          can.inside can.waits refl,
    )

pub invariant_of-self : goal.invariant_of-self
invariant_of-self c =
    let v = c.self.inside in
    let w = c.self.invariant in
    let is = ap candidate c.self.view_is ∙ c.requires in
    let can = can_run v.waiting v.whole v.groups.items v.claims.items v.seats.items c.args.test w.kept is in
    let claim = c.index.result.now in
    let of = get_or_read v.claims.items c.args.test claim (omega (arith, can.inside, w.kept.paired))
    c.index.ensures nobody.0 in
    let own : c.line_of-line.result
    ≡ line_of (map (λ (u : Use). u.limit) v.groups.items) (get_or v.claims.items c.args.test nobody.0) =
    c.line_of-line.ensures ∙ ap (λ l. line_of (map (λ (u : Use). u.limit) l) claim) c.deref.ensures.value
    ∙ ap (line_of (map (λ (u : Use). u.limit) v.groups.items)) of in
    let after : c.take_in_group-group.new.groups ≡ take_in v.groups.items claim.group c.args.test claim.weight =
    c.take_in_group-group.ensures.after
    ∙ ap (λ l. take_in l claim.group c.args.test claim.weight) c.deref_mut.ensures.value in
    let many : length c.take_in_group-group.new.groups ≡ v.groups.len =
    omega (arith, ap length after, length_take_in v.groups.items claim.group c.args.test claim.weight) in
    run_ready v.waiting v.whole _ v.groups.items (with_items v.groups c.take_in_group-group.new.groups).items v.lines
    c.leave.new.self c.refresh.new.self v.order.items v.claims.items v.seats.items c.first-first.result
    c.args.test _ c.line_of-line.result
    c.room_of-room.result _ claim w is
    (first_is v.waiting v.whole v.groups.items v.lines v.order.items v.claims.items v.seats.items c.first-first.result w
    c.first-first.ensures (Fits c.args.test) is) of c.take-global.ensures.slot
    (c.take_in_group-group.ensures.slot ∙ ap (λ l. free_within l claim.group) c.deref_mut.ensures.value)
    c.take-global.ensures.after (with_items_is v.groups c.take_in_group-group.new.groups many
    ∙ after) own c.leave.ensures
    (c.room_of-room.ensures ∙ ap (λ l. room_of l c.line_of-line.result) c.deref-2.ensures.value) c.refresh.ensures

pub returns-clause-admitted : goal.returns-clause-admitted
returns-clause-admitted c =
    let v = c.self.inside in
    let w = c.self.invariant in
    let is = ap candidate c.self.view_is ∙ c.requires in
    let can = can_run v.waiting v.whole v.groups.items v.claims.items v.seats.items c.args.test w.kept is in
    let claim = c.index.result.now in
    let of = get_or_read v.claims.items c.args.test claim (omega (arith, can.inside, w.kept.paired))
    c.index.ensures nobody.0 in
    sym (ap admitted c.self.view_is)
    ∙ run_said v.waiting v.whole v.groups.items v.claims.items v.seats.items c.args.test _ _ claim w.kept is of
    c.take-global.ensures.slot
    (c.take_in_group-group.ensures.slot ∙ ap (λ l. free_within l claim.group) c.deref_mut.ensures.value)

pub returns-clause-after : goal.returns-clause-after
returns-clause-after c =
    let v = c.self.inside in
    let w = c.self.invariant in
    let is = ap candidate c.self.view_is ∙ c.requires in
    let can = can_run v.waiting v.whole v.groups.items v.claims.items v.seats.items c.args.test w.kept is in
    let claim = c.index.result.now in
    let of = get_or_read v.claims.items c.args.test claim (omega (arith, can.inside, w.kept.paired))
    c.index.ensures nobody.0 in
    let after : c.take_in_group-group.new.groups ≡ take_in v.groups.items claim.group c.args.test claim.weight =
    c.take_in_group-group.ensures.after
    ∙ ap (λ l. take_in l claim.group c.args.test claim.weight) c.deref_mut.ensures.value in
    let many : length c.take_in_group-group.new.groups ≡ v.groups.len =
    omega (arith, ap length after, length_take_in v.groups.items claim.group c.args.test claim.weight) in
    run_seen v.waiting v.whole _ v.groups.items (with_items v.groups c.take_in_group-group.new.groups).items
    v.claims.items v.seats.items c.args.test _ _ claim w.kept is of
    c.take-global.ensures.slot
    (c.take_in_group-group.ensures.slot ∙ ap (λ l. free_within l claim.group) c.deref_mut.ensures.value)
    c.take-global.ensures.after (with_items_is v.groups c.take_in_group-group.new.groups many ∙ after)
    ∙ ap after_admission c.self.view_is
