use Rattle.std.proofs.Common.{◌≡◌, length, get_or, map, ap, sym, ◌∙◌, arith, refl, slice_get}
use Rattle.std.proofs.Math.ListN.{length-set}
use Rattle.std.proofs.lemmas.List.{get_or_read}
use Rattle.run_admission.specs.InUse.{candidate}
use Rattle.run_admission.specs.Kept.{Use, nobody}
use Rattle.run_admission.specs.Lined.{Queues, empty, line_of, room_of, without}
use Rattle.run_admission.proofs.FirstLemmas.{first_is}
use Rattle.run_admission.proofs.RuleLemmas.{can_skip}
use Rattle.run_admission.specs.declared.seat.Candidate.TheVariants.{Skip}
use Rattle.run_admission.specs.declared.seat.Seat.TheVariants.{Gone}
use Rattle.run_admission.proofs.ReadyLemmas.{in_line, skip_ready, within_of}
use Rattle.run_admission.proofs.WaitLemmas.{one_fewer}
use Rattle.run_admission.proofs.admission.Admission.skip.Goals as goal

pub room_of-room-requires : goal.room_of-room-requires
room_of-room-requires c =
    let v = c.self.inside in
    let w = c.self.invariant in
    λ g u e. within_of v.waiting v.whole v.groups.items v.claims.items v.seats.items w.kept g u
    (ap (λ l. slice_get l g) (sym c.deref-2.ensures.value) ∙ e)

pub leave-requires-clause-line : goal.leave-requires-clause-line
leave-requires-clause-line c =
    let v = c.self.inside in
    let w = c.self.invariant in
    let can = can_skip v.waiting v.whole v.groups.items v.claims.items v.seats.items c.args.test w.kept
    (ap candidate c.self.view_is ∙ c.requires) in
    let read = get_or_read v.claims.items c.args.test c.index.result.now (omega (arith, can.0, w.kept.paired))
    c.index.ensures nobody.0 in
    let of : c.line_of-line.result ≡ line_of (map (λ (u : Use). u.limit) v.groups.items)
    (get_or v.claims.items c.args.test nobody.0) =
    c.line_of-line.ensures ∙ ap (λ l. line_of (map (λ (u : Use). u.limit) l) c.index.result.now) c.deref.ensures.value
    ∙ ap (line_of (map (λ (u : Use). u.limit) v.groups.items)) read in
    let at = in_line v.waiting v.whole v.groups.items v.lines v.order.items v.claims.items v.seats.items
    c.first-first.result c.args.test c.line_of-line.result w
    (first_is v.waiting v.whole v.groups.items v.lines v.order.items v.claims.items v.seats.items c.first-first.result w
    c.first-first.ensures (Skip c.args.test) (ap candidate c.self.view_is ∙ c.requires)) of in
    at.low

pub leave-requires-clause-test : goal.leave-requires-clause-test
leave-requires-clause-test c =
    let v = c.self.inside in
    let w = c.self.invariant in
    let can = can_skip v.waiting v.whole v.groups.items v.claims.items v.seats.items c.args.test w.kept
    (ap candidate c.self.view_is ∙ c.requires) in
    let read = get_or_read v.claims.items c.args.test c.index.result.now (omega (arith, can.0, w.kept.paired))
    c.index.ensures nobody.0 in
    let of : c.line_of-line.result ≡ line_of (map (λ (u : Use). u.limit) v.groups.items)
    (get_or v.claims.items c.args.test nobody.0) =
    c.line_of-line.ensures ∙ ap (λ l. line_of (map (λ (u : Use). u.limit) l) c.index.result.now) c.deref.ensures.value
    ∙ ap (line_of (map (λ (u : Use). u.limit) v.groups.items)) read in
    let at = in_line v.waiting v.whole v.groups.items v.lines v.order.items v.claims.items v.seats.items
    c.first-first.result c.args.test c.line_of-line.result w
    (first_is v.waiting v.whole v.groups.items v.lines v.order.items v.claims.items v.seats.items c.first-first.result w
    c.first-first.ensures (Skip c.args.test) (ap candidate c.self.view_is ∙ c.requires)) of in
    at.known

pub leave-requires-clause-place : goal.leave-requires-clause-place
leave-requires-clause-place c =
    let v = c.self.inside in
    let w = c.self.invariant in
    let can = can_skip v.waiting v.whole v.groups.items v.claims.items v.seats.items c.args.test w.kept
    (ap candidate c.self.view_is ∙ c.requires) in
    let read = get_or_read v.claims.items c.args.test c.index.result.now (omega (arith, can.0, w.kept.paired))
    c.index.ensures nobody.0 in
    let of : c.line_of-line.result ≡ line_of (map (λ (u : Use). u.limit) v.groups.items)
    (get_or v.claims.items c.args.test nobody.0) =
    c.line_of-line.ensures ∙ ap (λ l. line_of (map (λ (u : Use). u.limit) l) c.index.result.now) c.deref.ensures.value
    ∙ ap (line_of (map (λ (u : Use). u.limit) v.groups.items)) read in
    let at = in_line v.waiting v.whole v.groups.items v.lines v.order.items v.claims.items v.seats.items
    c.first-first.result c.args.test c.line_of-line.result w
    (first_is v.waiting v.whole v.groups.items v.lines v.order.items v.claims.items v.seats.items c.first-first.result w
    c.first-first.ensures (Skip c.args.test) (ap candidate c.self.view_is ∙ c.requires)) of in
    at.here

pub refresh-requires : goal.refresh-requires
refresh-requires c =
    let v = c.self.inside in
    let w = c.self.invariant in
    let can = can_skip v.waiting v.whole v.groups.items v.claims.items v.seats.items c.args.test w.kept
    (ap candidate c.self.view_is ∙ c.requires) in
    let read = get_or_read v.claims.items c.args.test c.index.result.now (omega (arith, can.0, w.kept.paired))
    c.index.ensures nobody.0 in
    let of : c.line_of-line.result ≡ line_of (map (λ (u : Use). u.limit) v.groups.items)
    (get_or v.claims.items c.args.test nobody.0) =
    c.line_of-line.ensures ∙ ap (λ l. line_of (map (λ (u : Use). u.limit) l) c.index.result.now) c.deref.ensures.value
    ∙ ap (line_of (map (λ (u : Use). u.limit) v.groups.items)) read in
    let at = in_line v.waiting v.whole v.groups.items v.lines v.order.items v.claims.items v.seats.items
    c.first-first.result c.args.test c.line_of-line.result w
    (first_is v.waiting v.whole v.groups.items v.lines v.order.items v.claims.items v.seats.items c.first-first.result w
    c.first-first.ensures (Skip c.args.test) (ap candidate c.self.view_is ∙ c.requires)) of in
    omega (
      arith,
      at.low,
      ap (λ (q : Queues). length q.lines) c.leave.ensures,
      length-set v.lines.lines c.line_of-line.result
          (without (get_or v.lines.lines c.line_of-line.result empty) (get_or v.lines.places c.first-first.result 0)),
    )

pub index_mut-requires : goal.index_mut-requires
index_mut-requires c =
    let v = c.self.inside in
    let w = c.self.invariant in
    let can = can_skip v.waiting v.whole v.groups.items v.claims.items v.seats.items c.args.test w.kept
    (ap candidate c.self.view_is ∙ c.requires) in
    omega (arith, can.0)

pub overflow_sub-self : goal.overflow_sub-self
overflow_sub-self c =
    let v = c.self.inside in
    let w = c.self.invariant in
    let can = can_skip v.waiting v.whole v.groups.items v.claims.items v.seats.items c.args.test w.kept
    (ap candidate c.self.view_is ∙ c.requires) in
    omega (arith, w.kept.waits, one_fewer v.seats.items c.args.test Gone can.0 can.1 refl)

pub invariant_of-self : goal.invariant_of-self
invariant_of-self c =
    let v = c.self.inside in
    let w = c.self.invariant in
    let can = can_skip v.waiting v.whole v.groups.items v.claims.items v.seats.items c.args.test w.kept
    (ap candidate c.self.view_is ∙ c.requires) in
    let read = get_or_read v.claims.items c.args.test c.index.result.now (omega (arith, can.0, w.kept.paired))
    c.index.ensures nobody.0 in
    let of : c.line_of-line.result ≡ line_of (map (λ (u : Use). u.limit) v.groups.items)
    (get_or v.claims.items c.args.test nobody.0) =
    c.line_of-line.ensures ∙ ap (λ l. line_of (map (λ (u : Use). u.limit) l) c.index.result.now) c.deref.ensures.value
    ∙ ap (line_of (map (λ (u : Use). u.limit) v.groups.items)) read in
    skip_ready v.waiting v.whole v.groups.items v.lines c.leave.new.self c.refresh.new.self v.order.items v.claims.items
    v.seats.items c.first-first.result c.args.test c.line_of-line.result c.room_of-room.result w
    (ap candidate c.self.view_is ∙ c.requires)
    (first_is v.waiting v.whole v.groups.items v.lines v.order.items v.claims.items v.seats.items c.first-first.result w
    c.first-first.ensures (Skip c.args.test) (ap candidate c.self.view_is ∙ c.requires)) of
    c.leave.ensures
    (c.room_of-room.ensures ∙ ap (λ l. room_of l c.line_of-line.result) c.deref-2.ensures.value) c.refresh.ensures
