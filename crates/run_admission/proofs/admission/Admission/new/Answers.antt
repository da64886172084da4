use Rattle.std.proofs.Common.{ap, length, subst, sym, arith, ◌∙◌}
use Rattle.std.proofs.lemmas.List.{length-map}
use Rattle.run_admission.proofs.BegunLemmas.{begun_whole, begun_seen, begun_within, begun_there, members_inside}
use Rattle.run_admission.proofs.MemberLemmas.{few_of_each}
use Rattle.run_admission.specs.InUse.{claim_of}
use Rattle.run_admission.specs.Kept.{AreMembers}
use Rattle.run_admission.specs.Ordered.{IsOrder}
use Rattle.run_admission.proofs.ReadyLemmas.{queued_read}
use Rattle.run_admission.proofs.admission.Admission.new.Goals as goal

pub members_of-requires-clause-there : goal.members_of-requires-clause-there
members_of-requires-clause-there c =
    rw (c.deref.ensures.value, c.in_ok-claims.ensures) (members_inside c.args.groups.now c.args.tests.now)

pub rooms_of-requires-clause-few : goal.rooms_of-requires-clause-few
rooms_of-requires-clause-few c =
    rw (c.deref-2.ensures.value)
    (few_of_each (length c.args.groups.now) c.deref.result.now c.in_ok-members.members.items c.in_ok-members.ensures
    (omega (
      arith,
      c.requires,
      ap length c.deref.ensures.value,
      ap length c.in_ok-claims.ensures,
      length-map c.args.tests.now (claim_of c.args.groups.now),
    )))

pub queue_of-requires-clause-within : goal.queue_of-requires-clause-within
queue_of-requires-clause-within c =
    rw (c.deref-3.ensures.value, c.in_ok-rooms.ensures, c.deref-2.ensures.value)
    (begun_within c.args.threads c.args.groups.now c.args.tests.now c.in_ok-members.members.items c.requires
    (subst (λ l. AreMembers (length c.args.groups.now) l c.in_ok-members.members.items)
    (c.deref.ensures.value ∙ c.in_ok-claims.ensures) c.in_ok-members.ensures))

pub queue_of-requires-clause-there : goal.queue_of-requires-clause-there
queue_of-requires-clause-there c =
    rw (
      c.deref-3.ensures.value,
      c.deref-4.ensures.value,
      c.in_ok-rooms.ensures,
      c.in_ok-claims.ensures,
      c.deref-2.ensures.value,
    )
    (begun_there c.args.threads c.args.groups.now c.args.tests.now c.in_ok-members.members.items c.requires
    (subst (λ l. AreMembers (length c.args.groups.now) l c.in_ok-members.members.items)
    (c.deref.ensures.value ∙ c.in_ok-claims.ensures) c.in_ok-members.ensures))

pub invariant_of-result : goal.invariant_of-result
invariant_of-result c = record {
  kept =
      rw (
        c.in_ok-whole.ensures,
        c.in_ok-rooms.ensures,
        c.deref-2.ensures.value,
        c.in_ok-claims.ensures,
        c.in_ok-seats.ensures.items_if_clones_equal (λ y e. e),
      )
      (begun_whole c.args.threads c.args.groups.now c.args.tests.now c.in_ok-members.members.items c.requires
      (subst (λ l. AreMembers (length c.args.groups.now) l c.in_ok-members.members.items)
      (c.deref.ensures.value ∙ c.in_ok-claims.ensures) c.in_ok-members.ensures));
  ordered = subst (λ l. IsOrder l c.in_ok-queue.queue.0.items) c.deref-4.ensures.value c.in_ok-queue.ensures.ordered;
  queued = queued_read c.in_ok-rooms.rooms.items c.deref-3.result.now c.in_ok-claims.claims.items c.deref-4.result.now
      c.in_ok-queue.queue.0.items (length c.args.tests.now) c.in_ok-queue.queue.1 c.in_ok-seats.seats.items
      c.deref-3.ensures.value c.deref-4.ensures.value c.in_ok-queue.ensures
      (c.in_ok-seats.ensures.items_if_clones_equal (λ y e. e))
      (sym (ap length c.in_ok-claims.ensures ∙ length-map c.args.tests.now (claim_of c.args.groups.now)));
}

pub returns : goal.returns
returns c =
    rw (
      c.in_ok-whole.ensures,
      c.in_ok-rooms.ensures,
      c.deref-2.ensures.value,
      c.in_ok-claims.ensures,
      c.in_ok-seats.ensures.items_if_clones_equal (λ y e. e),
    )
    (begun_seen c.args.threads c.args.groups.now c.args.tests.now c.in_ok-members.members.items
    c.in_ok-members.ensures.all)
