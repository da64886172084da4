use Rattle.std.proofs.Common.{length, ap, arith, ◌∙◌}
use Rattle.run_admission.specs.Kept.{nobody}
use Rattle.run_admission.specs.Ordered.{at_places}
use Rattle.run_admission.proofs.NextLemmas.{length_at_places}
use Rattle.run_admission.proofs.ReadyLemmas.{queue_there, queued_begun}
use Rattle.run_admission.proofs.draft.queue_of.Goals as goal

pub claims_in-requires : goal.claims_in-requires
claims_in-requires c = rw c.deref.ensures.value c.in_ok-order.ensures.known

pub lines_of-requires-clause-few : goal.lines_of-requires-clause-few
lines_of-requires-clause-few c =
    omega (
      arith,
      c.requires.few,
      ap length c.deref-2.ensures.value,
      ap length c.in_ok-queue.ensures,
      length_at_places nobody.0 c.args.claims.now c.deref.result.now,
      ap length c.deref.ensures.value,
      c.in_ok-order.ensures.all,
    )

pub lines_of-requires-clause-there : goal.lines_of-requires-clause-there
lines_of-requires-clause-there c =
    rw (c.deref-2.ensures.value, c.in_ok-queue.ensures, c.deref.ensures.value)
    (queue_there c.args.rooms.now c.args.claims.now c.in_ok-order.order.items c.in_ok-order.ensures c.requires.there)

pub returns : goal.returns
returns c = record {
  ordered = c.in_ok-order.ensures;
  queued = queued_begun c.args.rooms.now c.args.claims.now c.deref-2.result.now c.in_ok-order.order.items
      c.in_ok-lines.lines
      (c.deref-2.ensures.value ∙ c.in_ok-queue.ensures
      ∙ ap (at_places nobody.0 c.args.claims.now) c.deref.ensures.value)
      c.in_ok-lines.ensures;
}
