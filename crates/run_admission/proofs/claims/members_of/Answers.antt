use Rattle.std.proofs.Common.{◌+◌, take, sym, subst, arith}
use Rattle.std.proofs.lemmas.List.{get_or_default, length-take}
use Rattle.std.proofs.lemmas.List.Sums.{count_by-le-length}
use Rattle.run_admission.specs.InUse.{is_of}
use Rattle.run_admission.specs.Kept.{AreMembers}
use Rattle.run_admission.proofs.MemberLemmas.{none_more, one_more}
use Rattle.run_admission.proofs.claims.members_of.Goals.{in-Some, in-None}
use Rattle.run_admission.proofs.claims.members_of.Goals as goal

pub overflow_add-index_mut : goal.overflow_add-index_mut
overflow_add-index_mut c =
    let group = c.in-Some.group in
    let before = take c.loop-claim.claim-index c.args.claims.now in
    let counted = c.loop-claim.invariant in
    let there = c.requires.there c.loop-claim.claim-index group c.in-Some.is in
    omega (
      arith,
      c.index_mut.ensures.value,
      get_or_default c.loop-claim.counts.items group c.index_mut.result.now 0 (omega (arith, counted.all, there)),
      counted.each group there,
      count_by-le-length (is_of group) before,
      length-take c.loop-claim.claim-index c.args.claims.now,
      c.requires.few,
    )

pub loop-claim-preserved : goal.loop-claim-preserved
loop-claim-preserved c = elim c.match-claim.branch [
  | in-Some w ↦
      subst (λ v. AreMembers c.args.groups (take (c.loop-claim.claim-index + 1) c.args.claims.now) v.items)
      (sym w.counts-is)
      (one_more c.args.groups c.loop-claim.claim-index w.in-Some.group w.index_mut.result.now c.args.claims.now
      c.loop-claim.counts.items c.loop-claim.invariant c.loop-claim-test.true w.in-Some.is
      (c.requires.there c.loop-claim.claim-index w.in-Some.group w.in-Some.is) w.index_mut.ensures.value)
  | in-None w ↦
      subst (λ v. AreMembers c.args.groups (take (c.loop-claim.claim-index + 1) c.args.claims.now) v.items)
      (sym w.counts-is)
      (none_more c.args.groups c.loop-claim.claim-index c.args.claims.now c.loop-claim.counts.items
      c.loop-claim.invariant c.loop-claim-test.true w.in-None.is)
]
