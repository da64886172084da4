use Rattle.std.proofs.Common.{take}
use Rattle.run_admission.specs.Kept.{AreMembers}
use Rattle.run_admission.proofs.claims.members_of.Given as goal

abbrev pub invariant-loop-claim : goal.invariant-loop-claim
invariant-loop-claim l = AreMembers l.fn.groups (take l.claim-index l.claims) l.counts.items
