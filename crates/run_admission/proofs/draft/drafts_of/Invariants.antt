use Rattle.std.proofs.Common.{◌≡◌, replicate}
use Rattle.run_admission.specs.Lined.{empty}
use Rattle.run_admission.proofs.draft.drafts_of.Given as goal

abbrev pub invariant-loop : goal.invariant-loop
invariant-loop l = l.drafts.items ≡ replicate l.counter empty
