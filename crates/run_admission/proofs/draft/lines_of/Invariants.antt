use Rattle.std.proofs.Common.{map}
use Rattle.run_admission.specs.Lined.{IsDrafted}
use Rattle.run_admission.proofs.draft.lines_of.Given as goal

abbrev pub invariant-loop-test : goal.invariant-loop-test
invariant-loop-test l = IsDrafted (map (λ u. u.limit) l.rooms) l.claims l.test l.drafts.items l.places.items
