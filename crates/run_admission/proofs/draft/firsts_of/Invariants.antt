use Rattle.run_admission.specs.Lined.{HasFirsts}
use Rattle.run_admission.proofs.draft.firsts_of.Given as goal

abbrev pub invariant-loop-place : goal.invariant-loop-place
invariant-loop-place l = HasFirsts l.rooms l.lines l.place l.firsts.items
