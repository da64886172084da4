use Rattle.std.proofs.Common.{◌≡◌, ◌++◌, length}
use Rattle.std.specs.Vec.Iter.{into_iter_items, into_iter_len}
use Rattle.run_admission.proofs.draft.lines_from.Given as goal

abbrev pub invariant-loop-draft : goal.invariant-loop-draft
invariant-loop-draft l = (l.yielded ++ into_iter_items l.draft-iterator ≡ into_iter_items l.initial.draft-iterator)
    × (l.lines.items ≡ l.yielded)
    × (into_iter_len l.draft-iterator ≡ length (into_iter_items l.draft-iterator))
