use Rattle.std.proofs.Common.{◌≡◌, ◌++◌, drop}
use Rattle.toml.specs.View.{items_view}
use Rattle.run_profile.specs.Notes.{override_notes}
use Rattle.run_profile.proofs.notes.override_notes.Given as goal

abbrev pub invariant-loop-item : goal.invariant-loop-item
invariant-loop-item l =
    (l.notes ++ override_notes l.path l.number (items_view (drop l.item-index l.items))
    ≡ l.fn.notes ++ override_notes l.path 0 (items_view l.items)) × (l.number ≡ l.item-index)
