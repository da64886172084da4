use Rattle.std.proofs.Common.{◌≡◌, drop}
use Rattle.toml.specs.View.{items_view}
use Rattle.run_profile.specs.Fields.{before, item_texts}
use Rattle.run_profile.proofs.fields.texts_in.Given as goal

abbrev pub invariant-loop-item : goal.invariant-loop-item
invariant-loop-item l =
    (before l.texts (item_texts l.path l.number (items_view (drop l.item-index l.items)))
    ≡ item_texts l.path 0 (items_view l.items)) × (l.number ≡ l.item-index)
