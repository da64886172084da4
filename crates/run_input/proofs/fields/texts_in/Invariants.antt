use Rattle.std.proofs.Common.{◌≡◌, ◌++◌, drop, option_map}
use Rattle.serde_json.specs.View.{items_view}
use Rattle.run_input.specs.Fields.{texts_from}
use Rattle.run_input.proofs.fields.texts_in.Given as goal

abbrev pub invariant-loop-item : goal.invariant-loop-item
invariant-loop-item l =
    option_map (λ texts. l.texts ++ texts) (texts_from (items_view (drop l.item-index l.items)))
    ≡ texts_from (items_view l.items)
