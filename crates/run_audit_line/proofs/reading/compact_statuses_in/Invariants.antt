use Rattle.std.proofs.Common.{◌≡◌, ◌++◌, drop, false, option_map}
use Rattle.serde_json.specs.View.{items_view}
use Rattle.serde_json.specs.Written.{items_have_float}
use Rattle.run_audit_line.specs.EventLine.{compact_statuses_from}
use Rattle.run_audit_line.proofs.reading.compact_statuses_in.Given as goal

abbrev pub invariant-loop-item : goal.invariant-loop-item
invariant-loop-item l = record {
  plain : items_have_float (items_view (drop l.item-index l.items)) ≡ false;
  read : option_map (λ statuses. l.statuses ++ statuses)
      (compact_statuses_from (items_view (drop l.item-index l.items))) ≡ compact_statuses_from (items_view l.items);
}
