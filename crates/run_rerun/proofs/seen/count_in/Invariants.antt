use Rattle.std.proofs.Common.{◌≡◌, ◌≤◌, length, take, filter}
use Rattle.run_rerun.specs.Outstanding.{has_id}
use Rattle.run_rerun.proofs.seen.count_in.Given as goal

abbrev pub invariant-loop-id : goal.invariant-loop-id
invariant-loop-id l = record {
  counted : l.count ≡ length (filter (has_id l.set.keys) (take l.id-index l.ids));
  within : l.count ≤ l.id-index;
}
