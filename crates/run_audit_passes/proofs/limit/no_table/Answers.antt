use Rattle.std.proofs.Common.{ap, refl}
use Rattle.std.specs.BTreeMap.{is_at}
use Rattle.std.specs.List.{list_any}
use Rattle.std.specs.Map.{lookup}
use Rattle.std.specs.Cmp.Lexicographic.{slice_cmp}
use Rattle.std.specs.Ordering.{nat_cmp}
use Rattle.std.specs.Option.{unwrap_or}
use Rattle.run_audit_passes.specs.LimitTable.{group_slot_order}
use Rattle.run_audit_passes.proofs.LimitPartLemmas.{first_table}
use Rattle.run_audit_passes.proofs.limit.no_table.Goals as goal

pub returns : goal.returns
returns c = first_table (record {
  told = c.new.result;
  all = record { sum = 0; slots = c.new-2.result };
  groups = record { sums = c.new-3.result; slots = c.new-4.result };
}) (λ q. ap (lookup (is_at (nat_cmp q))) c.new.ensures.empty) refl
    (λ k. ap (list_any (is_at (nat_cmp k))) c.new-2.ensures.empty)
    (λ name. ap (λ entries. unwrap_or (lookup (is_at (slice_cmp nat_cmp name)) entries) 0) c.new-3.ensures.empty)
    (λ k. ap (list_any (is_at (group_slot_order k))) c.new-4.ensures.empty)
