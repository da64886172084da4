use Rattle.std.proofs.Common.{refl}
use Rattle.run_audit_passes.specs.LimitTable.{told_seat}
use Rattle.run_audit_passes.specs.declared.limit_table.LimitTable.{LimitTable}
use Rattle.run_audit_passes.proofs.TableLemmas.{table_changed}
use Rattle.run_audit_passes.proofs.limit_table.change.Goals as goal

pub returns : goal.returns
returns c = λ test is limits table.
    let between = c.take.new.table in
    let after : LimitTable = record { told = c.put.new.told; all = between.all; groups = between.groups } in
    table_changed c.args.settings.now c.args.table.now between after c.args.place (test, told_seat c.args.new)
    c.in_ok-kept.kept is (c.in_ok-kept.ensures test is limits table) refl refl c.in_ok-put.ensures
