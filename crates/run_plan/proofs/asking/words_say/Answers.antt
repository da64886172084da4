use Rattle.std.proofs.Common.{ℕ, Bool, Some, map}
use Rattle.run_plan.specs.Columns.{cell, said_group}
use Rattle.run_plan.specs.Rows.{listed_row}
use Rattle.run_plan.proofs.ColumnLemmas.{columns_of_seen, seen_in_groups}
use Rattle.run_plan.proofs.asking.words_say.Goals as goal

pub returns-clause-ok : goal.returns-clause-ok
returns-clause-ok c =
    let rows = c.args.rows.now in
    let says = c.args.says.now in
    let group = said_group c.args.profile.now says in
    let in_default : ℕ → Bool = λ i. cell i says.in_default in
    let tests = c.in_ok-tests.tests.items in
    columns_of_seen Some c.args.filters.now c.in_ok-columns.columns (map listed_row rows) group in_default tests
    (seen_in_groups listed_row group in_default rows c.in_ok-groups.groups tests c.in_ok-groups.ensures
    (rw c.as_slice-2.ensures at (rw c.as_slice.ensures at c.in_ok-tests.ensures)))
    (rw c.deref.ensures.value at c.in_ok-columns.ensures.ok)
