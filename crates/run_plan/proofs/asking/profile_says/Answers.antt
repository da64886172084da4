use Rattle.std.proofs.Common.{false, map}
use Rattle.run_plan.specs.Asks.{default_filter, no_group}
use Rattle.run_plan.specs.Rows.{listed_row}
use Rattle.run_plan.proofs.ColumnLemmas.{column_of_seen}
use Rattle.run_plan.proofs.asking.profile_says.Goals as goal

pub returns-clause-ok : goal.returns-clause-ok
returns-clause-ok c =
    c.in_ok-says.ensures.ok
    (column_of_seen (map listed_row c.args.rows.now) (λ i. no_group) (λ i. false) (default_filter c.args.profile.now)
    c.in_ok-alone.alone.items c.in_ok-in_default.in_default c.in_ok-alone.ensures
    (rw c.deref.ensures.value at c.in_ok-in_default.ensures.ok))
