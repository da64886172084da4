use Rattle.run_plan.specs.Rows.{listed_row}
use Rattle.run_plan.proofs.ColumnLemmas.{each_asked}
use Rattle.run_plan.proofs.asking.asked_with.Goals as goal

pub returns-clause-ok : goal.returns-clause-ok
returns-clause-ok c =
    each_asked listed_row c.args.profile.now c.args.filters.now c.args.rows.now c.args.says.now c.in_ok-words.words
    c.in_ok-asked.asked c.in_ok-words.ensures.ok (rw c.as_slice.ensures at c.in_ok-asked.ensures)
