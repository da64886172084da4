-- The tests of a list as code sees them.
use Rattle.std.specs.Prelude.{ℕ, Bool, List}
use Rattle.run_filter.specs.declared.partition.Candidate.{Candidate}
use Rattle.run_plan.specs.Listed.{AskedTest, Listed}
use Rattle.run_plan.specs.declared.rows.ListRow.{ListRow}
use Rattle.run_plan.specs.declared.rows.AskedRow.{AskedRow}

-- a test with the place of its binary, and its binary
abbrev pub listed_row : ListRow → Listed
listed_row row = (row.place, row.binary.now, row.test.now)

-- and with what filters say of it
abbrev pub asked_row : AskedRow → AskedTest
asked_row row = (listed_row row.row, row.asked.now)

-- what partitions see of a test
abbrev pub parting_view : Candidate → ℕ × List ℕ × Bool × Bool
parting_view c = (c.binary, c.name.now, c.is_ignored, c.passes)
