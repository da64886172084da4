use Rattle.std.proofs.Common.{◌∙◌}
use Rattle.run_plan.specs.Asks.{IsSeen}
use Rattle.run_plan.specs.Columns.{cell, given_group}
use Rattle.run_plan.specs.Listed.{Listed}
use Rattle.run_plan.specs.Rows.{listed_row}
use Rattle.run_plan.proofs.ColumnLemmas.{place_more}
use Rattle.run_plan.proofs.columns.facts_by.Goals as goal

pub loop-place-preserved : goal.loop-place-preserved
loop-place-preserved c =
    let l = c.loop-place in
    let e = c.facts_of.ensures in
    let row = c.index-rows-place.result in
    let groups = c.args.groups.now in
    let in_default = c.args.in_default.now in
    let group = given_group groups l.place in
    let one : IsSeen row.binary.now row.test.now group (cell l.place in_default) c.facts_of.result = record {
      test = e.test;
      of_package = e.of_package;
      binary = e.binary;
      binary_id = e.binary_id;
      kind = e.kind;
      platform = e.platform;
      group = e.group ∙ c.given_group-group.ensures;
      in_default = e.in_default ∙ c.cell.ensures;
    } in
    place_more listed_row (λ i (t : Listed). IsSeen t.1 t.2 (given_group groups i) (cell i in_default)) c.args.rows.now
    l.tests.items c.push.new.self.items l.place row c.facts_of.result c.loop-place-test.true c.index-rows-place.is
    c.in_ok-push.ensures.items one l.invariant
