use Rattle.std.proofs.Common.{rules, ◌≡◌, [], ◌∷◌, ◌++◌, length}
use Rattle.run_output.specs.Rows.{row_place}
use Rattle.run_output.proofs.RowLemmas.{ascend_last, members_last}
use Rattle.run_output.proofs.object.Object.put.Goals as goal

pub invariant_of-result : goal.invariant_of-result
invariant_of-result g c =
    let rows = c.args.self.rows.items in
    let last : row_place c.args.key.now rows ≡ length rows = search rules in
    let more : c.push.new.self.items ≡ rows ++ (c.args.key, c.args.field) ∷ [] = search rules in
    record {
      in_order = ascend_last (c.args.key, c.args.field) rows c.push.new.self.items last c.args.self.in_order more;
    }

pub returns : goal.returns
returns g c =
    let rows = c.args.self.rows.items in
    let last : row_place c.args.key.now rows ≡ length rows = search rules in
    let more : c.push.new.self.items ≡ rows ++ (c.args.key, c.args.field) ∷ [] = search rules in
    members_last g.F.Printed.printed (c.args.key, c.args.field) rows c.push.new.self.items last more
