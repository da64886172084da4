use Rattle.std.proofs.Common.{rules, ◌≤◌, length}
use Rattle.run_output.proofs.InOrderLemmas.{last_in_order}
use Rattle.run_output.proofs.rows.are_in_order.Goals as goal

pub returns : goal.returns
returns g c =
    let past : length c.args.fields.now ≤ c.loop-at.at = search rules in
    λ _. c.loop-at.invariant.1 (last_in_order c.args.fields.now c.loop-at.at past)
