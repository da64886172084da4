use Rattle.std.proofs.Common.{◌≡◌, ◌++◌, drop}
use Rattle.json.specs.Tree.{members_tokens}
use Rattle.serde_json.specs.Written.{members_outline}
use Rattle.run_output.proofs.InOrderLemmas.{members_in}
use Rattle.run_output.proofs.object.print_in_order.Given as goal

abbrev pub invariant-loop-key : goal.invariant-loop-key
invariant-loop-key g l =
    l.out ++ members_tokens (members_outline (members_in g.F.Printed.printed (drop l.key-index l.fields)))
    ≡ l.initial.out ++ members_tokens (members_outline (members_in g.F.Printed.printed l.fields))
