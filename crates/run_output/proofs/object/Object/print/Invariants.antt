use Rattle.std.proofs.Common.{◌≡◌, ◌++◌, drop}
use Rattle.json.specs.Tree.{members_tokens}
use Rattle.serde_json.specs.Written.{members_outline}
use Rattle.run_output.specs.Rows.{members_from}
use Rattle.run_output.proofs.object.Object.print.Given as goal

abbrev pub invariant-loop-key : goal.invariant-loop-key
invariant-loop-key g l =
    l.out ++ members_tokens (members_outline (members_from g.F.Printed.printed (drop l.key-index l.key-items)))
    ≡ l.initial.out ++ members_tokens (members_outline (members_from g.F.Printed.printed l.key-items))
