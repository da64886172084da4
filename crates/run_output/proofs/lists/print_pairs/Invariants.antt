use Rattle.std.proofs.Common.{◌≡◌, ◌++◌, map, drop}
use Rattle.run_output.specs.Fields.{pair}
use Rattle.run_output.specs.Printer.{each_tokens}
use Rattle.run_output.proofs.lists.print_pairs.Given as goal

abbrev pub invariant-loop-first : goal.invariant-loop-first
invariant-loop-first l =
    l.out ++ each_tokens (map pair (drop l.first-index l.list))
    ≡ l.initial.out ++ each_tokens (map pair l.list)
