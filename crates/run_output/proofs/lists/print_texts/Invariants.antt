use Rattle.std.proofs.Common.{◌≡◌, ◌++◌, map, drop}
use Rattle.serde_json.specs.Data.{string}
use Rattle.run_output.specs.Printer.{each_tokens}
use Rattle.run_output.proofs.lists.print_texts.Given as goal

abbrev pub invariant-loop-text : goal.invariant-loop-text
invariant-loop-text l =
    l.out ++ each_tokens (map string (drop l.text-index l.list))
    ≡ l.initial.out ++ each_tokens (map string l.list)
