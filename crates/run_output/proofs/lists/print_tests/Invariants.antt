use Rattle.std.proofs.Common.{◌≡◌, ◌++◌, map, drop}
use Rattle.run_output.specs.Texts.{test_data}
use Rattle.run_output.specs.Printer.{each_tokens}
use Rattle.run_output.proofs.lists.print_tests.Given as goal

abbrev pub invariant-loop-test : goal.invariant-loop-test
invariant-loop-test l =
    l.out ++ each_tokens (map test_data (drop l.test-index l.list))
    ≡ l.initial.out ++ each_tokens (map test_data l.list)
