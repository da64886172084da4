use Rattle.std.proofs.Common.{◌≡◌, ◌++◌, map, string_bytes}
use Rattle.std.specs.Str.Iter.{chars_rest}
use Rattle.run_commands.specs.RunnerVariable.{letter_in_variable}
use Rattle.run_commands.proofs.target_runner.push_letters.Given as goal

abbrev pub invariant-loop-letter : goal.invariant-loop-letter
invariant-loop-letter l =
    string_bytes l.name ++ map letter_in_variable (chars_rest l.letter-iterator)
    ≡ string_bytes l.initial.name ++ map letter_in_variable l.triple
