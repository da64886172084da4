use Rattle.std.proofs.Common.{◌≡◌, ◌∷◌, ◌++◌}
use Rattle.run_commands.specs.TargetRunner.{binary_of, args_of, args_left}
use Rattle.run_unit.proofs.first.runner_words.Given as goal

-- the words so far, and then the arguments that are left
abbrev pub invariant-loop-word : goal.invariant-loop-word
invariant-loop-word l = l.words ++ args_left l.word-iterator ≡ binary_of l.runner ∷ args_of l.runner
