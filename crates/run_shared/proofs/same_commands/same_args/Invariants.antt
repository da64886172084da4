use Rattle.std.proofs.Common.{◌≡◌, ◌↔◌}
use Rattle.run_commands.specs.TargetRunner.{args_left}
use Rattle.run_shared.proofs.same_commands.same_args.Given as goal

abbrev pub invariant-loop-x : goal.invariant-loop-x
invariant-loop-x l = (args_left l.a ≡ args_left l.b) ↔ (args_left l.initial.a ≡ args_left l.initial.b)
