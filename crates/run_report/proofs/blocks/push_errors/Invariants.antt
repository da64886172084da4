use Rattle.std.proofs.Common.{◌≡◌, ◌++◌, take}
use Rattle.run_report.specs.Blocks.{errors_shown}
use Rattle.run_report.proofs.blocks.push_errors.Given as goal

abbrev pub invariant-loop-fault : goal.invariant-loop-fault
invariant-loop-fault l = l.shown ≡ l.initial.shown ++ errors_shown l.color (take l.fault-index l.errors)
