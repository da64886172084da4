use Rattle.std.proofs.Common.{◌≡◌, ◌++◌, take}
use Rattle.run_report.specs.Kept.{kept_bytes}
use Rattle.run_report.proofs.kept.push_kept.Given as goal

abbrev pub invariant-loop-test : goal.invariant-loop-test
invariant-loop-test l = l.shown ≡ l.initial.shown ++ kept_bytes (take l.test-index l.kept)
