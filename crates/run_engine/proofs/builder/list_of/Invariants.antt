use Rattle.std.proofs.Common.{◌≡◌, ◌++◌}
use Rattle.run_engine.proofs.builder.list_of.Given as goal

abbrev pub invariant-loop-id : goal.invariant-loop-id
invariant-loop-id l = l.tests ++ l.id-iterator ≡ l.fn.ids.keys
