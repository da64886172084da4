use Rattle.std.proofs.Common.{◌≡◌, ◌++◌}
use Rattle.run_rerun.proofs.chain.list_of.Given as goal

abbrev pub invariant-loop-id : goal.invariant-loop-id
invariant-loop-id l = l.tests ++ l.id-iterator ≡ l.fn.ids.keys
