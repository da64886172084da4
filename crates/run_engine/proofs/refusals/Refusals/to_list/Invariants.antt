use Rattle.std.proofs.Common.{◌≡◌, ◌++◌, false, replicate, take}
use Rattle.run_engine.proofs.refusals.Refusals.to_list.Given as goal

abbrev pub invariant-loop : goal.invariant-loop
invariant-loop l = l.list ≡ replicate l.counter false

abbrev pub invariant-loop-refused : goal.invariant-loop-refused
invariant-loop-refused l = l.list ≡ l.initial.list ++ take l.refused-index l.refused-items
