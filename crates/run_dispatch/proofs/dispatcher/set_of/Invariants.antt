use Rattle.std.proofs.Common.{◌≡◌, take}
use Rattle.run_dispatch.proofs.dispatcher.set_of.Given as goal

abbrev pub invariant-loop-id : goal.invariant-loop-id
invariant-loop-id l = l.set.keys ≡ take l.id-index l.ids
