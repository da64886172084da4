use Rattle.std.proofs.Common.{◌≡◌, Some}
use Rattle.run_keep.specs.Minded.{Minded}
use Rattle.run_keep.proofs.handing.hand_on.Given as goal

abbrev pub invariant-loop : goal.invariant-loop
invariant-loop g l = record {
  minded : Minded g.K.Keeper.has_heard l.initial.keeper l.keeper (Some (l.unit, l.runs)) (Some (l.unit, l.runs))
      l.initial.work l.work;
  receipts : l.work.receipts ≡ l.initial.work.receipts;
}
