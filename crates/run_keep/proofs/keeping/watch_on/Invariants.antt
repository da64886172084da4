use Rattle.std.proofs.Common.{◌≡◌, ◌+◌, length, Some, true}
use Rattle.run_keep.specs.Minded.{Minded}
use Rattle.run_keep.proofs.keeping.watch_on.Given as goal

abbrev pub invariant-loop : goal.invariant-loop
invariant-loop g l = record {
  minded : Minded g.K.Keeper.has_heard l.initial.keeper l.keeper (Some (l.unit, true)) (Some (l.unit, l.watch.runs))
      l.initial.work l.work;
  counted : l.share.amount + length l.initial.work.receipts ≡ l.initial.share.amount + length l.work.receipts;
  parts : l.share.parts ≡ l.initial.share.parts;
}
