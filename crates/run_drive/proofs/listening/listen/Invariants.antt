use Rattle.std.proofs.Common.{◌≡◌, ◌+◌, length, Some}
use Rattle.run_drive.specs.Worked.{Listens}
use Rattle.run_drive.proofs.listening.listen.Given as goal

abbrev pub invariant-loop : goal.invariant-loop
invariant-loop g l = record {
  listens : Listens g.W.Spawner.has_said l.initial.worker l.worker l.unit l.fn.first (Some l.awaited) l.initial.work
      l.work;
  counted : l.share.amount + length l.initial.work.receipts
      ≡ l.initial.share.amount + length l.work.receipts;
  parts : l.share.parts ≡ l.initial.share.parts;
}
