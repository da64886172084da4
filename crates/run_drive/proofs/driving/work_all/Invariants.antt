use Rattle.std.proofs.Common.{◌≡◌, ◌+◌, length, true}
use Rattle.run_drive.specs.Worked.{Works}
use Rattle.run_drive.proofs.driving.work_all.Given as goal

abbrev pub invariant-loop : goal.invariant-loop
invariant-loop g l = record {
  works : Works g.W.Spawner.has_said l.initial.worker l.worker true l.initial.work l.work;
  counted : l.share.amount + length l.initial.work.receipts
      ≡ l.initial.share.amount + length l.work.receipts;
  parts : l.share.parts ≡ l.initial.share.parts;
}
