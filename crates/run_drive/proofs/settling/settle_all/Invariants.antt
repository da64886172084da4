use Rattle.std.proofs.Common.{◌≡◌, ◌+◌, length}
use Rattle.run_drive.specs.Added.{SettlesSome}
use Rattle.run_drive.proofs.settling.settle_all.Given as goal

abbrev pub invariant-loop : goal.invariant-loop
invariant-loop g l = record {
  settles : SettlesSome l.initial.receipts l.receipts;
  counted : l.share.amount + length l.initial.receipts ≡ l.initial.share.amount + length l.receipts;
  parts : l.share.parts ≡ l.initial.share.parts;
}
