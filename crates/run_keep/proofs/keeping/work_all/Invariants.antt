use Rattle.std.proofs.Common.{◌≡◌, ◌+◌, length, true}
use Rattle.run_keep.specs.Minded.{Tends}
use Rattle.run_keep.proofs.keeping.work_all.Given as goal

abbrev pub invariant-loop : goal.invariant-loop
invariant-loop g l = record {
  attends : Tends g.K.Keeper.has_heard l.initial.keeper l.keeper true l.initial.work l.work;
  counted : l.share.amount + length l.initial.work.receipts ≡ l.initial.share.amount + length l.work.receipts;
  parts : l.share.parts ≡ l.initial.share.parts;
}
