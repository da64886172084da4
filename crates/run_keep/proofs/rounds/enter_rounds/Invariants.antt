use Rattle.std.proofs.Common.{◌≡◌, ◌+◌, length}
use Rattle.run_keep.specs.Rounds.{Rests}
use Rattle.run_keep.proofs.rounds.enter_rounds.Given as goal

abbrev pub invariant-loop : goal.invariant-loop
invariant-loop g l = record {
  rests : Rests l.initial.receipts l.receipts;
  counted : l.share.amount + length l.initial.receipts ≡ l.initial.share.amount + length l.receipts;
  parts : l.share.parts ≡ l.initial.share.parts;
}
