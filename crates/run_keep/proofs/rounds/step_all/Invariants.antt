use Rattle.std.proofs.Common.{◌≡◌, ◌+◌, length, None}
use Rattle.run_keep.specs.Rounds.{StepsTo}
use Rattle.run_keep.proofs.rounds.step_all.Given as goal

abbrev pub invariant-loop : goal.invariant-loop
invariant-loop g l = record {
  steps : StepsTo g.K.Ticker.has_told l.initial.ticker l.ticker None l.initial.receipts l.receipts;
  counted : l.share.amount + length l.initial.receipts ≡ l.initial.share.amount + length l.receipts;
  parts : l.share.parts ≡ l.initial.share.parts;
}
