use Rattle.std.proofs.Common.{◌≡◌, ◌+◌, length, true}
use Rattle.run_drive.specs.Ticked.{TicksOn}
use Rattle.run_drive.proofs.ticking.tick_all.Given as goal

abbrev pub invariant-loop : goal.invariant-loop
invariant-loop g l = record {
  ticks : TicksOn g.T.Ticker.has_told l.initial.ticker l.ticker true l.initial.work l.work;
  counted : l.share.amount + length l.initial.work.receipts
      ≡ l.initial.share.amount + length l.work.receipts;
  parts : l.share.parts ≡ l.initial.share.parts;
}
