use Rattle.std.proofs.Common.{◌≡◌, ◌+◌, length}
use Rattle.run_keep.specs.Halted.{Halts}
use Rattle.run_keep.specs.Listened.{HearsOn}
use Rattle.run_keep.proofs.hearing.hear_on.Given as goal

abbrev pub invariant-loop : goal.invariant-loop
invariant-loop g l = record {
  listens : HearsOn g.O.Outside.has_come l.initial.outside l.outside l.hearing l.initial.hand.held l.hand.held
      l.initial.work l.work;
  halts : Halts g.H.Halter.has_halted l.initial.halter l.halter l.initial.stops.halts l.stops.halts;
  counted : l.share.amount + length l.initial.work.receipts ≡ l.initial.share.amount + length l.work.receipts;
  parts : l.share.parts ≡ l.initial.share.parts;
}
