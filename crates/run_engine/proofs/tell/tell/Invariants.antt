use Rattle.std.proofs.Common.{◌≡◌, take, zip, length, is_none, not}
use Rattle.std.specs.List.{list_all}
use Rattle.run_events.specs.Tell.{Retains}
use Rattle.run_engine.specs.World.{TellsEvents, CountsErrors}
use Rattle.run_engine.proofs.tell.tell.Given as goal

abbrev pub invariant-loop-event : goal.invariant-loop-event
invariant-loop-event g l = record {
  answered : length l.refused ≡ l.event-index;
  marked : is_none l.refusal ≡ list_all not l.refused;
  told : TellsEvents g.R.Reporter.told l.initial.report l.report (zip (take l.event-index l.events) l.refused)
      l.refusal;
  faults : CountsErrors (g.R.Reporter.faults l.initial.report) (g.R.Reporter.faults l.report) l.refusal;
  turns : Retains g.R.Reporter.taken l.initial.report l.report;
}
