-- The run is on its way, and has taken as many turns as the loop was gone through.
use Rattle.std.proofs.Common.{◌≡◌, ◌≤◌}
use Rattle.run_generate.specs.OnWay.{IsOnWay}
use Rattle.run_generate.proofs.generated.carry_out.Given as goal

abbrev pub invariant-loop : goal.invariant-loop
invariant-loop l = record {
  way : IsOnWay l.run;
  settings : l.run.run.settings ≡ l.fn.run.run.settings;
  long : l.counter ≤ l.run.run.turns;
}
