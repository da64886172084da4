use Rattle.std.proofs.Common.{◌≡◌, take}
use Rattle.run_cli.specs.Clocks.{turn_clocks, clock_after_all}
use Rattle.run_cli.proofs.clocks.turn_clocks.Given as goal

abbrev pub invariant-loop-turn : goal.invariant-loop-turn
invariant-loop-turn l = (l.clocks ≡ turn_clocks 0 (take l.turn-index l.turns))
    × (l.now ≡ clock_after_all 0 (take l.turn-index l.turns))
