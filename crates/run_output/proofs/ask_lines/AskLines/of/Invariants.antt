use Rattle.std.proofs.Common.{◌≡◌, take}
use Rattle.run_output.specs.Asks.{ask_lines}
use Rattle.run_output.proofs.ask_lines.AskLines.of.Given as goal

abbrev pub invariant-loop-turn : goal.invariant-loop-turn
invariant-loop-turn l = l.lines ≡ ask_lines (take l.turn-index l.asks)
