use Rattle.run_keep_host.specs.Lines.{IsLine}
use Rattle.run_keep_host.proofs.line_outside.LineOutside.first_line.Given as goal

abbrev pub invariant-loop : goal.invariant-loop
invariant-loop g l = IsLine l.line.items
