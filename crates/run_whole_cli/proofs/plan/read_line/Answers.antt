use Rattle.std.proofs.Common.{rules, arith}
use Rattle.run_whole_cli.proofs.plan.read_line.Goals as goal

pub returns-in-Ok-clause-ok : goal.returns-in-Ok-clause-ok
returns-in-Ok-clause-ok c = record { within = omega arith; says = search rules }
