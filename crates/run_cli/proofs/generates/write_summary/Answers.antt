use Rattle.run_cli.proofs.generates.write_summary.Goals as goal

pub returns-clause-front : goal.returns-clause-front
returns-clause-front g c = rw c.in_ok-line.ensures at c.write_line.ensures.front
