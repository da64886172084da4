use Rattle.run_report.proofs.both.BothReporter.took.Goals as goal

pub returns-clause-turns : goal.returns-clause-turns
returns-clause-turns g c = λ turns told.
    (c.took.ensures.turns turns told.0, c.hear_turn.ensures.turns turns told.1)
