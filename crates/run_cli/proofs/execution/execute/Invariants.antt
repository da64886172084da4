use Rattle.run_cli.proofs.execution.execute.Given as goal

abbrev pub ghosts-execute_at : goal.ghosts-execute_at
ghosts-execute_at g a = record { taken_before = g.K.Sink.taken a.sink; faults_before = g.K.Sink.faults a.sink }
