use Rattle.run_jobs_cli.proofs.runs.run_lists.Given as goal

abbrev pub ghosts-run_at : goal.ghosts-run_at
ghosts-run_at g a = record { taken_before = g.K.Sink.taken a.sink; faults_before = g.K.Sink.faults a.sink }
