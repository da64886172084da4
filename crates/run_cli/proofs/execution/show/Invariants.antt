use Rattle.run_output.specs.Shown.{first_screen}
use Rattle.run_progress.specs.declared.max_running.MaxProgressRunning.TheVariants.{Count}
use Rattle.run_cli.proofs.execution.show.Given as goal

abbrev pub ghosts-show_at : goal.ghosts-show_at
ghosts-show_at g a = record {
  taken_before = g.K.Sink.taken a.sink;
  faults_before = g.K.Sink.faults a.sink;
  display = first_screen a.runner.plan.head.mode (Count 8) a.width a.clocks;
}
