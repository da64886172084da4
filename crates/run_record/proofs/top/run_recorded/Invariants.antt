use Rattle.std.proofs.Common.{[]}
use Rattle.run_record.proofs.top.run_recorded.Given as goal

abbrev pub ghosts-run_at : goal.ghosts-run_at
ghosts-run_at g a = record {
  taken_before = g.F.Sink.taken a.store;
  faults_before = g.F.Sink.faults a.store;
  plan_line = a.line.now;
  unheard = g.B.Listener.taken a.report [];
}
