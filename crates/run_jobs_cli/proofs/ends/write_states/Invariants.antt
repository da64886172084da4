use Rattle.std.proofs.Common.{◌≡◌}
use Rattle.run_jobs_cli.proofs.EndLemmas.{WroteStates}
use Rattle.run_jobs_cli.proofs.ends.write_states.Given as goal

abbrev pub invariant-loop-job : goal.invariant-loop-job
invariant-loop-job g l = record {
  wrote : WroteStates l.jobs l.states (g.K.Sink.taken l.initial.sink) (g.K.Sink.taken l.sink) l.job;
  calm : g.K.Sink.faults l.sink ≡ g.K.Sink.faults l.initial.sink;
}
