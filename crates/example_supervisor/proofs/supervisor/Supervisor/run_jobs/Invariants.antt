-- The ledger stays up to date, and the run grows.
use Rattle.example_supervisor.specs.Reported.{Grows, IsUpToDate}
use Rattle.example_supervisor.proofs.supervisor.Supervisor.run_jobs.Given as goal

abbrev pub invariant-loop : goal.invariant-loop
invariant-loop l = record { told : IsUpToDate l.self; grows : Grows l.fn.self.run l.self.run }
