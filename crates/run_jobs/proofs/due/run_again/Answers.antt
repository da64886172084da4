use Rattle.std.proofs.Common.{arith}
use Rattle.run_jobs.proofs.DueLemmas.{runs_again}
use Rattle.run_jobs.proofs.due.run_again.Goals as goal

pub returns : goal.returns
returns c =
    runs_again _ _ _ c.args.jobs.now c.args.turns.now c.run_due.new.states c.run_due.result
    c.run_due.ensures.says (λ rose. omega (arith, rose))
