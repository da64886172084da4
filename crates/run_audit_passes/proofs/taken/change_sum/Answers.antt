use Rattle.run_audit_passes.proofs.TakenLemmas.{sum_put}
use Rattle.run_audit_passes.proofs.taken.change_sum.Goals as goal

pub returns-clause-sums : goal.returns-clause-sums
returns-clause-sums c =
    sum_put c.args.sums.now c.insert.new.self c.in_ok-key.key c.args.name.now c.in_ok-sum.sum c.in_ok-key.ensures
    (λ k. c.in_ok-insert.ensures.updates.0 k)
