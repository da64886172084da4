use Rattle.std.proofs.Common.{◌∙◌, ◌+◌, ◌∷◌, [], length, length-append, ap}
use Rattle.run_audit.proofs.AccountLemmas.{one_empty}
use Rattle.run_audit.proofs.tests.none_due.Goals as goal

pub loop-preserved : goal.loop-preserved
loop-preserved c = (
  ap length c.in_ok-push.ensures.items ∙ length-append c.loop.due.items (c.new.result ∷ [])
      ∙ ap (λ n. n + 1) c.loop.invariant.0,
  rw c.in_ok-push.ensures.items (one_empty (λ queue. queue.items) c.loop.due.items c.new.result c.loop.invariant.1
      c.new.ensures.items),
)
