use Rattle.std.proofs.Common.{sym, subst}
use Rattle.std.specs.HashMap.{get}
use Rattle.std.specs.Map.{lookup}
use Rattle.run_events.specs.declared.plan.TestInstanceId.{TestInstanceId}
use Rattle.run_progress.specs.Deeds.{is_same}
use Rattle.run_progress.specs.Starts.{FindsEach}
use Rattle.run_progress.proofs.StartLemmas.{Numbered}
use Rattle.run_progress.proofs.tests_by_start.Started.start.Goals as goal

pub invariant_of-self : goal.invariant_of-self
invariant_of-self c =
    let kept = c.in_err-put.ensures.err c.self.invariant in
    subst (λ es. FindsEach (λ (id : TestInstanceId). lookup (is_same id) es) c.self.inside.next
    c.put.new.tests.entries) (sym kept.1)
    (subst (λ (es : Numbered). FindsEach (get is_same c.self.inside.starts) c.self.inside.next es) (sym kept.0)
    c.self.invariant)
