use Rattle.std.proofs.Common.{Some, ap, rules}
use Rattle.run_events.proofs.MomentLemmas.{moment_same}
use Rattle.run_input.proofs.plan_head.plain.Goals as goal

pub returns-in-Ok : goal.returns-in-Ok
returns-in-Ok c = ap (λ m. Some m) (moment_same c.in-Ok.plain c.args.moment (search rules))
