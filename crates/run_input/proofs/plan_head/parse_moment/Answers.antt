use Rattle.std.proofs.Common.{ap, sym, ◌∙◌, option_and_then}
use Rattle.std.specs.Result.{result_ok}
use Rattle.run_input.specs.PlanHead.{moment_at}
use Rattle.run_input.proofs.MomentLemmas.{moment_at-nanosecond}
use Rattle.run_input.proofs.plan_head.parse_moment.Goals as goal

pub returns-in-Ok : goal.returns-in-Ok
returns-in-Ok c =
    let read = c.in-Ok.ensures.value in
    c.plain.ensures ∙ sym (moment_at-nanosecond c.in-Ok.moment) ∙ ap (λ r. option_and_then moment_at (result_ok r)) read
