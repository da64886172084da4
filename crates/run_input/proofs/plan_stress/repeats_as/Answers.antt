use Rattle.std.proofs.Common.{ap, sym, subst, ◌∙◌, ℕ, ◌<◌, ◌^◌}
use Rattle.run_input.specs.PlanStress.{repeats_as}
use Rattle.run_input.proofs.StressLemmas.{repeats_as-value}
use Rattle.run_input.proofs.plan_stress.repeats_as.Goals as goal

pub returns-in-Some : goal.returns-in-Some
returns-in-Some c =
    let within = subst (λ (n : ℕ). n < 2 ^ 32) (sym c.in-Some.ensures) c.ranges.number.fits in
    sym (repeats_as-value c.in-Some.count within) ∙ ap repeats_as c.in-Some.ensures
