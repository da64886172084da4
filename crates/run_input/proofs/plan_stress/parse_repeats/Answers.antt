use Rattle.std.proofs.Common.{ap, sym, ◌∙◌}
use Rattle.run_input.specs.PlanStress.{repeats_as}
use Rattle.run_input.proofs.StressLemmas.{says_word, says_number, says_nothing, says_same}
use Rattle.run_input.proofs.plan_stress.parse_repeats.Goals as goal

pub returns-in-Ok-Count : goal.returns-in-Ok-Count
returns-in-Ok-Count c =
    let says = says_same c.args.text.now _ _ c.in-Ok-Count.field-0-is c.in-Ok-Count.ensures.ok in
    c.repeats_as.ensures ∙ ap repeats_as c.get.ensures.value
    ∙ sym (says_number c.args.text.now c.in-Ok-Count.count.value says)

pub returns-in-Ok-Infinite : goal.returns-in-Ok-Infinite
returns-in-Ok-Infinite c =
    sym (says_word c.args.text.now (says_same c.args.text.now _ _ c.in-Ok-Infinite.field-0-is
    c.in-Ok-Infinite.ensures.ok))

pub returns-in-Err : goal.returns-in-Err
returns-in-Err c = sym (says_nothing c.args.text.now c.in-Err.ensures.err)
