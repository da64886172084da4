use Rattle.std.proofs.Common.{sym, ◌∙◌}
use Rattle.run_input.proofs.ValueLemmas.{value_of-read, value_of-float}
use Rattle.run_input.proofs.value.read_value.Goals as goal

pub returns-then-value_has_float-clause-refused : goal.returns-then-value_has_float-clause-refused
returns-then-value_has_float-clause-refused c = λ _.
    value_of-float _ _ c.in_ok-value.ensures.ok.0 c.in_ok-value.ensures.ok.1
    (sym c.value_has_float.ensures ∙ c.if-value_has_float.true)

pub returns-clause-ok : goal.returns-clause-ok
returns-clause-ok c =
    value_of-read _ _ c.in_ok-value.ensures.ok.0 c.in_ok-value.ensures.ok.1
    (sym c.value_has_float.ensures ∙ c.if-value_has_float.false)
