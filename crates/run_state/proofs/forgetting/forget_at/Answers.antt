use Rattle.std.proofs.Common.{◌<◌, ◌≤◌, length, get_or, set, None, ap, sym, ◌∙◌, arith}
use Rattle.std.proofs.lemmas.List.{get_or_default, set_past}
use Rattle.run_state.specs.Forgotten.{forgotten}
use Rattle.run_state.proofs.forgetting.forget_at.Goals as goal

pub returns-then-unit-len : goal.returns-then-unit-len
returns-then-unit-len c =
    let us = c.args.units.now.items in
    let past : length us ≤ c.args.unit = omega arith in
    sym (set_past us c.args.unit (forgotten (get_or us c.args.unit None)) past)

pub returns : goal.returns
returns c =
    let us = c.args.units.now.items in
    let k = c.args.unit in
    let inside : k < length us = omega arith in
    ap (λ v. set us k v) (c.forget_unit.ensures
    ∙ ap forgotten (c.index_mut.ensures.value ∙ get_or_default us k c.index_mut.result.now None inside))
