use Rattle.std.proofs.Common.{◌≡◌, [], Some, sym, ap, ◌∙◌, option_and_then, option_map, slice_set, unwrap_or}
use Rattle.std.proofs.lemmas.Option.{same_Some}
use Rattle.run_model.specs.declared.unit_view.UnitView.{UnitView}
use Rattle.run_model.specs.Admission.{is_done}
use Rattle.run_model.specs.Unit.{row, takes}
use Rattle.run_state.proofs.CountedLemmas.{stands_same}
use Rattle.run_state.proofs.SeatLemmas.{acted}
use Rattle.run_state.proofs.units.step_at.Goals as goal

pub step-requires-clause-enabled : goal.step-requires-clause-enabled
step-requires-clause-enabled c =
    let us = c.args.units.now.items in
    let u = c.requires.0 in
    let same : Some c.in-Some.member ≡ Some u =
    sym c.in-Some.is ∙ c.index_mut.ensures.value
    ∙ stands_same us c.args.unit u c.index_mut.result.now c.requires.1 in
    ap (λ (v : UnitView). takes c.args.now v c.args.turn) (same_Some _ _ same) ∙ c.requires.2

pub returns-clause-sent : goal.returns-clause-sent
returns-clause-sent c =
    let us = c.args.units.now.items in
    let u = c.requires.0 in
    let same : Some c.in-Some.member ≡ Some u =
    sym c.in-Some.is ∙ c.index_mut.ensures.value
    ∙ stands_same us c.args.unit u c.index_mut.result.now c.requires.1 in
    c.in_ok-effects-in-Some.ensures.row.sent
    ∙ sym (ap (option_and_then (λ (v : UnitView). (row c.args.now c.args.turn v).sent)) (c.requires.1 ∙ sym same))

pub returns-clause-asked : goal.returns-clause-asked
returns-clause-asked c =
    let us = c.args.units.now.items in
    let u = c.requires.0 in
    let same : Some c.in-Some.member ≡ Some u =
    sym c.in-Some.is ∙ c.index_mut.ensures.value
    ∙ stands_same us c.args.unit u c.index_mut.result.now c.requires.1 in
    c.in_ok-effects-in-Some.ensures.row.asked
    ∙ sym (ap (option_and_then (λ (v : UnitView). (row c.args.now c.args.turn v).asked)) (c.requires.1 ∙ sym same))

pub returns-clause-info : goal.returns-clause-info
returns-clause-info c =
    let us = c.args.units.now.items in
    let u = c.requires.0 in
    let same : Some c.in-Some.member ≡ Some u =
    sym c.in-Some.is ∙ c.index_mut.ensures.value
    ∙ stands_same us c.args.unit u c.index_mut.result.now c.requires.1 in
    c.in_ok-effects-in-Some.ensures.row.info
    ∙ sym (ap (λ o. unwrap_or (option_map (λ (v : UnitView). (row c.args.now c.args.turn v).info) o) [])
    (c.requires.1 ∙ sym same))

pub returns-clause-over : goal.returns-clause-over
returns-clause-over c =
    let us = c.args.units.now.items in
    let u = c.requires.0 in
    let same : Some c.in-Some.member ≡ Some u =
    sym c.in-Some.is ∙ c.index_mut.ensures.value
    ∙ stands_same us c.args.unit u c.index_mut.result.now c.requires.1 in
    c.in_ok-effects-in-Some.ensures.row.over
    ∙ ap (λ (v : UnitView). is_done (Some v)) c.in_ok-effects-in-Some.ensures.row.next
    ∙ sym (ap (λ v. is_done (option_map (λ (u : UnitView). (row c.args.now c.args.turn u).next) v))
    (c.requires.1 ∙ sym same))

pub returns-clause-after : goal.returns-clause-after
returns-clause-after c =
    let us = c.args.units.now.items in
    let u = c.requires.0 in
    let now = c.args.now in
    let turn = c.args.turn in
    let same : Some c.in-Some.member ≡ Some u =
    sym c.in-Some.is ∙ c.index_mut.ensures.value
    ∙ stands_same us c.args.unit u c.index_mut.result.now c.requires.1 in
    ap (λ (v : UnitView). slice_set us c.args.unit (Some v))
    (c.in_ok-effects-in-Some.ensures.row.next ∙ ap (λ (v : UnitView). (row now turn v).next) (same_Some _ _ same))
    ∙ sym (acted now c.args.unit turn us u c.requires.1)
