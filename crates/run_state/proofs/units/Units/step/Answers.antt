use Rattle.std.proofs.Common.{◌≡◌, get_or, map, not, option_map, count_by, length, Some, None, ap, sym, ◌∙◌, arith}
use Rattle.std.proofs.lemmas.List.{get_or-set_same, length-set}
use Rattle.run_model.specs.Admission.{is_done, is_last}
use Rattle.run_model.specs.Story.{is_live_unit}
use Rattle.run_model.specs.Turns.{live_in}
use Rattle.run_model.specs.Unit.{row}
use Rattle.run_state.specs.Counted.{is_left, is_working, working_in}
use Rattle.run_state.proofs.CountedLemmas.{set_left, some_left, not_last, stands_inside}
use Rattle.run_state.proofs.HoldersLemmas.{counted_fits, counted_set, counted_within}
use Rattle.run_state.proofs.SeatLemmas.{acted}
use Rattle.run_state.proofs.WorkingLemmas.{flag-at, working-set}
use Rattle.run_state.proofs.units.Units.step.Goals as goal

pub left_after-self-inside-requires : goal.left_after-self-inside-requires
left_after-self-inside-requires c over =
    let us = c.self.inside.items.items in
    let u = c.requires.0 in
    let at : get_or us c.args.unit None ≡ Some u = rw (sym c.self.view_is) at c.requires.1 in
    some_left us c.args.unit c.self.inside.left c.self.invariant.0
    (ap is_left at ∙ ap not (not_last c.args.now u c.args.turn c.requires.2)) (stands_inside us c.args.unit u at)

pub count_after-self-inside-requires-clause-counted : goal.count_after-self-inside-requires-clause-counted
count_after-self-inside-requires-clause-counted c =
    let us = c.self.inside.items.items in
    let u = c.requires.0 in
    let at : get_or us c.args.unit None ≡ Some u = rw (sym c.self.view_is) at c.requires.1 in
    counted_within is_live_unit us c.args.unit c.self.inside.live c.is_live_at-was_live.result c.self.invariant.2
    (stands_inside us c.args.unit u at)
    (c.is_live_at-was_live.ensures ∙ ap (λ vs. is_live_unit (get_or vs c.args.unit None)) c.as_slice.ensures.value)

pub count_after-self-inside-requires-clause-room : goal.count_after-self-inside-requires-clause-room
count_after-self-inside-requires-clause-room c =
    let us = c.self.inside.items.items in
    let k = c.args.unit in
    let u = c.requires.0 in
    let v = (row c.args.now c.args.turn u).next in
    let at : get_or us k None ≡ Some u = rw (sym c.self.view_is) at c.requires.1 in
    let inside = stands_inside us k u at in
    let after = c.in_ok-effects.ensures.after ∙ acted c.args.now k c.args.turn us u at in
    counted_fits is_live_unit us k c.self.inside.live (Some v) c.is_live_at-was_live.result c.is_live_at.result
    c.self.invariant.2 inside c.self.invariant.3
    (c.is_live_at-was_live.ensures ∙ ap (λ vs. is_live_unit (get_or vs k None)) c.as_slice.ensures.value)
    (c.is_live_at.ensures ∙ ap (λ vs. is_live_unit (get_or vs k None)) (c.as_slice-2.ensures.value ∙ after)
    ∙ ap is_live_unit (get_or-set_same us k (Some v) None inside))

pub invariant_of-self-2 : goal.invariant_of-self-2
invariant_of-self-2 c =
    let us = c.self.inside.items.items in
    let k = c.args.unit in
    let u = c.requires.0 in
    let now = c.args.now in
    let turn = c.args.turn in
    let v = (row now turn u).next in
    let at : get_or us k None ≡ Some u = rw (sym c.self.view_is) at c.requires.1 in
    let inside = stands_inside us k u at in
    let going = not_last now u turn c.requires.2 in
    let over = c.in_ok-effects.effects.over in
    let ends : is_last v.phase ≡ over =
    sym (c.in_ok-effects.ensures.over ∙ ap (λ v. is_done (option_map (λ u. (row now turn u).next) v)) at) in
    let after = c.in_ok-effects.ensures.after ∙ acted now k turn us u at in
    let long = ap length after in
    let same = length-set us k (Some v) in (
      c.left_after-self-inside.ensures
          ∙ set_left us k c.self.inside.left v over c.self.invariant.0 (ap is_left at ∙ ap not going) inside ends
          ∙ sym (ap (count_by is_left) after),
      working-set us k v over c.leave.new.numbers.items ends
          (c.leave.ensures (map is_working us) c.self.invariant.1
          (flag-at us k None _ (ap is_working at ∙ ap not going)))
          ∙ sym (ap working_in after),
      counted_set is_live_unit us k c.self.inside.live c.count_after-self-inside.result (Some v)
          c.is_live_at-was_live.result c.is_live_at.result c.self.invariant.2 inside
          (c.is_live_at-was_live.ensures ∙ ap (λ vs. is_live_unit (get_or vs k None)) c.as_slice.ensures.value)
          (c.is_live_at.ensures ∙ ap (λ vs. is_live_unit (get_or vs k None)) (c.as_slice-2.ensures.value ∙ after)
          ∙ ap is_live_unit (get_or-set_same us k (Some v) None inside))
          c.count_after-self-inside.ensures
          ∙ sym (ap live_in after),
      omega (arith, c.self.invariant.3),
    )
