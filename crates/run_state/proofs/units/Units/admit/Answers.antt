use Rattle.std.proofs.Common.{◌≡◌, ◌<◌, length, map, get_or, None, Some, count_by, false, ap, sym, ◌∙◌, arith}
use Rattle.std.proofs.lemmas.List.{length-map, length-set}
use Rattle.run_model.specs.Story.{is_live_unit}
use Rattle.run_model.specs.Turns.{live_in}
use Rattle.run_state.specs.Counted.{is_left, is_working, working_in}
use Rattle.run_state.proofs.CountedLemmas.{set_left, some_left}
use Rattle.run_state.proofs.HoldersLemmas.{counted_fits, counted_set}
use Rattle.run_state.proofs.WorkingLemmas.{flag-at, working-set}
use Rattle.run_state.proofs.units.Units.admit.Goals as goal

pub left_after-self-inside-requires : goal.left_after-self-inside-requires
left_after-self-inside-requires c over =
    some_left c.self.inside.items.items c.args.place c.self.inside.left c.self.invariant.0
    (ap is_left (rw (sym c.self.view_is) at c.requires.absent)) (rw (sym c.self.view_is) at c.requires.within)

pub count_after-self-inside-requires-clause-room : goal.count_after-self-inside-requires-clause-room
count_after-self-inside-requires-clause-room c =
    let us = c.self.inside.items.items in
    let absent : get_or us c.args.place None ≡ None = rw (sym c.self.view_is) at c.requires.absent in
    counted_fits is_live_unit us c.args.place c.self.inside.live (Some c.args.unit) false c.is_live-live.result
    c.self.invariant.2 (rw (sym c.self.view_is) at c.requires.within) c.self.invariant.3
    (sym (ap is_live_unit absent)) c.is_live-live.ensures

pub invariant_of-self-2 : goal.invariant_of-self-2
invariant_of-self-2 c =
    let us = c.self.inside.items.items in
    let within : c.args.place < length us = rw (sym c.self.view_is) at c.requires.within in
    let absent : get_or us c.args.place None ≡ None = rw (sym c.self.view_is) at c.requires.absent in
    let listed : c.args.place < length (map is_working us) = omega (arith, length-map us is_working) in
    let long = ap length c.put.ensures in
    let same = length-set us c.args.place (Some c.args.unit) in (
      c.left_after-self-inside.ensures
          ∙ set_left us c.args.place c.self.inside.left c.args.unit c.is_over-over.result c.self.invariant.0
          (ap is_left absent) within (sym c.is_over-over.ensures)
          ∙ sym (ap (count_by is_left) c.put.ensures),
      working-set us c.args.place c.args.unit c.is_over-over.result c.admit.new.numbers.items
          (sym c.is_over-over.ensures)
          (c.in-Ok.ensures.ok (map is_working us) c.self.invariant.1 listed
          (flag-at us c.args.place None _ (ap is_working absent)))
          ∙ sym (ap working_in c.put.ensures),
      counted_set is_live_unit us c.args.place c.self.inside.live c.count_after-self-inside.result
          (Some c.args.unit) false
          c.is_live-live.result c.self.invariant.2 within (sym (ap is_live_unit absent)) c.is_live-live.ensures
          c.count_after-self-inside.ensures
          ∙ sym (ap live_in c.put.ensures),
      omega (arith, c.self.invariant.3),
    )
