use Rattle.std.specs.Prelude.{slice_get}
use Rattle.std.proofs.Common.{◌≡◌, ◌∙◌, length, Some, refl, sym, ap, subst}
use Rattle.std.specs.BTreeMap.{get}
use Rattle.std.specs.Ordering.{nat_cmp}
use Rattle.std.proofs.lemmas.Option.{same_Some, slice_get_read}
use Rattle.run_audit_passes.specs.LimitTable.{TakesSeat, told_seat, seats_now}
use Rattle.run_audit_passes.specs.declared.limit_table.LimitTable.{LimitTable}
use Rattle.run_audit_passes.proofs.TableLemmas.{are_own, seat_taken, seat_there}
use Rattle.run_audit_passes.proofs.limit_table.take.Goals as goal

pub returns : goal.returns
returns c = λ test is limits table.
    let p = c.args.settings.now in
    let before = c.args.table.now in
    let after : LimitTable = record {
      told = before.told;
      all = c.change_all.new.all;
      groups = c.change_groups.new.groups;
    } in
    let place = c.args.place in
    let own = c.index-as_slice-place.result in
    let new = told_seat c.args.new.now in
    let now = seats_now p before.told in
    let read : slice_get p.plan.tests place ≡ Some own =
    subst (λ tests. slice_get tests place ≡ Some own) c.as_slice.ensures
    (slice_get_read c.as_slice.result.now (length p.plan.tests) place own (sym (ap length c.as_slice.ensures))
    c.requires c.index-as_slice-place.is) in
    let there = seat_there (get nat_cmp before.told) place p.plan.tests own read
    ∙ ap (λ seat. Some (own, seat)) (sym c.in_ok-old.ensures) in
    let owns = are_own now place (own, told_seat c.in_ok-old.old) table.kept there in
    subst (λ t. TakesSeat p before after place (t, new) c.both.result) (same_Some own test (sym read ∙ is))
    (seat_taken p before after place (own, new) c.in_ok-all.all c.in_ok-groups.groups c.both.result table read
    (c.in_ok-all.ensures now.seats place table.all owns.0)
    (c.in_ok-groups.ensures p.plan.groups now.seats place limits table.groups owns.1) c.both.ensures refl)
