use Rattle.std.proofs.Common.{◌<◌, ◌∙◌, length, sym, ap, subst}
use Rattle.std.specs.BTreeMap.{get}
use Rattle.std.specs.Ordering.{nat_cmp}
use Rattle.run_audit_passes.specs.LimitTable.{told_seat}
use Rattle.run_audit_passes.proofs.TableLemmas.{seats_changed, seats_long, table_whole}
use Rattle.run_audit_passes.proofs.limit.LimitPart.set.Goals as goal

pub change-requires : goal.change-requires
change-requires c =
    subst (λ n. c.args.place < n)
    (sym (ap (λ now. length now.seats) c.self.view_is)
    ∙ seats_long (get nat_cmp c.self.inside.table.told) 0 c.self.inside.settings.now.plan.tests) c.requires

pub invariant_of-self-2 : goal.invariant_of-self-2
invariant_of-self-2 c = record {
  placed = c.self.invariant.placed;
  limited = c.self.invariant.limited;
  whole = table_whole c.self.inside.settings.now c.self.inside.table c.change.new.table c.args.place
      (told_seat c.args.new) c.in_ok-kept.kept
      (subst (λ n. c.args.place < n)
      (sym (ap (λ now. length now.seats) c.self.view_is)
      ∙ seats_long (get nat_cmp c.self.inside.table.told) 0 c.self.inside.settings.now.plan.tests) c.requires)
      (λ test is. c.in_ok-kept.ensures test is c.self.invariant.limited (c.self.invariant.whole c.if-broken.false));
}

pub returns : goal.returns
returns c = seats_changed c.self.inside.settings.now c.self.inside.table c.change.new.table c.args.place
    (told_seat c.args.new) c.in_ok-kept.kept c.args.self.now c.self.view_is
    (λ test is. c.in_ok-kept.ensures test is c.self.invariant.limited (c.self.invariant.whole c.if-broken.false))
