use Rattle.std.proofs.Common.{◌∙◌, nat_eq, Bool, true, false, Option, Some, cond, ◌≡◌, refl, sym, ap}
use Rattle.std.specs.BTreeMap.{get}
use Rattle.std.specs.Cmp.{unsigned_ties}
use Rattle.std.specs.Option.{option_map_or}
use Rattle.std.specs.Ordering.{nat_cmp}
use Rattle.run_audit_machines.specs.Limits.{no_seat}
use Rattle.run_audit_passes.specs.LimitTable.{told_seat}
use Rattle.run_audit_passes.specs.declared.seat_told.SeatTold.{SeatTold}
use Rattle.run_audit_passes.proofs.limit_table.put.Goals as goal

at_put : (b : Bool) (new : SeatTold) (o : Option SeatTold)
    → option_map_or told_seat (cond b (Some new) o) no_seat ≡ cond b (told_seat new) (option_map_or told_seat o no_seat)
at_put true new o = refl
at_put false new o = refl

pub returns : goal.returns
returns c = λ q.
    ap (λ o. option_map_or told_seat o no_seat) (c.in_ok-insert.ensures.updates.0 q)
    ∙ ap (λ b. option_map_or told_seat (cond b (Some c.args.new) (get nat_cmp c.args.told.now q)) no_seat)
    (sym (unsigned_ties c.args.place q))
    ∙ at_put (nat_eq c.args.place q) c.args.new (get nat_cmp c.args.told.now q)
