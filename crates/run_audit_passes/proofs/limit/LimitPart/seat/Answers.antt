use Rattle.std.specs.Prelude.{slice_get}
use Rattle.std.proofs.Common.{◌≡◌, ◌∙◌, Some, sym, subst}
use Rattle.std.specs.BTreeMap.{get}
use Rattle.std.specs.Ordering.{nat_cmp}
use Rattle.std.proofs.lemmas.Result.{IfOk-weaker}
use Rattle.run_audit_passes.proofs.TableLemmas.{seat_read}
use Rattle.run_audit_passes.proofs.limit.LimitPart.seat.Goals as goal

pub returns : goal.returns
returns c = IfOk-weaker c.seat.result _ _ (λ told is s at.
    is ∙ (seat_read (get nat_cmp c.self.inside.table.told) c.args.place c.self.inside.settings.now.plan.tests s
    (subst (λ now. slice_get now.seats c.args.place ≡ Some s) (sym c.self.view_is) at)).1) c.seat.ensures
