use Rattle.std.proofs.Common.{◌∙◌, ◌∷◌, ◌+◌, add-one, drop, drop-cons, get_or, sym, ap}
use Rattle.run_audit.specs.Told.{cancels_all}
use Rattle.run_audit.proofs.due.cancels_due.Goals as goal

pub loop-event-preserved : goal.loop-event-preserved
loop-event-preserved c =
    let told = c.args.told.now in
    let parts = c.loop-event.parts.items in
    let due = c.loop-event.due.items in
    let i = c.loop-event.event-index in
    c.in_ok-due.ensures (drop (i + 1) told)
    ∙ ap (λ e. cancels_all c.args.stress parts due (e ∷ drop (i + 1) told)) c.event-item.is
    ∙ ap (λ n. cancels_all c.args.stress parts due (get_or told i c.event-item.result ∷ drop n told)) (add-one i)
    ∙ ap (cancels_all c.args.stress parts due) (sym (drop-cons told i c.event-item.result c.loop-event-test.true))
    ∙ c.loop-event.invariant
