use Rattle.std.proofs.lemmas.Result.{IfOk-weaker}
use Rattle.run_audit.proofs.StopLemmas.{shape_stops}
use Rattle.run_audit.proofs.stops.shape_stop.Goals as goal

pub returns : goal.returns
returns c =
    let a = c.args in
    IfOk-weaker c.shape_place.result _ _ (λ stop places. shape_stops a.needs.now a.told.now a.events.now
    c.count_parts-parts.result stop c.count_parts-parts.ensures places) c.shape_place.ensures
