use Rattle.std.proofs.Common.{◌∙◌, sym}
use Rattle.std.proofs.lemmas.Result.{IfOk-weaker}
use Rattle.run_audit.proofs.StopLemmas.{cancel_some, cancel_stops}
use Rattle.run_audit.proofs.stops.cancel_stop.Goals as goal

pub returns-in-Some : goal.returns-in-Some
returns-in-Some c =
    let a = c.args in
    IfOk-weaker c.cancel_place.result _ _ (λ stop places. cancel_stops a.needs.now a.told.now a.events.now
    c.in_ok-coming.coming.items c.in-Some.law stop c.in_ok-coming.ensures (sym c.new.ensures ∙ c.in-Some.is) places)
    c.cancel_place.ensures

pub returns-in-None : goal.returns-in-None
returns-in-None c =
    let a = c.args in
    cancel_some a.needs.now a.told.now a.events.now c.in_ok-coming.coming.items c.in_ok-coming.ensures
    (sym c.new.ensures ∙ c.in-None.is)
