use Rattle.std.proofs.Common.{◌∙◌, sym}
use Rattle.std.proofs.lemmas.Result.{IfOk-weaker}
use Rattle.run_audit.proofs.DueStopLemmas.{script_some, script_stops, scripts_hold}
use Rattle.run_audit.proofs.stops.script_stop.Goals as goal

pub script_place-requires : goal.script_place-requires
script_place-requires c =
    let a = c.args in
    scripts_hold a.needs.now.stress a.told.now c.in_ok-coming.coming.items c.in-Some.law c.requires
    c.in_ok-coming.ensures (sym c.new.ensures ∙ c.in-Some.is)

pub returns-in-Some : goal.returns-in-Some
returns-in-Some c =
    let a = c.args in
    IfOk-weaker c.script_place.result _ _ (λ stop places. script_stops a.needs.now a.told.now a.events.now
    c.in_ok-coming.coming.items c.in-Some.law stop c.in_ok-coming.ensures (sym c.new.ensures ∙ c.in-Some.is) places)
    c.script_place.ensures

pub returns-in-None : goal.returns-in-None
returns-in-None c =
    let a = c.args in
    script_some a.needs.now a.told.now a.events.now c.in_ok-coming.coming.items c.in_ok-coming.ensures
    (sym c.new.ensures ∙ c.in-None.is)
