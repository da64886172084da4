use Rattle.std.proofs.Common.{◌∙◌, sym}
use Rattle.std.proofs.lemmas.Result.{IfOk-weaker}
use Rattle.run_audit.proofs.DueStopLemmas.{test_some, test_stops, tests_hold}
use Rattle.run_audit.proofs.stops.account_stop.Goals as goal

pub test_place-requires : goal.test_place-requires
test_place-requires c =
    let a = c.args in
    tests_hold a.needs.now a.told.now c.in_ok-coming.coming.items c.in-Some.law c.requires.places c.requires.plain
    c.in_ok-coming.ensures (sym c.new.ensures ∙ c.in-Some.is)

pub returns-in-Some : goal.returns-in-Some
returns-in-Some c =
    let a = c.args in
    IfOk-weaker c.test_place.result _ _ (λ stop places. test_stops a.needs.now a.told.now a.events.now
    c.in_ok-coming.coming.items c.in-Some.law stop c.in_ok-coming.ensures (sym c.new.ensures ∙ c.in-Some.is) places)
    c.test_place.ensures

pub returns-in-None : goal.returns-in-None
returns-in-None c =
    let a = c.args in
    test_some a.needs.now a.told.now a.events.now c.in_ok-coming.coming.items c.in_ok-coming.ensures
    (sym c.new.ensures ∙ c.in-None.is)
