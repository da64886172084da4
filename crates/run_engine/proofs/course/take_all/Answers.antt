use Rattle.std.proofs.Common.{◌+◌, ◌<◌, length, take, sym, subst, arith}
use Rattle.std.proofs.lemmas.List.{take_all}
use Rattle.run_engine.specs.World.{outside}
use Rattle.run_engine.specs.Unkept.{TookAll}
use Rattle.run_engine.proofs.UnkeptLemmas.{has_taken_none, has_taken_more, stands_for, stops_at}
use Rattle.run_engine.proofs.course.take_all.Goals as goal

pub loop-place-init : goal.loop-place-init
loop-place-init g c =
    has_taken_none g.R.Reporter.told g.C.Children.asked g.R.Reporter.faults c.args.settings.now c.args.state.now
    c.args.report.now c.args.children.now c.requires.units c.requires.fresh

pub take_at-requires-clause-stands : goal.take_at-requires-clause-stands
take_at-requires-clause-stands g c =
    let was = c.loop-place in (
      was.invariant.journal,
      stands_for g.R.Reporter.told g.C.Children.asked _ c.args.settings.now c.args.turns.now was.place was.state
          was.first was.invariant (omega arith),
    )

pub loop-place-preserved : goal.loop-place-preserved
loop-place-preserved g c =
    let told = g.R.Reporter.told in
    let asked = g.C.Children.asked in
    let faults = g.R.Reporter.faults in
    let p = c.args.settings.now in
    let turns = c.args.turns.now in
    let was = c.loop-place in
    let new = c.take_at.new in
    let inside : was.place < length turns = omega arith in
    let stands = stands_for told asked _ p turns was.place was.state was.first was.invariant inside in
    subst (TookAll told asked (outside faults c.args.report.now new.report c.args.children.now new.children) p
    (take (was.place + 1) turns) new.state)
    (sym c.first_of-first.ensures)
    (has_taken_more told asked faults p turns was.place was.state new.state c.args.report.now was.report new.report
    c.args.children.now was.children new.children was.first c.in-Ok.refusal c.index-turns-place.result was.invariant
    inside c.requires.few c.index-turns-place.is (c.in-Ok.ensures.takes was.invariant.journal stands))

pub returns-in-Err-clause-stopped : goal.returns-in-Err-clause-stopped
returns-in-Err-clause-stopped g c =
    let told = g.R.Reporter.told in
    let asked = g.C.Children.asked in
    let p = c.args.settings.now in
    let turns = c.args.turns.now in
    let was = c.loop-place in
    let new = c.take_at.new in
    let inside : was.place < length turns = omega arith in
    let stands = stands_for told asked _ p turns was.place was.state was.first was.invariant inside in (
      was.invariant.journal,
      stops_at told asked g.R.Reporter.faults p turns was.place was.state c.args.report.now was.report new.report
          c.args.children.now was.children new.children was.first c.index-turns-place.result c.in-Err.stop was.invariant
          inside c.index-turns-place.is (c.in-Err.ensures.stops was.invariant.journal stands),
    )

pub returns-clause-ok : goal.returns-clause-ok
returns-clause-ok g c =
    let was = c.loop-place in
    subst (λ taken. TookAll g.R.Reporter.told g.C.Children.asked
    (outside g.R.Reporter.faults c.args.report.now was.report c.args.children.now was.children) c.args.settings.now
    taken was.state was.first)
    (take_all was.place c.args.turns.now (omega arith)) was.invariant
