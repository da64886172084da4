use Rattle.run_engine.proofs.PartLemmas.{on_err, part_unasked, part_some}
use Rattle.run_engine.proofs.carry.say.Goals as goal

pub returns-in_err-ask-clause-part : goal.returns-in_err-ask-clause-part
returns-in_err-ask-clause-part g c =
    on_err c.from_residual.result _ (part_unasked g.R.Reporter.told g.C.Children.asked g.R.Reporter.faults
    c.args.report.now c.args.children.now
    c.ask.new.children c.args.place c.args.effects.now.events c.args.effects.now.asked c.in_err-ask.ensures.err)

pub returns-in_err-told-clause-part : goal.returns-in_err-told-clause-part
returns-in_err-told-clause-part g c =
    on_err c.from_residual-in_err-told.result _ (part_some g.R.Reporter.told g.C.Children.asked g.R.Reporter.faults
    c.args.report.now c.tell.new.report
    c.args.children.now c.ask.new.children c.args.place c.args.effects.now.events c.args.effects.now.asked
    c.in_ok-ask.ensures.ok
    (rw c.as_slice.ensures at c.in_err-told.ensures.part))
