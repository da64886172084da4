use Rattle.run_engine.proofs.PartLemmas.{on_err, part_none}
use Rattle.run_engine.proofs.carry.act.Goals as goal

pub returns-in_err-effects-clause-part : goal.returns-in_err-effects-clause-part
returns-in_err-effects-clause-part g c =
    on_err c.from_residual.result _ (part_none g.R.Reporter.told g.C.Children.asked g.R.Reporter.faults
    c.args.report.now c.args.children.now _ _ _)
