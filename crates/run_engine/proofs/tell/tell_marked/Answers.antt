use Rattle.std.proofs.Common.{[], ◌∷◌}
use Rattle.run_engine.proofs.PartLemmas.{on_err, some_none}
use Rattle.run_engine.proofs.tell.tell_marked.Goals as goal

pub returns-in_err-refusal-clause-part : goal.returns-in_err-refusal-clause-part
returns-in_err-refusal-clause-part g c =
    on_err c.from_residual.result _ (some_none g.R.Reporter.told c.args.report.now c.tell_one.new.report _ _
    (c.args.event.now ∷ [])
    c.in_err-refusal.ensures.none c.in_err-refusal.ensures.still)
