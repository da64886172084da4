use Rattle.std.proofs.Common.{◌≡◌, ◌∙◌, Some, refl, sym}
use Rattle.run_jobs.specs.Next.{settings_where}
use Rattle.run_jobs.specs.States.{ready_jobs}
use Rattle.run_jobs.proofs.RunLemmas.{list_error, settings_there}
use Rattle.run_jobs.proofs.wave.run_next.Goals as goal

pub returns-in-Err-run_list : goal.returns-in-Err-run_list
returns-in-Err-run_list g c =
    let batch = c.args.jobs.now in
    let ks = ready_jobs batch.jobs c.args.states.now c.args.wave in
    let there : settings_where batch ks ≡ Some c.in-Ok-Some.runner =
    sym c.in-Ok-Some.ensures ∙ c.in-Ok-Some.field-0-is in
    let is = settings_there batch ks c.in-Ok-Some.runner there in
    list_error g.R.Reporter.told g.C.Children.asked _ batch ks c.args.turns.now c.args.wave c.in-Ok-Some.runner
    c.in-Some.list.now c.in-Err-run_list.error is.1 is.0 (sym c.in-Some.ensures) c.in-Err-run_list.ensures

pub returns-in-None : goal.returns-in-None
returns-in-None g c =
    let batch = c.args.jobs.now in
    let ks = ready_jobs batch.jobs c.args.states.now c.args.wave in
    let there : settings_where batch ks ≡ Some c.in-Ok-Some.runner =
    sym c.in-Ok-Some.ensures ∙ c.in-Ok-Some.field-0-is in
    (refl, (settings_there batch ks c.in-Ok-Some.runner there).0, sym c.in-None.ensures, (refl, refl))
