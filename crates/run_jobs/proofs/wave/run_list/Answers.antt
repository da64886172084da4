use Rattle.std.proofs.Common.{sym, subst}
use Rattle.run_jobs.specs.Heard.{HasResults}
use Rattle.run_jobs.proofs.RunLemmas.{wave_runs}
use Rattle.run_jobs.proofs.wave.run_list.Goals as goal

pub returns-in-Ok-hear_wave : goal.returns-in-Ok-hear_wave
returns-in-Ok-hear_wave g c =
    wave_runs g.R.Reporter.told g.C.Children.asked _ c.args.runner c.args.turns.now c.in-Ok.outcome
    c.ended_cancelled.result c.in-Ok-hear_wave.results c.in-Ok.ensures.executes
    (subst (λ p. HasResults p c.args.turns.now c.in-Ok-hear_wave.results) (sym c.requires.runner)
    c.in-Ok-hear_wave.ensures) c.ended_cancelled.ensures
