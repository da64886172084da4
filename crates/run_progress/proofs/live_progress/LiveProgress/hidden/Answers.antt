use Rattle.std.proofs.Common.{ap, ◌∙◌}
use Rattle.run_progress.specs.Progress.{Progress}
use Rattle.run_progress.specs.Seen.{is_hidden}
use Rattle.run_progress.proofs.StandsLemmas.{hiding_stands}
use Rattle.run_progress.proofs.live_progress.LiveProgress.hidden.Goals as goal

pub returns-clause-told : goal.returns-clause-told
returns-clause-told c told stands =
    c.is_any.ensures ∙ ap (λ (p : Progress). is_hidden p.seen.hiding) c.self.view_is
    ∙ ap is_hidden (hiding_stands told c.args.self.now stands)
