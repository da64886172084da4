use Rattle.run_progress.proofs.StandsLemmas.{hears, seen_apart}
use Rattle.run_progress.proofs.live_progress.LiveProgress.apply.Goals as goal

pub returns-clause-told : goal.returns-clause-told
returns-clause-told c =
    rw (← c.self.view_is)
    (hears _ _ _ (seen_apart c.self.inside.showing.max c.self.inside.seen c.hear_rest.new.self c.self.inside.tests
    c.hear.new.self c.args.event.now c.in_ok-hear.ensures.ok c.hear_rest.ensures))
