use Rattle.std.proofs.lemmas.List.Edits.{map_over_more}
use Rattle.run_progress.specs.Edits.{paused_more}
use Rattle.run_progress.proofs.edits.delay_each.Goals as goal

pub loop-running-preserved : goal.loop-running-preserved
loop-running-preserved c =
    rw (c.delay_one.ensures, ← c.running-item.is)
    (map_over_more (paused_more c.args.pause) _ _ _ _ c.loop-running-test.true
    c.loop-running.invariant c.running-item.is)
