use Rattle.std.proofs.Common.{rules}
use Rattle.run_progress.proofs.StartLemmas.{paused_each_from_retain}
use Rattle.run_progress.proofs.tests_by_start.delay_each.Goals as goal

pub returns : goal.returns
returns c =
    paused_each_from_retain _ _ c.args.pause (λ k v b w f' t. search rules) _ _ c.retain.ensures.filtered
