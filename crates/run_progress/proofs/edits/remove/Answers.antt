use Rattle.std.proofs.Common.{not, rules}
use Rattle.std.proofs.lemmas.Fn.{filter_same}
use Rattle.run_progress.specs.Deeds.{is_same}
use Rattle.run_progress.specs.declared.running_test.RunningTest.{RunningTest}
use Rattle.run_progress.proofs.edits.remove.Goals as goal

pub returns-clause-items : goal.returns-clause-items
returns-clause-items c =
    filter_same _ (λ (running : RunningTest). not (is_same running.test c.args.id.now)) _
    (λ x b f' k. search rules) _ _ c.retain.ensures.filtered
