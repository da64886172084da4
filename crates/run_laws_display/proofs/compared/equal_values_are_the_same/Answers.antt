use Rattle.std.proofs.Common.{rules, ◌<◌, ap}
use Rattle.std.proofs.Math.Bridge.{le_prop}
use mathlib.Core.HLevel.{is_prop→PathP}
use Rattle.run_commands.specs.declared.stress_count.StressCount.TheVariants as counts
use Rattle.run_commands.specs.TargetRunner.{runner_with, runners_with}
use Rattle.run_events.specs.declared.stress.StressProgress.TheVariants as progress
use Rattle.run_dispatch.specs.declared.stress.StressLoopAction.TheVariants as actions
use Rattle.run_laws_display.proofs.Sameness.{both, options, numbers, texts, lists_of_texts}
use Rattle.run_laws_display.proofs.compared.equal_values_are_the_same.Goals as goal

pub returns-clause-stress_count : goal.returns-clause-stress_count
returns-clause-stress_count c (counts.Count n) (counts.Count m) = (
  λ e. let p = (numbers n.value m.value).0 e in
      let above_0 = is_prop→PathP (λ j. 0 < p j) (λ j x y. le_prop x y) n.ok m.ok in
      λ i. counts.Count (record { value = p i; ok = above_0 i }),
  λ e. search rules,
)
returns-clause-stress_count c (counts.Count n) counts.Infinite = search rules
returns-clause-stress_count c counts.Infinite (counts.Count m) = search rules
returns-clause-stress_count c counts.Infinite counts.Infinite = search rules

pub returns-clause-stress_progress : goal.returns-clause-stress_progress
returns-clause-stress_progress c (progress.Count t e n) (progress.Count u f m) =
    let parts = both _ _ (returns-clause-stress_count c t u) (both _ _ (numbers e f) (numbers n m)) in
    (λ h. let p = parts.0 h in λ i. progress.Count (p.0 i) (p.1.0 i) (p.1.1 i), λ h. search rules)
returns-clause-stress_progress c (progress.Count t e n) (progress.Time u f m) = search rules
returns-clause-stress_progress c (progress.Time t e n) (progress.Count u f m) = search rules
returns-clause-stress_progress c (progress.Time t e n) (progress.Time u f m) = search rules

pub returns-clause-stress_action : goal.returns-clause-stress_action
returns-clause-stress_action c (actions.Continue a) (actions.Continue b) =
    let next = returns-clause-stress_progress c a b in (λ e. ap actions.Continue (next.0 e), λ e. next.1 cc)
returns-clause-stress_action c (actions.Continue a) actions.Stop = search rules
returns-clause-stress_action c actions.Stop (actions.Continue b) = search rules
returns-clause-stress_action c actions.Stop actions.Stop = search rules

pub returns-clause-runner_source : goal.returns-clause-runner_source
returns-clause-runner_source c = search rules

pub returns-clause-runner : goal.returns-clause-runner
returns-clause-runner c a b =
    let rest = both _ _ (lists_of_texts a.args b.args) (returns-clause-runner_source c a.source b.source) in
    let parts = both _ _ (texts a.runner_binary b.runner_binary) rest in (
      λ h. let p = parts.0 h in λ i. runner_with (p.0 i) (p.1.0 i) (p.1.1 i),
      λ h. parts.1 (λ i. (h i).runner_binary, (λ i. (h i).args, λ i. (h i).source)),
    )

pub returns-clause-runners : goal.returns-clause-runners
returns-clause-runners c a b =
    let each = options _ (returns-clause-runner c) in
    let parts = both _ _ (each a.host b.host) (each a.target b.target) in
    (λ h. let p = parts.0 h in λ i. runners_with (p.0 i) (p.1 i), λ h. parts.1 (λ i. (h i).host, λ i. (h i).target))
