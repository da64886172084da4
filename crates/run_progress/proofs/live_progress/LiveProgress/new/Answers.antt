use Rattle.std.proofs.Common.{◌∙◌, List, ap, sym}
use Rattle.run_progress.specs.declared.running_test.RunningTest.{RunningTest}
use Rattle.run_progress.specs.declared.seen.Seen.{Seen}
use Rattle.run_progress.proofs.DisplayLemmas.{seen_of-nil, seen_with}
use Rattle.run_progress.proofs.StandsLemmas.{with_tests}
use Rattle.run_progress.proofs.live_progress.LiveProgress.new.Goals as goal

pub returns-clause-told : goal.returns-clause-told
returns-clause-told c = record {
  seen_is = ap (λ (seen : Seen). with_tests seen c.none.result) c.nothing.ensures
      ∙ ap (λ (tests : List RunningTest). seen_with tests) c.none.ensures ∙ sym (seen_of-nil c.args.max);
}
