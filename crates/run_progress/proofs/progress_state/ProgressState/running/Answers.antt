use Rattle.std.proofs.Common.{◌≡◌, ◌∙◌, Some, rules}
use Rattle.run_progress.specs.Progress.{tests_shown}
use Rattle.run_progress.proofs.StandsLemmas.{tests_stand}
use Rattle.run_progress.proofs.progress_state.ProgressState.running.Goals as goal

pub returns-then-shows_tests-clause-told : goal.returns-then-shows_tests-clause-told
returns-then-shows_tests-clause-told c told stands =
    let seen : Some c.as_slice.result.now ≡ tests_shown c.args.self.now = search rules in
    seen ∙ tests_stand told c.args.self.now stands
