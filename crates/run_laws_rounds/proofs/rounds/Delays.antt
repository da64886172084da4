-- The last status of a list with one more, and the timer of a delay after one more turn: as in `AfterLemmas` of
-- run_laws, where they are private.
use Rattle.std.proofs.Common.{◌≡◌, List, [], ◌∷◌, ◌++◌, false, if◌then◌else◌, Some, None, unwrap_or, refl, ap, ◌∙◌}
use Rattle.std.specs.Option.{option_or}
use Rattle.run_clock.specs.Counted.{Mark}
use Rattle.run_events.specs.declared.result.ExecuteStatus.{ExecuteStatus}
use Rattle.run_events.specs.declared.retry_policy.RetryPolicy.{RetryPolicy}
use Rattle.run_model.specs.Attempts.{moment_if, word_in, decided_at, delay_after, delay_timer}
use Rattle.run_model.specs.Ending.{last_status}
use Rattle.run_model.specs.Story.{OwnTurn, Attempt, cut, decides, first_said}
use Rattle.run_model.specs.Timing.{pause_at, pauses_in}
use Rattle.run_laws.proofs.units.AfterLemmas.{delay_marked}
use Rattle.run_laws.proofs.units.AfterLemmas.{decided_kept}
use Rattle.run_laws.proofs.units.AfterLemmas.{delay_kept}
use Rattle.run_laws.proofs.units.PieceLemmas.{quiet_said}
use Rattle.run_laws.proofs.units.AccountRows.{last-append}
