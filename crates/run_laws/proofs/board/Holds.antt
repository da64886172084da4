-- What holds of the newest sub-run after every legal journal.
use Rattle.std.specs.Prelude.{ℕ, ◌≡◌, ◌+◌, ◌<◌, ◌≤◌, List, [], ◌∷◌, ◌++◌, length, Bool, true, false, not, Option}
use Rattle.std.specs.Prelude.{Some, None, is_some, ⊤}
use Rattle.std.specs.List.{All, list_all, list_any}
use Rattle.run_events.specs.Result.{is_success}
use Rattle.run_events.specs.declared.message.Message.{Message}
use Rattle.run_events.specs.declared.message.Message.TheVariants.{ScriptStart, ScriptSlow, ScriptFinish, Start, Slow}
use Rattle.run_events.specs.declared.message.Message.TheVariants.{AttemptFailed, Retry, Skip, Finish}
use Rattle.run_events.specs.declared.settings.Settings.{Settings}
use Rattle.run_events.specs.declared.request.Request.{Request}
use Rattle.run_events.specs.declared.result.ExecuteStatus.{ExecuteStatus}
use Rattle.run_model.specs.declared.happening.Happening.{Happening}
use Rattle.run_model.specs.declared.phase.Phase.{Phase}
use Rattle.run_model.specs.declared.phase.Phase.TheVariants.{StartSent, Deciding, Delay, RetrySent, Over}
use Rattle.run_model.specs.declared.unit_view.AttemptTerms.{AttemptTerms}
use Rattle.run_model.specs.declared.unit_view.UnitRole.{UnitRole}
use Rattle.run_model.specs.declared.unit_view.UnitRole.TheVariants as roles
use Rattle.run_model.specs.declared.unit_view.UnitView.{UnitView}
use Rattle.run_model.specs.Environment.{number}
use Rattle.run_model.specs.Admission.{is_script, units_in, unit_terms}
use Rattle.run_model.specs.Words.{is_on, heard, sent, delivered, queue, told, skipped, finished, unit_of}
use Rattle.run_model.specs.Rounds.{round_count, open_round, answers_told, answers_given}
use Rattle.run_model.specs.Accounts.{HasLast, is_mismatched, IsAccounted}
use Rattle.run_model.specs.Backoff.{retry_count}
use Rattle.run_model.specs.Story.{story_of, line_of, taken_by, broadcast_to, pieces, deliveries, stopped_at}
use Rattle.run_model.specs.Fates.{MeetsAttemptLaw, HasRetryLeft}
use Rattle.run_laws.specs.Reports.{signals_asked, signals_by, reports_told, reports_waiting, reports_by}
use Rattle.run_laws.specs.Scripts.{starts_test}
use Rattle.run_laws.proofs.units.AttemptLemmas.{IsMadeIf}
use Rattle.run_laws.proofs.board.Order.{is_of_script, AreSorted, AreScriptsOver, AreSettled}

-- whether a role is that of a script
abbrev pub is_script_role : UnitRole → Bool
is_script_role (roles.Test t) = false
is_script_role (roles.Script s) = true

-- a unit is known by its number, that is one of the plan, and took no turn later than now; it is a script where its
-- number says so
abbrev pub IsNamed : Settings → ℕ → ℕ → Option UnitView → Type 0
IsNamed p now k v = (u : UnitView) → v ≡ Some u
    → (number u ≡ k) × (k < units_in p) × (u.latest ≤ now) × (is_script_role u.role ≡ is_script p k)

-- the requests in the line of a unit are those that it has not taken: none before it was let go, and once it is over
abbrev pub HasLineIn : Phase → List Request → List Request → Type 0
HasLineIn StartSent line is = (line ≡ []) × (is ≡ [])
HasLineIn Over line is = line ≡ []
HasLineIn _ line is = line ≡ is

abbrev pub HasLine : Option UnitView → List Request → Type 0
HasLine None is = is ≡ []
HasLine (Some u) is = HasLineIn u.phase u.line is

-- a message of a script has the number of one, and a message of a test that of one
abbrev pub IsOfKind : Settings → Message → Type 0
IsOfKind p (ScriptStart start) = is_script p start.script.unit ≡ true
IsOfKind p (ScriptSlow slow) = is_script p slow.script.unit ≡ true
IsOfKind p (ScriptFinish finish) = is_script p finish.script.unit ≡ true
IsOfKind p (Start start) = is_script p start.test.unit ≡ false
IsOfKind p (Slow slow) = is_script p slow.test.unit ≡ false
IsOfKind p (AttemptFailed failure) = is_script p failure.test.unit ≡ false
IsOfKind p (Retry retry) = is_script p retry.start.test.unit ≡ false
IsOfKind p (Skip skip) = is_script p skip.test.unit ≡ false
IsOfKind p (Finish finish) = is_script p finish.test.unit ≡ false

-- how far a test is in a sub-run: how often its start and its retries were delivered, and where it was stopped
pub record Way : Type 0 where
  pub delivered : ℕ
  pub stopped : Option ℕ

abbrev pub way_of : ℕ → List Happening → Way
way_of k run = record { delivered = deliveries k run; stopped = stopped_at k run }

-- it wasn't stopped, and nothing was delivered, or each of its attempts was
abbrev pub IsWaiting : Way → Type 0
IsWaiting w = (w.delivered ≡ 0) × (w.stopped ≡ None)

abbrev pub IsUnderWay : ℕ → Way → Type 0
IsUnderWay attempt w = (0 < w.delivered) × (w.stopped ≡ None) × (w.delivered ≡ attempt)

-- attempts that all failed, with a retry left after each
abbrev pub AreFailed : ℕ → List ExecuteStatus → Type 0
AreFailed retries ss = (list_all (λ s. not (is_success s.result)) ss ≡ true) × (length ss ≤ retries)

-- what came of the attempts of a test that is over, by where it was stopped: they are as many as had begun by then
abbrev pub HasEndedAs : Option ℕ → ℕ → List ExecuteStatus → Type 0
HasEndedAs (Some n) retries ss = HasRetryLeft retries ss × (length ss ≡ n)
HasEndedAs None retries ss = MeetsAttemptLaw retries ss

-- a test that is over after these attempts, by the number of the last: it was left there, never started, or finishes
abbrev pub IsOverWith : ℕ → ℕ → List ExecuteStatus → Way → Type 0
IsOverWith retries attempt [] w = w.stopped ≡ Some 0
IsOverWith retries attempt (s ∷ ss) w = (attempt ≡ length (s ∷ ss)) × HasEndedAs w.stopped retries (s ∷ ss)

-- how far a test is on its way, by its phase, its attempts and the number of the current one; one that is skipped has
-- no way
abbrev pub IsOnWayIn : ℕ → Phase → ℕ → List ExecuteStatus → Way → Type 0
IsOnWayIn retries StartSent attempt ss w = IsWaiting w × (attempt ≡ 1) × (ss ≡ [])
IsOnWayIn retries Deciding attempt ss w =
    IsUnderWay attempt w × (attempt ≡ length ss) × HasLast ss (λ early s. AreFailed retries early)
IsOnWayIn retries Delay attempt ss w =
    IsUnderWay attempt w × (attempt ≡ length ss) × AreFailed retries ss × (0 < length ss)
IsOnWayIn retries RetrySent attempt ss w =
    IsUnderWay attempt w × (attempt ≡ length ss) × AreFailed retries ss × (0 < length ss)
IsOnWayIn retries Over attempt ss w = IsOverWith retries attempt ss w
IsOnWayIn retries _ attempt ss w = IsUnderWay attempt w × (attempt ≡ length ss + 1) × AreFailed retries ss

abbrev pub IsOnWayAt : Bool → UnitView → Way → Type 0
IsOnWayAt true u w = IsWaiting w
IsOnWayAt false u w = IsOnWayIn (retry_count u.terms.retries) u.phase u.attempt u.statuses w

abbrev pub IsOnWay : Bool → Option UnitView → Way → Type 0
IsOnWay mm None w = IsWaiting w
IsOnWay mm (Some u) w = IsOnWayAt mm u w

-- the signals asked for unit k, and its slow reports that were told or wait, are those of its own turns
pub record IsReported (terms : AttemptTerms) (k : ℕ) (run : List Happening) : Type 0 where
  pub signals : signals_asked k run ≡ signals_by terms.stops terms.slow (pieces (story_of k run))
  pub reports : reports_told k (told run) ++ reports_waiting k (queue run)
      ≡ reports_by terms.slow (pieces (story_of k run))

-- a count over some turns is at most the number of those before the newest
abbrev pub IsFewer : (List Happening → ℕ) → List Happening → Type 0
IsFewer count [] = ⊤
IsFewer count (x ∷ run) = count (x ∷ run) ≤ length run

-- a unit that was admitted is over
abbrev pub IsStill : Option UnitView → Type 0
IsStill None = ⊤
IsStill (Some u) = u.phase ≡ Over

-- a sub-run has more turns than it opened rounds, and than its latest round told answers; and of the open round no more
-- answers were told than given
pub record HasRounds (run : List Happening) : Type 0 where
  pub opened : IsFewer round_count run
  pub told : IsFewer answers_told run
  pub given : is_some (open_round run) ≡ true → answers_told run ≤ length (answers_given (open_round run) run)

-- of a sub-run at this moment: no more messages are delivered than sent, no more skips and
-- finishes are told than it has turns, the dispatcher heard none later, its rounds are as above, units are named, each
-- has its account, and its attempts, signals and slow reports are its own turns
pub record Holds (p : Settings) (now : ℕ) (run : List Happening) : Type 0 where
  pub fits : delivered run ≤ length (sent run)
  pub counted : skipped run + length (finished run) ≤ length run
  pub heard : heard run ≤ now
  pub rounds : HasRounds run
  pub named : (k : ℕ) → IsNamed p now k (unit_of k run)
  pub accounts : (k : ℕ) → IsAccounted p k run
  pub reported : (k : ℕ) → IsReported (unit_terms p k) k run
  pub made : (k : ℕ) → IsMadeIf (unit_terms p k) (unit_of k run) (story_of k run)
  -- where it is off, each of its units is over
  pub still : is_on run ≡ false → (k : ℕ) → IsStill (unit_of k run)
  pub kinds : All (IsOfKind p) (sent run)
  pub on_way : (k : ℕ) → IsOnWay (is_mismatched p k) (unit_of k run) (way_of k run)
  pub lines : (k : ℕ) → HasLine (unit_of k run) (line_of k run)
  pub taken : (k : ℕ) → taken_by k run ≤ length (broadcast_to k run)
  -- a test is admitted, and sends, once all scripts are over; so no message of a script comes after one of a test, and
  -- none waits once a test was told started
  pub admitted : (k : ℕ) → is_script p k ≡ false → is_some (unit_of k run) ≡ true → AreScriptsOver p run
  pub tests_sent : list_any (λ m. not (is_of_script m)) (sent run) ≡ true → AreScriptsOver p run
  pub sorted : AreSorted (sent run)
  pub tests_told : list_any starts_test (told run) ≡ true → AreSettled p run
