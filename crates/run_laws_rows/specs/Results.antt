-- What the results of attempts are, by what their children did.
use Rattle.std.specs.Prelude.{ℕ, ◌+◌, ◌-◌, ◌==◌, ◌≡◌, ◌<◌, nat_lt, pos, zero, List, [], ◌∷◌, length, Bool, true}
use Rattle.std.specs.Prelude.{false}
use Rattle.std.specs.Prelude.{◌&&◌, ◌||◌, not, if◌then◌else◌, Option, Some, None, is_some, is_none, IfSome}
use Rattle.std.specs.Prelude.{option_map}
use Rattle.std.specs.Prelude.{slice_get}
use Rattle.std.specs.List.{All, Contains}
use Rattle.std.specs.Option.{option_map_or}
use Rattle.run_events.specs.Result.{is_success}
use Rattle.run_events.specs.Usual.{usual_leak, usual_slow}
use Rattle.run_events.specs.declared.plan.SlowTimeout.{SlowTimeout}
use Rattle.run_events.specs.declared.result.ChildExit.{ChildExit}
use Rattle.run_events.specs.declared.result.ChildExit.TheVariants as exits
use Rattle.run_events.specs.declared.result.ExecuteStatus.{ExecuteStatus}
use Rattle.run_events.specs.declared.result.ExecutionResult.{ExecutionResult}
use Rattle.run_events.specs.declared.result.ExecutionResult.TheVariants.{Pass, Leak, Fail, ExecFail, Timeout}
use Rattle.run_events.specs.declared.result.FailureStatus.{FailureStatus}
use Rattle.run_events.specs.declared.result.FailureStatus.TheVariants.{ExitCode, Abort}
use Rattle.run_events.specs.declared.result.LeakTimeoutResult.{LeakTimeoutResult}
use Rattle.run_events.specs.declared.result.LeakTimeoutResult.TheVariants as leaks
use Rattle.run_events.specs.declared.result.SlowTimeoutResult.{SlowTimeoutResult}
use Rattle.run_events.specs.declared.result.SlowTimeoutResult.TheVariants as timeouts
use Rattle.run_events.specs.declared.settings.Settings.{Settings}
use Rattle.run_model.specs.declared.entry.Entry.{Entry}
use Rattle.run_model.specs.declared.happening.Happening.{Happening}
use Rattle.run_model.specs.declared.unit_turn.UnitTurn.{UnitTurn}
use Rattle.run_model.specs.declared.unit_turn.UnitTurn.TheVariants.{ReadError, WaitFailed}
use Rattle.run_model.specs.Accounts.{account_of}
use Rattle.run_model.specs.Admission.{scripts_in}
use Rattle.run_model.specs.Attempts.{env_by, exit_of, is_fault, pieces_of, start_error_of}
use Rattle.run_model.specs.Fates.{told_ended}
use Rattle.run_model.specs.Journal.{IsLegal, past_of}
use Rattle.run_model.specs.Story.{Attempt, cut, OwnTurn, any_is}
use Rattle.run_model.specs.Timing.{has_leaked, has_timed_out}
use Rattle.run_model.specs.Words.{sub_run, told}

-- the terms on which unit k is slow and ends for it, and what a leak of it counts as, by the plan: scripts come first,
-- and one that runs out of time has failed
abbrev pub slow_planned : Settings → ℕ → SlowTimeout
slow_planned p k =
    if nat_lt k (scripts_in p)
    then option_map_or (λ script. record script.slow { on_timeout = timeouts.Fail }) (slice_get p.plan.scripts k)
    usual_slow
    else option_map_or (λ test. test.slow) (slice_get p.plan.tests (k - scripts_in p)) usual_slow

abbrev pub leak_planned : Settings → ℕ → LeakTimeoutResult
leak_planned p k =
    if nat_lt k (scripts_in p)
    then option_map_or (λ script. script.leak.result) (slice_get p.plan.scripts k) usual_leak.result
    else option_map_or (λ test. test.leak.result) (slice_get p.plan.tests (k - scripts_in p)) usual_leak.result

-- whether a child exited with code 0; and the failure of one that exited with another, or that a signal ended
abbrev pub exits_with_zero : Option ChildExit → Bool
exits_with_zero (Some (exits.Code (pos zero))) = true
exits_with_zero _ = false

abbrev pub failure_by : Option ChildExit → Option FailureStatus
failure_by None = None
failure_by (Some (exits.Code (pos zero))) = None
failure_by (Some (exits.Code code)) = Some (ExitCode code)
failure_by (Some (exits.Signal signal)) = Some (Abort signal)

-- whether a turn says that a stream could not be read on, or that the wait for the child failed
abbrev pub is_error : UnitTurn → Bool
is_error (ReadError stream error) = true
is_error (WaitFailed error) = true
is_error _ = false

-- whether a leak passes; whether a result is a pass, with a leak or without one, or a failure to run; what it says of a
-- leak, of a time-out, and of a failed child, if it says that
abbrev pub is_passing : LeakTimeoutResult → Bool
is_passing leaks.Pass = true
is_passing leaks.Fail = false

abbrev pub is_pass : ExecutionResult → Bool
is_pass Pass = true
is_pass (Leak leaks.Pass) = true
is_pass _ = false

abbrev pub is_exec_fail : ExecutionResult → Bool
is_exec_fail ExecFail = true
is_exec_fail _ = false

abbrev pub leak_in : ExecutionResult → Option LeakTimeoutResult
leak_in (Leak leak) = Some leak
leak_in _ = None

abbrev pub timeout_in : ExecutionResult → Option SlowTimeoutResult
timeout_in (Timeout result) = Some result
timeout_in _ = None

abbrev pub failure_in : ExecutionResult → Option (FailureStatus × Bool)
failure_in (Fail status leaked) = Some (status, leaked)
failure_in _ = None

-- by the own turns of an attempt: its start was refused, or its environment file was at fault; it ran out of time
-- without that; its child has no end, or a stream or the wait for it failed; and none of these
abbrev pub is_refused : List OwnTurn → Bool
is_refused piece = is_some (start_error_of piece) || is_fault (env_by piece)

abbrev pub ran_too_long : SlowTimeout → List OwnTurn → Bool
ran_too_long slow piece = not (is_refused piece) && has_timed_out slow piece

abbrev pub is_broken : List OwnTurn → Bool
is_broken piece = is_none (exit_of piece) || any_is is_error piece

abbrev pub ends_by_itself : SlowTimeout → List OwnTurn → Bool
ends_by_itself slow piece = not (is_refused piece) && not (has_timed_out slow piece) && not (is_broken piece)

-- the result of an attempt: a time-out exactly where it ran out of time, which counts as the plan says; a failure to
-- run exactly where its start was refused or its file at fault, or it didn't run out of time and its child has no end
-- or a stream or the wait for it failed; and else it is a pass exactly where its child exited with code 0 and it didn't
-- leak or leaks pass; it says of a leak exactly where its child exited with code 0 and it leaked; and it says how its
-- child failed, and whether it leaked, exactly where that exited with another code or by a signal
pub record HasItsResult (slow : SlowTimeout) (leaks_as : LeakTimeoutResult) (piece : List OwnTurn)
    (result : ExecutionResult) : Type 0 where
  pub timeout : timeout_in result ≡ (if ran_too_long slow piece then Some slow.on_timeout else None)
  pub exec_fail : is_exec_fail result
      ≡ (is_refused piece || (not (has_timed_out slow piece) && is_broken piece))
  pub pass : is_pass result
      ≡ (ends_by_itself slow piece && exits_with_zero (exit_of piece)
      && (not (has_leaked piece) || is_passing leaks_as))
  pub leak : leak_in result
      ≡ (if ends_by_itself slow piece && exits_with_zero (exit_of piece) && has_leaked piece
      then Some leaks_as
      else None)
  pub fail : failure_in result
      ≡ (if ends_by_itself slow piece
      then option_map (λ status. (status, has_leaked piece)) (failure_by (exit_of piece))
      else None)

-- the own turns of the attempt of this number, from 1
abbrev pub piece_at : ℕ → List Attempt → Option (List OwnTurn)
piece_at n [] = None
piece_at n (cut piece after ∷ earlier) = if length earlier + 1 == n then Some piece else piece_at n earlier

-- the result of an attempt of unit k that is told is that of its own turns
abbrev pub IsByItsChild : Settings → List Happening → ℕ → ExecuteStatus → Type 0
IsByItsChild p run k s = (piece : List OwnTurn) × (piece_at s.attempt (pieces_of k run) ≡ Some piece)
    × HasItsResult (slow_planned p k) (leak_planned p k) piece s.result

-- that holds of each attempt that is told in the newest sub-run of every legal journal
abbrev pub ResultsAreByChildren : Type 0
ResultsAreByChildren = (p : Settings) (journal : List Entry) → IsLegal p journal → (k : ℕ)
    → All (IsByItsChild p (sub_run (past_of p journal)) k)
    (told_ended (account_of k (told (sub_run (past_of p journal)))))

-- these results pass, and no other
pub record PassesAreThree : Type 0 where
  pub each : All (λ result. is_success result ≡ true)
      (Pass ∷ Leak leaks.Pass ∷ Timeout timeouts.Pass ∷ [])
  pub only : (result : ExecutionResult) → is_success result ≡ true
      → Contains (Pass ∷ Leak leaks.Pass ∷ Timeout timeouts.Pass ∷ []) result

-- no time-out of a script that is told in the newest sub-run of a legal journal counts as a pass
abbrev pub ScriptsFailLate : Type 0
ScriptsFailLate = (p : Settings) (journal : List Entry) → IsLegal p journal → (k : ℕ) → k < scripts_in p
    → All (λ s. IfSome (timeout_in s.result) (λ result. result ≡ timeouts.Fail))
    (told_ended (account_of k (told (sub_run (past_of p journal)))))
