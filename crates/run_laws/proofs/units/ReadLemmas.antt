-- What came of a unit's environment file is what its own turns say, and its variables are those of a unit that passed.
use Rattle.std.proofs.Common.{◌≡◌, ℕ, ◌==◌, List, [], ◌∷◌, ◌++◌, Bool, true, false, ◌||◌, Option, Some, None}
use Rattle.std.proofs.Common.{unwrap_or, not, if◌then◌else◌, refl, ap, sym, ◌∙◌}
use Rattle.std.specs.Prelude.{⊤}
use Rattle.std.specs.Cmp.{first_so, second_so}
use Rattle.run_capture.specs.Captured.{Captured, is_done, with_wait_error}
use Rattle.run_events.specs.Result.{is_success}
use Rattle.run_events.specs.declared.request.Request.{Request}
use Rattle.run_events.specs.declared.request.Request.TheVariants.{Stop, Continue, Shutdown, OtherCancel, GetInfo}
use Rattle.run_events.specs.declared.request.TermSignal.{TermSignal}
use Rattle.run_events.specs.declared.request.TermSignal.TheVariants.{Kill}
use Rattle.run_events.specs.declared.result.ChildExit.{ChildExit}
use Rattle.run_events.specs.declared.result.ChildExecutionOutput.TheVariants.{Output}
use Rattle.run_events.specs.declared.result.ExecuteStatus.{ExecuteStatus}
use Rattle.run_events.specs.declared.result.ExecutionResult.{ExecutionResult}
use Rattle.run_events.specs.declared.result.ScriptEnv.{ScriptEnv}
use Rattle.run_events.specs.declared.result.ScriptEnv.TheVariants.{Unread, Variables, Fault}
use Rattle.run_model.specs.declared.phase.Phase.{Phase}
use Rattle.run_model.specs.declared.phase.Phase.TheVariants.{StartSent, Starting, Running, Grace, KillWait, Leak}
use Rattle.run_model.specs.declared.phase.Phase.TheVariants.{EnvWait, Deciding, Delay, RetrySent, Over}
use Rattle.run_model.specs.declared.unit_turn.UnitTurn.{UnitTurn}
use Rattle.run_model.specs.declared.unit_turn.UnitTurn.TheVariants.{Answered, Started, StartFailed, Exit, WaitFailed}
use Rattle.run_model.specs.declared.unit_turn.UnitTurn.TheVariants.{Piece, StreamEnd, ReadError, Env, Due, Take}
use Rattle.run_model.specs.declared.unit_turn.UnitTurn.TheVariants.{Decide}
use Rattle.run_model.specs.declared.unit_view.UnitView.{UnitView}
use Rattle.run_model.specs.Env.{env_of}
use Rattle.run_model.specs.Terminate.{terminate_method}
use Rattle.run_events.specs.declared.request.TerminateReason.{TerminateReason}
use Rattle.run_events.specs.declared.request.TerminateReason.TheVariants.{Signal as Signalled}
use Rattle.run_model.specs.Slow.{one_more, is_out_of_time}
use Rattle.run_model.specs.Attempts.{env_in}
use Rattle.run_model.specs.Ending.{settled, exited, leaking, ended, awaits_env, awaiting_env, result_of, result_with}
use Rattle.run_model.specs.Ending.{status_at, last_status}
use Rattle.run_model.specs.Retries.{has_passed, has_retry}
use Rattle.run_model.specs.Requests.{asked_to_end, requested, take_row}
use Rattle.run_model.specs.Unit.{row_at, takes_at, having_heard, running_row, waited_row, slow_row, slow_again}
use Rattle.run_model.specs.Unit.{in_grace, out_of_time}
use Rattle.run_laws.proofs.units.Rows.{decide_cases}
use Rattle.run_laws.proofs.units.AccountRows.{last-append}

-- whether variables were read
abbrev pub is_given : ScriptEnv → Bool
is_given (Variables pairs) = true
is_given env = false

-- the result of a unit that waits for its environment file, by how its child ended
abbrev pub awaited_result : UnitView → ExecutionResult
awaited_result u = result_of u.exit u.capture.errors u.leaked u

-- variables are read of a unit whose child ended well, and so it has passed where it has any
abbrev pub HasRead : Phase → UnitView → Type 0
HasRead EnvWait u = (is_given u.env ≡ false) × (is_success (awaited_result u) ≡ true)
HasRead Deciding u = is_given u.env ≡ true → has_passed (last_status u.statuses) ≡ true
HasRead Over u = is_given u.env ≡ true → has_passed (last_status u.statuses) ≡ true
HasRead ph u = is_given u.env ≡ false

-- a row that leaves what came of it: its phase is another, or its child ended well
abbrev IsReady : Phase → UnitView → Type 0
IsReady EnvWait v = is_success (awaited_result v) ≡ true
IsReady ph v = ⊤

record Leaves (u v : UnitView) : Type 0 where
  env : v.env ≡ u.env
  ready : IsReady v.phase v

-- whether a unit waits for its environment file in a phase
abbrev awaits : Phase → Bool
awaits EnvWait = true
awaits ph = false

unready : (ph : Phase) (v : UnitView) → awaits ph ≡ false → IsReady ph v
unready EnvWait v e = cc
unready StartSent v e = tt
unready Starting v e = tt
unready Running v e = tt
unready Grace v e = tt
unready KillWait v e = tt
unready Leak v e = tt
unready Deciding v e = tt
unready Delay v e = tt
unready RetrySent v e = tt
unready Over v e = tt

unread : (ph : Phase) (v : UnitView) → is_given v.env ≡ false → IsReady ph v → HasRead ph v
unread EnvWait v none ready = (none, ready)
unread Deciding v none ready = λ given. let never : true ≡ false = sym given ∙ none in cc
unread Over v none ready = λ given. let never : true ≡ false = sym given ∙ none in cc
unread StartSent v none ready = none
unread Starting v none ready = none
unread Running v none ready = none
unread Grace v none ready = none
unread KillWait v none ready = none
unread Leak v none ready = none
unread Delay v none ready = none
unread RetrySent v none ready = none

-- its child is done with
leaves_exited : (now : ℕ) (exit : Option ChildExit) (leaked : Bool) (c : Captured) (u : UnitView)
    → Leaves u (exited now exit leaked c u)
leaves_exited now exit leaked c u = by_env (awaits_env (result_of exit c.errors leaked u) u) refl
  where
    by_env : (b : Bool) → awaits_env (result_of exit c.errors leaked u) u ≡ b → Leaves u (if b
        then awaiting_env now exit leaked c u
        else ended now (result_of exit c.errors leaked u) (Output c.output c.errors) u)
    by_env true e = record { env = refl; ready = second_so u.terms.reads_env _ e }
    by_env false e = record { env = refl; ready = tt }

leaves_settled : (now : ℕ) (exit : Option ChildExit) (c : Captured) (u : UnitView) → Leaves u (settled now exit c u)
leaves_settled now exit c u = by_done (u.terms.skips_leak_detection || is_done c)
  where
    by_done : (b : Bool) → Leaves u (if b then exited now exit false c u else leaking now exit c u)
    by_done true = leaves_exited now exit false c u
    by_done false = record { env = refl; ready = tt }

leaves_running : (now : ℕ) (turn : UnitTurn) (u : UnitView) → awaits u.phase ≡ false
    → Leaves u (running_row now turn u).next
leaves_running now (Exit exit) u off = leaves_settled now (Some exit) u.capture u
leaves_running now (WaitFailed error) u off = leaves_settled now None (with_wait_error u.capture error) u
leaves_running now turn u off = record { env = refl; ready = unready u.phase _ off }

leaves_waited : (now : ℕ) (turn : UnitTurn) (u : UnitView) → awaits u.phase ≡ false
    → Leaves u (waited_row now turn u).next
leaves_waited now Due u off = leaves_exited now u.exit true u.capture u
leaves_waited now turn u off = by_done (having_heard u.capture turn) (is_done (having_heard u.capture turn))
  where
    by_done : (c : Captured) (b : Bool) → Leaves u (if b then exited now u.exit false c u else record u { capture = c })
    by_done c true = leaves_exited now u.exit false c u
    by_done c false = record { env = refl; ready = unready u.phase _ off }

leaves_slow : (now n : ℕ) (u : UnitView) → awaits u.phase ≡ false → Leaves u (slow_row now n u).next
leaves_slow now n u off = by_time (is_out_of_time u.terms.slow n) (u.terms.slow.grace == 0)
  where
    by_time : (out none : Bool)
        → Leaves u (if out then (if none then out_of_time n u else in_grace now n u) else slow_again now n u).next
    by_time false none = record { env = refl; ready = unready u.phase _ off }
    by_time true true = record { env = refl; ready = tt }
    by_time true false = record { env = refl; ready = tt }

leaves_taken : (now : ℕ) (ph : Phase) (u : UnitView) → awaits u.phase ≡ false → Leaves u (take_row now ph u.line u).next
leaves_taken now ph u off = by_line u.line
  where
    ends : (reason : TerminateReason) (signal : TermSignal) (line : List Request)
        → Leaves u (asked_to_end now reason signal (record u { line = line })).next
    ends reason Kill line = record { env = refl; ready = unready u.phase _ off }
    ends reason signal line = record { env = refl; ready = tt }

    by_request : (ph : Phase) (request : Request) (line : List Request)
        → Leaves u (requested now ph request (record u { line = line })).next
    by_request ph (Stop round) line = record { env = refl; ready = unready u.phase _ off }
    by_request ph Continue line = record { env = refl; ready = unready u.phase _ off }
    by_request ph (GetInfo round) line = record { env = refl; ready = unready u.phase _ off }
    by_request Running (Shutdown request) line = ends (Signalled request)
        (terminate_method (Signalled request) u.terms.slow.grace) line
    by_request Grace (Shutdown request) line = record { env = refl; ready = tt }
    by_request Delay (Shutdown request) line = record { env = refl; ready = tt }
    by_request Delay OtherCancel line = record { env = refl; ready = tt }
    by_request ph request line = record { env = refl; ready = unready u.phase _ off }

    by_line : (line : List Request) → Leaves u (take_row now ph line u).next
    by_line [] = record { env = refl; ready = unready u.phase _ off }
    by_line (request ∷ line) = by_request ph request line

-- what a row leaves of it, and what a unit's own turn says of it
pub record Reads (turn : UnitTurn) (u v : UnitView) : Type 0 where
  pub env : v.env ≡ unwrap_or (env_in turn) u.env
  pub has : HasRead v.phase v

left_so : (turn : UnitTurn) (u v : UnitView) → env_in turn ≡ None → is_given u.env ≡ false → Leaves u v → Reads turn u v
left_so turn u v other none it = record {
  env = it.env ∙ sym (ap (λ o. unwrap_or o u.env) other);
  has = unread v.phase v (ap is_given it.env ∙ none) it.ready;
}

-- its environment file was read, or could not be
read_so : (now : ℕ) (env : ScriptEnv) (u : UnitView) → is_success (awaited_result u) ≡ true → is_given env ≡ true
    → has_passed (last_status (u.statuses ++ status_at now (result_with env (awaited_result u))
    (Output u.capture.output u.capture.errors) u ∷ [])) ≡ true
read_so now (Variables pairs) u ok given = rw (last-append u.statuses _) ok
read_so now Unread u ok given = cc
read_so now (Fault fault) u ok given = cc

pub row_reads : (now : ℕ) (ph : Phase) (turn : UnitTurn) (u : UnitView) → u.phase ≡ ph → takes_at now ph u turn ≡ true
    → HasRead ph u → Reads turn u (row_at now ph turn u).next
row_reads now StartSent (Answered true) u is en none = left_so _ u _ refl none (record { env = refl; ready = tt })
row_reads now StartSent (Answered false) u is en none = left_so _ u _ refl none (record { env = refl; ready = tt })
row_reads now Starting (Started pid) u is en none = left_so _ u _ refl none (record { env = refl; ready = tt })
row_reads now Starting (StartFailed error) u is en none = left_so _ u _ refl none (record { env = refl; ready = tt })
row_reads now Running Due u is en none =
    left_so _ u _ refl none (leaves_slow now (one_more u.timers.slow_count) u (ap awaits is))
row_reads now Running Take u is en none = left_so _ u _ refl none (leaves_taken now Running u (ap awaits is))
row_reads now Running (Exit exit) u is en none = left_so _ u _ refl none
    (leaves_running now (Exit exit) u (ap awaits is))
row_reads now Running (WaitFailed error) u is en none =
    left_so _ u _ refl none (leaves_running now (WaitFailed error) u (ap awaits is))
row_reads now Running (Piece stream bytes) u is en none =
    left_so _ u _ refl none (leaves_running now (Piece stream bytes) u (ap awaits is))
row_reads now Running (StreamEnd stream) u is en none =
    left_so _ u _ refl none (leaves_running now (StreamEnd stream) u (ap awaits is))
row_reads now Running (ReadError stream error) u is en none =
    left_so _ u _ refl none (leaves_running now (ReadError stream error) u (ap awaits is))
row_reads now Grace Due u is en none = left_so _ u _ refl none (record { env = refl; ready = tt })
row_reads now Grace Take u is en none = left_so _ u _ refl none (leaves_taken now Grace u (ap awaits is))
row_reads now Grace (Exit exit) u is en none = left_so _ u _ refl none (leaves_running now (Exit exit) u (ap awaits is))
row_reads now Grace (WaitFailed error) u is en none =
    left_so _ u _ refl none (leaves_running now (WaitFailed error) u (ap awaits is))
row_reads now Grace (Piece stream bytes) u is en none =
    left_so _ u _ refl none (leaves_running now (Piece stream bytes) u (ap awaits is))
row_reads now Grace (StreamEnd stream) u is en none =
    left_so _ u _ refl none (leaves_running now (StreamEnd stream) u (ap awaits is))
row_reads now Grace (ReadError stream error) u is en none =
    left_so _ u _ refl none (leaves_running now (ReadError stream error) u (ap awaits is))
row_reads now KillWait (Exit exit) u is en none =
    left_so _ u _ refl none (leaves_running now (Exit exit) u (ap awaits is))
row_reads now KillWait (WaitFailed error) u is en none =
    left_so _ u _ refl none (leaves_running now (WaitFailed error) u (ap awaits is))
row_reads now Leak Due u is en none = left_so _ u _ refl none (leaves_waited now Due u (ap awaits is))
row_reads now Leak Take u is en none = left_so _ u _ refl none (leaves_taken now Leak u (ap awaits is))
row_reads now Leak (Piece stream bytes) u is en none =
    left_so _ u _ refl none (leaves_waited now (Piece stream bytes) u (ap awaits is))
row_reads now Leak (StreamEnd stream) u is en none =
    left_so _ u _ refl none (leaves_waited now (StreamEnd stream) u (ap awaits is))
row_reads now Leak (ReadError stream error) u is en none =
    left_so _ u _ refl none (leaves_waited now (ReadError stream error) u (ap awaits is))
row_reads now EnvWait (Env input) u is en (none, ok) = record { env = refl; has = read_so now (env_of input) u ok }
row_reads now Deciding (Decide word) u is en passed =
    decide_cases (λ r. Reads (Decide word) u r.next) now word u
    (λ again. record { env = refl; has = by_given (is_given u.env) refl again })
    (λ done. record { env = refl; has = passed })
  where
    by_given : (b : Bool) → is_given u.env ≡ b → has_retry u ≡ true → b ≡ false
    by_given false e again = refl
    by_given true e again =
        let never : false ≡ true = sym (ap not (passed e)) ∙ first_so
        (not (has_passed (last_status u.statuses))) _ again in
        cc
row_reads now Delay Due u is en none = left_so _ u _ refl none (record { env = refl; ready = tt })
row_reads now Delay Take u is en none = left_so _ u _ refl none (leaves_taken now Delay u (ap awaits is))
row_reads now RetrySent (Answered true) u is en none = left_so _ u _ refl none (record { env = refl; ready = tt })
row_reads now RetrySent (Answered false) u is en none = left_so _ u _ refl none (record { env = refl; ready = tt })
row_reads now ph turn u is en h = cc
