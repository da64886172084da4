-- What a row of an attempt that goes on does to a unit, apart from its attempt.
use Rattle.std.proofs.Common.{◌≡◌, ◌⊎◌, inl, inr, ℕ, ◌==◌, List, [], ◌∷◌, ◌++◌, Bool, true, false, if◌then◌else◌}
use Rattle.std.proofs.Common.{◌||◌, Option, Some, None, refl, ap}
use Rattle.std.specs.Prelude.{⊤}
use Rattle.run_capture.specs.Captured.{Captured, is_done, with_wait_error}
use Rattle.run_events.specs.declared.result.ChildExit.{ChildExit}
use Rattle.run_events.specs.declared.result.ExecuteStatus.{ExecuteStatus}
use Rattle.run_events.specs.declared.ask.Ask.{Ask}
use Rattle.run_events.specs.declared.ask.Ask.TheVariants.{Signal, Start}
use Rattle.run_events.specs.declared.request.Request.{Request}
use Rattle.run_events.specs.declared.request.ChildSignal.{ChildSignal}
use Rattle.run_events.specs.declared.request.ChildSignal.TheVariants.{Tstp, Cont}
use Rattle.run_events.specs.declared.request.Request.TheVariants.{Stop, Continue, Shutdown, GetInfo}
use Rattle.run_events.specs.declared.request.TermSignal.{TermSignal}
use Rattle.run_events.specs.declared.request.TermSignal.TheVariants.{Kill}
use Rattle.run_events.specs.declared.request.TerminateReason.{TerminateReason}
use Rattle.run_events.specs.declared.request.TerminateReason.TheVariants.{Signal as Signalled}
use Rattle.run_events.specs.declared.message.Message.{Message}
use Rattle.run_events.specs.declared.message.Message.TheVariants.{ScriptSlow, Slow}
use Rattle.run_events.specs.declared.result.ChildExecutionOutput.{ChildExecutionOutput}
use Rattle.run_events.specs.declared.result.ChildExecutionOutput.TheVariants.{Output}
use Rattle.run_events.specs.declared.result.ExecutionResult.{ExecutionResult}
use Rattle.run_events.specs.declared.result.ScriptEnv.{ScriptEnv}
use Rattle.run_model.specs.declared.phase.Phase.{Phase}
use Rattle.run_model.specs.declared.phase.Phase.TheVariants.{Starting, Running, Grace, KillWait, Leak, EnvWait}
use Rattle.run_model.specs.declared.phase.Phase.TheVariants.{Deciding, Delay}
use Rattle.run_model.specs.declared.unit_turn.UnitTurn.{UnitTurn}
use Rattle.run_model.specs.declared.unit_turn.UnitTurn.TheVariants.{Started, StartFailed, Exit, WaitFailed, Env, Due}
use Rattle.run_model.specs.declared.unit_turn.UnitTurn.TheVariants.{Take}
use Rattle.run_model.specs.declared.unit_view.UnitRole.{UnitRole}
use Rattle.run_model.specs.declared.unit_view.UnitRole.TheVariants as roles
use Rattle.run_model.specs.declared.unit_view.UnitView.{UnitView}
use Rattle.run_model.specs.Env.{env_of}
use Rattle.run_model.specs.Environment.{number_of, number}
use Rattle.run_model.specs.Terminate.{terminate_method}
use Rattle.run_model.specs.Slow.{one_more, is_out_of_time}
use Rattle.run_model.specs.Ending.{settled, exited, leaking, ended, awaits_env, awaiting_env, result_of, result_with}
use Rattle.run_model.specs.Pauses.{is_paused}
use Rattle.run_model.specs.Row.{Row, quiet, child_ask}
use Rattle.run_model.specs.Requests.{asked_to_end, requested, take_row, stop_ask, continue_ask}
use Rattle.run_model.specs.Unit.{row_at, having_heard, heard_with, slow_report, running_row, waited_row, slow_message}
use Rattle.run_model.specs.Unit.{slow_row, slow_again, in_grace, out_of_time}

-- whether an attempt goes on in a phase
abbrev pub is_open : Phase → Bool
is_open Starting = true
is_open Running = true
is_open Grace = true
is_open KillWait = true
is_open Leak = true
is_open EnvWait = true
is_open _ = false

-- a unit keeps its role, its command, its surroundings, its terms and the moment of its latest turn
pub record Keeps (u v : UnitView) : Type 0 where
  pub role : v.role ≡ u.role
  pub command : v.command ≡ u.command
  pub around : v.around ≡ u.around
  pub terms : v.terms ≡ u.terms
  pub latest : v.latest ≡ u.latest

pub same : (u : UnitView) → Keeps u u
same u = record { role = refl; command = refl; around = refl; terms = refl; latest = refl }

-- a message that reports that a unit is slow, or none
abbrev pub IsReport : Option Message → Type 0
IsReport None = ⊤
IsReport (Some (ScriptSlow slow)) = ⊤
IsReport (Some (Slow slow)) = ⊤
IsReport _ = ⊥

-- what a row leaves of an attempt: it goes on, or ends
pub record GoesOn (u : UnitView) (r : Row) : Type 0 where
  pub phase : is_open r.next.phase ≡ true
  pub attempt : r.next.attempt ≡ u.attempt
  pub statuses : r.next.statuses ≡ u.statuses
  pub sent : IsReport r.sent

pub record Ends (u : UnitView) (r : Row) : Type 0 where
  pub phase : r.next.phase ≡ Deciding
  pub attempt : r.next.attempt ≡ u.attempt
  pub status : ExecuteStatus
  pub statuses : r.next.statuses ≡ u.statuses ++ status ∷ []
  pub sent : r.sent ≡ None

abbrev pub Moves : UnitView → Row → Type 0
Moves u r = GoesOn u r ⊎ Ends u r

-- a signal that is asked is for the unit's own child
abbrev pub IsForOwn : ℕ → Option Ask → Type 0
IsForOwn k (Some (Signal ask)) = ask.unit ≡ k
IsForOwn k _ = ⊤

-- no start is asked
abbrev pub IsNoStart : Option Ask → Type 0
IsNoStart (Some (Start ask)) = ⊥
IsNoStart _ = ⊤

-- a slow report is of the unit itself, and as its role says
abbrev pub IsReportOf : UnitRole → Option Message → Type 0
IsReportOf (roles.Test t) (Some (Slow slow)) = slow.test.unit ≡ t.test.unit
IsReportOf (roles.Test t) (Some (ScriptSlow slow)) = ⊥
IsReportOf (roles.Script s) (Some (ScriptSlow slow)) = slow.script.unit ≡ s.script.unit
IsReportOf (roles.Script s) (Some (Slow slow)) = ⊥
IsReportOf role _ = ⊤

pub no_report : (role : UnitRole) → IsReportOf role None
no_report (roles.Test t) = tt
no_report (roles.Script s) = tt

-- all of these
pub record IsOwn (u : UnitView) (r : Row) : Type 0 where
  pub keeps : Keeps u r.next
  pub moves : Moves u r
  pub asks : IsForOwn (number u) r.asked × IsNoStart r.asked
  pub reports : IsReportOf u.role r.sent

-- its attempt ends
ended_own : (now : ℕ) (result : ExecutionResult) (output : ChildExecutionOutput) (env : ScriptEnv) (u : UnitView)
    → IsOwn u (quiet (ended now result output (record u { env = env })))
ended_own now result output env u = record {
  keeps = record { role = refl; command = refl; around = refl; terms = refl; latest = refl };
  moves = inr (record { phase = refl; attempt = refl; status = _; statuses = refl; sent = refl });
  asks = (tt, tt);
  reports = no_report u.role;
}

-- its child is done with
ends : (now : ℕ) (exit : Option ChildExit) (leaked : Bool) (c : Captured) (u : UnitView)
    → IsOwn u (quiet (exited now exit leaked c u))
ends now exit leaked c u = by_env (awaits_env (result_of exit c.errors leaked u) u)
  where
    by_env : (b : Bool) → IsOwn u (quiet (if b
        then awaiting_env now exit leaked c u
        else ended now (result_of exit c.errors leaked u) (Output c.output c.errors) u))
    by_env true = record {
      keeps = record { role = refl; command = refl; around = refl; terms = refl; latest = refl };
      moves = inl (record { phase = refl; attempt = refl; statuses = refl; sent = tt });
      asks = (tt, tt);
      reports = no_report u.role;
    }
    by_env false = ended_own now (result_of exit c.errors leaked u) (Output c.output c.errors) u.env u

settles : (now : ℕ) (exit : Option ChildExit) (c : Captured) (u : UnitView) → IsOwn u (quiet (settled now exit c u))
settles now exit c u = by_done (u.terms.skips_leak_detection || is_done c)
  where
    by_done : (b : Bool) → IsOwn u (quiet (if b then exited now exit false c u else leaking now exit c u))
    by_done true = ends now exit false c u
    by_done false = record {
      keeps = record { role = refl; command = refl; around = refl; terms = refl; latest = refl };
      moves = inl (record { phase = refl; attempt = refl; statuses = refl; sent = tt });
      asks = (tt, tt);
      reports = no_report u.role;
    }

hears : (now : ℕ) (c : Captured) (u : UnitView) → is_open u.phase ≡ true → IsOwn u (quiet (heard_with now c u))
hears now c u on = by_done (is_done c)
  where
    by_done : (b : Bool) → IsOwn u (quiet (if b then exited now u.exit false c u else record u { capture = c }))
    by_done true = ends now u.exit false c u
    by_done false = record {
      keeps = record { role = refl; command = refl; around = refl; terms = refl; latest = refl };
      moves = inl (record { phase = on; attempt = refl; statuses = refl; sent = tt });
      asks = (tt, tt);
      reports = no_report u.role;
    }

-- a report of a unit that is slow
pub reports : (n : ℕ) (u : UnitView) → IsReport (slow_message n u)
reports n u = by_grace (u.terms.slow.grace == 0) u.role
  where
    by_grace : (b : Bool) (role : UnitRole) → IsReport (if b then None else Some (slow_report n role u))
    by_grace true role = tt
    by_grace false (roles.Test t) = tt
    by_grace false (roles.Script s) = tt

own_report : (n : ℕ) (u : UnitView) → IsReportOf u.role (slow_message n u)
own_report n u = by_grace (u.terms.slow.grace == 0) u.role
  where
    by_grace : (b : Bool) (role : UnitRole) → IsReportOf role (if b then None else Some (slow_report n role u))
    by_grace true role = no_report role
    by_grace false (roles.Test t) = refl
    by_grace false (roles.Script s) = refl

slows : (now n : ℕ) (u : UnitView) → is_open u.phase ≡ true → IsOwn u (slow_row now n u)
slows now n u on = by_time (is_out_of_time u.terms.slow n) (u.terms.slow.grace == 0)
  where
    by_time : (out none : Bool)
        → IsOwn u (if out then (if none then out_of_time n u else in_grace now n u) else slow_again now n u)
    by_time false none = record {
      keeps = record { role = refl; command = refl; around = refl; terms = refl; latest = refl };
      moves = inl (record { phase = on; attempt = refl; statuses = refl; sent = reports n u });
      asks = (tt, tt);
      reports = own_report n u;
    }
    by_time true true = record {
      keeps = record { role = refl; command = refl; around = refl; terms = refl; latest = refl };
      moves = inl (record { phase = refl; attempt = refl; statuses = refl; sent = reports n u });
      asks = (refl, tt);
      reports = own_report n u;
    }
    by_time true false = record {
      keeps = record { role = refl; command = refl; around = refl; terms = refl; latest = refl };
      moves = inl (record { phase = refl; attempt = refl; statuses = refl; sent = reports n u });
      asks = (refl, tt);
      reports = own_report n u;
    }

runs : (now : ℕ) (turn : UnitTurn) (u : UnitView) → is_open u.phase ≡ true → IsOwn u (running_row now turn u)
runs now (Exit exit) u on = settles now (Some exit) u.capture u
runs now (WaitFailed error) u on = settles now None (with_wait_error u.capture error) u
runs now turn u on = record {
  keeps = record { role = refl; command = refl; around = refl; terms = refl; latest = refl };
  moves = inl (record { phase = on; attempt = refl; statuses = refl; sent = tt });
  asks = (tt, tt);
  reports = no_report u.role;
}

waits : (now : ℕ) (turn : UnitTurn) (u : UnitView) → is_open u.phase ≡ true → IsOwn u (waited_row now turn u)
waits now Due u on = ends now u.exit true u.capture u
waits now turn u on = hears now (having_heard u.capture turn) u on

-- it takes a request
ends_by : (now : ℕ) (reason : TerminateReason) (signal : TermSignal) (u v : UnitView) → Keeps u v → v.role ≡ u.role
    → is_open v.phase ≡ true → v.attempt ≡ u.attempt → v.statuses ≡ u.statuses
    → IsOwn u (asked_to_end now reason signal v)
ends_by now reason Kill u v keeps same on at ss = record {
  keeps = keeps;
  moves = inl (record { phase = on; attempt = at; statuses = ss; sent = tt });
  asks = (ap number_of same, tt);
  reports = no_report u.role;
}
ends_by now reason signal u v keeps same on at ss = record {
  keeps = record {
    role = keeps.role;
    command = keeps.command;
    around = keeps.around;
    terms = keeps.terms;
    latest = keeps.latest;
  };
  moves = inl (record { phase = refl; attempt = at; statuses = ss; sent = tt });
  asks = (ap number_of same, tt);
  reports = no_report u.role;
}

-- what it asks of its child where that is to stop, and where it is to go on
asks_where : (asks : Bool) (signal : ChildSignal) (u : UnitView)
    → IsForOwn (number u) (if asks then Some (child_ask signal u) else None)
    × IsNoStart (if asks then Some (child_ask signal u) else None)
asks_where true signal u = (refl, tt)
asks_where false signal u = (tt, tt)

stop_own : (ph : Phase) (u : UnitView) → IsForOwn (number u) (stop_ask ph u) × IsNoStart (stop_ask ph u)
stop_own Running u = asks_where u.terms.stops Tstp u
stop_own Grace u = (refl, tt)
stop_own ph u = (tt, tt)

continue_own : (ph : Phase) (u : UnitView) → IsForOwn (number u) (continue_ask ph u) × IsNoStart (continue_ask ph u)
continue_own Running u = asks_where (is_paused u.timers) Cont u
continue_own Grace u = (refl, tt)
continue_own ph u = (tt, tt)

requests : (now : ℕ) (ph : Phase) (u : UnitView) → is_open u.phase ≡ true → is_open ph ≡ true
    → IsOwn u (take_row now ph u.line u)
requests now ph u on ph_on = by_line u.line
  where
    still : (line : List Request) → IsOwn u (quiet (record u { line = line }))
    still line = record {
      keeps = record { role = refl; command = refl; around = refl; terms = refl; latest = refl };
      moves = inl (record { phase = on; attempt = refl; statuses = refl; sent = tt });
      asks = (tt, tt);
      reports = no_report u.role;
    }

    by_request : (ph : Phase) (request : Request) (line : List Request) → is_open ph ≡ true
        → IsOwn u (requested now ph request (record u { line = line }))
    by_request Delay request line ph_on = cc
    by_request ph (Stop round) line ph_on = record {
      keeps = record { role = refl; command = refl; around = refl; terms = refl; latest = refl };
      moves = inl (record { phase = on; attempt = refl; statuses = refl; sent = tt });
      asks = stop_own ph (record u { line = line });
      reports = no_report u.role;
    }
    by_request ph Continue line ph_on = record {
      keeps = record { role = refl; command = refl; around = refl; terms = refl; latest = refl };
      moves = inl (record { phase = on; attempt = refl; statuses = refl; sent = tt });
      asks = continue_own ph (record u { line = line });
      reports = no_report u.role;
    }
    by_request ph (GetInfo round) line ph_on = record {
      keeps = record { role = refl; command = refl; around = refl; terms = refl; latest = refl };
      moves = inl (record { phase = on; attempt = refl; statuses = refl; sent = tt });
      asks = (tt, tt);
      reports = no_report u.role;
    }
    by_request Running (Shutdown request) line ph_on =
        ends_by now (Signalled request) (terminate_method (Signalled request) u.terms.slow.grace) u
        (record u { line = line })
        (record { role = refl; command = refl; around = refl; terms = refl; latest = refl }) refl on refl refl
    by_request Grace (Shutdown request) line ph_on = record {
      keeps = record { role = refl; command = refl; around = refl; terms = refl; latest = refl };
      moves = inl (record { phase = refl; attempt = refl; statuses = refl; sent = tt });
      asks = (refl, tt);
      reports = no_report u.role;
    }
    by_request ph request line ph_on = still line

    by_line : (line : List Request) → IsOwn u (take_row now ph line u)
    by_line [] = still u.line
    by_line (request ∷ line) = by_request ph request line ph_on

-- each row of an attempt that goes on
pub own : (now : ℕ) (ph : Phase) (turn : UnitTurn) (u : UnitView) → u.phase ≡ ph → is_open ph ≡ true
    → IsOwn u (row_at now ph turn u)
own now Starting (Started pid) u is on = record {
  keeps = record { role = refl; command = refl; around = refl; terms = refl; latest = refl };
  moves = inl (record { phase = refl; attempt = refl; statuses = refl; sent = tt });
  asks = (tt, tt);
  reports = no_report u.role;
}
own now Starting (StartFailed error) u is on = record {
  keeps = record { role = refl; command = refl; around = refl; terms = refl; latest = refl };
  moves = inr (record { phase = refl; attempt = refl; status = _; statuses = refl; sent = refl });
  asks = (tt, tt);
  reports = no_report u.role;
}
own now Starting turn u is on = record {
  keeps = same u;
  moves = inl (record { phase = ap is_open is; attempt = refl; statuses = refl; sent = tt });
  asks = (tt, tt);
  reports = no_report u.role;
}
own now Running Due u is on = slows now (one_more u.timers.slow_count) u (ap is_open is)
own now Running Take u is on = requests now Running u (ap is_open is) refl
own now Running turn u is on = runs now turn u (ap is_open is)
own now Grace Due u is on = record {
  keeps = record { role = refl; command = refl; around = refl; terms = refl; latest = refl };
  moves = inl (record { phase = refl; attempt = refl; statuses = refl; sent = tt });
  asks = (refl, tt);
  reports = no_report u.role;
}
own now Grace Take u is on = requests now Grace u (ap is_open is) refl
own now Grace turn u is on = runs now turn u (ap is_open is)
own now KillWait turn u is on = runs now turn u (ap is_open is)
own now Leak Take u is on = requests now Leak u (ap is_open is) refl
own now Leak turn u is on = waits now turn u (ap is_open is)
own now EnvWait (Env input) u is on =
    ended_own now (result_with (env_of input) (result_of u.exit u.capture.errors u.leaked u))
    (Output u.capture.output u.capture.errors) (env_of input) u
own now EnvWait turn u is on = record {
  keeps = same u;
  moves = inl (record { phase = ap is_open is; attempt = refl; statuses = refl; sent = tt });
  asks = (tt, tt);
  reports = no_report u.role;
}
own now ph turn u is on = cc
