-- What a row answers is of the unit itself.
use Rattle.std.specs.Prelude.{IfSome}
use Rattle.std.proofs.Common.{ℕ, ◌==◌, List, [], ◌∷◌, Bool, true, false, if◌then◌else◌, Option, Some, None, option_map}
use Rattle.std.proofs.Common.{unwrap_or}
use Rattle.std.specs.List.{All}
use Rattle.std.proofs.lemmas.List.Elements.{All-nil, All-cons}
use Rattle.run_events.specs.declared.info.InfoResponse.{InfoResponse}
use Rattle.run_events.specs.declared.info.InfoSubject.{InfoSubject}
use Rattle.run_events.specs.declared.request.Request.{Request}
use Rattle.run_events.specs.declared.request.Request.TheVariants.{Stop, Continue, Shutdown, OtherCancel, GetInfo}
use Rattle.run_events.specs.declared.request.TermSignal.{TermSignal}
use Rattle.run_events.specs.declared.request.TermSignal.TheVariants.{Kill}
use Rattle.run_events.specs.declared.request.TerminateReason.{TerminateReason}
use Rattle.run_events.specs.declared.request.TerminateReason.TheVariants.{Signal as Signalled}
use Rattle.run_events.specs.declared.result.ExecuteStatus.{ExecuteStatus}
use Rattle.run_model.specs.declared.phase.Phase.{Phase}
use Rattle.run_model.specs.declared.phase.Phase.TheVariants.{StartSent, Starting, Running, Grace, KillWait, Leak}
use Rattle.run_model.specs.declared.phase.Phase.TheVariants.{EnvWait, Deciding, Delay, RetrySent}
use Rattle.run_model.specs.declared.unit_turn.UnitTurn.{UnitTurn}
use Rattle.run_model.specs.declared.unit_turn.UnitTurn.TheVariants.{Answered, Started, StartFailed, Exit, WaitFailed}
use Rattle.run_model.specs.declared.unit_turn.UnitTurn.TheVariants.{Env, Due, Take, Decide}
use Rattle.run_model.specs.declared.unit_view.UnitView.{UnitView}
use Rattle.run_model.specs.Ending.{last_status}
use Rattle.run_model.specs.Info.{answer_in, answers_to, exited_answer, rounds_in, subject_of}
use Rattle.run_model.specs.Requests.{asked_to_end, requested, take_row}
use Rattle.run_model.specs.Retries.{decide_row, decided, delayed, has_retry, next_delay}
use Rattle.run_model.specs.Slow.{is_out_of_time, one_more}
use Rattle.run_model.specs.Terminate.{terminate_method}
use Rattle.run_model.specs.Unit.{at_moment, in_grace, out_of_time, row, row_at, running_row, slow_again, slow_row}
use Rattle.run_model.specs.Unit.{waited_row}

-- an answer of a unit of which this holds
abbrev pub IsOf : (InfoSubject → Type 0) → ℕ × InfoResponse → Type 0
IsOf P answer = P answer.1.subject

-- a row answers of such units alone
abbrev pub AreNamed : (InfoSubject → Type 0) → List (ℕ × InfoResponse) → Type 0
AreNamed P infos = All (IsOf P) infos

-- it holds of a unit, whatever its attempt is
abbrev IsUnitOf : (InfoSubject → Type 0) → UnitView → Type 0
IsUnitOf P u = (v : UnitView) → P (subject_of u.role v)

pub silent : (P : InfoSubject → Type 0) → AreNamed P []
silent P = All-nil (IsOf P)

all_of : (P : InfoSubject → Type 0) (rounds : List ℕ) (o : Option InfoResponse) → IfSome o (λ r. P r.subject)
    → AreNamed P (answers_to rounds o)
all_of P rounds None h = silent P
all_of P [] (Some answer) h = silent P
all_of P (round ∷ rounds) (Some answer) h =
    All-cons (IsOf P) (round, answer) (answers_to rounds (Some answer)) h (all_of P rounds (Some answer) h)

by_status : (P : InfoSubject → Type 0) (say : ExecuteStatus → InfoResponse) (o : Option ExecuteStatus)
    → ((s : ExecuteStatus) → P (say s).subject) → IfSome (option_map say o) (λ r. P r.subject)
by_status P say None h = tt
by_status P say (Some s) h = h s

exited_of : (P : InfoSubject → Type 0) (u : UnitView) → IsUnitOf P u → IfSome (exited_answer u) (λ r. P r.subject)
exited_of P u h = by_status P _ (last_status u.statuses) (λ s. h u)

answer_of_own : (P : InfoSubject → Type 0) (now : ℕ) (ph : Phase) (u : UnitView) → IsUnitOf P u
    → IfSome (answer_in now ph u) (λ r. P r.subject)
answer_of_own P now Running u h = h u
answer_of_own P now Grace u h = h u
answer_of_own P now Leak u h = h u
answer_of_own P now Delay u h = by_status P _ (last_status u.statuses) (λ s. h u)
answer_of_own P now ph u h = exited_of P u h

-- row by row
ends_quietly : (P : InfoSubject → Type 0) (now : ℕ) (reason : TerminateReason) (signal : TermSignal) (u : UnitView)
    → AreNamed P (asked_to_end now reason signal u).info
ends_quietly P now reason Kill u = silent P
ends_quietly P now reason signal u = silent P

requests : (P : InfoSubject → Type 0) (now : ℕ) (ph : Phase) (request : Request) (u : UnitView) → IsUnitOf P u
    → AreNamed P (requested now ph request u).info
requests P now ph (Stop round) u h = silent P
requests P now ph Continue u h = silent P
requests P now ph (GetInfo round) u h = all_of P (round ∷ []) (answer_in now ph u) (answer_of_own P now ph u h)
requests P now Running (Shutdown request) u h =
    ends_quietly P now (Signalled request) (terminate_method (Signalled request) u.terms.slow.grace) u
requests P now Grace (Shutdown request) u h = silent P
requests P now Delay (Shutdown request) u h = silent P
requests P now Delay OtherCancel u h = silent P
requests P now ph request u h = silent P

takes : (P : InfoSubject → Type 0) (now : ℕ) (ph : Phase) (line : List Request) (u : UnitView) → IsUnitOf P u
    → AreNamed P (take_row now ph line u).info
takes P now ph [] u h = silent P
takes P now ph (request ∷ line) u h = requests P now ph request (record u { line = line }) h

slows : (P : InfoSubject → Type 0) (now n : ℕ) (u : UnitView) → AreNamed P (slow_row now n u).info
slows P now n u = by_time (is_out_of_time u.terms.slow n) (u.terms.slow.grace == 0)
  where
    by_time : (out none : Bool)
        → AreNamed P (if out then (if none then out_of_time n u else in_grace now n u) else slow_again now n u).info
    by_time true true = silent P
    by_time true false = silent P
    by_time false none = silent P

decides : (P : InfoSubject → Type 0) (now word : ℕ) (u : UnitView) → IsUnitOf P u
    → AreNamed P (decide_row now word u).info
decides P now word u h = by_retry (has_retry u)
  where
    by_retry : (b : Bool) → AreNamed P (if b then delayed now (next_delay word u) u else decided u).info
    by_retry true = silent P
    by_retry false = all_of P (rounds_in u.line) (exited_answer u) (exited_of P u h)

runs : (P : InfoSubject → Type 0) (now : ℕ) (turn : UnitTurn) (u : UnitView) → AreNamed P (running_row now turn u).info
runs P now (Exit exit) u = silent P
runs P now (WaitFailed error) u = silent P
runs P now turn u = silent P

waits : (P : InfoSubject → Type 0) (now : ℕ) (turn : UnitTurn) (u : UnitView) → AreNamed P (waited_row now turn u).info
waits P now Due u = silent P
waits P now turn u = silent P

by_row : (P : InfoSubject → Type 0) (now : ℕ) (ph : Phase) (turn : UnitTurn) (u : UnitView) → IsUnitOf P u
    → AreNamed P (row_at now ph turn u).info
by_row P now StartSent (Answered true) u h = silent P
by_row P now StartSent (Answered false) u h = silent P
by_row P now Starting (Started pid) u h = silent P
by_row P now Starting (StartFailed error) u h = silent P
by_row P now Running Due u h = slows P now (one_more u.timers.slow_count) u
by_row P now Running Take u h = takes P now Running u.line u h
by_row P now Running turn u h = runs P now turn u
by_row P now Grace Due u h = silent P
by_row P now Grace Take u h = takes P now Grace u.line u h
by_row P now Grace turn u h = runs P now turn u
by_row P now KillWait turn u h = runs P now turn u
by_row P now Leak Take u h = takes P now Leak u.line u h
by_row P now Leak turn u h = waits P now turn u
by_row P now EnvWait (Env input) u h = silent P
by_row P now Deciding (Decide word) u h = decides P now word u h
by_row P now Delay Due u h = silent P
by_row P now Delay Take u h = takes P now Delay u.line u h
by_row P now RetrySent (Answered true) u h = silent P
by_row P now RetrySent (Answered false) u h = silent P
by_row P now ph turn u h = silent P

-- so is what a unit answers, if there is one
abbrev pub IsUnitIf : (InfoSubject → Type 0) → Option UnitView → Type 0
IsUnitIf P v = IfSome v (IsUnitOf P)

pub row_answers : (P : InfoSubject → Type 0) (now : ℕ) (turn : UnitTurn) (v : Option UnitView) → IsUnitIf P v
    → All (IsOf P) (unwrap_or (option_map (λ v. (row now turn v).info) v) [])
row_answers P now turn None h = silent P
row_answers P now turn (Some u) h = by_row P now u.phase turn (at_moment now u) h
