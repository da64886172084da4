-- What a row sends, message by message.
use Rattle.std.specs.Prelude.{IfSome}
use Rattle.std.proofs.Common.{◌≡◌, ◌⊎◌, inl, inr, ℕ, ◌==◌, List, [], ◌∷◌, Bool, true, false, if◌then◌else◌, Option}
use Rattle.std.proofs.Common.{Some, None, refl, sym, subst, ◌∙◌}
use Rattle.run_events.specs.declared.message.Message.{Message}
use Rattle.run_events.specs.declared.request.Request.{Request}
use Rattle.run_events.specs.declared.request.Request.TheVariants.{Stop, Continue, Shutdown, GetInfo}
use Rattle.run_events.specs.declared.request.TermSignal.{TermSignal}
use Rattle.run_events.specs.declared.request.TermSignal.TheVariants.{Kill}
use Rattle.run_events.specs.declared.request.TerminateReason.{TerminateReason}
use Rattle.run_events.specs.declared.request.TerminateReason.TheVariants.{Signal as Signalled}
use Rattle.run_model.specs.declared.phase.Phase.{Phase}
use Rattle.run_model.specs.declared.phase.Phase.TheVariants.{StartSent, Starting, Running, Grace, KillWait, Leak}
use Rattle.run_model.specs.declared.phase.Phase.TheVariants.{EnvWait, Delay, RetrySent}
use Rattle.run_model.specs.declared.unit_turn.UnitTurn.{UnitTurn}
use Rattle.run_model.specs.declared.unit_turn.UnitTurn.TheVariants.{Answered, Started, StartFailed, Exit, WaitFailed}
use Rattle.run_model.specs.declared.unit_turn.UnitTurn.TheVariants.{Env, Due, Take}
use Rattle.run_model.specs.declared.unit_view.UnitView.{UnitView}
use Rattle.run_model.specs.Slow.{one_more, is_out_of_time}
use Rattle.run_model.specs.Terminate.{terminate_method}
use Rattle.run_model.specs.Ending.{last_status}
use Rattle.run_model.specs.Row.{Row}
use Rattle.run_model.specs.Retries.{failure_message, finish_message, next_delay, retry_message}
use Rattle.run_model.specs.Requests.{asked_to_end, requested, take_row}
use Rattle.run_model.specs.Unit.{row_at, takes_at, running_row, waited_row, slow_message, slow_report, slow_row}
use Rattle.run_model.specs.Unit.{slow_again, in_grace, out_of_time}
use Rattle.run_laws.proofs.units.OpenRows.{is_open}
use Rattle.run_laws.proofs.units.Rows.{StaysOrGoes, Takes, answers, opens, decides, passes, again, decide_cases}
use Rattle.run_laws.proofs.units.Rows.{row_passes, row_takes}

-- it sends nothing, or that it is slow
abbrev pub SaysSlow : UnitView → Row → Type 0
SaysSlow u r = (r.sent ≡ None) ⊎ ((n : ℕ) × (r.sent ≡ slow_message n u))

ends_quietly : (now : ℕ) (reason : TerminateReason) (signal : TermSignal) (u v : UnitView)
    → SaysSlow u (asked_to_end now reason signal v)
ends_quietly now reason Kill u v = inl refl
ends_quietly now reason signal u v = inl refl

slows : (now n : ℕ) (u : UnitView) → SaysSlow u (slow_row now n u)
slows now n u = by_time (is_out_of_time u.terms.slow n) (u.terms.slow.grace == 0)
  where
    by_time : (out none : Bool)
        → SaysSlow u (if out then (if none then out_of_time n u else in_grace now n u) else slow_again now n u)
    by_time false none = inr (n, refl)
    by_time true true = inr (n, refl)
    by_time true false = inr (n, refl)

requests : (now : ℕ) (ph : Phase) (line : List Request) (u : UnitView) → is_open ph ≡ true
    → SaysSlow u (take_row now ph line u)
requests now ph [] u on = inl refl
requests now ph (request ∷ line) u on = by_request ph request on
  where
    by_request : (ph : Phase) (request : Request) → is_open ph ≡ true
        → SaysSlow u (requested now ph request (record u { line = line }))
    by_request Delay request on = cc
    by_request ph (Stop round) on = inl refl
    by_request ph Continue on = inl refl
    by_request ph (GetInfo round) on = inl refl
    by_request Running (Shutdown request) on =
        ends_quietly now (Signalled request) (terminate_method (Signalled request) u.terms.slow.grace) u
        (record u { line = line })
    by_request Grace (Shutdown request) on = inl refl
    by_request ph request on = inl refl

runs : (now : ℕ) (turn : UnitTurn) (u : UnitView) → SaysSlow u (running_row now turn u)
runs now (Exit exit) u = inl refl
runs now (WaitFailed error) u = inl refl
runs now turn u = inl refl

waits : (now : ℕ) (turn : UnitTurn) (u : UnitView) → SaysSlow u (waited_row now turn u)
waits now Due u = inl refl
waits now turn u = inl refl

pub open_says : (now : ℕ) (ph : Phase) (turn : UnitTurn) (u : UnitView) → is_open ph ≡ true
    → SaysSlow u (row_at now ph turn u)
open_says now Starting (Started pid) u on = inl refl
open_says now Starting (StartFailed error) u on = inl refl
open_says now Starting turn u on = inl refl
open_says now Running Due u on = slows now (one_more u.timers.slow_count) u
open_says now Running Take u on = requests now Running u.line u refl
open_says now Running turn u on = runs now turn u
open_says now Grace Due u on = inl refl
open_says now Grace Take u on = requests now Grace u.line u refl
open_says now Grace turn u on = runs now turn u
open_says now KillWait turn u on = runs now turn u
open_says now Leak Take u on = requests now Leak u.line u refl
open_says now Leak turn u on = waits now turn u
open_says now EnvWait (Env input) u on = inl refl
open_says now EnvWait turn u on = inl refl
open_says now ph turn u on = cc

-- what holds of each message that a unit may send: that it is slow, that an attempt failed, its retry and its finish
pub record Says (P : Message → Type 0) (u : UnitView) : Type 0 where
  pub slow : (n : ℕ) → P (slow_report n u.role u)
  pub failure : (delay : ℕ) → IfSome (failure_message u.role delay (last_status u.statuses)) P
  pub retry : IfSome (retry_message u.role u) P
  pub finish : IfSome (finish_message u.role u) P

slow_if : (P : Message → Type 0) (n : ℕ) (u : UnitView) → P (slow_report n u.role u) → IfSome (slow_message n u) P
slow_if P n u h = by_grace (u.terms.slow.grace == 0)
  where
    by_grace : (b : Bool) → IfSome (if b then None else Some (slow_report n u.role u)) P
    by_grace true = tt
    by_grace false = h

-- holds of what a row sends
pub row_says : (P : Message → Type 0) (now : ℕ) (ph : Phase) (turn : UnitTurn) (u : UnitView) → Says P u → u.phase ≡ ph
    → takes_at now ph u turn ≡ true → IfSome (row_at now ph turn u).sent P
row_says P now ph turn u says is en = by_take (row_takes now ph turn u en)
  where
    Fine : Option Message → Type 0
    Fine o = IfSome o P

    by_slow : (r : Row) → SaysSlow u r → Fine r.sent
    by_slow r (inl none) = subst Fine (sym none) tt
    by_slow r (inr (n, slow)) = subst Fine (sym slow) (slow_if P n u (says.slow n))

    by_way : (r : Row) → StaysOrGoes u r → Fine r.sent
    by_way r (inl stays) = subst Fine (sym stays.1) tt
    by_way r (inr goes) = subst Fine (sym goes.1) says.retry

    by_go : (go : Bool) → Fine (row_at now StartSent (Answered go) u).sent
    by_go true = tt
    by_go false = tt

    by_retry : (go : Bool) → Fine (row_at now RetrySent (Answered go) u).sent
    by_retry true = tt
    by_retry false = tt

    by_take : Takes ph turn → Fine (row_at now ph turn u).sent
    by_take (answers go at to) = rw (at, to) (by_go go)
    by_take (opens on) = by_slow (row_at now ph turn u) (open_says now ph turn u on)
    by_take (decides word at to) =
        rw (at, to) (decide_cases (λ r. Fine r.sent) now word u (λ _. says.failure (next_delay word u))
        (λ _. says.finish))
    by_take (passes at to) = rw at (by_way (row_at now Delay turn u) (row_passes now turn u (is ∙ at)).way)
    by_take (again go at to) = rw (at, to) (by_retry go)
