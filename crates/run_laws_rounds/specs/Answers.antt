-- What a unit answers where it is asked what it is doing, by its own turns alone.
use Rattle.std.specs.Prelude.{ℕ, ◌≡◌, ◌-◌, List, [], ◌∷◌, ◌++◌, nat_lt, ◌||◌, if◌then◌else◌, Option, Some, None}
use Rattle.std.specs.Prelude.{is_some, unwrap_or}
use Rattle.run_capture.specs.Output.{uncaptured}
use Rattle.run_clock.specs.Counted.{Timer, counted_time}
use Rattle.run_events.specs.declared.info.InfoResponse.{InfoResponse}
use Rattle.run_events.specs.declared.info.UnitState.{UnitState}
use Rattle.run_events.specs.declared.info.UnitState.TheVariants as states
use Rattle.run_events.specs.declared.info.Waiting.{Waiting}
use Rattle.run_events.specs.declared.plan.SlowTimeout.{SlowTimeout}
use Rattle.run_events.specs.declared.request.Request.{Request}
use Rattle.run_events.specs.declared.request.Request.TheVariants.{Shutdown, GetInfo}
use Rattle.run_events.specs.declared.request.TerminateReason.{TerminateReason}
use Rattle.run_events.specs.declared.request.TerminateReason.TheVariants.{Signal, Timeout}
use Rattle.run_events.specs.declared.result.ChildExecutionOutput.{ChildExecutionOutput}
use Rattle.run_events.specs.declared.result.ChildExecutionOutput.TheVariants.{Output}
use Rattle.run_events.specs.declared.result.ExecutionResult.{ExecutionResult}
use Rattle.run_events.specs.declared.settings.Settings.{Settings}
use Rattle.run_model.specs.declared.entry.Entry.{Entry}
use Rattle.run_model.specs.declared.happening.Happening.{Happening}
use Rattle.run_model.specs.declared.happening.UnitPart.TheVariants.{Acts}
use Rattle.run_model.specs.declared.unit_turn.UnitTurn.{UnitTurn}
use Rattle.run_model.specs.declared.unit_turn.UnitTurn.TheVariants.{Started, Take}
use Rattle.run_model.specs.declared.unit_view.AttemptTerms.{AttemptTerms}
use Rattle.run_model.specs.declared.unit_view.UnitView.{UnitView}
use Rattle.run_model.specs.Admission.{unit_terms}
use Rattle.run_model.specs.Attempts.{attempt_pauses, delay_timer, errors_heard, exit_of, output_of, pieces_of}
use Rattle.run_model.specs.Attempts.{result_by, result_in, start_of}
use Rattle.run_model.specs.Info.{subject_of}
use Rattle.run_model.specs.Journal.{IsLegal, past_of}
use Rattle.run_model.specs.Story.{Attempt, OwnTurn, any_is, cut, first_said, line_of, oldest}
use Rattle.run_model.specs.Terminate.{terminate_method}
use Rattle.run_model.specs.Timing.{begins_grace, ends_wait, has_timed_out, leak_timer, slow_count, standing}
use Rattle.run_model.specs.Timing.{timer_since}
use Rattle.run_model.specs.Turns.{happening}
use Rattle.run_model.specs.Words.{sub_run, unit_of}

-- the process of its child, by the turn with which that started
abbrev pub pid_in : UnitTurn → Option ℕ
pid_in (Started pid) = Some pid
pid_in _ = None

abbrev pub pid_of : List OwnTurn → ℕ
pid_of piece = unwrap_or (first_said (λ t. pid_in t.turn) piece) 0

-- the time of an attempt so far, and after which time it was slow, where it was
abbrev pub time_so_far : AttemptTerms → List OwnTurn → ℕ → ℕ
time_so_far terms piece now = counted_time (start_of piece) (attempt_pauses terms piece) now

abbrev pub slow_so_far : AttemptTerms → List OwnTurn → Option ℕ
slow_so_far terms piece = if nat_lt 0 (slow_count terms.slow piece) then Some terms.slow.period else None

-- why its child is given time to end by itself: by the newest turn that gave it some
abbrev pub reason_with : Option Request → TerminateReason
reason_with (Some (Shutdown request)) = Signal request
reason_with request = Timeout

abbrev pub why_ended : SlowTimeout → List OwnTurn → TerminateReason
why_ended slow [] = Timeout
why_ended slow (t ∷ before) = if begins_grace slow t before then reason_with t.request else why_ended slow before

-- the timer of that time
abbrev pub grace_timer : SlowTimeout → List OwnTurn → Timer
grace_timer slow piece = timer_since (begins_grace slow) slow.grace piece

-- its result as its child ended: none after a failed wait, unless it had run out of time
abbrev pub result_there : AttemptTerms → List OwnTurn → Option ExecutionResult
result_there terms piece =
    if has_timed_out terms.slow piece || is_some (exit_of piece) then Some (result_by terms piece None) else None

abbrev pub result_then : AttemptTerms → List OwnTurn → Option ExecutionResult
result_then terms [] = None
result_then terms (t ∷ before) =
    if ends_wait t.turn then result_there terms (t ∷ before) else result_then terms before

-- how long it has waited for a timer, and how long it still does
abbrev pub waiting_for : Timer → ℕ → Waiting
waiting_for timer now = record {
  waiting = counted_time timer.set timer.past now;
  remaining = timer.duration - counted_time timer.set timer.past now;
}

-- the state of an attempt that goes on: its child has ended, and its streams are waited for; it is given time to end by
-- itself; or it runs
abbrev pub state_in : AttemptTerms → ℕ → List OwnTurn → UnitState
state_in terms now piece =
    if any_is ends_wait piece
    then states.Exiting (pid_of piece) (time_so_far terms piece now) (slow_so_far terms piece)
    (result_then terms piece) (waiting_for (leak_timer terms.leak.period piece) now)
    else if (standing terms.slow piece).in_grace
    then states.Terminating (pid_of piece) (time_so_far terms piece now) (why_ended terms.slow piece)
    (terminate_method (why_ended terms.slow piece) terms.slow.grace) (waiting_for (grace_timer terms.slow piece) now)
    else states.Running (pid_of piece) (time_so_far terms piece now) (slow_so_far terms piece)

-- the state and the output by all attempts: between two of them the failed one's, with no output
abbrev pub state_then : AttemptTerms → ℕ → List Attempt → Option (UnitState × ChildExecutionOutput)
state_then terms now [] = None
state_then terms now (cut piece [] ∷ earlier) =
    Some (state_in terms now piece, Output (output_of terms.streams piece) (errors_heard piece))
state_then terms now (cut piece (d ∷ after) ∷ earlier) = Some (
  states.Delay (result_in terms piece) (nat_lt 0 (slow_count terms.slow piece))
      (waiting_for (delay_timer terms.retries (d ∷ after) (cut piece (d ∷ after) ∷ earlier)) now),
  Output uncaptured [],
)

-- a turn with which unit k takes a query answers that alone, with its round: with what it is doing by its own turns
abbrev pub answer_with : UnitView → UnitState × ChildExecutionOutput → InfoResponse
answer_with u said = record { subject = subject_of u.role u; state = said.0; output = said.1 }

abbrev pub AnswersAsItIs : Settings → List Happening → Happening → Type 0
AnswersAsItIs p run x = (k round : ℕ) (u : UnitView) → x.part ≡ Some (Acts k Take) → unit_of k run ≡ Some u
    → oldest (line_of k run) ≡ Some (GetInfo round)
    → (said : UnitState × ChildExecutionOutput)
    × ((state_then (unit_terms p k) x.moment (pieces_of k run) ≡ Some said)
    × (x.info ≡ (round, answer_with u said) ∷ []))

-- that holds of each turn of every legal journal
abbrev pub AnswersAreOwnTurns : Type 0
AnswersAreOwnTurns = (p : Settings) (journal : List Entry) (e : Entry) → IsLegal p (journal ++ e ∷ [])
    → AnswersAsItIs p (sub_run (past_of p journal)) (happening p (past_of p journal) e)
