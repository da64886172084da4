-- A row leaves a unit at one of its attempts.
use Rattle.std.proofs.Common.{ℕ, ◌≡◌, ◌+◌, ◌<◌, ◌≤◌, ◌^◌, ◌==◌, List, [], ◌∷◌, Bool, true, false, if◌then◌else◌}
use Rattle.std.proofs.Common.{◌||◌, Option, Some, None, arith, subst, refl}
use Rattle.std.specs.Prelude.{slice_get}
use Rattle.run_capture.specs.Captured.{Captured, is_done, with_wait_error}
use Rattle.run_events.specs.declared.plan.PlanTest.{PlanTest}
use Rattle.run_events.specs.declared.request.Request.{Request}
use Rattle.run_events.specs.declared.request.Request.TheVariants.{Stop, Continue, Shutdown, OtherCancel, GetInfo}
use Rattle.run_events.specs.declared.request.TerminateReason.{TerminateReason}
use Rattle.run_events.specs.declared.request.TerminateReason.TheVariants.{Signal}
use Rattle.run_events.specs.declared.request.TermSignal.{TermSignal}
use Rattle.run_events.specs.declared.request.TermSignal.TheVariants.{Kill}
use Rattle.run_events.specs.declared.result.ChildExecutionOutput.TheVariants.{Output}
use Rattle.run_events.specs.declared.result.ChildExit.{ChildExit}
use Rattle.run_events.specs.declared.settings.Settings.{Settings}
use Rattle.run_model.specs.declared.phase.Phase.{Phase}
use Rattle.run_model.specs.declared.phase.Phase.TheVariants.{StartSent, Starting, Running, Grace, KillWait, Leak}
use Rattle.run_model.specs.declared.phase.Phase.TheVariants.{EnvWait, Deciding, Delay, RetrySent}
use Rattle.run_model.specs.declared.unit_turn.UnitTurn.{UnitTurn}
use Rattle.run_model.specs.declared.unit_turn.UnitTurn.TheVariants.{Answered, Started, StartFailed, Exit, WaitFailed}
use Rattle.run_model.specs.declared.unit_turn.UnitTurn.TheVariants.{Env, Due, Take, Decide}
use Rattle.run_model.specs.declared.unit_view.UnitView.{UnitView}
use Rattle.run_model.specs.Admission.{AreFew, retries_of, terms_if}
use Rattle.run_model.specs.Backoff.{retry_count}
use Rattle.run_model.specs.Environment.{attempts}
use Rattle.run_model.specs.Slow.{one_more, is_out_of_time}
use Rattle.run_model.specs.Terminate.{terminate_method}
use Rattle.run_model.specs.Ending.{settled, exited, result_of, awaits_env, awaiting_env, ended, leaking}
use Rattle.run_model.specs.Retries.{has_retry, next_delay, delayed, decided}
use Rattle.run_model.specs.Requests.{asked_to_end, requested, take_row}
use Rattle.run_model.specs.Unit.{row_at, running_row, slow_row, slow_again, in_grace, out_of_time, heard_with}
use Rattle.run_model.specs.Unit.{having_heard}
use Rattle.run_unit.specs.Timely.{last_in, IsTried}

-- the attempts of a test of a plan fit where those of the plan do
pub few_of : (p : Settings) (j : ℕ) (test : PlanTest) → AreFew p → slice_get p.plan.tests j ≡ Some test
    → retry_count (retries_of p test) + 1 < 2 ^ 32
few_of p j test few is =
    subst (λ (t : Option PlanTest). retry_count (terms_if p t).retries + 1 < 2 ^ 32) is (few.attempts j)

-- in each phase a unit is at one of its attempts
within : (ph : Phase) (n retries : ℕ) → n ≤ last_in ph retries → n ≤ retries + 1
within Delay n retries h = omega arith
within RetrySent n retries h = omega arith
within ph n retries h = h

tried_on : (u : UnitView) → IsTried u
    → (attempts u < 2 ^ 32) × (1 ≤ u.attempt) × (u.attempt ≤ retry_count u.terms.retries + 1)
tried_on u h = (h.0, h.1, within u.phase u.attempt (retry_count u.terms.retries) h.2)

-- a unit in this phase is at an attempt that it may be at there
tried_in : (ph : Phase) (u : UnitView) → u.phase ≡ ph → IsTried u
    → (attempts u < 2 ^ 32) × (1 ≤ u.attempt) × (u.attempt ≤ last_in ph (retry_count u.terms.retries))
tried_in ph u is h =
    (h.0, h.1, subst (λ (ph : Phase). u.attempt ≤ last_in ph (retry_count u.terms.retries)) is h.2)

-- it is at one of its attempts where its child is done with
exited_tried : (now : ℕ) (exit : Option ChildExit) (leaked : Bool) (c : Captured) (u : UnitView) → IsTried u
    → IsTried (exited now exit leaked c u)
exited_tried now exit leaked c u h =
    elim (awaits_env (result_of exit c.errors leaked u) u) as
    (λ b. IsTried (if b
    then awaiting_env now exit leaked c u
    else ended now (result_of exit c.errors leaked u) (Output c.output c.errors) u))
    [ true ↦ tried_on u h | false ↦ tried_on u h ]

-- where its child ends
settled_tried : (now : ℕ) (exit : Option ChildExit) (c : Captured) (u : UnitView) → IsTried u
    → IsTried (settled now exit c u)
settled_tried now exit c u h =
    elim (u.terms.skips_leak_detection || is_done c) as
    (λ b. IsTried (if b then exited now exit false c u else leaking now exit c u))
    [ true ↦ exited_tried now exit false c u h | false ↦ tried_on u h ]

-- where it hears a turn of a stream after its child ended
heard_tried : (now : ℕ) (c : Captured) (u : UnitView) → IsTried u → IsTried (heard_with now c u)
heard_tried now c u h =
    elim (is_done c) as (λ b. IsTried (if b then exited now u.exit false c u else record u { capture = c }))
    [ true ↦ exited_tried now u.exit false c u h | false ↦ h ]

-- where it runs out of time
out_of_time_tried : (now n : ℕ) (u : UnitView) → IsTried u
    → IsTried (if u.terms.slow.grace == 0 then out_of_time n u else in_grace now n u).next
out_of_time_tried now n u h =
    elim (u.terms.slow.grace == 0) as (λ b. IsTried (if b then out_of_time n u else in_grace now n u).next)
    [ true ↦ tried_on u h | false ↦ tried_on u h ]

-- where it is slow
slow_tried : (now n : ℕ) (u : UnitView) → IsTried u → IsTried (slow_row now n u).next
slow_tried now n u h =
    elim (is_out_of_time u.terms.slow n) as (λ b. IsTried (if b
    then (if u.terms.slow.grace == 0 then out_of_time n u else in_grace now n u)
    else slow_again now n u).next)
    [ true ↦ out_of_time_tried now n u h | false ↦ h ]

-- where it takes a turn while its child runs
running_tried : (now : ℕ) (turn : UnitTurn) (u : UnitView) → IsTried u → IsTried (running_row now turn u).next
running_tried now (Exit exit) u h = settled_tried now (Some exit) u.capture u h
running_tried now (WaitFailed error) u h = settled_tried now None (with_wait_error u.capture error) u h
running_tried now turn u h = h

-- where its child gets a signal that ends it
asked_tried : (now : ℕ) (reason : TerminateReason) (signal : TermSignal) (u : UnitView) → IsTried u
    → IsTried (asked_to_end now reason signal u).next
asked_tried now reason Kill u h = h
asked_tried now reason signal u h = tried_on u h

-- where it takes a request
requested_tried : (now : ℕ) (ph : Phase) (request : Request) (u : UnitView) → u.phase ≡ ph → IsTried u
    → IsTried (requested now ph request u).next
requested_tried now ph (Stop round) u is h = h
requested_tried now ph Continue u is h = h
requested_tried now ph (GetInfo round) u is h = h
requested_tried now Running (Shutdown request) u is h =
    asked_tried now (Signal request) (terminate_method (Signal request) u.terms.slow.grace) u h
requested_tried now Grace (Shutdown request) u is h = tried_on u h
requested_tried now Delay (Shutdown request) u is h = tried_in Delay u is h
requested_tried now Delay OtherCancel u is h = tried_in Delay u is h
requested_tried now ph request u is h = h

-- where it takes the oldest request of a line
take_tried : (now : ℕ) (ph : Phase) (line : List Request) (u : UnitView) → u.phase ≡ ph → IsTried u
    → IsTried (take_row now ph line u).next
take_tried now ph [] u is h = h
take_tried now ph (request ∷ line) u is h = requested_tried now ph request (record u { line = line }) is h

-- where it decides: it is tried again only where a retry is left
has_left : (u : UnitView) → has_retry u ≡ true → u.attempt ≤ retry_count u.terms.retries
has_left u is = grind arith

decide_tried : (now word : ℕ) (u : UnitView) (again : Bool) → has_retry u ≡ again → IsTried u
    → IsTried (if again then delayed now (next_delay word u) u else decided u).next
decide_tried now word u true is h = (h.0, h.1, has_left u is)
decide_tried now word u false is h = tried_on u h

-- where it is let go for its next attempt
next_tried : (u : UnitView) → u.phase ≡ RetrySent → IsTried u
    → (attempts u < 2 ^ 32) × (1 ≤ u.attempt + 1) × (u.attempt + 1 ≤ retry_count u.terms.retries + 1)
next_tried u is h =
    let left : u.attempt ≤ retry_count u.terms.retries = (tried_in RetrySent u is h).2 in
    (h.0, omega arith, omega arith)

-- a row leaves a unit at one of its attempts
pub row_tried : (now : ℕ) (ph : Phase) (turn : UnitTurn) (u : UnitView) → u.phase ≡ ph → IsTried u
    → IsTried (row_at now ph turn u).next
row_tried now StartSent (Answered true) u is h = tried_on u h
row_tried now StartSent (Answered false) u is h = tried_on u h
row_tried now Starting (Started pid) u is h = tried_on u h
row_tried now Starting (StartFailed error) u is h = tried_on u h
row_tried now Running Due u is h = slow_tried now (one_more u.timers.slow_count) u h
row_tried now Running Take u is h = take_tried now Running u.line u is h
row_tried now Running turn u is h = running_tried now turn u h
row_tried now Grace Due u is h = tried_on u h
row_tried now Grace Take u is h = take_tried now Grace u.line u is h
row_tried now Grace turn u is h = running_tried now turn u h
row_tried now KillWait turn u is h = running_tried now turn u h
row_tried now Leak Due u is h = exited_tried now u.exit true u.capture u h
row_tried now Leak Take u is h = take_tried now Leak u.line u is h
row_tried now Leak turn u is h = heard_tried now (having_heard u.capture turn) u h
row_tried now EnvWait (Env input) u is h = tried_on u h
row_tried now Deciding (Decide word) u is h = decide_tried now word u (has_retry u) refl h
row_tried now Delay Due u is h = tried_in Delay u is h
row_tried now Delay Take u is h = take_tried now Delay u.line u is h
row_tried now RetrySent (Answered true) u is h = next_tried u is h
row_tried now RetrySent (Answered false) u is h = tried_on u h
row_tried now ph turn u is h = h
