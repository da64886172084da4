-- What the rows of a generated run do to the weight of their unit.
use Rattle.std.proofs.Common.{◌≡◌, ℕ, ◌+◌, ◌-◌, ◌<◌, ◌≤◌, ◌&&◌, ◌||◌, not, List, [], ◌∷◌, length, Bool, true}
use Rattle.std.proofs.Common.{false, Option, Some, None, option_to_list, if◌then◌else◌, nat_le, refl, ap, sym}
use Rattle.std.proofs.Common.{◌∙◌, subst, arith}
use Rattle.std.proofs.lemmas.Bool.Decides.{nat_tests}
use Rattle.run_capture.specs.declared.test_output.Stream.TheVariants as streams
use Rattle.run_clock.specs.Sleep.{fires_now}
use Rattle.run_events.specs.declared.request.Request.{Request}
use Rattle.run_events.specs.declared.request.Request.TheVariants.{OtherCancel}
use Rattle.run_events.specs.declared.result.ChildExit.{ChildExit}
use Rattle.run_model.specs.Backoff.{retry_count, delay_by}
use Rattle.run_capture.specs.Captured.{begun, is_done}
use Rattle.run_events.specs.Result.{is_success}
use Rattle.run_events.specs.declared.result.ChildExecutionOutput.TheVariants.{Output}
use Rattle.run_events.specs.declared.result.ExecutionResult.{ExecutionResult}
use Rattle.run_model.specs.Ending.{last_status, exited, settled, ended as attempt_ended, leaking, awaiting_env}
use Rattle.run_model.specs.Ending.{result_of}
use Rattle.run_model.specs.Row.{quiet}
use Rattle.run_model.specs.Requests.{has_request, take_row}
use Rattle.run_model.specs.Retries.{decided, delayed, finish_message, failure_message}
use Rattle.run_model.specs.Retries.{has_passed, has_retry, next_delay, retry_message}
use Rattle.run_model.specs.Unit.{at_moment, row_at, takes_at, slow_timer_at, nothing_captured}
use Rattle.run_model.specs.declared.phase.Phase.{Phase}
use Rattle.run_model.specs.declared.phase.Phase.TheVariants.{StartSent, Starting, Running, Grace, KillWait, Leak}
use Rattle.run_model.specs.declared.phase.Phase.TheVariants.{EnvWait, Deciding, Delay, RetrySent, Over}
use Rattle.run_model.specs.declared.unit_turn.UnitTurn.TheVariants.{Answered, Decide, Due, Exit, Started, StreamEnd}
use Rattle.run_model.specs.declared.unit_turn.UnitTurn.TheVariants.{Take}
use Rattle.run_model.specs.declared.unit_view.AttemptTerms.{AttemptTerms}
use Rattle.run_model.specs.declared.unit_view.UnitView.{UnitView}
use Rattle.run_laws_generate.proofs.Weights.{AreCancels, IsEasy, IsFarOff, IsPlain, Lessens, StandsIn, weight}
use Rattle.run_laws_generate.proofs.Weights.{weight_at}

-- a message at most is sent
pub one_sent : {X : Type 0} (o : Option X) → length (option_to_list o) ≤ 1
one_sent None = omega arith
one_sent (Some x) = omega arith

-- a slow timer that is set at any moment
far_off : (now : ℕ) (terms : AttemptTerms) → IsPlain terms → IsFarOff (slow_timer_at now terms)
far_off now terms plain = λ moment early. by_set moment early terms.disables_timeouts
  where
    late : (a moment : ℕ) → moment < 60000000000 → nat_le (a + 60000000000) moment ≡ false
    late a moment early = grind (arith, nat_tests)

    by_set : (moment : ℕ) → moment < 60000000000 → (b : Bool)
        → fires_now moment (if b then None else slow_timer_at now (record terms { disables_timeouts = false })) ≡ false
    by_set moment early true = refl
    by_set moment early false = rw plain.slow (late now moment early)

-- its child has started
pub started_row : (now pid : ℕ) (ended : Bool) (ph : Phase) (u : UnitView)
    → takes_at now ph u (Started pid) ≡ true → StandsIn now ended ph u → AreCancels u.line → IsPlain u.terms
    → Lessens now false ph u 1 (row_at now ph (Started pid) (at_moment now u))
started_row now pid ended Starting u takes stands line plain = record {
  less = omega arith;
  easy = record { stands = (stands, far_off now u.terms plain); line = line };
}
started_row now pid ended ph u takes stands line plain = cc

-- the output of its child has ended, which lessens nothing by itself
pub stream_row : (now : ℕ) (ph : Phase) (u : UnitView)
    → ph ≡ Running → StandsIn now false ph u → u.phase ≡ ph → AreCancels u.line
    → Lessens now true ph u 0 (row_at now ph (StreamEnd streams.Combined) (at_moment now u))
stream_row now Running u runs stands at line = record {
  less = rw at (omega arith);
  easy = record { stands = rw at (rw stands.0 refl, stands.1); line = line };
}
stream_row now ph u runs stands at line = cc

-- its child exits after that, and the attempt ends: with the tick and the end of its output that is twenty-two
pub exit_row : (now : ℕ) (exit : ChildExit) (ph : Phase) (u : UnitView)
    → ph ≡ Running → StandsIn now true ph u → AreCancels u.line → IsPlain u.terms
    → Lessens now false ph u 22 (row_at now ph (Exit exit) (at_moment now u))
exit_row now exit Running u runs stands line plain =
    subst (λ v. Lessens now false Running u 22 (quiet v)) (sym ends)
    (record { less = omega arith; easy = record { stands = tt; line = line } })
  where
    v : UnitView
    v = at_moment now u

    result : ExecutionResult
    result = result_of (Some exit) v.capture.errors false v

    or_true : (b : Bool) → (b || true) ≡ true
    or_true true = refl
    or_true false = refl

    ends : settled now (Some exit) v.capture v ≡ attempt_ended now result (Output v.capture.output v.capture.errors) v
    ends =
        ap (λ b. if b then exited now (Some exit) false v.capture v else leaking now (Some exit) v.capture v)
        (ap (λ c. u.terms.skips_leak_detection || is_done c) stands.0 ∙ or_true u.terms.skips_leak_detection)
        ∙ ap (λ b. if b
        then awaiting_env now (Some exit) false v.capture v
        else attempt_ended now result (Output v.capture.output v.capture.errors) v)
        (ap (λ b. b && is_success result) plain.reads_env)
exit_row now exit ph u runs stands line plain = cc

-- it decides that it is done, or that it is tried again
pub decide_lessens : (now word : ℕ) (ended : Bool) (ph : Phase) (u : UnitView)
    → takes_at now ph u (Decide word) ≡ true → AreCancels u.line → IsPlain u.terms
    → Lessens now false ph u 1 (row_at now ph (Decide word) (at_moment now u))
decide_lessens now word ended Deciding u takes line plain = by_retry (has_retry u) refl
  where
    v : UnitView
    v = at_moment now u

    within : (b c : Bool) → (b && c) ≡ true → c ≡ true
    within true c e = e
    within false c e = cc

    none : next_delay word v ≡ 0
    none = ap (λ r. delay_by r (u.attempt - 1) word) plain.is_fixed

    due : (delay : ℕ) → delay ≡ 0 → nat_le (now + delay) now ≡ true
    due delay e = grind (arith, nat_tests)

    by_retry : (b : Bool) → has_retry u ≡ b
        → Lessens now false Deciding u 1 (if b then delayed now (next_delay word v) v else decided v)
    by_retry true again =
        let below : nat_le u.attempt (retry_count u.terms.retries) ≡ true =
        within (not (has_passed (last_status u.statuses))) (nat_le u.attempt (retry_count u.terms.retries)) again in
        let most : u.attempt ≤ retry_count u.terms.retries = grind (arith, nat_tests) in
        let sends = one_sent (failure_message v.role (next_delay word v) (last_status v.statuses)) in
        record {
          less = omega arith;
          easy = record { stands = due (next_delay word v) none; line = line };
        }
    by_retry false again =
        let sends = one_sent (finish_message v.role v) in
        record { less = omega arith; easy = record { stands = tt; line = tt } }
decide_lessens now word ended ph u takes line plain = cc

-- the oldest request of a line is taken, which leaves a child that runs as it is and ends a delay
take_running : (now : ℕ) (line : List Request) (u : UnitView) → has_request line ≡ true → AreCancels line
    → u.phase ≡ Running → StandsIn now false Running u
    → (weight (Some (take_row now Running line u).next) + length (option_to_list (take_row now Running line u).sent) + 1
    ≤ weight_at Running (retry_count u.terms.retries) u.attempt + length line)
    × IsEasy now false (take_row now Running line u).next
take_running now [] u some cancels at stands = cc
take_running now (OtherCancel ∷ line) u some cancels at stands =
    (rw at (omega arith), record { stands = rw at stands; line = cancels.1 })
take_running now (request ∷ line) u some cancels at stands = let never = cancels.0 in cc

-- the same of a unit in a delay
take_delay : (now : ℕ) (line : List Request) (u : UnitView) → has_request line ≡ true → AreCancels line
    → (weight (Some (take_row now Delay line u).next) + length (option_to_list (take_row now Delay line u).sent) + 1
    ≤ weight_at Delay (retry_count u.terms.retries) u.attempt + length line)
    × IsEasy now false (take_row now Delay line u).next
take_delay now [] u some cancels = cc
take_delay now (OtherCancel ∷ line) u some cancels =
    let sends = one_sent (retry_message u.role (record u { line = line })) in
    (omega arith, record { stands = tt; line = cancels.1 })
take_delay now (request ∷ line) u some cancels = let never = cancels.0 in cc

-- so a request that is taken lessens the weight
pub take_lessens : (now : ℕ) (ph : Phase) (u : UnitView)
    → takes_at now ph u Take ≡ true → StandsIn now false ph u → u.phase ≡ ph → AreCancels u.line
    → Lessens now false ph u 1 (row_at now ph Take (at_moment now u))
take_lessens now Running u takes stands at line =
    let it = take_running now u.line (at_moment now u) takes line at stands in record { less = it.0; easy = it.1 }
take_lessens now Delay u takes stands at line =
    let it = take_delay now u.line (at_moment now u) takes line in record { less = it.0; easy = it.1 }
take_lessens now Grace u takes stands at line = absurd stands
take_lessens now Leak u takes stands at line = absurd stands
take_lessens now ph u takes stands at line = cc

-- a delay is over; no slow timer is due within a minute
pub due_lessens : (now : ℕ) (ph : Phase) (u : UnitView) → now < 60000000000
    → takes_at now ph u Due ≡ true → StandsIn now false ph u → AreCancels u.line
    → Lessens now false ph u 1 (row_at now ph Due (at_moment now u))
due_lessens now Running u early takes stands line =
    let never : false ≡ true = sym (stands.1 now early) ∙ takes in cc
due_lessens now Delay u early takes stands line =
    let sends = one_sent (retry_message u.role (at_moment now u)) in
    record { less = omega arith; easy = record { stands = tt; line = line } }
due_lessens now Grace u early takes stands line = absurd stands
due_lessens now Leak u early takes stands line = absurd stands
due_lessens now ph u early takes stands line = cc

-- an answer never adds to the weight
same_row : (now : ℕ) (ended : Bool) (ph : Phase) (u : UnitView) → u.phase ≡ ph → StandsIn now ended ph u
    → AreCancels u.line → Lessens now ended ph u 0 (quiet (at_moment now u))
same_row now ended ph u at stands line = record {
  less = rw at (omega arith);
  easy = record {
    stands = subst (λ q. StandsIn now ended q (at_moment now u)) (sym at) (unread ph stands);
    line = line;
  };
}
  where
    unread : (ph : Phase) → StandsIn now ended ph u → StandsIn now ended ph (at_moment now u)
    unread StartSent h = h
    unread Starting h = h
    unread Running h = h
    unread Grace h = h
    unread KillWait h = h
    unread Leak h = h
    unread EnvWait h = h
    unread Deciding h = h
    unread Delay h = h
    unread RetrySent h = h
    unread Over h = h

-- the answer to its start or its retry, or to nothing
pub answered_row : (now : ℕ) (go ended : Bool) (ph : Phase) (u : UnitView)
    → u.phase ≡ ph → StandsIn now ended ph u → AreCancels u.line → IsPlain u.terms
    → Lessens now ended ph u 0 (row_at now ph (Answered go) (at_moment now u))
answered_row now true ended StartSent u at stands line plain = record {
  less = omega arith;
  easy = record { stands = ap (λ s. begun (nothing_captured s)) plain.streams; line = line };
}
answered_row now false ended StartSent u at stands line plain =
    record { less = omega arith; easy = record { stands = tt; line = line } }
answered_row now true ended RetrySent u at stands line plain = record {
  less = omega arith;
  easy = record { stands = ap (λ s. begun (nothing_captured s)) plain.streams; line = line };
}
answered_row now false ended RetrySent u at stands line plain =
    record { less = omega arith; easy = record { stands = tt; line = tt } }
answered_row now go ended Grace u at stands line plain = absurd stands
answered_row now go ended KillWait u at stands line plain = absurd stands
answered_row now go ended Leak u at stands line plain = absurd stands
answered_row now go ended EnvWait u at stands line plain = absurd stands
answered_row now go ended ph u at stands line plain = same_row now ended ph u at stands line
