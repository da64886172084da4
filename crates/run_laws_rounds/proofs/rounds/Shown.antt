-- What a unit keeps for its answers, and its pieces.
use Rattle.std.proofs.Common.{◌≡◌, ℕ, ◌≤◌, List, [], ◌∷◌, ◌++◌, Bool, true, false, Option, Some, None, refl, ap}
use Rattle.std.proofs.Common.{arith, append_assoc}
use Rattle.std.specs.Option.{option_or}
use Rattle.std.specs.Prelude.{⊤}
use Rattle.run_clock.specs.Counted.{Mark, Timer, pause, resume, IsInOrder, marked}
use Rattle.run_clock.specs.Stopwatch.{Times, Watch, started_at}
use Rattle.run_events.specs.declared.plan.SlowTimeout.{SlowTimeout}
use Rattle.run_model.specs.declared.phase.Phase.{Phase}
use Rattle.run_model.specs.declared.phase.Phase.TheVariants.{Starting, Running, Grace, KillWait, Leak, Deciding, Delay}
use Rattle.run_model.specs.declared.unit_view.AttemptTerms.{AttemptTerms}
use Rattle.run_model.specs.declared.unit_view.UnitView.{UnitView}
use Rattle.run_model.specs.Attempts.{delay_timer}
use Rattle.run_model.specs.Pauses.{watch_paused, watch_resumed}
use Rattle.run_model.specs.Story.{Attempt, OwnTurn, any_is, cut, first_said, newest_after}
use Rattle.run_model.specs.Timing.{begins_grace, ends_wait, leak_timer, pause_at, pause_left, pauses_since, is_due_turn}
use Rattle.run_model.specs.Timing.{slow_count}
use Rattle.run_model.proofs.PauseLemmas.{IsSoundBy, sound_later, sound_paused, sound_resumed, sound_started}
use Rattle.run_model.proofs.PauseLemmas.{times_paused, times_resumed, times_started}
use Rattle.run_laws_rounds.specs.Answers.{why_ended, grace_timer, pid_in, result_then}
use Rattle.run_laws.proofs.units.StandingLemmas.{is_in_grace}
use Rattle.run_clock.proofs.CountedLemmas.{later_order}

-- a stopwatch times how long a timer was waited for
pub record WaitsFor (timer : Timer) (watch : Watch) (latest : ℕ) : Type 0 where
  pub times : Times timer.set timer.past watch
  pub order : IsInOrder timer.set timer.past latest
  pub sound : IsSoundBy watch latest

pub waits_later : (timer : Timer) (watch : Watch) (now later : ℕ) → now ≤ later → WaitsFor timer watch now
    → WaitsFor timer watch later
waits_later timer watch now later le h = record {
  times = h.times;
  order = later_order timer.set timer.past now later h.order le;
  sound = sound_later watch now later le h.sound;
}

pub waits_set : (now duration : ℕ)
    → WaitsFor (record { set = now; duration = duration; past = [] }) (started_at now) now
waits_set now duration = let now_is : now ≤ now = omega arith in record {
  times = times_started now;
  order = now_is;
  sound = sound_started now;
}

pub waits_paused : (timer : Timer) (watch : Watch) (now : ℕ) → WaitsFor timer watch now
    → WaitsFor (marked pause now timer) (watch_paused now watch) now
waits_paused timer watch now h = let now_is : now ≤ now = omega arith in record {
  times = times_paused timer.set timer.past watch now h.times h.order;
  order = (now_is, h.order);
  sound = sound_paused watch now h.sound;
}

pub waits_resumed : (timer : Timer) (watch : Watch) (now : ℕ) → WaitsFor timer watch now
    → WaitsFor (marked resume now timer) (watch_resumed now watch) now
waits_resumed timer watch now h = let now_is : now ≤ now = omega arith in record {
  times = times_resumed timer.set timer.past watch now h.times h.sound h.order;
  order = (now_is, h.order);
  sound = sound_resumed watch now h.sound;
}

-- what a unit keeps in a phase for its answers is what its pieces say
abbrev pub pid_said : List OwnTurn → Option ℕ
pid_said piece = first_said (λ t. pid_in t.turn) piece

abbrev pub IsShown : Phase → UnitView → List Attempt → Type 0
IsShown Starting u (cut piece [] ∷ earlier) = pid_said piece ≡ None
IsShown Running u (cut piece [] ∷ earlier) = pid_said piece ≡ Some u.pid
IsShown Grace u (cut piece [] ∷ earlier) =
    (pid_said piece ≡ Some u.pid) × (why_ended u.terms.slow piece ≡ u.ending)
    × WaitsFor (grace_timer u.terms.slow piece) u.timers.waiting u.latest
IsShown KillWait u (cut piece [] ∷ earlier) = pid_said piece ≡ Some u.pid
IsShown Leak u (cut piece [] ∷ earlier) =
    (pid_said piece ≡ Some u.pid) × (result_then u.terms piece ≡ u.exit_result)
    × WaitsFor (leak_timer u.terms.leak.period piece) u.timers.waiting u.latest
IsShown Deciding u (cut piece [] ∷ earlier) = slow_count u.terms.slow piece ≡ u.timers.slow_count
IsShown Delay u (cut piece (d ∷ after) ∷ earlier) =
    WaitsFor (delay_timer u.terms.retries (d ∷ after) (cut piece (d ∷ after) ∷ earlier)) u.timers.waiting u.latest
IsShown ph u ps = ⊤

-- the process stays what it was
pub pid_more : (t : OwnTurn) (piece : List OwnTurn) (said : Option ℕ) → pid_said piece ≡ said → pid_in t.turn ≡ None
    → pid_said (t ∷ piece) ≡ said
pid_more t piece said is none = rw (is, none) (kept said)
  where
    kept : (o : Option ℕ) → option_or o None ≡ o
    kept None = refl
    kept (Some n) = refl

-- within the time that its child is given no turn gives it some anew
pub gives_none : (slow : SlowTimeout) (t : OwnTurn) (piece : List OwnTurn) → any_is ends_wait piece ≡ false
    → is_in_grace slow piece ≡ true → begins_grace slow t piece ≡ false
gives_none slow t piece waited grace = by_due (is_due_turn t.turn) refl
  where
    by_due : (b : Bool) → is_due_turn t.turn ≡ b → begins_grace slow t piece ≡ false
    by_due true due = rw (waited, grace, due) refl
    by_due false due = rw (waited, grace, due) refl

pub ending_kept : (slow : SlowTimeout) (t : OwnTurn) (piece : List OwnTurn) → begins_grace slow t piece ≡ false
    → why_ended slow (t ∷ piece) ≡ why_ended slow piece
ending_kept slow t piece none = rw none refl

pub grace_kept : (slow : SlowTimeout) (t : OwnTurn) (piece : List OwnTurn) (marks : List Mark)
    → begins_grace slow t piece ≡ false → pause_at t.moment t.request ≡ marks
    → grace_timer slow (t ∷ piece) ≡ record (grace_timer slow piece) { past = marks ++ (grace_timer slow piece).past }
grace_kept slow t piece marks none at = rw (none, at) refl

pub leak_kept : (period : ℕ) (t : OwnTurn) (piece : List OwnTurn) (marks : List Mark) → ends_wait t.turn ≡ false
    → pause_at t.moment t.request ≡ marks
    → leak_timer period (t ∷ piece)
    ≡ record (leak_timer period piece) { past = marks ++ (leak_timer period piece).past }
leak_kept period t piece marks goes at = rw (goes, at) (ap (λ past. record {
  set = newest_after (λ t before. ends_wait t.turn) piece;
  duration = period;
  past = past;
}) (append_assoc marks (pauses_since (λ t before. ends_wait t.turn) piece) (pause_left piece)))

pub result_kept : (terms : AttemptTerms) (t : OwnTurn) (piece : List OwnTurn) → ends_wait t.turn ≡ false
    → result_then terms (t ∷ piece) ≡ result_then terms piece
result_kept terms t piece goes = rw goes refl
