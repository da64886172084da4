-- A deed leaves no timer of the dispatcher, and no stopwatch, that was given a later moment than it notes.
use Rattle.std.proofs.Common.{◌≡◌, ℕ, ◌≤◌, Bool, true, false, ◌||◌, if◌then◌else◌, Option, Some, None, IfSome, sym}
use Rattle.std.proofs.Common.{subst}
use Rattle.std.proofs.Common.{Result, Ok, Err, IfOk, OnErr, refl, arith, is_some, true≢false, ◌∙◌}
use Rattle.run_clock.specs.Counted.{Act, pause, resume, other}
use Rattle.run_clock.specs.Sleep.{Sleep}
use Rattle.run_clock.specs.Stopwatch.{Watch, started_at}
use Rattle.run_model.specs.declared.dispatcher_view.DispatcherView.{DispatcherView}
use Rattle.run_model.specs.Board.{Deed, cleared, dispatched, dispatched_in, is_noted}
use Rattle.run_model.specs.Pauses.{watch_closed}
use Rattle.run_model.specs.Rounds.{act_of, is_move, moves_time, global_act, resumes_by, watch_after, timer_after}
use Rattle.run_model.specs.Words.{armed, is_by_time}
use Rattle.run_dispatch.specs.Deeds.{Acts}
use Rattle.run_dispatch.specs.Timely.{IsTimerCurrent}
use Rattle.run_dispatch.specs.declared.effects.DispatchEffects.{DispatchEffects}
use Rattle.run_dispatch.proofs.SeenLemmas.{with_seen-same}

-- the moment that is noted is no earlier than the one before
late : (now latest : ℕ) (noted : Bool) → latest ≤ now → latest ≤ (if noted then now else latest)
late now latest true le = le
late now latest false le = omega arith

-- a timer that isn't moved, and one that is
kept_late : (now latest : ℕ) (noted : Bool) (timer : Option Sleep) → latest ≤ now
    → IfSome timer (λ t. t.latest ≤ latest) → IfSome timer (λ t. t.latest ≤ (if noted then now else latest))
kept_late now latest noted None le h = tt
kept_late now latest true (Some t) le h = let was : t.latest ≤ latest = h in omega arith
kept_late now latest false (Some t) le h = h

moved_late : (now latest : ℕ) (noted : Bool) (act : Act) (timer : Option Sleep) → latest ≤ now
    → (is_move act ≡ true → noted ≡ true) → IfSome timer (λ t. t.latest ≤ latest)
    → IfSome (timer_after now act timer) (λ t. t.latest ≤ (if noted then now else latest))
moved_late now latest noted other timer le moves h = kept_late now latest noted timer le h
moved_late now latest noted pause None le moves h = tt
moved_late now latest noted pause (Some t) le moves h = rw (moves refl) (omega arith)
moved_late now latest noted resume None le moves h = tt
moved_late now latest noted resume (Some t) le moves h = rw (moves refl) (omega arith)

armed_late : (now : ℕ) (limit : Option ℕ) → IfSome (armed now limit) (λ t. t.latest ≤ now)
armed_late now None = tt
armed_late now (Some duration) = omega arith

global_late : (now latest : ℕ) (noted begins timed : Bool) (limit : Option ℕ) (act : Act) (timer : Option Sleep)
    → latest ≤ now → (begins ≡ true → noted ≡ true) → (is_move act ≡ true → noted ≡ true)
    → IfSome timer (λ t. t.latest ≤ latest)
    → IfSome (if begins then armed now limit else if timed then None else timer_after now act timer)
    (λ t. t.latest ≤ (if noted then now else latest))
global_late now latest noted true timed limit act timer le sets moves h = rw (sets refl) (armed_late now limit)
global_late now latest noted false true limit act timer le sets moves h = tt
global_late now latest noted false false limit act timer le sets moves h =
    moved_late now latest noted act timer le moves h

closed_late : (now : ℕ) (opened : Option ℕ) (watch : Watch) → (watch_closed now opened watch).latest ≤ now
closed_late now None watch = omega arith
closed_late now (Some opened) watch = omega arith

-- a stopwatch that isn't moved, and one that is
watch_late : (now latest : ℕ) (noted : Bool) (act : Act) (watch : Watch) → watch.latest ≤ now
    → (noted ≡ false → watch.latest ≤ latest) → (is_move act ≡ true → noted ≡ true)
    → (watch_after now act watch).latest ≤ (if noted then now else latest)
watch_late now latest noted pause watch le h moves = rw (moves refl) (omega arith)
watch_late now latest noted resume watch le h moves = rw (moves refl) (closed_late now watch.opened watch)
watch_late now latest true other watch le h moves = le
watch_late now latest false other watch le h moves = h refl

part_late : (now latest : ℕ) (noted ends : Bool) (act : Act) (watch : Watch) → watch.latest ≤ now
    → (noted ≡ false → watch.latest ≤ latest) → (ends ≡ true → noted ≡ true) → (is_move act ≡ true → noted ≡ true)
    → (if ends then started_at now else watch_after now act watch).latest ≤ (if noted then now else latest)
part_late now latest noted true act watch le h sets moves = rw (sets refl) (omega arith)
part_late now latest noted false act watch le h sets moves = watch_late now latest noted act watch le h moves

-- a pause and a continue are noted
last_of_five : (a b c d m : Bool) → m ≡ true → (a || b || c || d || m) ≡ true
last_of_five true b c d m is = refl
last_of_five false true c d m is = refl
last_of_five false false true d m is = refl
last_of_five false false false true m is = refl
last_of_five false false false false m is = is

moves_run : (stops : Bool) (act : Act) → is_move act ≡ true → (stops || is_move act) ≡ true
moves_run true act is = refl
moves_run false act is = is

moves_runner : (stops : Bool) (act : Act) → is_move (if stops then pause else resumes_by act) ≡ true
    → (stops || is_move act) ≡ true
moves_runner true act is = refl
moves_runner false pause is = refl
moves_runner false resume is = refl
moves_runner false other is = cc

-- what is noted: a begin, an end, and a move of the time
ends_noted : (a b c d m : Bool) → b ≡ true → (a || b || c || d || m) ≡ true
ends_noted true b c d m is = refl
ends_noted false true c d m is = refl
ends_noted false false c d m is = cc

-- a dispatcher whose stopwatches were given no later moment than now, and none later than its latest turn where nothing
-- is noted, stays current
in_current : (now : ℕ) (d : DispatcherView) (deed : Deed) → d.latest ≤ now
    → IfSome d.causes.global (λ t. t.latest ≤ d.latest)
    → (d.watch.latest ≤ now) × (d.sub_run_watch.latest ≤ now)
    → (is_noted deed ≡ false → (d.watch.latest ≤ d.latest) × (d.sub_run_watch.latest ≤ d.latest))
    → IsTimerCurrent (dispatched_in now d deed)
in_current now d deed le h early kept = (
  global_late now d.latest (is_noted deed) deed.begins (is_by_time deed.cause) d.rules.global_timeout
      (global_act deed.stops deed.told) d.causes.global le (λ is. rw is refl)
      (λ is. noted (moves_runner deed.stops (act_of deed.told) is)) h,
  watch_late now d.latest (is_noted deed) (act_of deed.told) d.watch early.0 (λ is. (kept is).0)
      (λ is. noted (moves_run deed.stops (act_of deed.told) is)),
  part_late now d.latest (is_noted deed) deed.ends (global_act deed.stops deed.told) d.sub_run_watch early.1
      (λ is. (kept is).1)
      (λ is. ends_noted deed.begins deed.ends deed.taken (is_some deed.cause) (moves_time deed.stops deed.told) is)
      (λ is. noted (moves_runner deed.stops (act_of deed.told) is)),
)
  where
    noted : moves_time deed.stops deed.told ≡ true → is_noted deed ≡ true
    noted is =
        last_of_five deed.begins deed.ends deed.taken (is_some deed.cause) (moves_time deed.stops deed.told) is

begins_noted : (a b c d m : Bool) → a ≡ true → (a || b || c || d || m) ≡ false → ⊥
begins_noted true b c d m is not = true≢false not
begins_noted false b c d m is not = true≢false (sym is)

-- so the dispatcher stays current
pub dispatched_current : (now : ℕ) (d : DispatcherView) (deed : Deed) → d.latest ≤ now → IsTimerCurrent d
    → IsTimerCurrent (dispatched now d deed)
dispatched_current now d deed le h = by deed.begins refl
  where
    early : (d.watch.latest ≤ now) × (d.sub_run_watch.latest ≤ now)
    early = let main : d.watch.latest ≤ d.latest = h.1 in
        let part : d.sub_run_watch.latest ≤ d.latest = h.2 in (omega arith, omega arith)

    by : (b : Bool) → deed.begins ≡ b → IsTimerCurrent (dispatched_in now (if b then cleared d else d) deed)
    by false is = in_current now d deed le h.0 early (λ none. (h.1, h.2))
    by true is =
        in_current now (cleared d) deed (omega arith) tt early
        (λ none. absurd
        (begins_noted deed.begins deed.ends deed.taken (is_some deed.cause) (moves_time deed.stops deed.told) is none))

-- after a call that does a deed, or leaves all as it was
pub acted_current : (now : ℕ) (d new : DispatcherView) (deed : Deed) (go : Option Bool) (fx : DispatchEffects)
    → d.latest ≤ now → IsTimerCurrent d → Acts now d deed go new fx → IsTimerCurrent new
acted_current now d new deed go fx le h acts =
    subst IsTimerCurrent (sym (acts.after ∙ with_seen-same now d deed)) (dispatched_current now d deed le h)

pub done_current : {E : Type 0} (now : ℕ) (d new : DispatcherView) (deed : Deed) (go : Option Bool)
    (answer : Result DispatchEffects E) → d.latest ≤ now → IsTimerCurrent d
    → IfOk answer (Acts now d deed go new) → OnErr answer (new ≡ d) → IsTimerCurrent new
done_current now d new deed go (Ok fx) le h acts err = acted_current now d new deed go fx le h acts
done_current now d new deed go (Err error) le h acts err = subst IsTimerCurrent (sym err) h
