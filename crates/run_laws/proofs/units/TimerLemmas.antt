-- The timer of an attempt, as its unit keeps it and as its turns say.
use Rattle.std.proofs.Common.{◌≡◌, ℕ, ◌-◌, ◌≤◌, List, [], ◌∷◌, Bool, true, false, ◌||◌, if◌then◌else◌, Option, Some}
use Rattle.std.proofs.Common.{None, option_map, is_some, refl, ap, sym, subst, ◌∙◌, arith}
use Rattle.run_clock.specs.Counted.{Timer, Act, pause, resume, mark_of, marked, IsInOrder, is_paused as is_open}
use Rattle.run_clock.specs.Stopwatch.{Watch, started_at, active_by}
use Rattle.run_clock.specs.Sleep.{Sleep, set_at, fires_now, Keeps}
use Rattle.run_clock.proofs.CountedLemmas.{later_order}
use Rattle.run_events.specs.declared.plan.SlowTimeout.{SlowTimeout}
use Rattle.run_model.specs.declared.phase.Phase.{Phase}
use Rattle.run_model.specs.declared.phase.Phase.TheVariants.{Starting, Running, Grace, Leak}
use Rattle.run_model.specs.declared.unit_turn.UnitTurn.{UnitTurn}
use Rattle.run_model.specs.declared.unit_turn.UnitTurn.TheVariants.{Answered, Started}
use Rattle.run_model.specs.declared.unit_view.Timers.{Timers}
use Rattle.run_model.specs.declared.unit_view.AttemptTerms.{AttemptTerms}
use Rattle.run_model.specs.Slow.{is_out_of_time}
use Rattle.run_model.specs.Pauses.{sleep_paused, sleep_resumed, all_paused, is_paused, waits_from, leaks_from}
use Rattle.run_model.specs.Unit.{slow_timer_at}
use Rattle.run_model.proofs.PauseLemmas.{keeps_set, keeps_paused, keeps_resumed, keeps_fires}
use Rattle.run_model.specs.Story.{OwnTurn, any_is}
use Rattle.run_model.specs.Timing.{ends_wait, starts_child, is_due_turn, signal_of, gives_time, slow_count}
use Rattle.run_model.specs.Timing.{has_timed_out, standing, standing_after, begins_grace, timer_since, slow_timer}
use Rattle.run_model.specs.Timing.{timer_of, is_timer_due_at, pause_at, pauses_in}
use Rattle.run_laws.proofs.units.CaptureLemmas.{taken}
use Rattle.run_laws.proofs.units.StandingLemmas.{is_in_grace, is_heeded, never_slow, grace_next, count_still}
use Rattle.run_laws.proofs.units.StandingLemmas.{grace_still, slow_timer_by, slow_timer-still, slow_timer-killed}

-- the timer that a unit waits for in a phase
abbrev pub waits : Phase → Timers → Option Sleep
waits Running t = t.slow
waits Grace t = t.wait
waits Leak t = t.wait
waits _ t = None

-- a sleep keeps a timer, where there is one
abbrev pub KeepsSome : Option Timer → Option Sleep → Type 0
KeepsSome None sleep = sleep ≡ None
KeepsSome (Some timer) sleep = (s : Sleep) × ((sleep ≡ Some s) × Keeps timer s)

-- a timer was set, and marked, at this moment at the latest
abbrev pub IsSetBy : ℕ → Option Timer → Type 0
IsSetBy now None = Unit {0}
IsSetBy now (Some t) = IsInOrder t.set t.past now

pub set_by_later : (now later : ℕ) → now ≤ later → (t : Option Timer) → IsSetBy now t → IsSetBy later t
set_by_later now later le None h = h
set_by_later now later le (Some t) order = later_order t.set t.past now later order le

-- a sleep is due where its timer is
pub due_as : (now : ℕ) (t : Option Timer) (sleep : Option Sleep) → IsSetBy now t → KeepsSome t sleep
    → fires_now now sleep ≡ is_timer_due_at now t
due_as now None sleep order none = rw none refl
due_as now (Some t) sleep order keeps = rw keeps.1.0 (keeps_fires t keeps.0 now keeps.1.1 order)

-- a timer that is marked is kept by its sleep that is paused, or resumed
pub keeps_stop : (now : ℕ) (t : Option Timer) (sleep : Option Sleep) → IsSetBy now t → KeepsSome t sleep
    → KeepsSome (option_map (marked pause now) t) (option_map (sleep_paused now) sleep)
keeps_stop now None sleep order none = rw none refl
keeps_stop now (Some t) sleep order keeps = (
  sleep_paused now keeps.0,
  (
    ap (option_map (sleep_paused now)) keeps.1.0,
    keeps_paused t
        keeps.0 now keeps.1.1 order,
  ),
)

pub keeps_continue : (now : ℕ) (t : Option Timer) (sleep : Option Sleep) → IsSetBy now t → KeepsSome t sleep
    → KeepsSome (option_map (marked resume now) t) (option_map (sleep_resumed now) sleep)
keeps_continue now None sleep order none = rw none refl
keeps_continue now (Some t) sleep order keeps = (
  sleep_resumed now keeps.0,
  (ap (option_map (sleep_resumed now)) keeps.1.0, keeps_resumed t keeps.0 now keeps.1.1 order),
)

pub set_by_marked : (now : ℕ) (act : Act) (t : Option Timer) → IsSetBy now t
    → IsSetBy now (option_map (marked act now) t)
set_by_marked now act None order = tt
set_by_marked now act (Some t) order = let now_is : now ≤ now = omega arith in (now_is, order)

-- the active time of a stopwatch that was never paused
pub active_since : (watch : Watch) (now : ℕ) → watch ≡ started_at watch.start → active_by watch now ≡ now - watch.start
active_since watch now is = rw is (omega arith)

-- what else is known of the timing of an attempt in a phase: before its child starts it was never slow; its child is
-- given time to end by itself in Grace, where the timer until it is slow is kept
abbrev pub IsAtStage : AttemptTerms → Phase → Timers → ℕ → List OwnTurn → Type 0
IsAtStage terms Starting t latest piece =
    (slow_count terms.slow piece ≡ 0) × (is_in_grace terms.slow piece ≡ false)
IsAtStage terms Running t latest piece =
    (any_is starts_child piece ≡ true) × (is_in_grace terms.slow piece ≡ false)
IsAtStage terms Grace t latest piece =
    (any_is starts_child piece ≡ true) × (is_in_grace terms.slow piece ≡ true)
    × KeepsSome (slow_timer terms piece) t.slow × IsSetBy latest (slow_timer terms piece)
IsAtStage _ _ _ _ _ = Unit {0}

-- the timers of a unit in a phase are that of its attempt, which was set at its latest turn or before
pub record HasTimer (terms : AttemptTerms) (ph : Phase) (t : Timers) (latest : ℕ) (piece : List OwnTurn) : Type 0 where
  pub set_by : IsSetBy latest (timer_of terms piece)
  pub waits_for : KeepsSome (timer_of terms piece) (waits ph t)
  pub stage : IsAtStage terms ph t latest piece

-- the moment of its latest turn may be later
stage_later : (terms : AttemptTerms) (ph : Phase) (t : Timers) (latest now : ℕ) (piece : List OwnTurn) → latest ≤ now
    → IsAtStage terms ph t latest piece → IsAtStage terms ph t now piece
stage_later terms Grace t latest now piece le (child, grace, slow, set) =
    (child, grace, slow, set_by_later latest now le (slow_timer terms piece) set)
stage_later terms ph t latest now piece le h = h

pub timer_later : (terms : AttemptTerms) (ph : Phase) (t : Timers) (latest now : ℕ) (piece : List OwnTurn)
    → latest ≤ now → HasTimer terms ph t latest piece → HasTimer terms ph t now piece
timer_later terms ph t latest now piece le h = record {
  set_by = set_by_later latest now le (timer_of terms piece) h.set_by;
  waits_for = h.waits_for;
  stage = stage_later terms ph t latest now piece le h.stage;
}

-- an attempt whose timer is known
pub timer_known : (terms : AttemptTerms) (ph : Phase) (t : Timers) (latest : ℕ) (piece : List OwnTurn)
    (timer : Option Timer)
    → timer_of terms piece ≡ timer → IsSetBy latest timer → KeepsSome timer (waits ph t)
    → IsAtStage terms ph t latest piece → HasTimer terms ph t latest piece
timer_known terms ph t latest piece timer is set keeps stage = record {
  set_by = subst (IsSetBy latest) (sym is) set;
  waits_for = subst (λ timer. KeepsSome timer (waits ph t)) (sym is) keeps;
  stage = stage;
}

-- while its child runs and isn't given time to end by itself, it waits until it is slow
pub timer_of-runs : (terms : AttemptTerms) (piece : List OwnTurn) → any_is ends_wait piece ≡ false
    → is_in_grace terms.slow piece ≡ false → timer_of terms piece ≡ slow_timer terms piece
timer_of-runs terms piece waited grace = rw (waited, grace) refl

-- while it is, it waits until that time is over
pub timer_of-grace : (terms : AttemptTerms) (piece : List OwnTurn) → any_is ends_wait piece ≡ false
    → is_in_grace terms.slow piece ≡ true
    → timer_of terms piece ≡ Some (timer_since (begins_grace terms.slow) terms.slow.grace piece)
timer_of-grace terms piece waited grace = rw (waited, grace) refl

none_either : (b : Bool) → Path (Option Timer) (if b then None else None) None
none_either true = refl
none_either false = refl

-- at first it waits for none
pub timer_first : (terms : AttemptTerms) (t : Timers) (now latest : ℕ)
    → HasTimer terms Starting t latest (taken now (Answered true) None ∷ [])
timer_first terms t now latest = record {
  set_by = rw (never_slow terms.slow, none_either terms.disables_timeouts) tt;
  waits_for = rw (never_slow terms.slow, none_either terms.disables_timeouts) refl;
  stage = (refl, refl);
}

-- the timer until it is slow, where it is set now
abbrev pub set_now : AttemptTerms → ℕ → Option Timer
set_now terms now =
    if terms.disables_timeouts then None else Some (record { set = now; duration = terms.slow.period; past = [] })

pub set_now_by : (terms : AttemptTerms) (now latest : ℕ) → now ≤ latest → IsSetBy latest (set_now terms now)
set_now_by terms now latest le =
    elim terms.disables_timeouts as
    (λ b. IsSetBy latest (if b then None else Some (record { set = now; duration = terms.slow.period; past = [] })))
    [ true ↦ tt | false ↦ le ]

pub set_now_sleeps : (terms : AttemptTerms) (now : ℕ) → KeepsSome (set_now terms now) (slow_timer_at now terms)
set_now_sleeps terms now =
    elim terms.disables_timeouts as
    (λ b. KeepsSome (if b then None else Some (record { set = now; duration = terms.slow.period; past = [] }))
    (if b then None else Some (set_at now terms.slow.period)))
    [ true ↦ refl | false ↦ (set_at now terms.slow.period, (refl, keeps_set now terms.slow.period)) ]

-- its child starts
pub timer_started : (terms : AttemptTerms) (t : Timers) (now latest pid : ℕ) (piece : List OwnTurn)
    → now ≤ latest → t.slow ≡ slow_timer_at now terms
    → any_is ends_wait piece ≡ false → slow_count terms.slow piece ≡ 0 → is_in_grace terms.slow piece ≡ false
    → HasTimer terms Running t latest (taken now (Started pid) None ∷ piece)
timer_started terms t now latest pid piece le slow waited count grace =
    timer_known terms Running t latest (turn ∷ piece) (set_now terms now)
    (timer_of-runs terms (turn ∷ piece) waited runs ∙ slow_timer_by terms (turn ∷ piece) false in_time)
    (set_now_by terms now latest le) (subst (KeepsSome (set_now terms now)) (sym slow) (set_now_sleeps terms now))
    (refl, runs)
  where
    turn : OwnTurn
    turn = taken now (Started pid) None

    runs : is_in_grace terms.slow (turn ∷ piece) ≡ false
    runs = grace_next terms.slow turn piece waited ∙ rw grace refl

    in_time : has_timed_out terms.slow (turn ∷ piece) ≡ false
    in_time =
        ap (is_out_of_time terms.slow) (count_still terms.slow turn piece refl ∙ count) ∙ never_slow terms.slow

-- the wait for it is over: a pause that is open goes on, and holds the wait for its streams
left_set : (now latest : ℕ) (stopped : Bool) → now ≤ latest
    → IsInOrder now (if stopped then mark_of pause now ∷ [] else []) latest
left_set now latest false le = le
left_set now latest true le = let now_is : now ≤ now = omega arith in (le, now_is)

left_keeps : (now period : ℕ) (stopped : Bool) (t : Timers)
    → KeepsSome (Some (record { set = now; duration = period; past = if stopped then mark_of pause now ∷ [] else [] }))
    (if stopped then all_paused now (waits_from now period t) else waits_from now period t).wait
left_keeps now period false t = (set_at now period, (refl, keeps_set now period))
left_keeps now period true t =
    let now_is : now ≤ now = omega arith in (
      sleep_paused now (set_at now period),
      (
        refl,
        keeps_paused (record { set = now; duration = period; past = [] }) (set_at now period) now (keeps_set now period)
            now_is,
      ),
    )

pub timer_left : (terms : AttemptTerms) (t : Timers) (now latest : ℕ) (turn : UnitTurn) (piece : List OwnTurn)
    → now ≤ latest → is_paused t ≡ is_open (pauses_in piece) → ends_wait turn ≡ true
    → HasTimer terms Leak (leaks_from now terms.leak.period t) latest (taken now turn None ∷ piece)
timer_left terms t now latest turn piece le stopped ends = record {
  set_by = rw ends (left_set now latest (is_open (pauses_in piece)) le);
  waits_for = rw (ends, stopped) (left_keeps now terms.leak.period (is_open (pauses_in piece))
      (record t { slow = None }));
  stage = tt;
}

-- a turn that is neither due, nor ends the wait for its child, nor starts it, and whose request is no stop and no
-- continue and isn't heeded, says nothing of its time
timer_of-still : (terms : AttemptTerms) (t : OwnTurn) (piece : List OwnTurn)
    → is_due_turn t.turn ≡ false → ends_wait t.turn ≡ false → starts_child t.turn ≡ false
    → pause_at t.moment t.request ≡ [] → is_heeded terms.slow t piece ≡ false
    → timer_of terms (t ∷ piece) ≡ timer_of terms piece
timer_of-still terms t piece due ends starts goes_on heeds =
    by_case (any_is ends_wait piece) (is_in_grace terms.slow piece) refl refl
  where
    waits_still : {b : Bool} → any_is ends_wait piece ≡ b → any_is ends_wait (t ∷ piece) ≡ b
    waits_still e = rw ends e

    grace : is_in_grace terms.slow (t ∷ piece) ≡ is_in_grace terms.slow piece
    grace = grace_still terms.slow t piece due heeds

    by_case : (w g : Bool) → any_is ends_wait piece ≡ w → is_in_grace terms.slow piece ≡ g
        → timer_of terms (t ∷ piece) ≡ timer_of terms piece
    by_case true g e f = rw (ends, e, goes_on) refl
    by_case false true e f =
        let none : is_some (signal_of terms.slow t.request) ≡ false = rw (e, f) at heeds in
        timer_of-grace terms (t ∷ piece) (waits_still e) (grace ∙ f)
        ∙ rw (e, f, due, goes_on) refl
        ∙ sym (timer_of-grace terms piece e f)
    by_case false false e f =
        timer_of-runs terms (t ∷ piece) (waits_still e) (grace ∙ f)
        ∙ slow_timer-still terms t piece due starts goes_on ∙ sym (timer_of-runs terms piece e f)

stage_still : (terms : AttemptTerms) (ph : Phase) (timers : Timers) (latest : ℕ) (t : OwnTurn) (piece : List OwnTurn)
    → is_due_turn t.turn ≡ false → starts_child t.turn ≡ false → pause_at t.moment t.request ≡ []
    → is_heeded terms.slow t piece ≡ false
    → IsAtStage terms ph timers latest piece → IsAtStage terms ph timers latest (t ∷ piece)
stage_still terms Starting timers latest t piece due starts goes_on heeds (count, grace) =
    (count_still terms.slow t piece due ∙ count, grace_still terms.slow t piece due heeds ∙ grace)
stage_still terms Running timers latest t piece due starts goes_on heeds (child, grace) =
    (rw starts child, grace_still terms.slow t piece due heeds ∙ grace)
stage_still terms Grace timers latest t piece due starts goes_on heeds (child, grace, slow, set) = (
  rw starts child,
  grace_still terms.slow t piece due heeds ∙ grace,
  subst (λ timer. KeepsSome timer timers.slow) (sym (slow_timer-still terms t piece due starts goes_on)) slow,
  subst (IsSetBy latest) (sym (slow_timer-still terms t piece due starts goes_on)) set,
)
stage_still terms ph timers latest t piece due starts goes_on heeds h = h

pub timer_still : (terms : AttemptTerms) (ph : Phase) (timers : Timers) (latest : ℕ) (t : OwnTurn)
    (piece : List OwnTurn)
    → is_due_turn t.turn ≡ false → ends_wait t.turn ≡ false → starts_child t.turn ≡ false
    → pause_at t.moment t.request ≡ [] → is_heeded terms.slow t piece ≡ false
    → HasTimer terms ph timers latest piece → HasTimer terms ph timers latest (t ∷ piece)
timer_still terms ph timers latest t piece due ends starts goes_on heeds h = record {
  set_by = subst (IsSetBy latest) (sym (timer_of-still terms t piece due ends starts goes_on heeds)) h.set_by;
  waits_for =
      subst (λ timer. KeepsSome timer (waits ph timers)) (sym
      (timer_of-still terms t piece due ends starts goes_on heeds))
      h.waits_for;
  stage = stage_still terms ph timers latest t piece due starts goes_on heeds h.stage;
}

-- whether a turn is one with which the time to end by itself is over, where its child is given some
abbrev pub ends_time : SlowTimeout → OwnTurn → Bool
ends_time slow t = is_due_turn t.turn || is_some (signal_of slow t.request)

-- after such a turn its child is given that time no more, and it waits until it is slow as before it was given any
grace_killed : (slow : SlowTimeout) (t : OwnTurn) (piece : List OwnTurn) → any_is ends_wait piece ≡ false
    → is_in_grace slow piece ≡ true → ends_time slow t ≡ true → is_in_grace slow (t ∷ piece) ≡ false
grace_killed slow t piece waited grace over = grace_next slow t piece waited ∙ by_due (is_due_turn t.turn) refl
  where
    by_due : (d : Bool) → is_due_turn t.turn ≡ d → (standing_after slow (standing slow piece) t).in_grace ≡ false
    by_due true e = rw (grace, e) refl
    by_due false e =
        let signal : is_some (signal_of slow t.request) ≡ true = rw e at over in
        rw (grace, e, signal) refl

pub timer_killed : (terms : AttemptTerms) (before after : Timers) (latest : ℕ) (t : OwnTurn) (piece : List OwnTurn)
    → after.slow ≡ before.slow → any_is ends_wait piece ≡ false → IsAtStage terms Grace before latest piece
    → ends_wait t.turn ≡ false → starts_child t.turn ≡ false → pause_at t.moment t.request ≡ []
    → ends_time terms.slow t ≡ true
    → HasTimer terms Running after latest (t ∷ piece)
timer_killed terms before after latest t piece same waited (child, grace, slow, set) ends starts goes_on over =
    timer_known terms Running after latest (t ∷ piece) (slow_timer terms piece)
    (timer_of-runs terms (t ∷ piece) (rw ends waited) left ∙ slow_timer-killed terms t piece grace
    waited starts goes_on) set
    (subst (KeepsSome (slow_timer terms piece)) (sym same) slow) (rw starts child, left)
  where
    left : is_in_grace terms.slow (t ∷ piece) ≡ false
    left = grace_killed terms.slow t piece waited grace over

-- it takes a request to end, and is given time for that
pub timer_asked : (terms : AttemptTerms) (before after : Timers) (latest : ℕ) (t : OwnTurn) (piece : List OwnTurn)
    → t.moment ≤ latest → after.slow ≡ before.slow → after.wait ≡ Some (set_at t.moment terms.slow.grace)
    → any_is ends_wait piece ≡ false → HasTimer terms Running before latest piece
    → is_due_turn t.turn ≡ false → ends_wait t.turn ≡ false → starts_child t.turn ≡ false
    → pause_at t.moment t.request ≡ [] → gives_time (signal_of terms.slow t.request) ≡ true
    → HasTimer terms Grace after latest (t ∷ piece)
timer_asked terms before after latest t piece le same wait waited h due ends starts goes_on gives =
    timer_known terms Grace after latest (t ∷ piece)
    (Some (record { set = t.moment; duration = terms.slow.grace; past = [] }))
    (timer_of-grace terms (t ∷ piece) (rw ends waited) given ∙ rw (waited, h.stage.1, due, gives) refl) le
    (set_at t.moment terms.slow.grace, (wait, keeps_set t.moment terms.slow.grace)) (
      rw starts h.stage.0,
      given,
      subst (λ timer. KeepsSome timer after.slow) is (subst (KeepsSome (timer_of terms piece)) (sym same) h.waits_for),
      subst (IsSetBy latest) is h.set_by,
    )
  where
    given : is_in_grace terms.slow (t ∷ piece) ≡ true
    given = grace_next terms.slow t piece waited ∙ rw (h.stage.1, due, gives) refl

    is : timer_of terms piece ≡ slow_timer terms (t ∷ piece)
    is = timer_of-runs terms piece waited h.stage.1 ∙ sym (slow_timer-still terms t piece due starts goes_on)
