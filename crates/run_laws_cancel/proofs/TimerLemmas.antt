-- The global timer of a sub-run, by the time in which its runner wasn't stopped.
use Rattle.std.proofs.Common.{◌≡◌, ◌⊎◌, inl, inr, ℕ, ◌+◌, ◌-◌, nat_le, Bool, true, false, not, ◌&&◌, ◌||◌}
use Rattle.std.proofs.Common.{if◌then◌else◌, Option, Some, None, refl, ap, sym, ◌∙◌, arith}
use Rattle.run_clock.specs.Counted.{Act, pause, resume, other, is_paused_after}
use Rattle.run_clock.specs.Sleep.{Sleep, fires_at, fires_now, is_stopped as is_paused, paused_at, remaining_at}
use Rattle.run_clock.specs.Sleep.{resumed_at}
use Rattle.run_clock.specs.declared.sleep_state.SleepState.{SleepState}
use Rattle.run_clock.specs.declared.sleep_state.SleepState.TheVariants.{Running, Paused}
use Rattle.run_events.specs.declared.events.ReporterEvent.{ReporterEvent}
use Rattle.run_events.specs.declared.events.ReporterEvent.TheVariants.{Tick, Test}
use Rattle.run_events.specs.declared.events.TestEventKind.{TestEventKind}
use Rattle.run_events.specs.declared.events.TestEventKind.TheVariants.{RunPaused, RunContinued}
use Rattle.run_model.specs.Rounds.{act_in, global_act, resumes_by, timer_after}
use Rattle.run_model.specs.Words.{armed}
use Rattle.run_laws_cancel.specs.Enabled.{continues, continues_in, reaches}

-- a sleep is paused or not, and has a limit less this time left at a moment
pub record HasLeft (limit now time : ℕ) (stopped : Bool) (sleep : Sleep) : Type 0 where
  pub paused : is_paused sleep.state ≡ stopped
  pub left : remaining_at sleep.state now ≡ limit - time

-- so a timer, unless it was due or there is no limit
abbrev pub Counts : Bool → Option ℕ → ℕ → ℕ → Bool → Option Sleep → Type 0
Counts true limit now time stopped timer = timer ≡ None
Counts false None now time stopped timer = timer ≡ None
Counts false (Some limit) now time stopped timer =
    (sleep : Sleep) × ((timer ≡ Some sleep) × HasLeft limit now time stopped sleep)

-- one that is set now
pub counts_set : (limit : Option ℕ) (now : ℕ) → Counts false limit now 0 false (armed now limit)
counts_set None now = refl
counts_set (Some limit) now = (_, (refl, record { paused = refl; left = omega arith }))

-- after an act at a moment it has as much left
left_paused : (state : SleepState) (now : ℕ)
    → (is_paused (paused_at state now) ≡ true) × (remaining_at (paused_at state now) now ≡ remaining_at state now)
left_paused (Running deadline) now = (refl, refl)
left_paused (Paused remaining) now = (refl, refl)

left_resumed : (state : SleepState) (now : ℕ)
    → (is_paused (resumed_at state now) ≡ false) × (remaining_at (resumed_at state now) now ≡ remaining_at state now)
left_resumed (Running deadline) now = (refl, refl)
left_resumed (Paused remaining) now = (refl, omega arith)

counts_after : (act : Act) (limit now time : ℕ) (stopped : Bool) (sleep : Sleep) → HasLeft limit now time stopped sleep
    → Counts false (Some limit) now time (is_paused_after act stopped) (timer_after now act (Some sleep))
counts_after pause limit now time stopped sleep h =
    let at = left_paused sleep.state now in (_, (refl, record { paused = at.0; left = at.1 ∙ h.left }))
counts_after resume limit now time stopped sleep h =
    let at = left_resumed sleep.state now in (_, (refl, record { paused = at.0; left = at.1 ∙ h.left }))
counts_after other limit now time stopped sleep h = (sleep, (refl, h))

-- and as time passes that much less, where it isn't paused
left_later : (state : SleepState) (limit now time ns : ℕ) (stopped : Bool) → is_paused state ≡ stopped
    → remaining_at state now ≡ limit - time
    → remaining_at state (now + ns) ≡ limit - (time + (if stopped then 0 else ns))
left_later (Running deadline) limit now time ns true paused left = cc
left_later (Running deadline) limit now time ns false paused left = omega arith
left_later (Paused remaining) limit now time ns true paused left = omega arith
left_later (Paused remaining) limit now time ns false paused left = cc

-- a turn moves the clock by nothing, or does nothing but that
abbrev pub IsStill : ℕ → Bool → Option ReporterEvent → Type 0
IsStill ns stops told = (ns ≡ 0) ⊎ ((stops ≡ false) × (told ≡ None))

-- whether the runner is stopped after a turn
pub act_is : (stops : Bool) (told : Option ReporterEvent) (stopped : Bool)
    → is_paused_after (global_act stops told) stopped ≡ (stops || (not (continues told) && stopped))
act_is true told stopped = refl
act_is false None stopped = refl
act_is false (Some Tick) stopped = refl
act_is false (Some (Test event)) stopped = by_kind event.kind
  where
    by_kind : (kind : TestEventKind)
        → is_paused_after (resumes_by (act_in kind)) stopped ≡ (not (continues_in kind) && stopped)
    by_kind (RunPaused event) = refl
    by_kind (RunContinued event) = refl
    by_kind kind = refl

-- so the timer counts on with one more turn that isn't its own
no_timer : (act : Act) (now : ℕ) → timer_after now act None ≡ None
no_timer pause now = refl
no_timer resume now = refl
no_timer other now = refl

pub counts_on : (was : Bool) (limit : Option ℕ) (now time ns : ℕ) (stopped stops : Bool) (told : Option ReporterEvent)
    (timer : Option Sleep) → IsStill ns stops told → Counts was limit now time stopped timer
    → Counts was limit (now + ns) (time + (if stopped then 0 else ns)) (stops || (not (continues told) && stopped))
    (timer_after now (global_act stops told) timer)
counts_on true limit now time ns stopped stops told timer still none =
    ap (timer_after now (global_act stops told)) none ∙ no_timer (global_act stops told) now
counts_on false None now time ns stopped stops told timer still none =
    ap (timer_after now (global_act stops told)) none ∙ no_timer (global_act stops told) now
counts_on false (Some limit) now time ns stopped stops told timer (inl none) (sleep, (is, h)) =
    let same : now + ns ≡ now = omega arith in
    let as_long : time + (if stopped then 0 else ns) ≡ time = by_stopped stopped none in
    rw (same, as_long, is, sym (act_is stops told stopped))
    (counts_after (global_act stops told) limit now time stopped sleep h)
  where
    by_stopped : (b : Bool) → ns ≡ 0 → time + (if b then 0 else ns) ≡ time
    by_stopped true none = omega arith
    by_stopped false none = omega arith
counts_on false (Some limit) now time ns stopped stops told timer (inr (unstopped, quiet)) (sleep, (is, h)) =
    rw (unstopped, quiet, is) (
      sleep,
      (
        refl,
        record {
          paused = h.paused;
          left = left_later sleep.state limit now time ns stopped h.paused h.left;
        },
      ),
    )

-- it fires where no time is left and the runner isn't stopped
fires_as : (state : SleepState) (limit now time : ℕ) (stopped : Bool) → is_paused state ≡ stopped
    → remaining_at state now ≡ limit - time → fires_at state now ≡ (not stopped && nat_le limit time)
fires_as (Running deadline) limit now time true paused left = cc
fires_as (Running deadline) limit now time false paused left = by_order left
  where
    by_order : deadline - now ≡ limit - time → nat_le deadline now ≡ nat_le limit time
    by_order left = grind arith
fires_as (Paused remaining) limit now time true paused left = refl
fires_as (Paused remaining) limit now time false paused left = cc

pub counts_fires : (was : Bool) (limit : Option ℕ) (now time : ℕ) (stopped : Bool) (timer : Option Sleep)
    → Counts was limit now time stopped timer
    → fires_now now timer ≡ (not stopped && (reaches limit time && not was))
counts_fires true limit now time stopped timer none = ap (fires_now now) none ∙ never stopped (reaches limit time)
  where
    never : (a b : Bool) → false ≡ (not a && (b && false))
    never true b = refl
    never false true = refl
    never false false = refl
counts_fires false None now time stopped timer none = ap (fires_now now) none ∙ never stopped
  where
    never : (a : Bool) → false ≡ (not a && false)
    never true = refl
    never false = refl
counts_fires false (Some limit) now time stopped timer (sleep, (is, h)) =
    ap (fires_now now) is ∙ fires_as sleep.state limit now time stopped h.paused h.left
    ∙ ap (λ b. not stopped && b) (and_true (nat_le limit time))
  where
    and_true : (b : Bool) → b ≡ (b && true)
    and_true true = refl
    and_true false = refl
