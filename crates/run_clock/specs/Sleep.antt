-- What contracts see of a sleep, and the timer that it keeps.
use Rattle.std.specs.Prelude.{ℕ, ◌≡◌, ◌+◌, ◌-◌, ◌^◌, ◌≤◌, ◌<◌, Bool}
use Rattle.std.specs.Prelude.{true, false, nat_le, if◌then◌else◌, Option, Some, None}
use Rattle.run_clock.specs.declared.poll.Poll.{Poll}
use Rattle.run_clock.specs.declared.poll.Poll.TheVariants.{Ready, Pending}
use Rattle.run_clock.specs.declared.sleep_state.SleepState.{SleepState}
use Rattle.run_clock.specs.declared.sleep_state.SleepState.TheVariants.{Running, Paused}
use Rattle.run_clock.specs.Counted.{Act, Timer, is_paused, IsInOrder, counted_time, marked, set_again}

-- a sleep: the latest moment that it was given, its last duration, and its deadline or what remains
pub record Sleep : Type 0 where
  pub latest : ℕ
  pub last_duration : ℕ
  pub state : SleepState

-- one of this duration that is set at this moment, running
abbrev pub set_at : ℕ → ℕ → Sleep
set_at now duration = record { latest = now; last_duration = duration; state = Running (now + duration) }

-- whether a sleep is paused
abbrev pub is_stopped : SleepState → Bool
is_stopped (Running deadline) = false
is_stopped (Paused remaining) = true

-- the time that remains at now: none past the deadline
abbrev pub remaining_at : SleepState → ℕ → ℕ
remaining_at (Running deadline) now = deadline - now
remaining_at (Paused remaining) now = remaining

-- a pause keeps the remaining time
abbrev pub paused_at : SleepState → ℕ → SleepState
paused_at (Running deadline) now = Paused (deadline - now)
paused_at (Paused remaining) now = Paused remaining

-- a resume sets the deadline to now plus the remaining time
abbrev pub resumed_at : SleepState → ℕ → SleepState
resumed_at (Running deadline) now = Running deadline
resumed_at (Paused remaining) now = Running (now + remaining)

-- a reset sets the deadline, or of a paused sleep the remaining time
abbrev pub reset_at : SleepState → ℕ → ℕ → SleepState
reset_at (Running deadline) now duration = Running (now + duration)
reset_at (Paused remaining) now duration = Paused duration

-- whether a sleep fires at now: it isn't paused, and now isn't before the deadline
abbrev pub fires_at : SleepState → ℕ → Bool
fires_at (Running deadline) now = nat_le deadline now
fires_at (Paused remaining) now = false

-- whether a timer is set and fires at now
abbrev pub fires_now : ℕ → Option Sleep → Bool
fires_now now None = false
fires_now now (Some timer) = fires_at timer.state now

-- of the moments below 2^64 something is due at those from this one on, and at none of them where there is none
abbrev pub IsDueFrom : (ℕ → Bool) → Option ℕ → Type 0
IsDueFrom is_due None = (now : ℕ) → now < 2 ^ 64 → is_due now ≡ false
IsDueFrom is_due (Some first) = (now : ℕ) → now < 2 ^ 64 → is_due now ≡ nat_le first now

-- the deadline is past the greatest u64
abbrev pub IsOutOfReach : SleepState → Type 0
IsOutOfReach (Running deadline) = 2 ^ 64 ≤ deadline
IsOutOfReach (Paused remaining) = ⊥

-- ready exactly where the test holds
abbrev pub ready_where : Bool → Poll (Unit {0})
ready_where test = if test then Ready tt else Pending

-- the sleep keeps a timer: it has its duration, it is paused where a pause of the timer is open, and what remains is
-- the duration less the counted time
pub record Keeps (timer : Timer) (sleep : Sleep) : Type 0 where
  pub duration_is : sleep.last_duration ≡ timer.duration
  pub paused_is : is_stopped sleep.state ≡ is_paused timer.past
  pub remaining_is : (now : ℕ) → IsInOrder timer.set timer.past now
      → remaining_at sleep.state now ≡ timer.duration - counted_time timer.set timer.past now

-- a fact for each timer that a sleep keeps
abbrev pub ForTimer : Sleep → (Timer → Type 0) → Type 0
ForTimer sleep P = (timer : Timer) → Keeps timer sleep → P timer

-- a fact for each timer that a sleep keeps, none of whose marks came after now
abbrev pub ForTimerBy : Sleep → ℕ → (Timer → Type 0) → Type 0
ForTimerBy sleep now P = ForTimer sleep (λ timer. IsInOrder timer.set timer.past now → P timer)

-- after a call at now it keeps each timer that it kept before, with one more mark
abbrev pub AddsToTimer : Act → Sleep → Sleep → ℕ → Type 0
AddsToTimer act old new now = ForTimerBy old now (λ timer. Keeps (marked act now timer) new)

-- after a call at now it keeps each timer that it kept before, set again
abbrev pub SetsAgain : ℕ → Sleep → Sleep → ℕ → Type 0
SetsAgain duration old new now = ForTimer old (λ timer. Keeps (set_again timer now duration) new)
