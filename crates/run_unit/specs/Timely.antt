-- What holds of a unit after each of its turns: of its timers, and of the number of its attempt.
use Rattle.std.specs.Prelude.{ℕ, ◌≡◌, ◌+◌, ◌<◌, ◌≤◌, ◌^◌, IfSome, false}
use Rattle.run_model.specs.declared.phase.Phase.{Phase}
use Rattle.run_model.specs.declared.phase.Phase.TheVariants.{Delay, RetrySent}
use Rattle.run_model.specs.declared.unit_view.Timers.{Timers}
use Rattle.run_model.specs.declared.unit_view.UnitView.{UnitView}
use Rattle.run_model.specs.Backoff.{retry_count}
use Rattle.run_model.specs.declared.unit_turn.UnitTurn.TheVariants.{Take, Decide, Due}
use Rattle.run_model.specs.Environment.{attempts}
use Rattle.run_model.specs.Unit.{takes}

-- no timer was given a later moment than this
abbrev pub IsTimely : Timers → ℕ → Type 0
IsTimely t now =
    (t.stopwatch.latest ≤ now) × IfSome t.slow (λ timer. timer.latest ≤ now)
    × IfSome t.wait (λ timer. timer.latest ≤ now) × (t.waiting.latest ≤ now)

-- no timer of a unit was given a later moment than that of its latest turn
abbrev pub IsCurrent : UnitView → Type 0
IsCurrent u = IsTimely u.timers u.latest

-- the last attempt that a unit can be at in a phase, with so many retries: a further one comes after a delay
abbrev pub last_in : Phase → ℕ → ℕ
last_in Delay retries = retries
last_in RetrySent retries = retries
last_in _ retries = retries + 1

-- the attempts of a unit fit in a u32, and its current one is one of them
abbrev pub IsTried : UnitView → Type 0
IsTried u = (attempts u < 2 ^ 32) × (1 ≤ u.attempt) × (u.attempt ≤ last_in u.phase (retry_count u.terms.retries))

-- before this moment a unit takes none of the turns that come by themselves
abbrev pub IsQuietUntil : UnitView → ℕ → Type 0
IsQuietUntil u moment = (now : ℕ) → now < moment → now < 2 ^ 64
    → (takes now u Take ≡ false) × ((word : ℕ) → takes now u (Decide word) ≡ false) × (takes now u Due ≡ false)
