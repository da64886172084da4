-- What contracts see of a stopwatch, and the history that it times.
use Rattle.std.specs.Prelude.{ℕ, ◌≡◌, ◌-◌, List, ◌∷◌, Option, None, is_some, unwrap_or}
use Rattle.run_clock.specs.Counted.{Act, Mark, mark_of, is_paused, IsInOrder, counted_time}

-- a stopwatch: the latest moment that it was given, its start, the time of its closed pauses, and where a pause
-- is open, the moment at which that one opened
pub record Watch : Type 0 where
  pub latest : ℕ
  pub start : ℕ
  pub paused : ℕ
  pub opened : Option ℕ

-- one that starts at this moment, running
abbrev pub started_at : ℕ → Watch
started_at now = record { latest = now; start = now; paused = 0; opened = None }

-- the active time by now
abbrev pub active_by : Watch → ℕ → ℕ
active_by watch now = unwrap_or watch.opened now - watch.start - watch.paused

-- the stopwatch times a history: it was started then, these marks are its pauses and resumes, and its active time is
-- the counted time
pub record Times (start : ℕ) (past : List Mark) (watch : Watch) : Type 0 where
  pub start_is : watch.start ≡ start
  pub paused_is : is_some watch.opened ≡ is_paused past
  pub active_is : (now : ℕ) → IsInOrder start past now → active_by watch now ≡ counted_time start past now

-- a fact for each history that a stopwatch times
abbrev pub ForHistory : Watch → (ℕ → List Mark → Type 0) → Type 0
ForHistory watch P = (start : ℕ) (past : List Mark) → Times start past watch → P start past

-- a fact for each history that a stopwatch times, none of whose marks came after now
abbrev pub ForHistoryBy : Watch → ℕ → (ℕ → List Mark → Type 0) → Type 0
ForHistoryBy watch now P = ForHistory watch (λ start past. IsInOrder start past now → P start past)

-- after a call at now it times each history that it timed before, with one more mark
abbrev pub AddsToHistory : Act → Watch → Watch → ℕ → Type 0
AddsToHistory act old new now = ForHistoryBy old now (λ start past. Times start (mark_of act now ∷ past) new)
