-- Counted time: the time of a history that lies in no pause. A history is a start and a list of marks, newest first.
use Rattle.std.specs.Prelude.{ℕ, ◌+◌, ◌-◌, ◌≤◌, Bool, true, false, ◌&&◌, not, nat_le, if◌then◌else◌, List, [], ◌∷◌}

-- what an entry of a history does to a timer; most turns of a run do something else
pub data Act : Type 0 where
  pause : Act
  resume : Act
  other : Act

-- an entry of a history: the moment at which it came, and what it did
pub record Mark : Type 0 where
  pub moment : ℕ
  pub act : Act

-- an act at a moment
abbrev pub mark_of : Act → ℕ → Mark
mark_of act moment = record { moment = moment; act = act }

-- whether a pause is open after an act, from whether one was open before it
abbrev pub is_paused_after : Act → Bool → Bool
is_paused_after pause before = true
is_paused_after resume before = false
is_paused_after other before = before

-- whether a pause is open after these marks
abbrev pub is_paused : List Mark → Bool
is_paused [] = false
is_paused (mark ∷ past) = is_paused_after mark.act (is_paused past)

-- no mark came before the start, before the mark that it follows, or after now
abbrev pub IsInOrder : ℕ → List Mark → ℕ → Type 0
IsInOrder start [] now = start ≤ now
IsInOrder start (mark ∷ past) now = (mark.moment ≤ now) × IsInOrder start past mark.moment

-- the counted time: the sum of the stretches from one mark to the next, and from the last mark to now, in which
-- no pause is open
abbrev pub counted_time : ℕ → List Mark → ℕ → ℕ
counted_time start [] now = now - start
counted_time start (mark ∷ past) now =
    counted_time start past mark.moment + (if is_paused (mark ∷ past) then 0 else now - mark.moment)

-- the paused time: the sum of the stretches in which a pause is open, also of one that is still open
abbrev pub paused_time : ℕ → List Mark → ℕ → ℕ
paused_time start [] now = 0
paused_time start (mark ∷ past) now =
    paused_time start past mark.moment + (if is_paused (mark ∷ past) then now - mark.moment else 0)

-- a timer: the moment at which it was set, its duration, and the marks since then
pub record Timer : Type 0 where
  pub set : ℕ
  pub duration : ℕ
  pub past : List Mark

-- a timer is due where no pause is open and the counted time since it was set has reached its duration
abbrev pub is_due : Timer → ℕ → Bool
is_due timer now = not (is_paused timer.past) && nat_le timer.duration (counted_time timer.set timer.past now)

-- a timer with one more mark
abbrev pub marked : Act → ℕ → Timer → Timer
marked act now timer = record timer { past = mark_of act now ∷ timer.past }

-- a timer that is set again: no mark from before is one of its marks, and a pause that is open is taken as
-- opened after it was set, at the same moment
abbrev pub set_again : Timer → ℕ → ℕ → Timer
set_again timer now duration = record {
  set = now;
  duration = duration;
  past = if is_paused timer.past then mark_of pause now ∷ [] else [];
}
