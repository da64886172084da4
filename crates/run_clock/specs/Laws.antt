-- The laws of counted time.
use Rattle.std.specs.Prelude.{ℕ, ◌≡◌, ◌+◌, ◌-◌, true, false, if◌then◌else◌, List, ◌∷◌}
use Rattle.run_clock.specs.Counted.{Mark, pause, resume, mark_of, is_paused, IsInOrder, counted_time, paused_time}
use Rattle.run_clock.specs.Counted.{Timer}
use Rattle.run_clock.specs.Stopwatch.{Watch, Times}
use Rattle.run_clock.specs.Sleep.{Sleep, Keeps}

-- counted and paused time add up to the time since the start
abbrev pub TimeAddsUp : Type 0
TimeAddsUp = (start : ℕ) (past : List Mark) (now : ℕ) → IsInOrder start past now
    → counted_time start past now + paused_time start past now ≡ now - start

-- time that passes counts where no pause is open, and else it doesn't
abbrev pub PassingTimeCounts : Type 0
PassingTimeCounts = (start : ℕ) (past : List Mark) (now passed : ℕ) → IsInOrder start past now
    → counted_time start past (now + passed) ≡ counted_time start past now + (if is_paused past then 0 else passed)

-- a pause and a resume at one moment of a running timer, and a resume and a pause of a paused one, change nothing that
-- is counted
pub record SameMomentCountsNothing : Type 0 where
  pub running : (start : ℕ) (past : List Mark) (moment now : ℕ) → is_paused past ≡ false
      → IsInOrder start (mark_of pause moment ∷ past) now
      → counted_time start (mark_of resume moment ∷ mark_of pause moment ∷ past) now
      ≡ counted_time start past now
  pub paused : (start : ℕ) (past : List Mark) (moment now : ℕ) → is_paused past ≡ true
      → IsInOrder start (mark_of resume moment ∷ past) now
      → counted_time start (mark_of pause moment ∷ mark_of resume moment ∷ past) now
      ≡ counted_time start past now

-- a mark that leaves a pause open where one was and none where none was (a pause in a pause, a resume of a running
-- timer, any other act) changes nothing that is counted
abbrev pub IdleMarkCountsNothing : Type 0
IdleMarkCountsNothing = (start : ℕ) (mark : Mark) (past : List Mark) (now : ℕ)
    → is_paused (mark ∷ past) ≡ is_paused past → IsInOrder start (mark ∷ past) now
    → counted_time start (mark ∷ past) now ≡ counted_time start past now

-- a stopwatch and a sleep need not be told of such a mark: one that times a history, or keeps a timer, without it does
-- so with it
pub record IdleMarkNeedsNoCall : Type 0 where
  pub stopwatch : (start : ℕ) (mark : Mark) (past : List Mark) (watch : Watch)
      → is_paused (mark ∷ past) ≡ is_paused past → Times start past watch → Times start (mark ∷ past) watch
  pub sleep : (mark : Mark) (timer : Timer) (sleep : Sleep)
      → is_paused (mark ∷ timer.past) ≡ is_paused timer.past → Keeps timer sleep
      → Keeps (record timer { past = mark ∷ timer.past }) sleep
