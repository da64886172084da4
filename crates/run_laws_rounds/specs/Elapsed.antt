-- The active time of a run, as a sum over the turns of the clock.
use Rattle.std.specs.Prelude.{ℕ, ◌≡◌, ◌+◌, List, [], ◌∷◌, if◌then◌else◌}
use Rattle.run_clock.specs.Stopwatch.{active_by}
use Rattle.run_events.specs.declared.settings.Settings.{Settings}
use Rattle.run_model.specs.declared.entry.Entry.{Entry}
use Rattle.run_model.specs.declared.happening.Happening.{Happening}
use Rattle.run_model.specs.Board.{dispatcher_of}
use Rattle.run_model.specs.Dispatch.{is_halted}
use Rattle.run_model.specs.Journal.{IsLegal, past_of}
use Rattle.run_model.specs.Rounds.{run_watch}
use Rattle.run_model.specs.Words.{clock, elapsed, is_run_paused, ns_of}

-- how far the turns moved the clock while the run wasn't paused
abbrev pub unpaused : List Happening → ℕ
unpaused [] = 0
unpaused (x ∷ past) = unpaused past + (if is_run_paused (x ∷ past) then 0 else ns_of x.turn)

-- that is the run's active time, and what its stopwatch shows; and the run is paused where that is
pub record HasActiveTime (p : Settings) (past : List Happening) : Type 0 where
  pub elapsed : elapsed past ≡ unpaused past
  pub shown : active_by (run_watch past) (clock past) ≡ unpaused past
  pub paused : is_halted (dispatcher_of p past) ≡ is_run_paused past

-- that holds after every legal journal
abbrev pub ActiveTimeIsCounted : Type 0
ActiveTimeIsCounted = (p : Settings) (journal : List Entry) → IsLegal p journal → HasActiveTime p (past_of p journal)
