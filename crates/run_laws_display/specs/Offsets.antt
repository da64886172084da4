-- How long a display takes the run to have been paused, and that it is hidden in a pause.
use Rattle.std.specs.Prelude.{◌≡◌, false, List}
use Rattle.run_clock.specs.Counted.{paused_time}
use Rattle.run_events.specs.declared.settings.Settings.{Settings}
use Rattle.run_model.specs.declared.entry.Entry.{Entry}
use Rattle.run_model.specs.Journal.{IsLegal, past_of}
use Rattle.run_model.specs.Rounds.{run_marks}
use Rattle.run_model.specs.Words.{clock, is_run_paused, told}
use Rattle.run_progress.specs.declared.max_running.MaxProgressRunning.{MaxProgressRunning}
use Rattle.run_progress.specs.Seen.{hiding, seen_of}
use Rattle.run_laws_display.specs.Displays.{events_heard}

-- after every legal journal by which the run isn't paused, a display that has heard its events takes it to
-- have been paused for as long as it was
abbrev pub DisplaysCountPauses : Type 0
DisplaysCountPauses = (p : Settings) (journal : List Entry) (max : MaxProgressRunning) → IsLegal p journal
    → is_run_paused (past_of p journal) ≡ false
    → (seen_of max (events_heard (told (past_of p journal)))).paused
    ≡ paused_time 0 (run_marks (past_of p journal)) (clock (past_of p journal))

-- after every legal journal a pause hides it exactly where the run is paused
abbrev pub PausesHide : Type 0
PausesHide = (p : Settings) (journal : List Entry) → IsLegal p journal
    → (hiding (events_heard (told (past_of p journal)))).pause ≡ is_run_paused (past_of p journal)
