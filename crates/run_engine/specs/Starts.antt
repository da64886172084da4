-- The starts that a run asked, and those that nobody has claimed.
use Rattle.std.specs.Prelude.{ℕ, ◌≡◌, ◌≤◌, List, [], ◌∷◌, ◌++◌, length, drop, Option, Some}
use Rattle.run_events.specs.declared.settings.Settings.{Settings}
use Rattle.run_events.specs.declared.ask.Ask.{Ask}
use Rattle.run_events.specs.declared.ask.StartAsk.{StartAsk}
use Rattle.run_events.specs.declared.ask.Ask.TheVariants.{Start}
use Rattle.run_model.specs.declared.entry.Entry.{Entry}
use Rattle.run_model.specs.Words.{asked}
use Rattle.run_model.specs.Journal.{past_of}

-- the start among what a turn asks
abbrev pub start_among : Option Ask → List StartAsk
start_among (Some (Start start)) = start ∷ []
start_among _ = []

-- the starts among what was asked, in order
abbrev pub starts_among : List (ℕ × Ask) → List StartAsk
starts_among [] = []
starts_among (x ∷ xs) = start_among (Some x.1) ++ starts_among xs

-- the starts that the turns of a journal asked
abbrev pub starts_of : Settings → List Entry → List StartAsk
starts_of p journal = starts_among (asked (past_of p journal))

-- so many of the starts were claimed, the earliest first, and the rest waits
pub record AreClaimed (starts waiting : List StartAsk) (claimed : ℕ) : Type 0 where
  pub few : claimed ≤ length starts
  pub rest : waiting ≡ drop claimed starts
