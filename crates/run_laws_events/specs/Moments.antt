-- The moment that an event says.
use Rattle.std.specs.Prelude.{⊤, ℕ, ◌≡◌, List, [], ◌∷◌, ◌++◌}
use Rattle.std.specs.List.{All}
use Rattle.run_events.specs.declared.settings.Settings.{Settings}
use Rattle.run_events.specs.declared.events.ReporterEvent.{ReporterEvent}
use Rattle.run_events.specs.declared.events.ReporterEvent.TheVariants.{Tick, Test}
use Rattle.run_model.specs.declared.entry.Entry.{Entry}
use Rattle.run_model.specs.Words.{clock, elapsed, events_in}
use Rattle.run_model.specs.Turns.{happening}
use Rattle.run_model.specs.Journal.{IsLegal, past_of}

-- an event says this moment of the run's clock, and this active time; a tick says none
abbrev pub SaysMoment : ℕ → ℕ → ReporterEvent → Type 0
SaysMoment now active Tick = ⊤
SaysMoment now active (Test event) = (event.clock ≡ now) × (event.elapsed ≡ active)

-- each event that a turn of a legal journal tells says the moment of that turn: the sum of what the turns before it
-- moved the clock, and of that what lies in no pause of the run
abbrev pub EventsSayMoment : Type 0
EventsSayMoment = (p : Settings) (journal : List Entry) (e : Entry) → IsLegal p (journal ++ e ∷ [])
    → All (SaysMoment (clock (past_of p journal)) (elapsed (past_of p journal)))
    (events_in (happening p (past_of p journal) e))
