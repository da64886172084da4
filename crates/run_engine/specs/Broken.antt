-- What a turn that want of memory broke off has told and asked: a part of what the whole turn tells and asks.
use Rattle.std.specs.Prelude.{ℕ, ◌≡◌, ◌≤◌, ◌⊎◌, List, [], ◌++◌, length, map, take, zip, slice_get, Bool, Option, Some}
use Rattle.std.specs.Prelude.{option_to_list, IsTrue}
use Rattle.run_events.specs.Tell.{Adds}
use Rattle.run_events.specs.declared.settings.Settings.{Settings}
use Rattle.run_events.specs.declared.turn.Turn.{Turn}
use Rattle.run_events.specs.declared.ask.Ask.{Ask}
use Rattle.run_events.specs.declared.events.ReporterEvent.{ReporterEvent}
use Rattle.run_model.specs.declared.entry.Entry.{Entry}
use Rattle.run_model.specs.declared.happening.Happening.{Happening}
use Rattle.run_model.specs.Words.{answers, asked, events_in}
use Rattle.run_model.specs.Turns.{enabled, happening}
use Rattle.run_model.specs.Journal.{past_of}
use Rattle.run_laws.specs.Course.{turns_of}
use Rattle.run_engine.specs.World.{Outside, TellsEvents, CountsErrors, entry_of}
use Rattle.run_engine.specs.Standing.{IsRunnable}

-- a reporter was told the first of these events, as many as have marks, refused as marked, and no other
pub record TellsSome {R E : Type 0} (tells : R → List (ReporterEvent × Option E) → Type 0) (before after : R)
    (faults now : ℕ) (events : List ReporterEvent) : Type 0 where
  pub marks : List Bool
  pub refusal : Option E
  pub fits : length marks ≤ length events
  pub told : TellsEvents tells before after (zip events marks) refusal
  pub counted : CountsErrors faults now refusal

-- the ask of a turn at this place went out or not
abbrev pub IsSent : ℕ → Option Ask → List (ℕ × Ask) → Type 0
IsSent place asked sent = (sent ≡ []) ⊎ (sent ≡ map (λ ask. (place, ask)) (option_to_list asked))

-- of the events of a turn at this place the first ones were told, and its ask went out or not
pub record TellsPart {R E C : Type 0} (tells : R → List (ReporterEvent × Option E) → Type 0)
    (asks : C → List (ℕ × Ask) → Type 0) (o : Outside R C) (place : ℕ) (events : List ReporterEvent)
    (asked : Option Ask) : Type 0 where
  pub some : TellsSome {E = E} tells o.report o.report_after o.faults o.faults_after events
  pub sent : List (ℕ × Ask)
  pub is_sent : IsSent place asked sent
  pub adds : Adds asks o.children o.children_after sent

-- what a turn would do after a journal
abbrev pub after_journal : Settings → List Entry → Turn → Happening
after_journal p journal turn = happening p (past_of p journal) (entry_of turn [])

-- these answers and asks are the first of those of one further turn after a journal: there are none, or the turn is
-- enabled
pub record IsPart (p : Settings) (journal : List Entry) (turn : Turn) (extra : List (ReporterEvent × Bool))
    (sent : List (ℕ × Ask)) : Type 0 where
  pub is_enabled : ((extra ≡ []) × (sent ≡ [])) ⊎ IsTrue (enabled p (past_of p journal) turn)
  pub marks : List Bool
  pub fits : length marks ≤ length (events_in (after_journal p journal turn))
  pub told : extra ≡ zip (events_in (after_journal p journal turn)) marks
  pub asked : IsSent (length journal) (after_journal p journal turn).asked sent

-- a turn was broken off: a part of what it tells and asks went out, and nothing else
pub record BreaksOff {R E C : Type 0} (tells : R → List (ReporterEvent × Option E) → Type 0)
    (asks : C → List (ℕ × Ask) → Type 0) (o : Outside R C) (p : Settings) (journal : List Entry) (turn : Turn)
    : Type 0 where
  pub extra : List (ReporterEvent × Bool)
  pub sent : List (ℕ × Ask)
  pub refusal : Option E
  pub part : IsPart p journal turn extra sent
  pub told : TellsEvents tells o.report o.report_after extra refusal
  pub adds : Adds asks o.children o.children_after sent
  pub counted : CountsErrors o.faults o.faults_after refusal

-- memory was wanting while the turns of a list were taken: those of the journal were taken, and of the one after them a
-- part of what it tells and asks went out
pub record RunsOut {R E C : Type 0} (tells : R → List (ReporterEvent × Option E) → Type 0)
    (asks : C → List (ℕ × Ask) → Type 0) (o : Outside R C) (p : Settings) (turns : List Turn) (journal : List Entry)
    : Type 0 where
  pub runnable : IsRunnable p journal
  pub taken : ℕ
  pub takes : turns_of journal ≡ take taken turns
  pub extra : List (ReporterEvent × Bool)
  pub sent : List (ℕ × Ask)
  pub refusal : Option E
  pub part : ((extra ≡ []) × (sent ≡ []))
      ⊎ ((turn : Turn) × (slice_get turns taken ≡ Some turn) × IsPart p journal turn extra sent)
  pub told : TellsEvents tells o.report o.report_after (answers (past_of p journal) ++ extra) refusal
  pub adds : Adds asks o.children o.children_after (asked (past_of p journal) ++ sent)
  pub counted : CountsErrors o.faults o.faults_after refusal
