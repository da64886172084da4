-- A run as its callers see it, and what a step of it does to the world.
use Rattle.std.specs.Prelude.{ℕ, ◌≡◌, ◌≤◌, List, [], ◌∷◌, ◌++◌, length, map, Bool, false, true, not, Option, Some, None}
use Rattle.std.specs.Prelude.{option_to_list, is_some, is_none, zip, IsTrue}
use Rattle.std.specs.List.{list_all}
use Rattle.run_capture.specs.Faults.{Rose}
use Rattle.run_events.specs.Tell.{Adds}
use Rattle.run_events.specs.declared.settings.Settings.{Settings}
use Rattle.run_events.specs.declared.turn.Turn.{Turn}
use Rattle.run_events.specs.declared.ask.Ask.{Ask}
use Rattle.run_events.specs.declared.events.ReporterEvent.{ReporterEvent}
use Rattle.run_model.specs.declared.entry.Entry.{Entry}
use Rattle.run_model.specs.declared.happening.Happening.{Happening}
use Rattle.run_model.specs.Words.{events_in, is_over}
use Rattle.run_model.specs.Turns.{enabled, happening}
use Rattle.run_model.specs.Journal.{past_of}

-- a run: its settings with their plan, its journal, whether want of memory broke it or it was given up, and how many of
-- the starts that it asked were claimed
pub record World : Type 0 where
  pub settings : Settings
  pub journal : List Entry
  pub broken : Bool
  pub claimed : ℕ

-- the history of a run
abbrev pub history_of : World → List Happening
history_of w = past_of w.settings w.journal

-- an event that was told, and whether it was refused
abbrev pub flagged : {X E : Type 0} → X × Option E → X × Bool
flagged x = (x.0, is_some x.1)

-- the first of two errors
abbrev pub earlier : {E : Type 0} → Option E → Option E → Option E
earlier None later = later
earlier (Some e) later = Some e

-- the first error among events that were told
abbrev pub first_error : {X E : Type 0} → List (X × Option E) → Option E
first_error [] = None
first_error (x ∷ xs) = earlier x.1 (first_error xs)

-- the outside of a run before and after: a reporter, with how often it has failed, and the children
pub record Outside (R C : Type 0) : Type 0 where
  pub report : R
  pub report_after : R
  pub faults : ℕ
  pub faults_after : ℕ
  pub children : C
  pub children_after : C

abbrev pub outside : {R C : Type 0} → (R → ℕ) → R → R → C → C → Outside R C
outside faults report report_after children children_after = record {
  report = report;
  report_after = report_after;
  faults = faults report;
  faults_after = faults report_after;
  children = children;
  children_after = children_after;
}

-- a reporter that had told a list has told these events after it, refused as marked, with this first error
abbrev pub TellsEvents : {R E : Type 0} → (R → List (ReporterEvent × Option E) → Type 0) → R → R
    → List (ReporterEvent × Bool) → Option E → Type 0
TellsEvents {R} {E} told before after events refusal =
    (xs : List (ReporterEvent × Option E)) → told before xs
    → (ys : List (ReporterEvent × Option E)) × told after (xs ++ ys) × (map flagged ys ≡ events)
    × (first_error ys ≡ refusal)

-- a reporter's count of faults rose where it refused an event, and else stayed
abbrev pub CountsErrors : {E : Type 0} → ℕ → ℕ → Option E → Type 0
CountsErrors before now None = now ≡ before
CountsErrors before now (Some e) = (before ≤ now) × Rose before now

-- a turn with its answers, as an entry
abbrev pub entry_of : Turn → List Bool → Entry
entry_of turn refused = record { turn = turn; refused = refused }

-- what a turn with these answers does after a run's history
abbrev pub next_happening : World → Turn → List Bool → Happening
next_happening w turn refused = happening w.settings (history_of w) (entry_of turn refused)

-- a run takes a turn: it was enabled, the journal grows by it and the reporter's answers, the reporter and the children
-- are told and asked what the tables say, and the reporter's count of faults rose where it refused
pub record TakesTurn {R E C : Type 0} (tells : R → List (ReporterEvent × Option E) → Type 0)
    (asks : C → List (ℕ × Ask) → Type 0) (o : Outside R C) (turn : Turn) (old new : World) (refusal : Option E)
    : Type 0 where
  pub is_enabled : IsTrue (enabled old.settings (history_of old) turn)
  pub refused : List Bool
  pub answered : length refused ≡ length (events_in (next_happening old turn refused))
  pub grown : new ≡ record old { journal = old.journal ++ entry_of turn refused ∷ [] }
  pub marked : is_none refusal ≡ list_all not refused
  pub told : TellsEvents tells o.report o.report_after (zip (events_in (next_happening old turn refused)) refused)
      refusal
  pub asked : Adds asks o.children o.children_after
      (map (λ ask. (length old.journal, ask)) (option_to_list (next_happening old turn refused).asked))
  pub counted : CountsErrors o.faults o.faults_after refusal

-- a turn was refused: the run and the outside are as they were
abbrev pub IsUntouched : {R C : Type 0} → World → World → Outside R C → Type 0
IsUntouched old new o = (new ≡ old) × (o.report_after ≡ o.report) × (o.children_after ≡ o.children)

-- want of memory broke a run that wasn't over
abbrev pub Breaks : World → World → Type 0
Breaks old new = (new ≡ record old { broken = true }) × (is_over (history_of old) ≡ false)
