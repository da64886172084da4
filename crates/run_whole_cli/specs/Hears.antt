-- What who listens beside the lines of a run has heard.
use Rattle.std.specs.Prelude.{ℕ, ◌≡◌, ◌⊎◌, List, [], ◌++◌, Bool, true, false, Option, Some, None}
use Rattle.std.specs.List.{filter_map}
use Rattle.std.specs.Option.{IfSome, IsNone}
use Rattle.run_events.specs.declared.settings.Settings.{Settings}
use Rattle.run_events.specs.declared.ask.Ask.{Ask}
use Rattle.run_events.specs.declared.events.ReporterEvent.{ReporterEvent}
use Rattle.run_events.specs.declared.turn.Turn.{Turn}
use Rattle.run_engine.specs.Heard.{IsFurther}
use Rattle.run_model.specs.declared.entry.Entry.{Entry}
use Rattle.run_model.specs.Words.{answers}
use Rattle.run_model.specs.Journal.{past_of, IsLegal}
use Rattle.run_laws.specs.Course.{turns_of}
use Rattle.run_whole.specs.Whole.{receipts_error}
use Rattle.run_cli.specs.Plans.{settings_for}
use Rattle.run_whole_cli.specs.Ends.{HasStopped}
use Rattle.run_whole_cli.specs.Given.{HasPlan}
use Rattle.run_whole_cli.specs.declared.left.WholeLeft.{WholeLeft}
use Rattle.run_whole_cli.specs.declared.left.WholeLeft.TheVariants as lefts

-- an event that was told, unless it was refused
abbrev pub unrefused_event : ReporterEvent × Bool → Option ReporterEvent
unrefused_event (event, false) = Some event
unrefused_event (event, true) = None

-- of events, each with whether it was refused, those that weren't
abbrev pub events_taken : List (ReporterEvent × Bool) → List ReporterEvent
events_taken told = filter_map unrefused_event told

-- who listens has heard the events that were taken of a run with this journal, and of a part of one further turn's at
-- most
pub record HasHeardPart {B : Type 0} (heard : B → List ReporterEvent → Type 0) (report : B) (p : Settings)
    (journal : List Entry) : Type 0 where
  pub extra : List (ReporterEvent × Bool)
  pub sent : List (ℕ × Ask)
  pub part : IsFurther p journal extra sent
  pub events : heard report (events_taken (answers (past_of p journal) ++ extra))

-- who listens has heard the events that were taken of a run of which this is left: of one that takes no turn any more
-- just those of its journal, unless its receipts are refused
abbrev pub HasHeardLeft : {B W T O S : Type 0} → (B → List ReporterEvent → Type 0) → B → Settings
    → WholeLeft W T O S → Type 0
HasHeardLeft heard report p (lefts.Run l) = IsNone (receipts_error l.error) → HasStopped p l.journal
    → heard report (events_taken (answers (past_of p l.journal)))
HasHeardLeft heard report p (lefts.CutOff c) = HasHeardPart heard report p c.journal

-- the same, of the plan that a line says
abbrev pub HasHeardPlan : {B W T O S : Type 0} → (B → List ReporterEvent → Type 0) → B → List ℕ → WholeLeft W T O S
    → Type 0
HasHeardPlan heard report line left = (x : HasPlan line) × HasHeardLeft heard report (settings_for x.keys x.plan) left

-- the turns that a run took of which this is left
abbrev pub turns_left : {W T O S : Type 0} → WholeLeft W T O S → List Turn
turns_left (lefts.Run l) = turns_of l.journal
turns_left (lefts.CutOff c) = turns_of c.journal

-- no turns, or those of a legal journal
abbrev pub AreLegal : List Turn → Type 0
AreLegal turns =
    (turns ≡ []) ⊎ ((p : Settings) × (journal : List Entry) × IsLegal p journal × (turns ≡ turns_of journal))

-- who listens has heard that the run took these turns: those of its journal where one is left, else those of a legal
-- journal, and none where no run was begun
pub record HasHeardTurns {B W T O S : Type 0} (taken : B → List Turn → Type 0) (report : B)
    (left : Option (WholeLeft W T O S)) (unbegun : Bool) : Type 0 where
  pub turns : List Turn
  pub heard : taken report turns
  pub journal : IfSome left (λ l. turns ≡ turns_left l)
  pub legal : AreLegal turns
  pub none : unbegun ≡ true → turns ≡ []
