-- What a shared run hands back when it is closed.
use Rattle.std.specs.Prelude.{ℕ, ◌≡◌, ◌≢◌, ◌⊎◌, ◌<◌, ◌++◌, List, [], length, map, Bool, Option, Some, ⊤}
use Rattle.std.specs.Option.{IsSome}
use Rattle.run_events.specs.declared.settings.Settings.{Settings}
use Rattle.run_events.specs.declared.ask.Ask.{Ask}
use Rattle.run_events.specs.declared.events.ReporterEvent.{ReporterEvent}
use Rattle.run_events.specs.declared.outcome.RunOutcome.{RunOutcome}
use Rattle.run_model.specs.declared.entry.Entry.{Entry}
use Rattle.run_model.specs.Words.{answers, asked}
use Rattle.run_model.specs.Journal.{past_of, outcome}
use Rattle.run_engine.specs.Standing.{IsRunnable}
use Rattle.run_engine.specs.Heard.{IsFurther}
use Rattle.run_engine.specs.World.{flagged}
use Rattle.run_shared.specs.declared.shared.Receipt.{Receipt}
use Rattle.run_shared.specs.declared.closing.CloseKind.{CloseKind}
use Rattle.run_shared.specs.declared.closing.CloseKind.TheVariants.{OtherSettings, Mismatch, Repeated, OutOfMemory}
use Rattle.run_shared.specs.Receipts.{IsFault}

-- the journal of a run that went by these settings, with its outcome; the reporter has told its events and the children
-- were asked its asks, and of a run that isn't over a part of one further turn's at most, for which its journal has
-- room
pub record IsLeft {R E : Type 0} (tells : R → List (ReporterEvent × Option E) → Type 0) (report : R)
    (asks : List (ℕ × Ask)) (p : Settings) (journal : List Entry) (end : Option RunOutcome) : Type 0 where
  pub legal : IsRunnable p journal
  pub ended : end ≡ outcome p (past_of p journal)
  pub events : List (ReporterEvent × Option E)
  pub told : tells report events
  pub extra : List (ReporterEvent × Bool)
  pub sent : List (ℕ × Ask)
  pub flags : map flagged events ≡ answers (past_of p journal) ++ extra
  pub asked : asks ≡ asked (past_of p journal) ++ sent
  pub part : IsFurther p journal extra sent
  pub whole : IsSome end → (extra ≡ []) × (sent ≡ [])
  pub room : ((extra ≡ []) × (sent ≡ [])) ⊎ (length journal < 4294967295)

-- why receipts were refused, of a run that was given these settings
abbrev pub Refuses : Settings → List Entry → List Receipt → CloseKind → Type 0
Refuses p journal rs (OtherSettings given kept) = (given ≡ p) × (given ≢ kept) × IsRunnable kept journal
Refuses p journal rs (Mismatch number receipt found) = IsFault journal [] rs (Mismatch number receipt found)
Refuses p journal rs (Repeated number) = IsFault journal [] rs (Repeated number)
Refuses p journal rs OutOfMemory = Unit {0}

-- the settings of a run that was given those: the ones that a refusal names, and else the same
abbrev pub HasSettings : Settings → Settings → CloseKind → Type 0
HasSettings p q (OtherSettings given kept) = q ≡ kept
HasSettings p q (Mismatch number receipt found) = q ≡ p
HasSettings p q (Repeated number) = q ≡ p
HasSettings p q OutOfMemory = ⊤

-- what a run that wasn't closed leaves: its settings, what its reporter has told and what its children were asked
pub record IsLeftUnclosed {R E : Type 0} (tells : R → List (ReporterEvent × Option E) → Type 0) (report : R)
    (asks : List (ℕ × Ask)) (p : Settings) (journal : List Entry) (kind : CloseKind) : Type 0 where
  pub settings : Settings
  pub same : HasSettings p settings kind
  pub left : IsLeft tells report asks settings journal (outcome settings (past_of settings journal))

-- copies of these settings, or want of memory
abbrev pub IsOther : Settings → Settings → CloseKind → Type 0
IsOther p q (OtherSettings given kept) = (given ≡ p) × (kept ≡ q)
IsOther p q (Mismatch number receipt found) = ⊥
IsOther p q (Repeated number) = ⊥
IsOther p q OutOfMemory = Unit {0}
