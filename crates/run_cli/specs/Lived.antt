-- What is left of a run whose workers have ended, before its last lines are written.
use Rattle.std.specs.Prelude.{ℕ, ◌≡◌, ◌≢◌, ◌⊎◌, ◌<◌, ◌++◌, List, [], map, length, take, Bool, true, false}
use Rattle.std.specs.Prelude.{Option, Some, None, Result, Ok, Err}
use Rattle.run_capture.specs.declared.source.Failed.{Failed}
use Rattle.run_events.specs.declared.settings.Settings.{Settings}
use Rattle.run_events.specs.declared.ask.Ask.{Ask}
use Rattle.run_events.specs.declared.events.ReporterEvent.{ReporterEvent}
use Rattle.run_events.specs.declared.outcome.RunOutcome.{RunOutcome}
use Rattle.run_model.specs.declared.entry.Entry.{Entry}
use Rattle.run_model.specs.Words.{answers, asked}
use Rattle.run_model.specs.Journal.{past_of, outcome}
use Rattle.run_engine.specs.Standing.{IsRunnable}
use Rattle.run_engine.specs.Heard.{IsFurther}
use Rattle.run_engine.specs.World.{flagged}
use Rattle.run_output.specs.Fields.{line_bytes}
use Rattle.run_output.specs.Told.{HasTold, event_lines, some_refused}
use Rattle.run_output.specs.declared.fault.Fault.{Fault}
use Rattle.run_output.specs.declared.fault.Fault.TheVariants.{Unfinished, Report, Memory}
use Rattle.run_live.specs.declared.lived.Live.{Live}
use Rattle.run_live.specs.declared.lived.Lived.{Lived}
use Rattle.run_cli.specs.declared.live.LiveEnding.{LiveEnding}
use Rattle.run_cli.specs.declared.live.LiveEnding.TheVariants as ends
use Rattle.std.specs.Option.{IsNone, IfSome}
use Rattle.std.specs.List.{All}
use Rattle.run_model.specs.Words.{times}
use Rattle.run_shared.specs.Receipts.{concatenated, receipt_numbers, StandsIn}
use Rattle.run_shared.specs.Closed.{HasSettings, IsLeft, IsLeftUnclosed, Refuses}
use Rattle.run_shared.specs.declared.closing.CloseKind.{CloseKind}
use Rattle.run_shared.specs.declared.closing.CloseKind.TheVariants.{OutOfMemory}
use Rattle.run_drive.specs.declared.spawner.Heard.{Heard}
use Rattle.run_live.specs.Own.{IsLive}
use Rattle.run_cli.specs.Call.{HasTaken, Writing, Writes}
use Rattle.run_cli.specs.Receipts.{receipt_text}
use Rattle.run_cli.specs.Short.{IsShort}
use Rattle.run_cli.specs.Finish.{EndsAtFault, EndsAtOutcome}
use Rattle.run_cli.specs.Live.{workers_in}
use Rattle.run_cli.specs.Text.{fault_only}

-- a run has this journal: the sink took the lines of its events, and of a part of one further turn's at most, for which
-- the journal has room: each whole, or of one that was refused a front part. These were asked
pub record HasWritten (p : Settings) (w : Writing) (refusals : ℕ) (journal : List Entry) (asks : List (ℕ × Ask))
    : Type 0 where
  pub runnable : IsRunnable p journal
  pub events : List (ReporterEvent × Option Failed)
  pub extra : List (ReporterEvent × Bool)
  pub sent : List (ℕ × Ask)
  pub flags : map flagged events ≡ answers (past_of p journal) ++ extra
  pub asked : asks ≡ asked (past_of p journal) ++ sent
  pub part : IsFurther p journal extra sent
  pub room : ((extra ≡ []) × (sent ≡ [])) ⊎ (length journal < 4294967295)
  pub told : HasTold w.taken w.taken_after w.faults w.faults_after refusals (event_lines events)

-- the same of one whose receipts are refused for this reason, by the settings that it has
pub record HasWrittenRefused (p : Settings) (w : Writing) (refusals : ℕ) (journal : List Entry) (asks : List (ℕ × Ask))
    (kind : CloseKind) : Type 0 where
  pub settings : Settings
  pub same : HasSettings p settings kind
  pub written : HasWritten settings w refusals journal asks

-- a run is over with this outcome: its asks are those of its journal, the sink took the lines of its events, each
-- whole, or of one that was refused a front part, and whether one was is said
pub record IsOver (p : Settings) (w : Writing) (refusals : ℕ) (journal : List Entry) (asks : List (ℕ × Ask))
    (o : RunOutcome) (refused : Bool) : Type 0 where
  pub runnable : IsRunnable p journal
  pub over : outcome p (past_of p journal) ≡ Some o
  pub asked : asks ≡ asked (past_of p journal)
  pub events : List (ReporterEvent × Option Failed)
  pub flags : map flagged events ≡ answers (past_of p journal)
  pub told : HasTold w.taken w.taken_after w.faults w.faults_after refusals (event_lines events)
  pub marked : refused ≡ some_refused events

-- how `live` ends where its last lines end so, and what it hands back: nothing where memory was wanting
abbrev pub ending_of : Result RunOutcome Fault → LiveEnding
ending_of (Ok o) = ends.Outcome o
ending_of (Err fault) = ends.Fault fault

abbrev pub kept_by : {W : Type 0} → Result RunOutcome Fault → Live W → Option (Live W)
kept_by (Ok o) l = Some l
kept_by (Err Memory) l = None
kept_by (Err _) l = Some l

-- and of a run whose receipts are refused
abbrev pub kept_refused : {W : Type 0} → LiveEnding → Live W → Option (Live W)
kept_refused ends.Receipt l = Some l
kept_refused _ l = None

-- what the threads of a run of these settings leave
pub record IsLeftOver {W T R : Type 0} (has_said : W → List Heard → Type 0)
    (tells : R → List (ReporterEvent × Option Failed) → Type 0) (p : Settings) (l : Lived W T R) : Type 0 where
  pub count : length l.live.workers.items ≡ workers_in p
  pub left : IsNone l.live.error → IsLeft tells l.report l.asks p l.live.journal l.outcome
  pub stands : IsNone l.live.error → All (StandsIn l.live.journal) (concatenated l.live.receipts)
  pub once : IsNone l.live.error → (k : ℕ) → k < length l.live.journal
      → times k (receipt_numbers (concatenated l.live.receipts)) ≡ 1
  pub left_too : IfSome l.live.error (λ e. IsLeftUnclosed tells l.report l.asks p l.live.journal e.kind)
  pub refused : IfSome l.live.error (λ e. Refuses p l.live.journal (concatenated l.live.receipts) e.kind)
  pub kind : IfSome l.live.error (λ e. e.kind ≢ OutOfMemory)
  pub own : IsLive has_said l.live.workers.items l.live.receipts l.live.refused

-- the line of a fault was written, where the sink failed a front part of it, unless memory was wanting
abbrev pub IsFaultEnd : Writing → Fault → LiveEnding → Type 0
IsFaultEnd w fault ending =
    ((ending ≡ ends.Fault Memory) × IsShort (fault_only fault) w)
    ⊎ ((ending ≡ ends.Fault fault) × Writes w (fault_only fault))

-- the lines of asks and of why receipts are refused were written, where the sink failed a front part of them; or memory
-- was wanting, and none of them was
abbrev pub EndsAtReceipt : Writing → List ℕ → CloseKind → LiveEnding → Type 0
EndsAtReceipt w asks kind ends.Receipt = Writes w (asks ++ line_bytes (receipt_text kind))
EndsAtReceipt w asks kind (ends.Fault Memory) = (n : ℕ) × HasTaken w (take n (fault_only Memory))
EndsAtReceipt w asks kind _ = ⊥

-- the last lines of a run that is over were written: its asks and its outcome, or where an event was refused the fault
abbrev pub EndsOver : Writing → List ℕ → RunOutcome → Bool → Result RunOutcome Fault → Type 0
EndsOver w asks o true ending = EndsAtFault w asks Report ending
EndsOver w asks o false ending = EndsAtOutcome w asks o ending

-- why a run with a journal of this length isn't over: it is full, or memory was wanting
abbrev pub IsOpenFault : ℕ → Fault → Type 0
IsOpenFault len fault = ((fault ≡ Unfinished) × (len ≡ 4294967295)) ⊎ (fault ≡ Memory)
