-- What `live` writes of a run whose receipts are refused, and of one for which memory was wanting.
use Rattle.std.specs.Prelude.{ℕ, ◌≡◌, ◌⊎◌, ◌++◌, List, map, Bool, Option}
use Rattle.run_capture.specs.declared.source.Failed.{Failed}
use Rattle.run_events.specs.declared.settings.Settings.{Settings}
use Rattle.run_events.specs.declared.turn.Turn.{Turn}
use Rattle.run_events.specs.declared.ask.Ask.{Ask}
use Rattle.run_events.specs.declared.events.ReporterEvent.{ReporterEvent}
use Rattle.run_model.specs.declared.entry.Entry.{Entry}
use Rattle.run_model.specs.Words.{answers, asked}
use Rattle.run_model.specs.Journal.{past_of, IsLegal}
use Rattle.run_engine.specs.Heard.{IsFurther}
use Rattle.run_engine.specs.World.{flagged}
use Rattle.run_shared.specs.Closed.{HasSettings}
use Rattle.run_shared.specs.declared.closing.CloseKind.{CloseKind}
use Rattle.run_output.specs.Asks.{ask_lines}
use Rattle.run_output.specs.Fields.{line_bytes}
use Rattle.run_output.specs.Told.{TookLines, AreCounted, marks, event_lines}
use Rattle.run_output.specs.declared.fault.Fault.{Fault}
use Rattle.run_cli.specs.Call.{Writing, Writes}
use Rattle.run_cli.specs.Receipts.{receipt_text}
use Rattle.run_cli.specs.Short.{IsShort, RunsShort}
use Rattle.run_cli.specs.Text.{fault_only, whole_form}

-- of a run with this journal, which is legal, and whose receipts are refused, the sink took the lines of its events,
-- and of a part of one further turn's at most: each whole, or of one that was refused a front part; and its count of
-- faults rose at each that was, and at no other. Then it took the lines of its asks, and that of the refusal: whole, or
-- where it failed there a front part, and not all; and nothing else
pub record WritesRefusal (p : Settings) (journal : List Entry) (kind : CloseKind) (w : Writing) : Type 0 where
  pub settings : Settings
  pub same : HasSettings p settings kind
  pub legal : IsLegal settings journal
  pub events : List (ReporterEvent × Option Failed)
  pub extra : List (ReporterEvent × Bool)
  pub sent : List (ℕ × Ask)
  pub flags : map flagged events ≡ answers (past_of settings journal) ++ extra
  pub part : IsFurther settings journal extra sent
  pub between : Option (List ℕ)
  pub count : ℕ
  pub took : TookLines w.taken between (event_lines events)
  pub counted : AreCounted (marks events) w.faults count
  pub last : Writes (record w { taken = between; faults = count })
      (ask_lines (asked (past_of settings journal) ++ sent) ++ line_bytes (receipt_text kind))

-- memory was wanting while a run was carried out, or once it was: the settings are those of its journal
abbrev pub LivesShort : Writing → Type 0
LivesShort w = (p : Settings) × (turns : List Turn) × RunsShort whole_form p turns w

-- memory was wanting before a run was begun: of one fault line a front part went out
abbrev pub WantsMemoryAlone : Writing → Type 0
WantsMemoryAlone w = (fault : Fault) × IsShort (fault_only fault) w
