-- Each told cancel has a reason, so the lines of what is told of a run are read as an auditor sees it.
use Rattle.std.specs.Prelude.{List}
use Rattle.std.specs.List.{All}
use Rattle.run_events.specs.declared.events.ReporterEvent.{ReporterEvent}
use Rattle.run_events.specs.declared.settings.Settings.{Settings}
use Rattle.run_model.specs.declared.entry.Entry.{Entry}
use Rattle.run_model.specs.Journal.{IsLegal, past_of}
use Rattle.run_model.specs.Words.{told}
use Rattle.run_text_laws.specs.Plain.{IsPlain}
use Rattle.run_laws_audit_line.specs.EventLines.{TellsWhy, IsReadSo, NumbersFit, event_data}

-- each event that a legal journal tells has a reason, where it tells that the run is cancelled or killed
abbrev pub CancelsHaveReasons : Type 0
CancelsHaveReasons = (p : Settings) (journal : List Entry) → IsLegal p journal
    → All TellsWhy (told (past_of p journal))

-- the line of an event is read as an auditor sees it, if its data are plain and its numbers fit
abbrev pub IsReadIfPlain : ReporterEvent → Type 0
IsReadIfPlain e = IsPlain (event_data e) → NumbersFit e → IsReadSo e

-- so is that of each event that a legal journal tells
abbrev pub ToldLinesAreRead : Type 0
ToldLinesAreRead = (p : Settings) (journal : List Entry) → IsLegal p journal
    → All IsReadIfPlain (told (past_of p journal))
