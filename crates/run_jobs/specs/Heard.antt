-- The results of turns.
use Rattle.run_events.specs.declared.settings.Settings.{Settings}
use Rattle.run_events.specs.declared.turn.Turn.{Turn}
use Rattle.std.specs.Prelude.{List}
use Rattle.run_model.specs.declared.entry.Entry.{Entry}
use Rattle.run_model.specs.Journal.{past_of}
use Rattle.run_model.specs.Words.{told}
use Rattle.run_laws.specs.Course.{IsJournalOf, refuses_none}
use Rattle.run_jobs.specs.declared.ledger.Results.{Results}
use Rattle.run_jobs.specs.Ledgers.{IsResultsOf}

-- results are those of what just these turns tell a reporter that refuses nothing
abbrev pub HasResults : Settings → List Turn → Results → Type 0
HasResults p turns results = (journal : List Entry) × IsJournalOf p turns refuses_none journal
    × IsResultsOf results (told (past_of p journal))
