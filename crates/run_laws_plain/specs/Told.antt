-- The statistics by what was told.
use Rattle.std.specs.Prelude.{◌+◌, ◌^◌, ◌≡◌, Bool, true, false, List, Option, Some, None, count_by, filter_map}
use Rattle.run_events.specs.Stats.{AreBelow, plus}
use Rattle.run_events.specs.declared.cancel.CancelReason.{CancelReason}
use Rattle.run_events.specs.declared.events.ReporterEvent.{ReporterEvent}
use Rattle.run_events.specs.declared.settings.Settings.{Settings}
use Rattle.run_events.specs.declared.stats.RunStats.{RunStats}
use Rattle.run_model.specs.declared.happening.Happening.{Happening}
use Rattle.run_laws_events.specs.Counts.{stats_of_events}
use Rattle.run_model.specs.Words.{FinishedUnit, adds_by, finish_of, reason, skips, stats, stats_after, told}

-- the statistics of a run are those of all events told in it
abbrev pub StatsAreOfToldEvents : Type 0
StatsAreOfToldEvents = (p : Settings) (past : List Happening)
    → stats p past ≡ stats_of_events p (reason past) (told past)

-- one more event may finish a script or a test, or tell a skip
abbrev pub plus_finish : Option FinishedUnit → RunStats → RunStats
plus_finish None s = s
plus_finish (Some unit) s = plus s (adds_by unit)

abbrev pub plus_skip : Bool → RunStats → RunStats
plus_skip false s = s
plus_skip true s = record s { skipped = s.skipped + 1 }

abbrev pub counted_by : RunStats → ReporterEvent → RunStats
counted_by s event = plus_skip (skips event) (plus_finish (finish_of event) s)

-- the counts are small, apart from the number of scripts to run, to which no event adds
abbrev pub AreSmall : RunStats → Type 0
AreSmall s = AreBelow (2 ^ 32) (record s { setup_scripts_initial_count = 0 })
