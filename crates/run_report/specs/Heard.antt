-- What a report remembers of the events told so far.
use Rattle.std.specs.Prelude.{ℕ, Bool, true, false, if◌then◌else◌, List, [], ◌∷◌, Option, Some, None}
use Rattle.std.specs.Prelude.{unwrap_or}
use Rattle.std.specs.Cmp.Lexicographic.{slice_cmp}
use Rattle.std.specs.List.{filter, filter_map, flat_map, list_all, list_any}
use Rattle.std.specs.Ordering.{is_lt, nat_cmp, ordering_then}
use Rattle.run_events.specs.declared.events.ReporterEvent.{ReporterEvent}
use Rattle.run_events.specs.declared.events.ReporterEvent.TheVariants.{Tick, Test}
use Rattle.run_events.specs.declared.events.TestEventKind.{TestEventKind}
use Rattle.run_events.specs.declared.events.TestEventKind.TheVariants as kinds
use Rattle.run_events.specs.declared.events.TestFinished.{TestFinished}
use Rattle.run_events.specs.declared.plan.TestInstanceId.{TestInstanceId}
use Rattle.run_report.specs.declared.levels.ReportSettings.{ReportSettings}
use Rattle.run_report.specs.Finished.{is_kept, kept_pieces}
use Rattle.run_report.specs.Pieces.{Piece}

-- how many tests there are to run, where an event tells it
abbrev pub total_in_kind : TestEventKind → Option ℕ
total_in_kind (kinds.TestStarted told) = Some told.stats.initial_run_count
total_in_kind _ = None

abbrev pub total_in : ReporterEvent → Option ℕ
total_in Tick = None
total_in (Test event) = total_in_kind event.kind

-- how many tests there are to run, as it was told last
abbrev pub total_told : ℕ → List ReporterEvent → ℕ
total_told before [] = before
total_told before (event ∷ later) = total_told (unwrap_or (total_in event) before) later

-- the finish that an event tells
abbrev pub finish_in_kind : TestEventKind → Option TestFinished
finish_in_kind (kinds.TestFinished told) = Some told
finish_in_kind _ = None

abbrev pub finish_in_event : ReporterEvent → Option TestFinished
finish_in_event Tick = None
finish_in_event (Test event) = finish_in_kind event.kind

-- whether an event ends the run or a sub-run
abbrev pub ends_kind : TestEventKind → Bool
ends_kind (kinds.StressSubRunFinished told) = true
ends_kind (kinds.RunFinished told) = true
ends_kind _ = false

abbrev pub ends : ReporterEvent → Bool
ends Tick = false
ends (Test event) = ends_kind event.kind

-- the events behind the last that ends a run or a sub-run
abbrev pub since_end : List ReporterEvent → List ReporterEvent
since_end [] = []
since_end (event ∷ later) = if list_any ends (event ∷ later) then since_end later else event ∷ later

-- whether the second of two tests stands behind the first, in order of binaries and names
abbrev pub id_behind : TestInstanceId → TestInstanceId → Bool
id_behind first second = is_lt (ordering_then (slice_cmp nat_cmp first.binary second.binary)
    (slice_cmp nat_cmp first.name second.name))

abbrev pub told_behind : TestFinished → TestFinished → Bool
told_behind first second = id_behind first.finish.test.id second.finish.test.id

-- an item before those at the end that all stand behind it
abbrev pub placed : {X : Type 0} → (X → X → Bool) → X → List X → List X
placed behind x [] = x ∷ []
placed behind x (y ∷ ys) = if list_all (behind x) (y ∷ ys) then x ∷ y ∷ ys else y ∷ placed behind x ys

-- items in order, each put into its place behind those before it
abbrev pub placed_all : {X : Type 0} → (X → X → Bool) → List X → List X → List X
placed_all behind done [] = done
placed_all behind done (x ∷ xs) = placed_all behind (placed behind x done) xs

-- the finished tests that are to be shown again at the next end, in order
abbrev pub kept_finishes : ReportSettings → List ReporterEvent → List TestFinished
kept_finishes settings told = placed_all told_behind []
    (filter (λ finish. is_kept settings finish.finish) (filter_map finish_in_event (since_end told)))

-- what is shown of them there
abbrev pub late_pieces : ReportSettings → List ReporterEvent → List Piece
late_pieces settings told = flat_map (kept_pieces settings) (kept_finishes settings told)
