-- What `show` reads, and what it makes of it.
use Rattle.std.specs.Prelude.{ℕ, ◌≡◌, ◌≤◌, ◌⊎◌, ◌+◌, not, Bool, true, false, List, [], ◌∷◌, ◌++◌, length, map}
use Rattle.std.specs.Prelude.{Option, Result, Ok, Err}
use Rattle.std.specs.List.{filter}
use Rattle.run_capture.specs.Bytes.{AtEnd}
use Rattle.run_capture.specs.Faults.{RoseExactlyIf}
use Rattle.run_capture.specs.declared.source.Failed.{Failed}
use Rattle.run_capture.specs.declared.reading.ReadError.{ReadError}
use Rattle.run_capture.specs.declared.reading.ReadError.TheVariants as unread
use Rattle.run_events.specs.declared.events.ReporterEvent.{ReporterEvent}
use Rattle.run_events.specs.declared.reporter.ReportFault.{ReportFault}
use Rattle.run_events.specs.declared.reporter.ReportFault.TheVariants as reports
use Rattle.run_output.specs.Events.{event_text}
use Rattle.run_output.specs.declared.fault.Fault.{Fault}
use Rattle.run_output.specs.declared.fault.Fault.TheVariants as faults
use Rattle.run_report.specs.declared.levels.ReportSettings.{ReportSettings}
use Rattle.run_report.specs.Speaks.{Shows}
use Rattle.run_event_reader.specs.Counted.{AreAllCounted, IsCounted, failed_after_all}
use Rattle.run_show.specs.declared.last.Told.{Told}
use Rattle.run_show.specs.declared.said.Said.{Said}
use Rattle.run_show.specs.declared.said.Said.TheVariants.{Ask, Event, Last}
use Rattle.run_show.specs.declared.recorded.Next.{Next}
use Rattle.run_show.specs.declared.recorded.Next.TheVariants as next
use Rattle.run_show.specs.FirstLines.{FirstLines, IsUnreadLine}
use Rattle.run_show.specs.Said.{is_ask_line, IsLastLine}

-- a line tells an event, where so many tests had failed before it
abbrev pub TellsEvent : ℕ → List ℕ → ReporterEvent → Type 0
TellsEvent failed line event = (is_ask_line line ≡ false) × (event_text event ≡ line) × IsCounted failed event

-- what a line says
abbrev pub Says : ℕ → List ℕ → Said → Type 0
Says failed line Ask = is_ask_line line ≡ true
Says failed line (Event event) = TellsEvent failed line event
Says failed line (Last told) = IsLastLine line told

-- the events that a line of a run tells before its last: one, or of an ask none
abbrev pub TellsMore : ℕ → List ℕ → List ReporterEvent → Type 0
TellsMore failed line [] = is_ask_line line ≡ true
TellsMore failed line (event ∷ []) = TellsEvent failed line event
TellsMore failed line (event ∷ next ∷ events) = ⊥

-- these lines, but for those of asks, are those of these events, in order; and each event has of a pass after a failed
-- attempt what the counts say
pub record Tell (lines : List (List ℕ)) (events : List ReporterEvent) : Type 0 where
  pub lines_are : filter (λ line. not (is_ask_line line)) lines ≡ map event_text events
  pub counted : AreAllCounted 0 events

-- how hearing the line of a number went: what was told, and how many tests have failed then
abbrev pub HearsLine : ℕ → ℕ → List ℕ → List ReporterEvent → Result Next Fault → Type 0
HearsLine number failed line more (Ok (next.On now)) =
    TellsMore failed line more × (now ≡ failed_after_all failed more)
HearsLine number failed line more (Ok (next.Last told)) = (more ≡ []) × IsLastLine line told
HearsLine number failed line more (Err (faults.Line bad)) = (more ≡ []) × (bad ≡ number)
HearsLine number failed line more (Err faults.Memory) = more ≡ []
HearsLine number failed line more (Err _) = ⊥

-- how reading ended behind so many lines that tell events or asks, by the line behind those, if one was read, and by
-- what was left: with the run's last line; with no line left; at a line that says none of these; before a line of more
-- than 1,073,741,824 bytes, or behind 2^64 - 2 lines or more
abbrev pub EndsAt : ℕ → List (List ℕ) → Option (List ℕ) → Result Told Fault → Type 0
EndsAt count last after (Ok told) = (line : List ℕ) × (last ≡ line ∷ []) × IsLastLine line told
EndsAt count last after (Err faults.Unfinished) = (last ≡ []) × AtEnd after
EndsAt count last after (Err (faults.Line number)) = (line : List ℕ) × (last ≡ line ∷ []) × (number ≡ count + 1)
EndsAt count last after (Err faults.Read) = last ≡ []
EndsAt count last after (Err faults.TooLong) =
    (last ≡ []) × (IsUnreadLine 1073741824 after unread.TooLong ⊎ (18446744073709551614 ≤ count))
EndsAt count last after (Err faults.Memory) = last ≡ []
EndsAt count last after (Err _) = ⊥

-- what was left in a source began with lines that tell these events, and then with the line at which reading ended
pub record ReadsLines (left : Option (List ℕ)) (events : List ReporterEvent) (ending : Result Told Fault) : Type 0 where
  pub lines : List (List ℕ)
  pub last : List (List ℕ)
  pub after : Option (List ℕ)
  pub first : FirstLines left after (lines ++ last)
  pub tell : Tell lines events
  pub ends : EndsAt (length lines) last after ending

-- lines were read, and tell what was heard
pub record HasRead (left now : Option (List ℕ)) (heard : List ReporterEvent → Type 0) (failed number : ℕ) : Type 0 where
  pub lines : List (List ℕ)
  pub events : List ReporterEvent
  pub first : FirstLines left now lines
  pub tell : Tell lines events
  pub heard_all : heard events
  pub failed_is : failed ≡ failed_after_all 0 events
  pub number_is : number ≡ length lines + 1

-- the fault that no line could be read
abbrev pub unread_fault : ReadError → Fault
unread_fault unread.Failed = faults.Read
unread_fault unread.TooLong = faults.TooLong
unread_fault unread.OutOfMemory = faults.Memory

-- what was heard tells what was read, up to where reading ended
abbrev pub HasEnded : Option (List ℕ) → (List ReporterEvent → Type 0) → Result Told Fault → Type 0
HasEnded left heard ending = (events : List ReporterEvent) × heard events × ReadsLines left events ending

-- where one more line was read and heard, reading goes on or ended
abbrev pub GoesTo : Option (List ℕ) → Option (List ℕ) → (List ReporterEvent → Type 0) → ℕ → Result Next Fault
    → Type 0
GoesTo left now heard number (Ok (next.On failed)) = HasRead left now heard failed (number + 1)
GoesTo left now heard number (Ok (next.Last told)) = HasEnded left heard (Ok told)
GoesTo left now heard number (Err fault) = HasEnded left heard (Err fault)

-- reading ended since the source failed
abbrev pub is_failed_read : {A : Type 0} → Result A Fault → Bool
is_failed_read (Ok _) = false
is_failed_read (Err faults.Read) = true
is_failed_read (Err _) = false

-- the report ended as reading did; or it fell silent, since a write failed or memory was wanting
abbrev pub EndsBy : Result (Unit {0}) (ReportFault Failed) → Result Told Fault → Result Told Fault → Type 0
EndsBy (Ok _) read ending = ending ≡ read
EndsBy (Err (reports.Refused _)) read ending = ending ≡ Err faults.Report
EndsBy (Err reports.OutOfMemory) read ending = ending ≡ Err faults.Memory

-- the lines that were left in a source tell these events, up to where reading ended, and the sink took their report:
-- all of it where the ending is that of reading, and else a front part. A fault of reading, and one of the report, is
-- answered exactly where the source, and the sink, failed
pub record ShowsLines (settings : ReportSettings) (left : Option (List ℕ)) (source source_now : ℕ)
    (before now : Option (List ℕ)) (sink sink_now : ℕ) (ending : Result Told Fault) : Type 0 where
  pub events : List ReporterEvent
  pub read : Result Told Fault
  pub reads : ReadsLines left events read
  pub failed : RoseExactlyIf (is_failed_read read) source source_now
  pub went : Result (Unit {0}) (ReportFault Failed)
  pub report : Shows settings before now sink sink_now went events
  pub ends : EndsBy went read ending
