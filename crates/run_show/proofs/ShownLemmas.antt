-- What lines tell, one after the other.
use Rattle.std.proofs.Common.{◌≡◌, ◌≤◌, ◌+◌, ℕ, Bool, false, List, [], ◌∷◌, ◌++◌, map, length, refl, ap, sym}
use Rattle.std.proofs.Common.{subst, inl, inr}
use Rattle.std.proofs.Common.{Option, Some, None, Result, Ok, Err, arith, append_assoc, length-append, ◌∙◌}
use Rattle.std.specs.Prelude.{not}
use Rattle.std.specs.List.{filter}
use Rattle.std.proofs.lemmas.List.{append-nil, map-append}
use Rattle.std.proofs.lemmas.List.Elements.{filter-append}
use Rattle.run_capture.specs.Bytes.{AtEnd}
use Rattle.run_capture.specs.Faults.{RoseExactlyIf}
use Rattle.run_capture.specs.Reading.{has_failed}
use Rattle.run_capture.specs.declared.reading.ReadError.{ReadError}
use Rattle.run_capture.specs.declared.reading.ReadError.TheVariants as unread
use Rattle.run_events.specs.declared.events.ReporterEvent.{ReporterEvent}
use Rattle.run_event_reader.specs.Counted.{AreAllCounted, failed_after, failed_after_all}
use Rattle.run_capture.specs.declared.source.Failed.{Failed}
use Rattle.run_events.specs.declared.reporter.ReportFault.{ReportFault}
use Rattle.run_report.specs.declared.levels.ReportSettings.{ReportSettings}
use Rattle.run_report.specs.Speaks.{Shows}
use Rattle.run_output.specs.Events.{event_text}
use Rattle.run_output.specs.declared.fault.Fault.{Fault}
use Rattle.run_output.specs.declared.fault.Fault.TheVariants as faults
use Rattle.run_show.specs.declared.last.Told.{Told}
use Rattle.run_show.specs.declared.recorded.Next.{Next}
use Rattle.run_show.specs.declared.recorded.Next.TheVariants as next
use Rattle.run_show.specs.FirstLines.{FirstLines, IsUnreadLine}
use Rattle.run_input.specs.Lines.{lines_of}
use Rattle.run_show.specs.Said.{is_ask_line}
use Rattle.run_show.specs.Shown.{EndsAt, HearsLine, GoesTo, HasEnded, HasRead, Tell, TellsMore}
use Rattle.run_show.specs.Shown.{is_failed_read, unread_fault}

-- nothing that is added
pub adds_none : {X : Type 0} (heard : List X → Type 0) (xs : List X) → heard xs → heard (xs ++ [])
adds_none heard xs h = rw append-nil h

-- lines behind lines
first_more : (before between after : Option (List ℕ)) (xs ys : List (List ℕ))
    → FirstLines before between xs → FirstLines between after ys → FirstLines before after (xs ++ ys)
first_more before None None xs ys first second = first
first_more before None (Some rest) xs ys first second = absurd (cc second)
first_more before (Some rest) None xs ys first second = absurd (cc second)
first_more before (Some rest) (Some left) xs ys first second =
    let same : lines_of rest ≡ ys ++ lines_of left = cc second in
    first ∙ ap Some (rw same (sym (append_assoc xs ys (lines_of left))))

-- counts behind counts
counted_more : (failed : ℕ) (events more : List ReporterEvent)
    → AreAllCounted failed events → AreAllCounted (failed_after_all failed events) more
    → AreAllCounted failed (events ++ more)
counted_more failed [] more first second = second
counted_more failed (event ∷ events) more first second =
    (first.0, counted_more (failed_after failed event) events more first.1 second)

failed_more : (failed : ℕ) (events more : List ReporterEvent)
    → failed_after_all failed (events ++ more) ≡ failed_after_all (failed_after_all failed events) more
failed_more failed [] more = refl
failed_more failed (event ∷ events) more = failed_more (failed_after failed event) events more

-- what one line tells
told_line : (failed : ℕ) (line : List ℕ) (more : List ReporterEvent) → TellsMore failed line more
    → (filter (λ line. not (is_ask_line line)) (line ∷ []) ≡ map event_text more) × AreAllCounted failed more
told_line failed line [] tells = (rw tells refl, tt)
told_line failed line (event ∷ []) tells = (rw (tells.0, tells.1) refl, (tells.2, tt))
told_line failed line (event ∷ other ∷ more) tells = absurd tells

-- what a line behind lines tells
tell_more : (lines : List (List ℕ)) (events : List ReporterEvent) (line : List ℕ) (more : List ReporterEvent)
    → Tell lines events → TellsMore (failed_after_all 0 events) line more
    → Tell (lines ++ line ∷ []) (events ++ more)
tell_more lines events line more tell tells =
    let told = told_line (failed_after_all 0 events) line more tells in
    record {
      lines_are = filter-append (λ line. not (is_ask_line line)) lines (line ∷ [])
          ∙ (ap (λ front. front ++ filter (λ line. not (is_ask_line line)) (line ∷ [])) tell.lines_are
          ∙ (ap (λ back. map event_text events ++ back) told.0 ∙ sym (map-append event_text events more)));
      counted = counted_more 0 events more tell.counted told.1;
    }

-- hearing a line
pub goes_line : (left now after : Option (List ℕ)) (heard heard' : List ReporterEvent → Type 0)
    (failed number : ℕ) (line : List ℕ) (more : List ReporterEvent) (result : Result Next Fault)
    → HasRead left now heard failed number → FirstLines now after (line ∷ [])
    → ((xs : List ReporterEvent) → heard xs → heard' (xs ++ more))
    → HearsLine number failed line more result → GoesTo left after heard' number result
goes_line left now after heard heard' failed number line more (Ok (next.On count)) read first adds goes =
    record {
      lines = read.lines ++ line ∷ [];
      events = read.events ++ more;
      first = first_more left now after read.lines (line ∷ []) read.first first;
      tell = tell_more read.lines read.events line more read.tell
          (subst (λ n. TellsMore n line more) read.failed_is goes.0);
      heard_all = adds read.events read.heard_all;
      failed_is = goes.1 ∙ (ap (λ n. failed_after_all n more) read.failed_is ∙ sym (failed_more 0 read.events more));
      number_is = omega (arith, read.number_is, length-append read.lines (line ∷ []));
    }
goes_line left now after heard heard' failed number line more (Ok (next.Last told)) read first adds goes =
    let same : read.events ++ more ≡ read.events = rw goes.0 (append-nil read.events) in (
      read.events,
      subst heard' same (adds read.events read.heard_all),
      record {
        lines = read.lines;
        last = line ∷ [];
        after = after;
        first = first_more left now after read.lines (line ∷ []) read.first first;
        tell = read.tell;
        ends = (line, refl, goes.1);
      },
    )
goes_line left now after heard heard' failed number line more (Err (faults.Line bad)) read first adds goes =
    let same : read.events ++ more ≡ read.events = rw goes.0 (append-nil read.events) in (
      read.events,
      subst heard' same (adds read.events read.heard_all),
      record {
        lines = read.lines;
        last = line ∷ [];
        after = after;
        first = first_more left now after read.lines (line ∷ []) read.first first;
        tell = read.tell;
        ends = (line, refl, goes.1 ∙ read.number_is);
      },
    )
goes_line left now after heard heard' failed number line more (Err faults.Memory) read first adds goes =
    let same : read.events ++ more ≡ read.events = rw goes (append-nil read.events) in (
      read.events,
      subst heard' same (adds read.events read.heard_all),
      record {
        lines = read.lines;
        last = [];
        after = now;
        first = rw append-nil read.first;
        tell = read.tell;
        ends = refl;
      },
    )
goes_line left now after heard heard' failed number line more (Err faults.Words) read first adds goes = absurd goes
goes_line left now after heard heard' failed number line more (Err (faults.Plan plan)) read first adds goes =
    absurd goes
goes_line left now after heard heard' failed number line more (Err (faults.NotEnabled turn)) read first adds goes =
    absurd goes
goes_line left now after heard heard' failed number line more (Err (faults.ThirdSignal turn)) read first adds goes =
    absurd goes
goes_line left now after heard heard' failed number line more (Err faults.Unfinished) read first adds goes = absurd goes
goes_line left now after heard heard' failed number line more (Err faults.Report) read first adds goes = absurd goes
goes_line left now after heard heard' failed number line more (Err faults.Read) read first adds goes = absurd goes
goes_line left now after heard heard' failed number line more (Err faults.TooLong) read first adds goes = absurd goes

-- reading ended with no line left
pub ends_unfinished : (left now after : Option (List ℕ)) (heard : List ReporterEvent → Type 0) (failed number : ℕ)
    → HasRead left now heard failed number → FirstLines now after [] → AtEnd after
    → HasEnded left heard (Err faults.Unfinished)
ends_unfinished left now after heard failed number read first end = (
  read.events,
  read.heard_all,
  record {
    lines = read.lines;
    last = [];
    after = after;
    first = first_more left now after read.lines [] read.first first;
    tell = read.tell;
    ends = (refl, end);
  },
)

-- reading ended before a line, with these words
ended_before : (left now : Option (List ℕ)) (heard : List ReporterEvent → Type 0) (failed number : ℕ)
    (ending : Result Told Fault) → HasRead left now heard failed number
    → ((count : ℕ) → number ≡ count + 1 → EndsAt count [] now ending) → HasEnded left heard ending
ended_before left now heard failed number ending read ends = (
  read.events,
  read.heard_all,
  record {
    lines = read.lines;
    last = [];
    after = now;
    first = rw append-nil read.first;
    tell = read.tell;
    ends = ends (length read.lines) read.number_is;
  },
)

-- reading ended where no line could be read
pub ends_unread : (left now : Option (List ℕ)) (heard : List ReporterEvent → Type 0) (failed number : ℕ)
    (error : ReadError) → IsUnreadLine 1073741824 now error → HasRead left now heard failed number
    → HasEnded left heard (Err (unread_fault error))
ends_unread left now heard failed number unread.Failed cause read =
    ended_before left now heard failed number (Err faults.Read) read (λ count is. refl)
ends_unread left now heard failed number unread.TooLong cause read =
    ended_before left now heard failed number (Err faults.TooLong) read (λ count is. (refl, inl cause))
ends_unread left now heard failed number unread.OutOfMemory cause read =
    ended_before left now heard failed number (Err faults.Memory) read (λ count is. refl)

-- reading ended behind as many lines as can be counted
pub ends_many : (left now : Option (List ℕ)) (heard : List ReporterEvent → Type 0) (failed number : ℕ)
    → 18446744073709551615 ≤ number → HasRead left now heard failed number → HasEnded left heard (Err faults.TooLong)
ends_many left now heard failed number many read =
    ended_before left now heard failed number (Err faults.TooLong) read
    (λ count is. (refl, inr (omega (arith, is, many))))

-- what was read of a line isn't that the source failed
pub heard_no_failure : (number failed : ℕ) (line : List ℕ) (more : List ReporterEvent) (result : Result Next Fault)
    → HearsLine number failed line more result → is_failed_read result ≡ false
heard_no_failure number failed line more (Ok next) hears = refl
heard_no_failure number failed line more (Err (faults.Line bad)) hears = refl
heard_no_failure number failed line more (Err faults.Memory) hears = refl
heard_no_failure number failed line more (Err faults.Words) hears = refl
heard_no_failure number failed line more (Err (faults.Plan plan)) hears = refl
heard_no_failure number failed line more (Err (faults.NotEnabled turn)) hears = refl
heard_no_failure number failed line more (Err (faults.ThirdSignal turn)) hears = refl
heard_no_failure number failed line more (Err faults.Unfinished) hears = refl
heard_no_failure number failed line more (Err faults.Report) hears = refl
heard_no_failure number failed line more (Err faults.Read) hears = absurd hears
heard_no_failure number failed line more (Err faults.TooLong) hears = refl

-- the source failed exactly if the fault says so
pub unread_rose : (error : ReadError) (before now : ℕ) → RoseExactlyIf (has_failed {T = Bool} (Err error)) before now
    → RoseExactlyIf (is_failed_read {A = Next} (Err (unread_fault error))) before now
unread_rose unread.Failed before now rose = rose
unread_rose unread.TooLong before now rose = rose
unread_rose unread.OutOfMemory before now rose = rose

-- and so does a fault after lines that were read
pub rose_after : (start before now : ℕ) (fault : Fault) → before ≡ start
    → RoseExactlyIf (is_failed_read {A = Next} (Err fault)) before now
    → RoseExactlyIf (is_failed_read {A = Told} (Err fault)) start now
rose_after start before now faults.Read same rose = rw same at rose
rose_after start before now (faults.Line bad) same rose = rose ∙ same
rose_after start before now faults.Memory same rose = rose ∙ same
rose_after start before now faults.Words same rose = rose ∙ same
rose_after start before now (faults.Plan plan) same rose = rose ∙ same
rose_after start before now (faults.NotEnabled turn) same rose = rose ∙ same
rose_after start before now (faults.ThirdSignal turn) same rose = rose ∙ same
rose_after start before now faults.Unfinished same rose = rose ∙ same
rose_after start before now faults.Report same rose = rose ∙ same
rose_after start before now faults.TooLong same rose = rose ∙ same

-- between counts of other names
pub rose_between : (has : Bool) (start before now last : ℕ) → before ≡ start → last ≡ now
    → RoseExactlyIf has before now → RoseExactlyIf has start last
rose_between has start before now last same after rose = rw (after, sym same) rose

-- at first nothing was read
pub nothing_read : (now : Option (List ℕ)) (heard : List ReporterEvent → Type 0) → heard [] → HasRead now now heard 0 1
nothing_read None heard unheard = record {
  lines = [];
  events = [];
  first = refl;
  tell = record { lines_are = refl; counted = tt };
  heard_all = unheard;
  failed_is = refl;
  number_is = refl;
}
nothing_read (Some rest) heard unheard = record {
  lines = [];
  events = [];
  first = refl;
  tell = record { lines_are = refl; counted = tt };
  heard_all = unheard;
  failed_is = refl;
  number_is = refl;
}

-- the same report by other names
pub shows_on : (settings settings' : ReportSettings) (before before' now now' : Option (List ℕ))
    (faults faults' faults_now faults_now' : ℕ) (went : Result (Unit {0}) (ReportFault Failed))
    (events : List ReporterEvent) → settings ≡ settings' → before ≡ before' → now ≡ now' → faults ≡ faults'
    → faults_now ≡ faults_now' → Shows settings' before' now' faults' faults_now' went events
    → Shows settings before now faults faults_now went events
shows_on settings settings' before before' now now' faults faults' faults_now faults_now' went events s b n f l shows =
    rw (s, b, n, f, l) shows
