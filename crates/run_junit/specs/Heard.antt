-- What is kept of the events that were heard.
use Rattle.std.specs.Prelude.{ℕ, suc, ◌+◌, ◌≡◌, ◌≤◌, Bool, true, false, List, [], ◌∷◌, ◌++◌, length, map, drop}
use Rattle.std.specs.Prelude.{bytes_eq, slice_index_or, Option, Some, None, Result, IfOk}
use Rattle.std.specs.List.{list_any}
use Rattle.run_capture.specs.declared.memory.OutOfMemory.{OutOfMemory}
use Rattle.run_events.specs.declared.events.ReporterEvent.{ReporterEvent}
use Rattle.run_events.specs.declared.events.ReporterEvent.TheVariants.{Tick, Test}
use Rattle.run_events.specs.declared.events.TestEventKind.{TestEventKind}
use Rattle.run_junit.specs.declared.heard.Heard.{Heard}
use Rattle.run_junit.specs.declared.reason.Fault.{Fault}
use Rattle.run_junit.specs.declared.reason.Fault.TheVariants as faults
use Rattle.run_junit.specs.declared.suites.Counts.{Counts}
use Rattle.run_junit.specs.declared.suites.Kept.{Kept}
use Rattle.run_junit.specs.Document.{elapsed_last, id_after_kind, id_told}
use Rattle.run_junit.specs.Suites.{Finish, Suite, case_tokens, counts_of, fault_counted, unit_finish_in_kind}
use Rattle.run_junit.specs.Suites.{finishes_heard}
use Rattle.run_junit.specs.Suites.{put_last, suite_of, suites_of}
use Rattle.run_junit.specs.Tokens.{tokens_bytes}

-- the text of a case
abbrev pub case_bytes : Option ℕ → Finish → List ℕ
case_bytes started finish = tokens_bytes (case_tokens started finish)

-- what is kept of a suite: its counts, and the texts of its cases
abbrev pub kept_suite : Option ℕ → Suite → Kept
kept_suite started suite = record {
  name = suite.name;
  counts = counts_of suite.finishes;
  cases = map (case_bytes started) suite.finishes;
}

-- counts with one case more
abbrev pub counts_with : Counts → Option Fault → Counts
counts_with counts None = record counts { tests = counts.tests + 1 }
counts_with counts (Some faults.Failure) =
    record counts { tests = counts.tests + 1; failures = counts.failures + 1 }
counts_with counts (Some faults.Error) = record counts { tests = counts.tests + 1; errors = counts.errors + 1 }

-- a suite with one case more
abbrev pub kept_with : Option Fault → List ℕ → Kept → Kept
kept_with fault case suite =
    record suite { counts = counts_with suite.counts fault; cases = suite.cases ++ case ∷ [] }

-- a suite with no case
abbrev pub kept_empty : List ℕ → Kept
kept_empty name = record { name = name; counts = counts_of []; cases = [] }

-- suites, with one case more in the one of this name
abbrev pub put_kept : List ℕ → Option Fault → List ℕ → List Kept → List Kept
put_kept name fault case suites = put_last (λ suite. bytes_eq suite.name name) (kept_with fault case)
    (kept_with fault case (kept_empty name)) suites

-- a place right behind the last item that fits, and 0 where none does
pub record IsBehindLast {S : Type 0} (fits : S → Bool) (items : List S) (place : ℕ) : Type 0 where
  pub within : place ≤ length items
  pub none : list_any fits (drop place items) ≡ false
  pub last : (n : ℕ) (other : S) → suc n ≡ place → fits (slice_index_or items n other) ≡ true

-- what is kept after one event more
abbrev pub heard_finish : Option ℕ → Heard → Finish → Heard
heard_finish started heard finish = record heard {
  counts = counts_with heard.counts (fault_counted finish);
  suites = put_kept (suite_of finish) (fault_counted finish) (case_bytes started finish) heard.suites;
}

abbrev pub heard_told : Option ℕ → Heard → Option Finish → Heard
heard_told started heard (Some finish) = heard_finish started heard finish
heard_told started heard None = heard

abbrev pub kept_after_kind : Option ℕ → Heard → TestEventKind → Heard
kept_after_kind started heard kind =
    heard_told started (record heard { id = id_after_kind heard.id kind }) (unit_finish_in_kind kind)

abbrev pub kept_after_event : Option ℕ → Heard → ReporterEvent → Heard
kept_after_event started heard Tick = heard
kept_after_event started heard (Test event) =
    kept_after_kind started (record heard { elapsed = event.elapsed }) event.kind

-- what is kept of no events
abbrev pub heard_nothing : Heard
heard_nothing = record { id = []; elapsed = 0; counts = counts_of []; suites = [] }

-- what is kept of events
unfoldable pub kept_of_run : Option ℕ → List ReporterEvent → Heard
kept_of_run started told = record {
  id = id_told [] told;
  elapsed = elapsed_last 0 told;
  counts = counts_of (finishes_heard told);
  suites = map (kept_suite started) (suites_of (finishes_heard told));
}

-- these events were heard, unless it was given up
abbrev pub Remembers : Option ℕ → Result Heard OutOfMemory → List ReporterEvent → Type 0
Remembers started heard told = IfOk heard (λ kept. kept ≡ kept_of_run started told)
