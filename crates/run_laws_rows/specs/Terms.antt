-- By what a script and a test go: their slow reports by the plan's own numbers, and what is set for all tests.
use Rattle.std.specs.Prelude.{ℕ, zero, ◌≡◌, ◌<◌, ◌≤◌, nat_le, List, Bool, true, false, Option, Some, None}
use Rattle.std.specs.List.{All}
use Rattle.run_commands.specs.declared.interceptor.Interceptor.{Interceptor}
use Rattle.run_events.specs.declared.plan.SlowTimeout.{SlowTimeout}
use Rattle.run_events.specs.declared.result.FlakyResult.{FlakyResult}
use Rattle.run_events.specs.declared.retry_policy.RetryPolicy.{RetryPolicy}
use Rattle.run_events.specs.declared.settings.Settings.{Settings}
use Rattle.run_model.specs.declared.entry.Entry.{Entry}
use Rattle.run_model.specs.declared.unit_view.AttemptTerms.{AttemptTerms}
use Rattle.run_model.specs.declared.unit_view.UnitView.{UnitView}
use Rattle.run_model.specs.Admission.{scripts_in, unit_terms}
use Rattle.run_model.specs.Backoff.{retry_count}
use Rattle.run_model.specs.Journal.{IsLegal, past_of}
use Rattle.run_model.specs.Words.{sub_run, told, unit_of}
use Rattle.run_laws.specs.Reports.{SlowReport, reports_told}
use Rattle.run_laws_rows.specs.Numbers.{periods}
use Rattle.run_laws_rows.specs.Results.{slow_planned}

-- whether an attempt that was slow so often has had all its periods: where the plan says how many, of which 0 is 1
abbrev pub has_had_all : Option ℕ → ℕ → Bool
has_had_all None n = false
has_had_all (Some zero) n = nat_le 1 n
has_had_all (Some most) n = nat_le most n

-- a slow report tells a time of whole periods, one at least, and that the attempt has run out of time exactly where
-- those are all that it has
pub record IsOfPeriods (slow : SlowTimeout) (report : SlowReport) : Type 0 where
  pub count : ℕ
  pub some : 1 ≤ count
  pub elapsed : report.elapsed ≡ periods slow.period count
  pub terminates : report.terminates ≡ has_had_all slow.terminate_after count

-- that holds of each slow report of each script and test that is told in the newest sub-run of every legal journal
abbrev pub SlowReportsAreOfPeriods : Type 0
SlowReportsAreOfPeriods = (p : Settings) (journal : List Entry) → IsLegal p journal → (k : ℕ)
    → All (IsOfPeriods (slow_planned p k)) (reports_told k (told (sub_run (past_of p journal))))

-- the settings with this interceptor, and with this set for all tests
abbrev pub set_for_tests : Interceptor → Option RetryPolicy → Option FlakyResult → Settings → Settings
set_for_tests interceptor retries flaky p =
    record p { interceptor = interceptor; retries = retries; flaky_result = flaky }

-- each script and test that was admitted in the newest sub-run of a legal journal goes by the terms of its number
abbrev pub UnitsKeepTheirTerms : Type 0
UnitsKeepTheirTerms = (p : Settings) (journal : List Entry) → IsLegal p journal → (k : ℕ) (u : UnitView)
    → unit_of k (sub_run (past_of p journal)) ≡ Some u → u.terms ≡ unit_terms p k

-- a script's terms say that it is tried once, that its timers count, its streams are waited for and its environment
-- file is read
pub record GoesOnce (terms : AttemptTerms) : Type 0 where
  pub retries : retry_count terms.retries ≡ 0
  pub timed : terms.disables_timeouts ≡ false
  pub awaited : terms.skips_leak_detection ≡ false
  pub reads : terms.reads_env ≡ true

-- those of each script do, and what is set for all tests, and the interceptor before them, change nothing in them
abbrev pub ScriptsGoByThemselves : Type 0
ScriptsGoByThemselves = (p : Settings) (interceptor : Interceptor) (retries : Option RetryPolicy)
    (flaky : Option FlakyResult) (k : ℕ) → k < scripts_in p
    → GoesOnce (unit_terms p k)
    × (unit_terms (set_for_tests interceptor retries flaky p) k
    ≡ record (unit_terms p k) { stops = (unit_terms (set_for_tests interceptor retries flaky p) k).stops })
