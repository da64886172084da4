-- What the finishes that were told add to the statistics.
use Rattle.std.proofs.Common.{◌≡◌, ℕ, ◌+◌, List, [], ◌∷◌, map, length, Bool, true, false, cond, not, ◌&&◌, ◌||◌, nat_lt}
use Rattle.std.proofs.Common.{if◌then◌else◌, count_by, filter_map, sum_by, refl, sym, subst}
use Rattle.std.proofs.Common.{arith}
use Rattle.std.proofs.lemmas.List.{length-map}
use Rattle.std.specs.List.{cons_option}
use Rattle.std.proofs.lemmas.List.Sums.{sum_by-cons}
use Rattle.run_capture.proofs.Facts.{or_false}
use Rattle.run_events.specs.Result.{is_success}
use Rattle.run_events.specs.Stats.{FinishedTest, adds_of, failed_adds, last_adds, last_or, script_adds, test_adds}
use Rattle.run_events.specs.declared.events.ReporterEvent.{ReporterEvent}
use Rattle.run_events.specs.declared.events.ReporterEvent.TheVariants.{Tick, Test}
use Rattle.run_events.specs.declared.events.TestEventKind.{TestEventKind}
use Rattle.run_events.specs.declared.events.TestEventKind.TheVariants.{SetupScriptFinished, TestFinished}
use Rattle.run_events.specs.declared.message.TestFinish.{TestFinish}
use Rattle.run_events.specs.declared.result.ExecuteStatus.{ExecuteStatus}
use Rattle.run_events.specs.declared.result.ExecutionResult.{ExecutionResult}
use Rattle.run_events.specs.declared.result.ExecutionResult.TheVariants.{Pass, Leak, Fail, ExecFail, Timeout}
use Rattle.run_events.specs.declared.result.FlakyResult.{FlakyResult}
use Rattle.run_events.specs.declared.result.FlakyResult.TheVariants as flakies
use Rattle.run_events.specs.declared.result.LeakTimeoutResult.TheVariants as leaks
use Rattle.run_events.specs.declared.result.SlowTimeoutResult.TheVariants as timeouts
use Rattle.run_events.specs.declared.stats.RunStats.{RunStats}
use Rattle.run_model.specs.Words.{FinishedUnit, a_script, a_test, adds_by, finish_in, finish_of, finished_test}
use Rattle.run_laws_calls.specs.Success.{finishes_test, finishes_test_in, fails_script, fails_script_in, fails_test}
use Rattle.run_laws_calls.specs.Success.{fails_test_in, finishes_script, finishes_script_in, is_failure, is_strict}

-- statistics that count so many finished tests and scripts, and so many that failed
record Weigh (a : RunStats) (m n f g : ℕ) : Type 0 where
  tests : a.finished_count ≡ m
  scripts : a.setup_scripts_finished_count ≡ n
  bad : a.failed + a.exec_failed + a.failed_timed_out ≡ f
  scripts_bad : a.setup_scripts_failed + a.setup_scripts_exec_failed + a.setup_scripts_timed_out ≡ g
  initial : a.initial_run_count ≡ 0
  scripts_initial : a.setup_scripts_initial_count ≡ 0

failed_weighs : (slow : Bool) → Weigh (failed_adds slow) 1 0 1 0
failed_weighs slow =
    record { tests = refl; scripts = refl; bad = refl; scripts_bad = refl; initial = refl; scripts_initial = refl }

last_weighs : (retried slow : Bool) (last : ExecutionResult)
    → Weigh (last_adds retried slow last) 1 0 (cond (not (is_success last)) 1 0) 0
last_weighs retried slow Pass =
    record { tests = refl; scripts = refl; bad = refl; scripts_bad = refl; initial = refl; scripts_initial = refl }
last_weighs retried slow (Leak leaks.Pass) =
    record { tests = refl; scripts = refl; bad = refl; scripts_bad = refl; initial = refl; scripts_initial = refl }
last_weighs retried slow (Leak leaks.Fail) =
    record { tests = refl; scripts = refl; bad = refl; scripts_bad = refl; initial = refl; scripts_initial = refl }
last_weighs retried slow (Fail status leaked) =
    record { tests = refl; scripts = refl; bad = refl; scripts_bad = refl; initial = refl; scripts_initial = refl }
last_weighs retried slow ExecFail =
    record { tests = refl; scripts = refl; bad = refl; scripts_bad = refl; initial = refl; scripts_initial = refl }
last_weighs retried slow (Timeout timeouts.Pass) =
    record { tests = refl; scripts = refl; bad = refl; scripts_bad = refl; initial = refl; scripts_initial = refl }
last_weighs retried slow (Timeout timeouts.Fail) =
    record { tests = refl; scripts = refl; bad = refl; scripts_bad = refl; initial = refl; scripts_initial = refl }

script_weighs : (result : ExecutionResult) → Weigh (script_adds result) 0 1 0 (cond (not (is_success result)) 1 0)
script_weighs Pass =
    record { tests = refl; scripts = refl; bad = refl; scripts_bad = refl; initial = refl; scripts_initial = refl }
script_weighs (Leak leaks.Pass) =
    record { tests = refl; scripts = refl; bad = refl; scripts_bad = refl; initial = refl; scripts_initial = refl }
script_weighs (Leak leaks.Fail) =
    record { tests = refl; scripts = refl; bad = refl; scripts_bad = refl; initial = refl; scripts_initial = refl }
script_weighs (Fail status leaked) =
    record { tests = refl; scripts = refl; bad = refl; scripts_bad = refl; initial = refl; scripts_initial = refl }
script_weighs ExecFail =
    record { tests = refl; scripts = refl; bad = refl; scripts_bad = refl; initial = refl; scripts_initial = refl }
script_weighs (Timeout timeouts.Pass) =
    record { tests = refl; scripts = refl; bad = refl; scripts_bad = refl; initial = refl; scripts_initial = refl }
script_weighs (Timeout timeouts.Fail) =
    record { tests = refl; scripts = refl; bad = refl; scripts_bad = refl; initial = refl; scripts_initial = refl }

-- a test, by its last result
test_weighs : (flaky : FlakyResult) (retried slow : Bool) (last : ExecutionResult)
    → Weigh (test_adds flaky retried slow last) 1 0 (cond (not (is_success last) || (is_strict flaky && retried)) 1 0) 0
test_weighs flakies.Pass retried slow last =
    subst (λ b. Weigh (last_adds retried slow last) 1 0 (cond b 1 0) 0) (sym (or_false (not (is_success last))))
    (last_weighs retried slow last)
test_weighs flakies.Fail false slow last =
    subst (λ b. Weigh (last_adds false slow last) 1 0 (cond b 1 0) 0) (sym (or_false (not (is_success last))))
    (last_weighs false slow last)
test_weighs flakies.Fail true slow last = by_last (is_success last) refl
  where
    by_last : (b : Bool) → is_success last ≡ b
        → Weigh (if b then failed_adds slow else last_adds true slow last) 1 0 (cond (not b || true) 1 0) 0
    by_last true e = failed_weighs slow
    by_last false e =
        subst (λ b. Weigh (last_adds true slow last) 1 0 (cond (not b) 1 0) 0) e (last_weighs true slow last)

-- a finish, by its attempts
last-is : (r : ExecutionResult) (ss : List ExecuteStatus)
    → is_success (last_or r (map (λ s. s.result) ss)) ≡ last_or (is_success r) (map (λ s. is_success s.result) ss)
last-is r [] = refl
last-is r (s ∷ ss) = last-is s.result ss

finish_weighs : (finish : TestFinish)
    → Weigh (adds_by (a_test (finished_test finish))) 1 0 (cond (is_failure finish) 1 0) 0
unfolding adds_of
finish_weighs finish =
    subst (λ passed. Weigh (adds_by (a_test t)) 1 0
    (cond (not passed || (is_strict finish.flaky && nat_lt 1 (length finish.statuses))) 1 0) 0)
    (last-is ExecFail finish.statuses)
    (subst (λ n. Weigh (adds_by (a_test t)) 1 0
    (cond (not (is_success (last_or ExecFail t.results)) || (is_strict finish.flaky && nat_lt 1 n)) 1 0) 0)
    (length-map finish.statuses (λ s. s.result))
    (test_weighs finish.flaky (nat_lt 1 (length t.results)) t.slow (last_or ExecFail t.results)))
  where
    t : FinishedTest
    t = finished_test finish

-- what a list of finished units adds up to
pub record AddUp (us : List FinishedUnit) (m n f g : ℕ) : Type 0 where
  pub tests : sum_by (λ u. (adds_by u).finished_count) us ≡ m
  pub scripts : sum_by (λ u. (adds_by u).setup_scripts_finished_count) us ≡ n
  pub bad : sum_by (λ u. (adds_by u).failed) us + sum_by (λ u. (adds_by u).exec_failed) us
      + sum_by (λ u. (adds_by u).failed_timed_out) us ≡ f
  pub scripts_bad : sum_by (λ u. (adds_by u).setup_scripts_failed) us
      + sum_by (λ u. (adds_by u).setup_scripts_exec_failed) us
      + sum_by (λ u. (adds_by u).setup_scripts_timed_out) us ≡ g
  pub initial : sum_by (λ u. (adds_by u).initial_run_count) us ≡ 0
  pub scripts_initial : sum_by (λ u. (adds_by u).setup_scripts_initial_count) us ≡ 0

adds_more : (u : FinishedUnit) (us : List FinishedUnit) (a b c d m n f g : ℕ) → Weigh (adds_by u) a b c d
    → AddUp us m n f g → AddUp (u ∷ us) (a + m) (b + n) (c + f) (d + g)
adds_more u us a b c d m n f g w h = record {
  tests = omega (arith, sum_by-cons (λ u. (adds_by u).finished_count) u us, w.tests, h.tests);
  scripts = omega (arith, sum_by-cons (λ u. (adds_by u).setup_scripts_finished_count) u us, w.scripts, h.scripts);
  bad = omega (
    arith,
    sum_by-cons (λ u. (adds_by u).failed) u us,
    sum_by-cons (λ u. (adds_by u).exec_failed) u us,
    sum_by-cons (λ u. (adds_by u).failed_timed_out) u us,
    w.bad,
    h.bad,
  );
  scripts_bad = omega (
    arith,
    sum_by-cons (λ u. (adds_by u).setup_scripts_failed) u us,
    sum_by-cons (λ u. (adds_by u).setup_scripts_exec_failed) u us,
    sum_by-cons (λ u. (adds_by u).setup_scripts_timed_out) u us,
    w.scripts_bad,
    h.scripts_bad,
  );
  initial = omega (arith, sum_by-cons (λ u. (adds_by u).initial_run_count) u us, w.initial, h.initial);
  scripts_initial = omega (
    arith,
    sum_by-cons (λ u. (adds_by u).setup_scripts_initial_count) u us,
    w.scripts_initial,
    h.scripts_initial,
  );
}

adds_same : (us : List FinishedUnit) (a b c d m n f g : ℕ) → AddUp us a b c d → m ≡ a → n ≡ b → f ≡ c → g ≡ d
    → AddUp us m n f g
adds_same us a b c d m n f g h one two three four = rw (one, two, three, four) h

adds_none : (us : List FinishedUnit) (m n f g : ℕ) → AddUp us m n f g → AddUp us (0 + m) (0 + n) (0 + f) (0 + g)
adds_none us m n f g h =
    adds_same us m n f g (0 + m) (0 + n) (0 + f) (0 + g) h (omega arith) (omega arith) (omega arith) (omega arith)

-- the finishes among events
kind_adds : (kind : TestEventKind) (us : List FinishedUnit) (m n f g : ℕ) → AddUp us m n f g
    → AddUp (cons_option (finish_in kind) us) (cond (finishes_test_in kind) 1 0 + m)
    (cond (finishes_script_in kind) 1 0 + n) (cond (fails_test_in kind) 1 0 + f) (cond (fails_script_in kind) 1 0 + g)
kind_adds (TestFinished event) us m n f g h =
    adds_more (a_test (finished_test event.finish)) us 1 0 (cond (is_failure event.finish) 1 0) 0 m n f g
    (finish_weighs event.finish) h
kind_adds (SetupScriptFinished event) us m n f g h =
    adds_more (a_script event.status.result) us 0 1 0 (cond (not (is_success event.status.result)) 1 0) m n f g
    (script_weighs event.status.result) h
kind_adds kind us m n f g h = adds_none us m n f g h

event_adds : (e : ReporterEvent) (us : List FinishedUnit) (m n f g : ℕ) → AddUp us m n f g
    → AddUp (cons_option (finish_of e) us) (cond (finishes_test e) 1 0 + m) (cond (finishes_script e) 1 0 + n)
    (cond (fails_test e) 1 0 + f) (cond (fails_script e) 1 0 + g)
event_adds Tick us m n f g h = adds_none us m n f g h
event_adds (Test event) us m n f g h = kind_adds event.kind us m n f g h

pub events_add : (es : List ReporterEvent)
    → AddUp (filter_map finish_of es) (count_by finishes_test es) (count_by finishes_script es) (count_by fails_test es)
    (count_by fails_script es)
events_add [] = record {
  tests = refl;
  scripts = refl;
  bad = refl;
  scripts_bad = refl;
  initial = refl;
  scripts_initial = refl;
}
events_add (e ∷ es) =
    adds_same (filter_map finish_of (e ∷ es)) _ _ _ _ (count_by finishes_test (e ∷ es))
    (count_by finishes_script (e ∷ es)) (count_by fails_test (e ∷ es)) (count_by fails_script (e ∷ es))
    (event_adds e (filter_map finish_of es) (count_by finishes_test es) (count_by finishes_script es)
    (count_by fails_test es) (count_by fails_script es) (events_add es))
    (sum_by-cons (λ e. cond (finishes_test e) 1 0) e es) (sum_by-cons (λ e. cond (finishes_script e) 1 0) e es)
    (sum_by-cons (λ e. cond (fails_test e) 1 0) e es) (sum_by-cons (λ e. cond (fails_script e) 1 0) e es)
