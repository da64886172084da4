-- What one more event adds.
use Rattle.std.proofs.Common.{◌≡◌, ℕ, ◌+◌, ◌<◌, ◌≤◌, ◌^◌, List, [], ◌∷◌, ◌++◌, length, Bool, true, false, add-zero}
use Rattle.std.proofs.Common.{cond, count_by, filter_map, Option, Some, None, refl, ap, ◌∙◌, arith, option_to_list}
use Rattle.std.proofs.lemmas.List.{append-nil}
use Rattle.std.proofs.lemmas.List.Elements.{filter_map-append}
use Rattle.std.proofs.lemmas.List.Sums.{sum_by_push, count_by-le-length}
use Rattle.std.specs.List.{sum_by, cons_option}
use Rattle.run_events.specs.Stats.{total_by, AreBelow, nothing}
use Rattle.run_events.proofs.StatsLemmas.{total_by_push, total_by_below, adds_of_small, script_adds_small}
use Rattle.run_events.specs.declared.settings.Settings.{Settings}
use Rattle.run_events.specs.declared.stats.RunStats.{RunStats}
use Rattle.run_events.specs.declared.cancel.CancelReason.{CancelReason}
use Rattle.run_events.specs.declared.events.ReporterEvent.{ReporterEvent}
use Rattle.run_model.specs.Accounts.{account_of, news_of}
use Rattle.run_model.specs.Admission.{is_matched, matched_in, scripts_in, tests_in}
use Rattle.run_model.specs.Words.{FinishedUnit, a_script, a_test, adds_by, finish_of, initial_stats, skips, stats_after}
use Rattle.run_laws_events.specs.Counts.{stats_of_events}
use Rattle.run_laws_plain.specs.Told.{AreSmall, counted_by, plus_finish, plus_skip}

-- what one more item gives
given_last : {X Y : Type 0} (f : X → Option Y) (x : X) (o : Option Y) → f x ≡ o
    → filter_map f (x ∷ []) ≡ option_to_list o
given_last f x None is = rw is refl
given_last f x (Some y) is = rw is refl

given_more : {X Y : Type 0} (f : X → Option Y) (xs : List X) (x : X)
    → filter_map f (xs ++ x ∷ []) ≡ filter_map f xs ++ option_to_list (f x)
given_more f xs x = filter_map-append f xs (x ∷ []) ∙ ap (λ ys. filter_map f xs ++ ys) (given_last f x (f x) refl)

-- the account after one more event
pub account_more : (k : ℕ) (events : List ReporterEvent) (e : ReporterEvent)
    → account_of k (events ++ e ∷ []) ≡ account_of k events ++ option_to_list (news_of k e)
account_more k events e = given_more (news_of k) events e

-- the statistics after one more event
finish_more : (p : Settings) (why : Option CancelReason) (skips : ℕ) (finishes : List FinishedUnit)
    (o : Option FinishedUnit)
    → stats_after p why skips (finishes ++ option_to_list o) ≡ plus_finish o (stats_after p why skips finishes)
finish_more p why skips finishes None = ap (stats_after p why skips) (append-nil finishes)
finish_more p why skips finishes (Some unit) = total_by_push adds_by _ finishes unit

skip_more : (p : Settings) (why : Option CancelReason) (n m : ℕ) (finishes : List FinishedUnit) (b : Bool)
    → m ≡ n + cond b 1 0 → stats_after p why m finishes ≡ plus_skip b (stats_after p why n finishes)
unfolding total_by
skip_more p why n m finishes false is =
    let same : m ≡ n = omega arith in ap (λ k. stats_after p why k finishes) same
skip_more p why n m finishes true is =
    let further : ℕ = sum_by (λ x. (adds_by x).skipped) finishes in
    let more : m + further ≡ n + further + 1 = omega arith in
    ap (λ k. record (stats_after p why n finishes) { skipped = k }) more

pub stats_more : (p : Settings) (why : Option CancelReason) (events : List ReporterEvent) (e : ReporterEvent)
    → stats_of_events p why (events ++ e ∷ []) ≡ counted_by (stats_of_events p why events) e
stats_more p why events e =
    ap (stats_after p why (count_by skips (events ++ e ∷ []))) (given_more finish_of events e)
    ∙ skip_more p why (count_by skips events) (count_by skips (events ++ e ∷ []))
    (filter_map finish_of events ++ option_to_list (finish_of e)) (skips e)
    (sum_by_push (λ x. cond (skips x) 1 0) events e)
    ∙ ap (plus_skip (skips e)) (finish_more p why (count_by skips events) (filter_map finish_of events) (finish_of e))

-- before the first event
pub stats_first : (p : Settings) (why : Option CancelReason)
    → record nothing
    { initial_run_count = matched_in p; setup_scripts_initial_count = scripts_in p; cancel_reason = why }
    ≡ stats_of_events p why []
unfolding total_by
stats_first p why = simp add-zero refl

-- the counts of few events are small
fewer_more : {Y : Type 0} (o : Option Y) (ys : List Y) (n : ℕ) → length ys ≤ n → length (cons_option o ys) ≤ n + 1
fewer_more None ys n few = omega arith
fewer_more (Some y) ys n few = omega arith

given_fewer : {X Y : Type 0} (f : X → Option Y) (xs : List X) → length (filter_map f xs) ≤ length xs
given_fewer f [] = omega arith
given_fewer f (x ∷ xs) = let more = fewer_more (f x) (filter_map f xs) (length xs) (given_fewer f xs) in omega arith

-- a finished unit adds at most 1 to each count
adds_small : (unit : FinishedUnit) → AreBelow 2 (adds_by unit)
adds_small (a_test test) = adds_of_small test
adds_small (a_script result) = script_adds_small result

-- the counts after so many finishes, apart from the number of scripts to run
few_but_scripts : (limit most : ℕ) (start : RunStats) (units : List FinishedUnit)
    → AreBelow most (record start { setup_scripts_initial_count = 0 }) → most + length units ≤ limit → 0 < limit
    → AreBelow limit (record (total_by adds_by start units) { setup_scripts_initial_count = 0 })
unfolding total_by
few_but_scripts limit most start units below room some =
    let all =
    total_by_below adds_by adds_small limit most (record start { setup_scripts_initial_count = 0 }) units below room in
    record {
      initial_run_count = all.initial_run_count;
      finished_count = all.finished_count;
      setup_scripts_initial_count = some;
      setup_scripts_finished_count = all.setup_scripts_finished_count;
      setup_scripts_passed = all.setup_scripts_passed;
      setup_scripts_failed = all.setup_scripts_failed;
      setup_scripts_exec_failed = all.setup_scripts_exec_failed;
      setup_scripts_timed_out = all.setup_scripts_timed_out;
      passed = all.passed;
      passed_slow = all.passed_slow;
      passed_timed_out = all.passed_timed_out;
      flaky = all.flaky;
      failed = all.failed;
      failed_slow = all.failed_slow;
      failed_timed_out = all.failed_timed_out;
      leaky = all.leaky;
      leaky_failed = all.leaky_failed;
      exec_failed = all.exec_failed;
      skipped = all.skipped;
    }

pub stats_few : (p : Settings) (why : Option CancelReason) (events : List ReporterEvent)
    → tests_in p + length events < 2 ^ 31 → AreSmall (stats_of_events p why events)
stats_few p why events few =
    let matched : matched_in p ≤ tests_in p = count_by-le-length is_matched p.plan.tests in
    let skipped : count_by skips events ≤ length events = count_by-le-length skips events in
    let finished : length (filter_map finish_of events) ≤ length events = given_fewer finish_of events in
    few_but_scripts (2 ^ 32) (tests_in p + length events + 1)
    (record (initial_stats p) { skipped = count_by skips events; cancel_reason = why })
    (filter_map finish_of events) (search (arith, matched, skipped)) (omega arith) (omega arith)
