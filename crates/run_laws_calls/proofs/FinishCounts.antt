-- The finishes of all units are those that were told, and the units to run are those of the plan.
use Rattle.std.proofs.Common.{◌≡◌, ℕ, suc, zero, ◌+◌, ◌-◌, ◌<◌, ◌≤◌, ◌==◌, nat_lt, List, [], ◌∷◌, length, true, false}
use Rattle.std.proofs.Common.{cond, not, count_by, Option, Some, None, is_none, is_some, slice_get, refl, ap}
use Rattle.std.proofs.Common.{◌∙◌, arith}
use Rattle.std.specs.Prelude.{IfSome}
use Rattle.std.specs.List.{All}
use Rattle.std.proofs.lemmas.Bool.Decides.{nat_tests}
use Rattle.std.proofs.lemmas.List.Elements.{All-head, All-tail}
use Rattle.std.proofs.lemmas.List.Sums.{sum_by-cons}
use Rattle.run_events.specs.Stats.{one_if}
use Rattle.run_events.specs.declared.events.ReporterEvent.{ReporterEvent}
use Rattle.run_events.specs.declared.events.ReporterEvent.TheVariants.{Tick, Test}
use Rattle.run_events.specs.declared.events.TestEventKind.{TestEventKind}
use Rattle.run_events.specs.declared.events.TestEventKind.TheVariants.{SetupScriptFinished, TestFinished}
use Rattle.run_events.specs.declared.plan.PlanTest.{PlanTest}
use Rattle.run_events.specs.declared.settings.Settings.{Settings}
use Rattle.run_model.specs.Accounts.{is_skip}
use Rattle.run_model.specs.Admission.{is_matched, is_script, matched_in, scripts_in, tests_in, units_in}
use Rattle.run_model.specs.Words.{finishes, finishes_in}
use Rattle.run_laws_calls.specs.Counts.{finishes_told, is_to_run}
use Rattle.run_laws_calls.specs.Numbers.{HasNumber, script_number_in, test_number_in}
use Rattle.run_laws_calls.specs.Success.{finishes_script, finishes_script_in, finishes_test, finishes_test_in}
use Rattle.run_laws_calls.proofs.RangeLemmas.{sum-none, sum-one, sum-plus, sum-same, sum_from}

-- one event is the finish of one unit, or of none
kind_tests : (p : Settings) (kind : TestEventKind) → IfSome (script_number_in kind) (λ k. k < scripts_in p)
    → IfSome (test_number_in kind) (λ k. (scripts_in p ≤ k) × (k < units_in p))
    → sum_from (λ k. cond (finishes_in k kind) 1 0) (scripts_in p) (tests_in p)
    ≡ cond {A = ℕ} (finishes_test_in kind) 1 0
kind_tests p (TestFinished event) script test =
    sum-one event.finish.test.unit (tests_in p) (scripts_in p) test.0 test.1
kind_tests p (SetupScriptFinished event) script test =
    sum-none (λ k. cond (event.script.unit == k) 1 0) (tests_in p) (scripts_in p)
    (λ k low high. ap (λ b. cond {A = ℕ} b 1 0) (differ event.script.unit k script low))
  where
    differ : (i k : ℕ) → i < scripts_in p → scripts_in p ≤ k → (i == k) ≡ false
    differ i k below above = grind arith
kind_tests p kind script test = sum-none (λ k. 0) (tests_in p) (scripts_in p) (λ k low high. refl)

kind_scripts : (p : Settings) (kind : TestEventKind) → IfSome (script_number_in kind) (λ k. k < scripts_in p)
    → IfSome (test_number_in kind) (λ k. (scripts_in p ≤ k) × (k < units_in p))
    → sum_from (λ k. cond (finishes_in k kind) 1 0) 0 (scripts_in p) ≡ cond {A = ℕ} (finishes_script_in kind) 1 0
kind_scripts p (SetupScriptFinished event) script test =
    sum-one event.script.unit (scripts_in p) 0 (omega arith) (omega (arith, script))
kind_scripts p (TestFinished event) script test =
    sum-none (λ k. cond (event.finish.test.unit == k) 1 0) (scripts_in p) 0
    (λ k low high. ap (λ b. cond {A = ℕ} b 1 0) (differ event.finish.test.unit k test.0 (omega (arith, high))))
  where
    differ : (i k : ℕ) → scripts_in p ≤ i → k < scripts_in p → (i == k) ≡ false
    differ i k above below = grind arith
kind_scripts p kind script test = sum-none (λ k. 0) (scripts_in p) 0 (λ k low high. refl)

event_tests : (p : Settings) (e : ReporterEvent) → HasNumber p e
    → sum_from (λ k. cond (finishes k e) 1 0) (scripts_in p) (tests_in p) ≡ cond {A = ℕ} (finishes_test e) 1 0
event_tests p Tick has = sum-none (λ k. 0) (tests_in p) (scripts_in p) (λ k low high. refl)
event_tests p (Test event) has = kind_tests p event.kind has.script has.test

event_scripts : (p : Settings) (e : ReporterEvent) → HasNumber p e
    → sum_from (λ k. cond (finishes k e) 1 0) 0 (scripts_in p) ≡ cond {A = ℕ} (finishes_script e) 1 0
event_scripts p Tick has = sum-none (λ k. 0) (scripts_in p) 0 (λ k low high. refl)
event_scripts p (Test event) has = kind_scripts p event.kind has.script has.test

-- so all that were told
one_more : (a n : ℕ) (e : ReporterEvent) (es : List ReporterEvent)
    → sum_from (λ k. finishes_told k (e ∷ es)) a n
    ≡ sum_from (λ k. cond (finishes k e) 1 0) a n + sum_from (λ k. finishes_told k es) a n
one_more a n e es =
    sum-same (λ k. finishes_told k (e ∷ es)) (λ k. cond (finishes k e) 1 0 + finishes_told k es) n a
    (λ k low high. sum_by-cons (λ e. cond (finishes k e) 1 0) e es)
    ∙ sum-plus (λ k. cond (finishes k e) 1 0) (λ k. finishes_told k es) n a

pub tests_finished : (p : Settings) (es : List ReporterEvent) → All (HasNumber p) es
    → sum_from (λ k. finishes_told k es) (scripts_in p) (tests_in p) ≡ count_by finishes_test es
tests_finished p [] all = sum-none (λ k. 0) (tests_in p) (scripts_in p) (λ k low high. refl)
tests_finished p (e ∷ es) all =
    let first : sum_from (λ k. cond (finishes k e) 1 0) (scripts_in p) (tests_in p)
    ≡ cond {A = ℕ} (finishes_test e) 1 0 =
    event_tests p e (All-head (HasNumber p) e es all) in
    let rest : sum_from (λ k. finishes_told k es) (scripts_in p) (tests_in p) ≡ count_by finishes_test es =
    tests_finished p es (All-tail (HasNumber p) e es all) in
    let more : count_by finishes_test (e ∷ es) ≡ cond (finishes_test e) 1 0 + count_by finishes_test es =
    sum_by-cons (λ e. cond (finishes_test e) 1 0) e es in
    omega (arith, one_more (scripts_in p) (tests_in p) e es, first, rest, more)

pub scripts_finished : (p : Settings) (es : List ReporterEvent) → All (HasNumber p) es
    → sum_from (λ k. finishes_told k es) 0 (scripts_in p) ≡ count_by finishes_script es
scripts_finished p [] all = sum-none (λ k. 0) (scripts_in p) 0 (λ k low high. refl)
scripts_finished p (e ∷ es) all =
    let first : sum_from (λ k. cond (finishes k e) 1 0) 0 (scripts_in p) ≡ cond {A = ℕ} (finishes_script e) 1 0 =
    event_scripts p e (All-head (HasNumber p) e es all) in
    let rest : sum_from (λ k. finishes_told k es) 0 (scripts_in p) ≡ count_by finishes_script es =
    scripts_finished p es (All-tail (HasNumber p) e es all) in
    let more : count_by finishes_script (e ∷ es) ≡ cond (finishes_script e) 1 0 + count_by finishes_script es =
    sum_by-cons (λ e. cond (finishes_script e) 1 0) e es in
    omega (arith, one_more 0 (scripts_in p) e es, first, rest, more)

-- the tests that are to run
place : (a k : ℕ) → a + 1 ≤ k → k - a ≡ suc (k - (a + 1))
place a k low = omega (arith, low)

matched : (ts : List PlanTest) (a : ℕ)
    → sum_from (λ k. one_if (not (is_skip (slice_get ts (k - a))))) a (length ts) ≡ count_by is_matched ts
matched [] a = refl
matched (t ∷ ts) a =
    let first : one_if (not (is_skip (slice_get (t ∷ ts) (a - a)))) ≡ cond (is_matched t) 1 0 =
    ap (λ i. one_if (not (is_skip (slice_get (t ∷ ts) i)))) none ∙ by_skip t.skip in
    let rest : sum_from (λ k. one_if (not (is_skip (slice_get (t ∷ ts) (k - a))))) (a + 1) (length ts)
    ≡ count_by is_matched ts =
    sum-same (λ k. one_if (not (is_skip (slice_get (t ∷ ts) (k - a)))))
    (λ k. one_if (not (is_skip (slice_get ts (k - (a + 1)))))) (length ts) (a + 1)
    (λ k low high. ap (λ i. one_if (not (is_skip (slice_get (t ∷ ts) i)))) (place a k low))
    ∙ matched ts (a + 1) in
    let more : count_by is_matched (t ∷ ts) ≡ cond (is_matched t) 1 0 + count_by is_matched ts =
    sum_by-cons (λ t. cond (is_matched t) 1 0) t ts in
    omega (arith, first, rest, more)
  where
    none : a - a ≡ 0
    none = omega arith

    by_skip : {X : Type 0} (o : Option X) → one_if (not (is_some o)) ≡ cond {A = ℕ} (is_none o) 1 0
    by_skip None = refl
    by_skip (Some x) = refl

pub tests_to_run : (p : Settings)
    → sum_from (λ k. one_if (is_to_run p k)) (scripts_in p) (tests_in p) ≡ matched_in p
tests_to_run p =
    sum-same (λ k. one_if (is_to_run p k)) (λ k. one_if (not (is_skip (slice_get p.plan.tests (k - scripts_in p)))))
    (tests_in p) (scripts_in p) (λ k low high. rw (planned k high, test k low) refl)
    ∙ matched p.plan.tests (scripts_in p)
  where
    planned : (k : ℕ) → k < scripts_in p + tests_in p → nat_lt k (units_in p) ≡ true
    planned k high = grind (arith, nat_tests)

    test : (k : ℕ) → scripts_in p ≤ k → is_script p k ≡ false
    test k low = grind (arith, nat_tests)

pub scripts_to_run : (p : Settings) → sum_from (λ k. one_if (is_to_run p k)) 0 (scripts_in p) ≡ scripts_in p
scripts_to_run p =
    sum-same (λ k. one_if (is_to_run p k)) (λ k. 1) (scripts_in p) 0
    (λ k low high. rw (planned k high, script k high) refl)
    ∙ ones (scripts_in p) 0
  where
    planned : (k : ℕ) → k < 0 + scripts_in p → nat_lt k (units_in p) ≡ true
    planned k high = grind (arith, nat_tests)

    script : (k : ℕ) → k < 0 + scripts_in p → is_script p k ≡ true
    script k high = grind (arith, nat_tests)

    ones : (n a : ℕ) → sum_from (λ k. 1) a n ≡ n
    ones zero a = refl
    ones (suc n) a = let rest : sum_from (λ k. 1) (a + 1) n ≡ n = ones n (a + 1) in omega (arith, rest)
