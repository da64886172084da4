-- What a plan line says, where some of its keys have other values.
use Rattle.std.proofs.Common.{◌≡◌, ◌∙◌, ℕ, ◌+◌, List, [], ◌∷◌, map, length, Bool, true, false, nat_lt, refl}
use Rattle.std.proofs.Common.{ap, codes, Option, Some, None}
use Rattle.std.specs.Option.{option_and_then}
use Rattle.std.proofs.lemmas.List.{length-map}
use Rattle.std.proofs.lemmas.Option.{same_Some}
use Rattle.serde_json.specs.Data.{Data}
use Rattle.serde_json.specs.Find.{get, as_str}
use Rattle.run_capture.specs.declared.test_output.CaptureStrategy.{CaptureStrategy}
use Rattle.run_capture.specs.declared.test_output.CaptureStrategy.TheVariants as capture
use Rattle.run_commands.specs.declared.interceptor.Interceptor.{Interceptor}
use Rattle.run_commands.specs.declared.interceptor.Interceptor.TheVariants as under
use Rattle.run_commands.specs.declared.stress_count.StressCondition.{StressCondition}
use Rattle.run_commands.specs.declared.target_runner.TargetRunner.{TargetRunner}
use Rattle.run_commands.specs.TargetRunner.{no_runners}
use Rattle.run_commands.specs.Versions.{Versions}
use Rattle.run_events.specs.Usual.{usual_versions}
use Rattle.run_events.specs.declared.input.InputHandlerKind.TheVariants as inputs
use Rattle.run_events.specs.declared.plan.Group.{Group}
use Rattle.run_events.specs.declared.plan.Hearing.{Hearing}
use Rattle.run_events.specs.declared.plan.PlanScript.{PlanScript}
use Rattle.run_events.specs.declared.plan.PlanTest.{PlanTest}
use Rattle.run_events.specs.declared.plan.RunHead.{RunHead}
use Rattle.run_events.specs.declared.plan.TestInstanceId.{TestInstanceId}
use Rattle.run_events.specs.declared.result.FlakyResult.{FlakyResult}
use Rattle.run_events.specs.declared.retry_policy.MaxFail.{MaxFail}
use Rattle.run_events.specs.declared.retry_policy.MaxFail.TheVariants.{All}
use Rattle.run_events.specs.declared.retry_policy.RetryPolicy.{RetryPolicy}
use Rattle.run_events.specs.declared.retry_policy.RunMode.{RunMode}
use Rattle.run_events.specs.declared.retry_policy.RunMode.TheVariants as modes
use Rattle.run_events.specs.declared.signal.SignalHandlerKind.TheVariants as handlers
use Rattle.run_input.specs.declared.plan_line.RunnerKeys.{RunnerKeys}
use Rattle.run_input.specs.Fields.{◌>>=◌, is_one_of, optional, or_usual, texts_of, truth_of, u32_of, u64_of, when}
use Rattle.run_input.specs.PlanExpected.{expected_of}
use Rattle.run_input.specs.PlanHead.{frame_of, head_from, mode_from, moment_of, run_id_of, run_of, runners_of}
use Rattle.run_input.specs.PlanHead.{version_of}
use Rattle.run_input.specs.PlanHead.{versions_of, words_of}
use Rattle.run_input.specs.PlanInterceptor.{interceptor_of}
use Rattle.run_input.specs.PlanLine.{capture_of, hearing_from, input_of, keys_of, limits_from, lists_of, max_fail_of}
use Rattle.run_input.specs.PlanLine.{plan_groups_of, plan_scripts_of, plan_tests_of, retrying_of, rules_from}
use Rattle.run_input.specs.PlanLine.{signals_of}
use Rattle.run_input.specs.PlanRetries.{flaky_from, retries_from}
use Rattle.run_input.specs.PlanStress.{stress_of}
use Rattle.jiff_core.specs.declared.timestamp.Timestamp.{Timestamp}

-- the keys of a plan line but its tests and the tests that it expects
abbrev pub kept_names : List (List ℕ)
kept_names =
    codes "args" ∷ codes "capture" ∷ codes "flaky_result" ∷ codes "global_timeout" ∷ codes "groups" ∷ codes "input"
    ∷ codes "interceptor" ∷ codes "max_fail" ∷ codes "mode" ∷ codes "nextest_version" ∷ codes "profile"
    ∷ codes "quit_is_info" ∷ codes "recommended_version" ∷ codes "required_version" ∷ codes "retries" ∷ codes "run_id"
    ∷ codes "runners" ∷ codes "scripts" ∷ codes "signals" ∷ codes "started_at" ∷ codes "stress" ∷ codes "threads"
    ∷ codes "version" ∷ codes "workspace_root" ∷ []

-- a value has at each of these keys what another one has
abbrev pub Keeps : List (List ℕ) → Data → Data → Type 0
Keeps names d e = (k : List ℕ) → is_one_of k names ≡ true → get k e ≡ get k d

-- what is read of two parts, or of three, goes by these parts
pub two : {X Y A : Type 0} (f : X → Y → A) (a x : X) (b y : Y) → x ≡ a → y ≡ b → f x y ≡ f a b
two f a x b y p q = ap (λ z. f z y) p ∙ ap (f a) q

pub three : {X Y Z A : Type 0} (f : X → Y → Z → A) (a x : X) (b y : Y) (c z : Z) → x ≡ a → y ≡ b → z ≡ c
    → f x y z ≡ f a b c
three f a x b y c z p q r = ap (λ w. f w y z) p ∙ ap (λ w. f a w z) q ∙ ap (f a b) r

abbrev limits_by : Option Data → Option Data → Option Data → Option (CaptureStrategy × Option ℕ × MaxFail)
limits_by a b c = do
  capture ← or_usual capture.Split capture_of a
  threads ← optional u32_of b
  max_fail ← or_usual All max_fail_of c
  Some (capture, threads, max_fail)

limits_kept : (d e : Data) → Keeps kept_names d e → limits_from e ≡ limits_from d
limits_kept d e keeps =
    three limits_by _ _ _ _ _ _ (keeps (codes "capture") refl) (keeps (codes "threads") refl)
    (keeps (codes "max_fail") refl)

abbrev retrying_by : Option Data → Option Data → Option (Option RetryPolicy × Option FlakyResult)
retrying_by a b = do
  retries ← optional retries_from a
  flaky_result ← optional flaky_from b
  Some (retries, flaky_result)

retrying_kept : (d e : Data) → Keeps kept_names d e → retrying_of e ≡ retrying_of d
retrying_kept d e keeps =
    two retrying_by _ _ _ _ (keeps (codes "retries") refl) (keeps (codes "flaky_result") refl)

abbrev keys_by : Option (CaptureStrategy × Option ℕ × MaxFail) → Option (Option RetryPolicy × Option FlakyResult)
    → Option (Option StressCondition) → Option Interceptor → Option (Option (List TestInstanceId)) → Option RunnerKeys
keys_by l r s i x = do
  limits ← l
  retrying ← r
  stress ← s
  interceptor ← i
  expected ← x
  Some (record {
    capture = limits.0;
    threads = limits.1;
    max_fail = limits.2;
    stress = stress;
    retries = retrying.0;
    flaky_result = retrying.1;
    interceptor = interceptor;
    expected = expected;
  })

keys_expect : (l : Option (CaptureStrategy × Option ℕ × MaxFail)) (r : Option (Option RetryPolicy × Option FlakyResult))
    (s : Option (Option StressCondition)) (i : Option Interceptor) (x : Option (Option (List TestInstanceId)))
    (keys : RunnerKeys) (ids : List TestInstanceId) → keys_by l r s i x ≡ Some keys
    → keys_by l r s i (Some (Some ids)) ≡ Some (record keys { expected = Some ids })
keys_expect None r s i x keys ids h = cc
keys_expect (Some l) None s i x keys ids h = cc
keys_expect (Some l) (Some r) None i x keys ids h = cc
keys_expect (Some l) (Some r) (Some s) None x keys ids h = cc
keys_expect (Some l) (Some r) (Some s) (Some i) None keys ids h = cc
keys_expect (Some l) (Some r) (Some s) (Some i) (Some x) keys ids h =
    ap (λ (k : RunnerKeys). Some (record k { expected = Some ids })) (same_Some _ keys h)

-- the keys of a plan line that expects other tests
pub keys_made : (d e : Data) (keys : RunnerKeys) (ids : List TestInstanceId) → Keeps kept_names d e
    → optional expected_of (get (codes "expected") e) ≡ Some (Some ids) → keys_of d ≡ Some keys
    → keys_of e ≡ Some (record keys { expected = Some ids })
keys_made d e keys ids keeps expects h =
    ap (λ l. keys_by l (retrying_of e) (optional stress_of (get (codes "stress") e))
    (or_usual under.None interceptor_of (get (codes "interceptor") e))
    (optional expected_of (get (codes "expected") e)))
    (limits_kept d e keeps)
    ∙ ap (λ r. keys_by (limits_from d) r (optional stress_of (get (codes "stress") e))
    (or_usual under.None interceptor_of (get (codes "interceptor") e))
    (optional expected_of (get (codes "expected") e)))
    (retrying_kept d e keeps)
    ∙ three (λ s i x. keys_by (limits_from d) (retrying_of d) (optional stress_of s)
    (or_usual under.None interceptor_of i) x) _ _ _ _ _ _ (keeps (codes "stress") refl)
    (keeps (codes "interceptor") refl) expects
    ∙ keys_expect (limits_from d) (retrying_of d) (optional stress_of (get (codes "stress") d))
    (or_usual under.None interceptor_of (get (codes "interceptor") d))
    (optional expected_of (get (codes "expected") d)) keys ids h

abbrev hearing_by : Option Data → Option Data → Option Data → Option Hearing
hearing_by a b c = do
  signals ← or_usual handlers.Standard signals_of a
  input ← or_usual inputs.Standard input_of b
  quit_is_info ← or_usual false truth_of c
  Some (record { signals = signals; input = input; quit_is_info = quit_is_info })

abbrev rules_by : Option Hearing → Option Data → Option (Hearing × Option ℕ)
rules_by h t = do
  hearing ← h
  global_timeout ← optional u64_of t
  Some (hearing, global_timeout)

pub rules_kept : (d e : Data) → Keeps kept_names d e → rules_from e ≡ rules_from d
rules_kept d e keeps =
    two rules_by (hearing_from d) (hearing_from e) _ _
    (three hearing_by _ _ _ _ _ _ (keeps (codes "signals") refl) (keeps (codes "input") refl)
    (keeps (codes "quit_is_info") refl))
    (keeps (codes "global_timeout") refl)

abbrev run_by : Option Data → Option Data → Option Data → Option (List ℕ × Option Timestamp × RunMode)
run_by a b c = do
  run_id ← option_and_then run_id_of a
  started_at ← optional moment_of b
  mode ← or_usual modes.Test mode_from c
  Some (run_id, started_at, mode)

abbrev words_by : Option Data → Option Data → Option Data → Option (List ℕ × List ℕ × List (List ℕ))
words_by a b c = do
  profile ← or_usual (codes "default") as_str a
  root ← or_usual (codes "/") as_str b
  args ← or_usual [] texts_of c
  Some (profile, root, args)

abbrev versions_by : Option Data → Option Data → Option Data → Option Versions
versions_by a b c = do
  current ← or_usual usual_versions.current version_of a
  required ← optional version_of b
  recommended ← optional version_of c
  Some (record { current = current; required = required; recommended = recommended })

abbrev head_by : Option (List ℕ × Option Timestamp × RunMode) → Option (List ℕ × List ℕ × List (List ℕ))
    → Option Versions
    → Option RunHead
head_by r w v = do
  run ← r
  words ← w
  versions ← v
  Some (record {
    run_id = run.0;
    started_at = run.1;
    profile = words.0;
    workspace_root = words.1;
    args = words.2;
    mode = run.2;
    versions = versions;
  })

abbrev frame_by : Option RunHead → Option Data → Option (RunHead × TargetRunner)
frame_by h r = do
  head ← h
  runners ← or_usual no_runners runners_of r
  Some (head, runners)

pub frame_kept : (d e : Data) → Keeps kept_names d e → frame_of e ≡ frame_of d
frame_kept d e keeps =
    two frame_by (head_from d) (head_from e) _ _
    (three head_by (run_of d) (run_of e) (words_of d) (words_of e) (versions_of d) (versions_of e)
    (three run_by _ _ _ _ _ _ (keeps (codes "run_id") refl) (keeps (codes "started_at") refl)
    (keeps (codes "mode") refl))
    (three words_by _ _ _ _ _ _ (keeps (codes "profile") refl) (keeps (codes "workspace_root") refl)
    (keeps (codes "args") refl))
    (three versions_by _ _ _ _ _ _ (keeps (codes "nextest_version") refl) (keeps (codes "required_version") refl)
    (keeps (codes "recommended_version") refl)))
    (keeps (codes "runners") refl)

abbrev lists_by : Option (List Group) → Option (List PlanScript) → Option (List PlanTest)
    → Option (List Group × List PlanScript × List PlanTest)
lists_by gs ss ts = do
  groups ← gs
  scripts ← ss
  tests ← ts
  _ ← when (nat_lt (length scripts + length tests) 4294967296)
  Some (groups, scripts, tests)

-- the lists of a plan, where they are few
abbrev few_by : List Group → List PlanScript → List PlanTest → Bool
    → Option (List Group × List PlanScript × List PlanTest)
few_by gs ss ts few = do
  _ ← when few
  Some (gs, ss, ts)

-- the lists of a plan with other tests, as many
lists_with : (gs : Option (List Group)) (ss : Option (List PlanScript)) (ts : Option (List PlanTest))
    (f : PlanTest → PlanTest) (lists : List Group × List PlanScript × List PlanTest) → lists_by gs ss ts ≡ Some lists
    → (old : List PlanTest) × (ts ≡ Some old)
    × (lists_by gs ss (Some (map f old)) ≡ Some (lists.0, lists.1, map f lists.2))
lists_with None ss ts f lists h = absurd (let bad : None ≡ Some lists = h in cc)
lists_with (Some gs) None ts f lists h = absurd (let bad : None ≡ Some lists = h in cc)
lists_with (Some gs) (Some ss) None f lists h = absurd (let bad : None ≡ Some lists = h in cc)
lists_with (Some gs) (Some ss) (Some ts) f lists h = (
  ts,
  refl,
  ap (λ n. few_by gs ss (map f ts) (nat_lt (length ss + n) 4294967296))
      (length-map ts f) ∙ by (nat_lt (length ss + length ts) 4294967296) h,
)
  where
    by : (b : Bool) → few_by gs ss ts b ≡ Some lists
        → few_by gs ss (map f ts) b ≡ Some (lists.0, lists.1, map f lists.2)
    by true h = ap (λ (l : List Group × List PlanScript × List PlanTest). Some (l.0, l.1, map f l.2))
        (same_Some (gs, ss, ts) lists h)
    by false h = cc

pub lists_made : (d e : Data) (version : ℕ) (f : PlanTest → PlanTest)
    (lists : List Group × List PlanScript × List PlanTest) → Keeps kept_names d e
    → ((old : List PlanTest) → plan_tests_of version (get (codes "tests") d) ≡ Some old
    → plan_tests_of version (get (codes "tests") e) ≡ Some (map f old))
    → lists_of version d ≡ Some lists → lists_of version e ≡ Some (lists.0, lists.1, map f lists.2)
lists_made d e version f lists keeps tests h =
    let with = lists_with (plan_groups_of (get (codes "groups") d)) (plan_scripts_of (get (codes "scripts") d))
    (plan_tests_of version (get (codes "tests") d)) f lists h in
    ap (λ g. lists_by (plan_groups_of g) (plan_scripts_of (get (codes "scripts") e))
    (plan_tests_of version (get (codes "tests") e))) (keeps (codes "groups") refl)
    ∙ ap (λ s. lists_by (plan_groups_of (get (codes "groups") d)) (plan_scripts_of s)
    (plan_tests_of version (get (codes "tests") e))) (keeps (codes "scripts") refl)
    ∙ ap (λ t. lists_by (plan_groups_of (get (codes "groups") d)) (plan_scripts_of (get (codes "scripts") d)) t)
    (tests with.0 with.1)
    ∙ with.2
