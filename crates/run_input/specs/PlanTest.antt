-- What a plan line says of a test.
use Rattle.std.specs.Prelude.{ℕ, List, [], ◌∷◌, Option, Some, None, option_and_then, if◌then◌else◌, nat_eq, codes}
use Rattle.std.specs.Prelude.{ℤ, pos, negsuc, int_le, ◌==◌, ◌&&◌}
use Rattle.serde_json.specs.Data.{Data}
use Rattle.serde_json.specs.Find.{get, as_i64, as_number, as_str}
use Rattle.run_commands.specs.declared.target_runner.BuildPlatform.{BuildPlatform}
use Rattle.run_commands.specs.declared.target_runner.BuildPlatform.TheVariants as platforms
use Rattle.run_events.specs.declared.plan.PlanTest.{PlanTest}
use Rattle.run_events.specs.declared.plan.SlowTimeout.{SlowTimeout}
use Rattle.run_events.specs.declared.plan.LeakTimeout.{LeakTimeout}
use Rattle.run_events.specs.declared.plan.TestInstanceId.{TestInstanceId}
use Rattle.run_events.specs.declared.result.FlakyResult.{FlakyResult}
use Rattle.run_events.specs.declared.result.FlakyResult.TheVariants as flakies
use Rattle.run_events.specs.declared.result.LeakTimeoutResult.{LeakTimeoutResult}
use Rattle.run_events.specs.declared.result.LeakTimeoutResult.TheVariants as leaks
use Rattle.run_events.specs.declared.result.SlowTimeoutResult.{SlowTimeoutResult}
use Rattle.run_events.specs.declared.result.SlowTimeoutResult.TheVariants as timeouts
use Rattle.run_events.specs.declared.retry_policy.RetryPolicy.{RetryPolicy}
use Rattle.run_events.specs.Usual.{usual_slow, usual_leak, no_retries, usual_test}
use Rattle.run_input.specs.Fields.{◌>>=◌, when, is_object_of, optional, or_usual, u32_of, u64_of, texts_of, numbers_of}
use Rattle.run_input.specs.PlanRetries.{retries_from, flaky_from}
use lib.Pointwise.{pointwise}

-- the name of a test
abbrev pub id_of : Data → Option TestInstanceId
id_of d = do
  binary ← option_and_then as_str (get (codes "binary") d)
  name ← option_and_then as_str (get (codes "name") d)
  Some (record { binary = binary; name = name })

-- what a text says that a time-out counts as
abbrev pub timeout_named : List ℕ → Option SlowTimeoutResult
timeout_named name =
    if pointwise nat_eq name (codes "fail") then Some timeouts.Fail
    else if pointwise nat_eq name (codes "pass") then Some timeouts.Pass
    else None

abbrev pub timeout_of : Data → Option SlowTimeoutResult
timeout_of d = option_and_then timeout_named (as_str d)

-- what a text says that a leak counts as
abbrev pub leak_named : List ℕ → Option LeakTimeoutResult
leak_named name =
    if pointwise nat_eq name (codes "fail") then Some leaks.Fail
    else if pointwise nat_eq name (codes "pass") then Some leaks.Pass
    else None

abbrev pub leak_result_of : Data → Option LeakTimeoutResult
leak_result_of d = option_and_then leak_named (as_str d)

-- when something is slow, and what comes of that, as is usual for it where nothing else is said
unfoldable pub slow_of : SlowTimeout → Data → Option SlowTimeout
slow_of usual d = do
  _ ← when (is_object_of (codes "grace" ∷ codes "on_timeout" ∷ codes "period" ∷ codes "terminate_after" ∷ []) d)
  period ← or_usual usual.period u64_of (get (codes "period") d)
  terminate_after ← optional u32_of (get (codes "terminate_after") d)
  grace ← or_usual usual.grace u64_of (get (codes "grace") d)
  on_timeout ← or_usual usual.on_timeout timeout_of (get (codes "on_timeout") d)
  Some (record { period = period; terminate_after = terminate_after; grace = grace; on_timeout = on_timeout })

-- how long open descriptors are waited for, and what a leak counts as, as usual where nothing else is said
unfoldable pub leak_of : Data → Option LeakTimeout
leak_of d = do
  _ ← when (is_object_of (codes "period" ∷ codes "result" ∷ []) d)
  period ← or_usual usual_leak.period u64_of (get (codes "period") d)
  result ← or_usual usual_leak.result leak_result_of (get (codes "result") d)
  Some (record { period = period; result = result })

-- the platform that a text names
abbrev pub platform_named : List ℕ → Option BuildPlatform
platform_named name =
    if pointwise nat_eq name (codes "target") then Some platforms.Target
    else if pointwise nat_eq name (codes "host") then Some platforms.Host
    else None

abbrev pub platform_of : Data → Option BuildPlatform
platform_of d = option_and_then platform_named (as_str d)

-- the weight of a test, 1 where nothing is said, and its time-outs
abbrev pub terms_from : Data → Option (ℕ × SlowTimeout × LeakTimeout)
terms_from d = do
  weight ← or_usual 1 u32_of (get (codes "weight") d)
  slow ← or_usual usual_slow (slow_of usual_slow) (get (codes "slow") d)
  leak ← or_usual usual_leak leak_of (get (codes "leak") d)
  Some (weight, slow, leak)

-- how often it is tried again, never where nothing is said, and what a pass counts as then
abbrev pub trials_of : Data → Option (RetryPolicy × FlakyResult)
trials_of d = do
  retries ← or_usual no_retries retries_from (get (codes "retries") d)
  flaky ← or_usual flakies.Pass flaky_from (get (codes "flaky") d)
  Some (retries, flaky)

-- the group of a test, and the setup scripts whose variables its child gets, none where nothing is said
abbrev pub ties_of : Data → Option (Option (List ℕ) × List ℕ)
ties_of d = do
  group ← optional as_str (get (codes "group") d)
  scripts ← or_usual [] numbers_of (get (codes "scripts") d)
  Some (group, scripts)

-- a test with its name and its command, and the reason for which it is skipped where it doesn't match
abbrev pub named_of : Data → Option PlanTest
named_of d = do
  id ← id_of d
  command ← option_and_then texts_of (get (codes "command") d)
  skip ← optional as_str (get (codes "skip") d)
  Some (usual_test id command skip)

-- a number from -100 to 100
abbrev pub priority_of : Data → Option ℤ
priority_of d = option_and_then (λ z. if int_le (negsuc 99) z && int_le z (pos 100) then Some z else None)
    (option_and_then as_i64 (as_number d))

-- the priority of a test: 0 where nothing is said; it is said in plan lines of version 2 alone
abbrev pub priority_said : ℕ → Option Data → Option ℤ
priority_said version None = Some (pos 0)
priority_said version (Some d) = if version == 2 then priority_of d else None

-- the keys that a test may have
abbrev pub keys_of_test : List (List ℕ)
keys_of_test =
    codes "binary" ∷ codes "command" ∷ codes "flaky" ∷ codes "group" ∷ codes "leak" ∷ codes "name" ∷ codes "platform"
    ∷ codes "priority" ∷ codes "retries" ∷ codes "scripts" ∷ codes "skip" ∷ codes "slow" ∷ codes "weight" ∷ []

-- the platform and the priority of a test, in a plan line of this version
abbrev pub rank_of : ℕ → Data → Option (BuildPlatform × ℤ)
rank_of version d = do
  platform ← or_usual platforms.Target platform_of (get (codes "platform") d)
  priority ← priority_said version (get (codes "priority") d)
  Some (platform, priority)

-- a test in its group, for its platform, with its weight, its priority, its time-outs, its retries and its scripts, in
-- a plan line of this version
unfoldable pub test_from : ℕ → Data → Option PlanTest
test_from version d = do
  _ ← when (is_object_of keys_of_test d)
  terms ← terms_from d
  trials ← trials_of d
  rank ← rank_of version d
  ties ← ties_of d
  test ← named_of d
  Some (record test {
    weight = terms.0;
    slow = terms.1;
    leak = terms.2;
    retries = trials.0;
    flaky = trials.1;
    group = ties.0;
    scripts = ties.1;
    platform = rank.0;
    priority = rank.1;
  })
