-- What a plan line says of retries.
use Rattle.std.specs.Prelude.{ℕ, List, [], ◌∷◌, Bool, true, false, Option, Some, None, option_and_then, if◌then◌else◌}
use Rattle.std.specs.Prelude.{nat_eq, codes}
use Rattle.serde_json.specs.Data.{Data}
use Rattle.serde_json.specs.Find.{get, as_str}
use Rattle.run_events.specs.declared.result.FlakyResult.{FlakyResult}
use Rattle.run_events.specs.declared.result.FlakyResult.TheVariants as flakies
use Rattle.run_events.specs.declared.retry_policy.RetryPolicy.{RetryPolicy}
use Rattle.run_events.specs.declared.retry_policy.RetryPolicy.TheVariants.{Fixed, Exponential}
use Rattle.run_input.specs.Fields.{◌>>=◌, when, is_object_of, optional, or_usual, u32_of, u64_of, truth_of}
use lib.Pointwise.{pointwise}

-- whether a text says that the delays grow
abbrev pub grows_named : List ℕ → Option Bool
grows_named name =
    if pointwise nat_eq name (codes "fixed") then Some false
    else if pointwise nat_eq name (codes "exponential") then Some true
    else None

abbrev pub grows_of : Data → Option Bool
grows_of d = option_and_then grows_named (as_str d)

-- how often, after which delay, and whether with a jitter: with no delay and no jitter where nothing is said
abbrev pub trials_said : Data → Option (ℕ × ℕ × Bool)
trials_said d = do
  count ← option_and_then u32_of (get (codes "count") d)
  delay ← or_usual 0 u64_of (get (codes "delay") d)
  jitter ← or_usual false truth_of (get (codes "jitter") d)
  Some (count, delay, jitter)

-- retries after the same delay each time, and after delays that grow, up to a limit where there is one
unfoldable pub fixed_of : Data → Option RetryPolicy
fixed_of d = do
  _ ← when (is_object_of (codes "backoff" ∷ codes "count" ∷ codes "delay" ∷ codes "jitter" ∷ []) d)
  said ← trials_said d
  Some (Fixed said.0 said.1 said.2)

unfoldable pub exponential_of : Data → Option RetryPolicy
exponential_of d = do
  _ ← when (is_object_of (codes "backoff" ∷ codes "count" ∷ codes "delay" ∷ codes "jitter" ∷ codes "max_delay" ∷ []) d)
  said ← trials_said d
  max_delay ← optional u64_of (get (codes "max_delay") d)
  Some (Exponential said.0 said.1 said.2 max_delay)

-- how often a test is tried again, and after which delays: they don't grow where nothing is said
abbrev pub retries_from : Data → Option RetryPolicy
retries_from d = do
  grows ← or_usual false grows_of (get (codes "backoff") d)
  if grows then exponential_of d else fixed_of d

-- what a text says that a pass after a failed attempt counts as
abbrev pub flaky_named : List ℕ → Option FlakyResult
flaky_named name =
    if pointwise nat_eq name (codes "fail") then Some flakies.Fail
    else if pointwise nat_eq name (codes "pass") then Some flakies.Pass
    else None

abbrev pub flaky_from : Data → Option FlakyResult
flaky_from d = option_and_then flaky_named (as_str d)
