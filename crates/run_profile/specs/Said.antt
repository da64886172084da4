-- What a table says of the settings of tests.
use Rattle.std.specs.Prelude.{ℕ, ◌==◌, ◌&&◌, ℤ, pos, negsuc, int_le, Bool, true, false, List, [], ◌∷◌, codes, nat_eq}
use Rattle.std.specs.Prelude.{nat_lt}
use Rattle.std.specs.Prelude.{Option, Some, None, unwrap_or, Ok, if◌then◌else◌}
use Rattle.std.specs.List.{list_any}
use Rattle.toml.specs.Data.{Data, as_integer, as_str, as_table}
use Rattle.run_events.specs.Usual.{usual_leak, usual_slow}
use Rattle.run_events.specs.declared.plan.LeakTimeout.{LeakTimeout}
use Rattle.run_events.specs.declared.plan.SlowTimeout.{SlowTimeout}
use Rattle.run_events.specs.declared.result.FlakyResult.{FlakyResult}
use Rattle.run_events.specs.declared.result.FlakyResult.TheVariants as flakies
use Rattle.run_events.specs.declared.result.LeakTimeoutResult.{LeakTimeoutResult}
use Rattle.run_events.specs.declared.result.LeakTimeoutResult.TheVariants as leaks
use Rattle.run_events.specs.declared.result.SlowTimeoutResult.{SlowTimeoutResult}
use Rattle.run_events.specs.declared.result.SlowTimeoutResult.TheVariants as slows
use Rattle.run_events.specs.declared.retry_policy.RetryPolicy.{RetryPolicy}
use Rattle.run_events.specs.declared.retry_policy.RetryPolicy.TheVariants.{Fixed, Exponential}
use Rattle.run_profile.specs.declared.errors.Fault.TheVariants as faults
use Rattle.run_profile.specs.declared.errors.ProfileError.TheVariants.{Refused}
use Rattle.run_profile.specs.declared.groups.TestGroup.{TestGroup}
use Rattle.run_profile.specs.declared.settings.Said.{Said}
use Rattle.run_profile.specs.declared.settings.Weight.{Weight}
use Rattle.run_profile.specs.declared.settings.Weight.TheVariants as weights
use Rattle.run_profile.specs.Fields.{ProfileRead, Reader, needed, number_read, only_keys, optional_key}
use Rattle.run_profile.specs.Fields.{refused, refused_at, text_read}
use Rattle.run_profile.specs.Fields.{texts_read, time_read, timed, truth_read}
use Rattle.run_profile.specs.Reads.{◌>>=◌, or_refuse}
use Rattle.run_profile.specs.Time.{time_said}
use lib.Pointwise.{pointwise}

-- `pass` or `fail`: whether it is the first
abbrev pub passes_named : List ℕ → List ℕ → ProfileRead Bool
passes_named path word =
    if pointwise nat_eq word (codes "pass") then Ok true
    else if pointwise nat_eq word (codes "fail") then Ok false
    else refused path faults.NotWord

abbrev pub passes_of : Reader Bool
passes_of path d = do
  word ← text_read path d
  passes_named path word

-- `fixed` or `exponential`: whether the delays grow
abbrev pub grows_word : List ℕ → List ℕ → ProfileRead Bool
grows_word path word =
    if pointwise nat_eq word (codes "fixed") then Ok false
    else if pointwise nat_eq word (codes "exponential") then Ok true
    else refused path faults.NotWord

abbrev pub grows_read : Reader Bool
grows_read path d = do
  word ← text_read path d
  grows_word path word

-- a jitter wants a delay
abbrev pub fixed_with : List ℕ → ℕ → ℕ → Bool → ProfileRead RetryPolicy
fixed_with path count delay jitter =
    if jitter && (delay == 0) then refused_at path (codes "jitter") faults.WithoutDelay
    else Ok (Fixed count delay jitter)

-- delays that don't grow: none where nothing is said
unfoldable pub fixed_read : Reader RetryPolicy
fixed_read path d = do
  _ ← only_keys (codes "backoff" ∷ codes "count" ∷ codes "delay" ∷ codes "jitter" ∷ []) path d
  count ← needed (number_read 0 4294967294) path (codes "count") d
  delay ← optional_key time_read path (codes "delay") d
  jitter ← optional_key truth_read path (codes "jitter") d
  fixed_with path count (unwrap_or delay 0) (unwrap_or jitter false)

-- a limit is below a delay
abbrev pub is_below : Option ℕ → ℕ → Bool
is_below None delay = false
is_below (Some most) delay = nat_lt most delay

-- the first delay is not 0, and the limit, where there is one, is no less
abbrev pub exponential_with : List ℕ → ℕ → ℕ → Bool → Option ℕ → ProfileRead RetryPolicy
exponential_with path count delay jitter max_delay =
    if delay == 0 then refused_at path (codes "delay") faults.OutOfRange
    else if is_below max_delay delay then refused_at path (codes "max-delay") faults.OutOfRange
    else Ok (Exponential count delay jitter max_delay)

-- delays that grow, up to a limit where one is said
unfoldable pub exponential_read : Reader RetryPolicy
exponential_read path d = do
  _ ← only_keys
      (codes "backoff" ∷ codes "count" ∷ codes "delay" ∷ codes "jitter" ∷ codes "max-delay" ∷ []) path d
  count ← needed (number_read 1 4294967294) path (codes "count") d
  delay ← needed time_read path (codes "delay") d
  jitter ← optional_key truth_read path (codes "jitter") d
  max_delay ← optional_key time_read path (codes "max-delay") d
  exponential_with path count delay (unwrap_or jitter false) max_delay

-- how often a test is tried again: a number, or a table with a backoff
abbrev pub retries_said : Option ℤ → Reader RetryPolicy
retries_said (Some z) path d = do
  count ← number_read 0 4294967294 path d
  Ok (Fixed count 0 false)
retries_said None path d = do
  _ ← or_refuse (as_table d) (Refused path faults.NotTable)
  grows ← needed grows_read path (codes "backoff") d
  if grows then exponential_read path d else fixed_read path d

abbrev pub retries_read : Reader RetryPolicy
retries_read path d = retries_said (as_integer d) path d

abbrev pub flaky_result : Bool → FlakyResult
flaky_result passes = if passes then flakies.Pass else flakies.Fail

-- what a pass after a failed attempt counts as
abbrev pub flaky_read : Reader FlakyResult
flaky_read path d = do
  passes ← passes_of path d
  Ok (flaky_result passes)

abbrev pub slow_result : Option Bool → SlowTimeoutResult
slow_result passes = if unwrap_or passes false then slows.Pass else slows.Fail

-- when a test is slow, and what comes of that: as usual where nothing else is said
unfoldable pub slow_table : Reader SlowTimeout
slow_table path d = do
  _ ← only_keys
      (codes "grace-period" ∷ codes "on-timeout" ∷ codes "period" ∷ codes "terminate-after" ∷ []) path d
  period ← needed time_read path (codes "period") d
  terminate_after ← optional_key (number_read 1 4294967295) path (codes "terminate-after") d
  grace ← optional_key time_read path (codes "grace-period") d
  passes ← optional_key passes_of path (codes "on-timeout") d
  Ok (record {
    period = period;
    terminate_after = terminate_after;
    grace = unwrap_or grace usual_slow.grace;
    on_timeout = slow_result passes;
  })

-- a time alone, or a table
abbrev pub slow_said : Option (List ℕ) → Reader SlowTimeout
slow_said (Some text) path d = do
  period ← timed path (time_said text)
  Ok (record usual_slow { period = period })
slow_said None path d = slow_table path d

abbrev pub slow_read : Reader SlowTimeout
slow_read path d = slow_said (as_str d) path d

abbrev pub leak_result : Option Bool → LeakTimeoutResult
leak_result passes = if unwrap_or passes true then leaks.Pass else leaks.Fail

-- how long open descriptors are waited for, and what a leak counts as
unfoldable pub leak_table : Reader LeakTimeout
leak_table path d = do
  _ ← only_keys (codes "period" ∷ codes "result" ∷ []) path d
  period ← needed time_read path (codes "period") d
  passes ← optional_key passes_of path (codes "result") d
  Ok (record { period = period; result = leak_result passes })

abbrev pub leak_said : Option (List ℕ) → Reader LeakTimeout
leak_said (Some text) path d = do
  period ← timed path (time_said text)
  Ok (record usual_leak { period = period })
leak_said None path d = leak_table path d

abbrev pub leak_read : Reader LeakTimeout
leak_read path d = leak_said (as_str d) path d

-- how much of the limits a test takes: a number, or a word for what there is
abbrev pub weight_said : Option (List ℕ) → Reader Weight
weight_said (Some word) path d =
    if pointwise nat_eq word (codes "num-cpus") then Ok weights.Processors
    else if pointwise nat_eq word (codes "num-test-threads") then Ok weights.Threads
    else refused path faults.NotWord
weight_said None path d = do
  count ← number_read 1 4294967295 path d
  Ok (weights.Count count)

unfoldable pub weight_read : Reader Weight
weight_read path d = weight_said (as_str d) path d

-- a group that there is, or none
abbrev pub is_group : List TestGroup → List ℕ → Bool
is_group groups name = list_any (λ g. pointwise nat_eq g.name name) groups

abbrev pub known_group : List TestGroup → List ℕ → List ℕ → ProfileRead (Option (List ℕ))
known_group groups path name =
    if pointwise nat_eq name (codes "@global") then Ok None
    else if is_group groups name then Ok (Some name)
    else refused path faults.UnknownName

abbrev pub group_read : List TestGroup → Reader (Option (List ℕ))
group_read groups path d = do
  name ← text_read path d
  known_group groups path name

-- a number from -100 to 100
abbrev pub priority_read : Reader ℤ
priority_read path d = do
  z ← or_refuse (as_integer d) (Refused path faults.NotNumber)
  if int_le (negsuc 99) z && int_le z (pos 100) then Ok z else refused path faults.OutOfRange

-- how often a test is tried again, and what a pass counts as then
abbrev pub trials_read : List ℕ → Data → ProfileRead (Option RetryPolicy × Option FlakyResult)
trials_read path d = do
  retries ← optional_key retries_read path (codes "retries") d
  flaky ← optional_key flaky_read path (codes "flaky-result") d
  Ok (retries, flaky)

-- its time-outs
abbrev pub terms_read : List ℕ → Data → ProfileRead (Option SlowTimeout × Option LeakTimeout)
terms_read path d = do
  slow ← optional_key slow_read path (codes "slow-timeout") d
  leak ← optional_key leak_read path (codes "leak-timeout") d
  Ok (slow, leak)

-- how it is admitted
abbrev pub ranks_read : List ℕ → Data → ProfileRead (Option Weight × Option ℤ)
ranks_read path d = do
  weight ← optional_key weight_read path (codes "threads-required") d
  priority ← optional_key priority_read path (codes "priority") d
  Ok (weight, priority)

-- its group, and its further words
abbrev pub ties_read : List TestGroup → List ℕ → Data → ProfileRead (Option (Option (List ℕ)) × Option (List (List ℕ)))
ties_read groups path d = do
  group ← optional_key (group_read groups) path (codes "test-group") d
  extra_args ← optional_key texts_read path (codes "run-extra-args") d
  Ok (group, extra_args)

-- all of them
unfoldable pub said_of : List TestGroup → Reader Said
said_of groups path d = do
  trials ← trials_read path d
  terms ← terms_read path d
  ranks ← ranks_read path d
  ties ← ties_read groups path d
  Ok (record {
    retries = trials.0;
    flaky = trials.1;
    slow = terms.0;
    leak = terms.1;
    weight = ranks.0;
    group = ties.0;
    priority = ranks.1;
    extra_args = ties.1;
  })
