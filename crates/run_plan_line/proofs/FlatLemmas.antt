-- The object of a plan has no float, and isn't deep.
use Rattle.std.proofs.Common.{◌≡◌, ◌≤◌, ℕ, Bool, true, false, List, [], ◌∷◌, map, Option, Some, None, codes, cond, refl}
use Rattle.std.proofs.Common.{◌++◌, arith, IfSome, ℤ, pos, negsuc, zero, suc, nat_eq, length}
use Rattle.std.specs.Option.{option_map}
use Rattle.serde_json.specs.Data.{Data, depth, items_depth, string}
use Rattle.serde_json.specs.Read.{max_depth}
use Rattle.serde_json.specs.View.{items_of}
use Rattle.serde_json.specs.Written.{has_float, items_have_float}
use Rattle.run_commands.specs.declared.stress_count.StressCondition.{StressCondition}
use Rattle.run_commands.specs.declared.stress_count.StressCondition.TheVariants as conditions
use Rattle.run_commands.specs.declared.target_runner.BuildPlatform.{BuildPlatform}
use Rattle.run_commands.specs.declared.target_runner.BuildPlatform.TheVariants as platforms
use Rattle.uuid.specs.Text.{hyphenated_text, lower}
use Rattle.run_events.specs.Usual.{usual_leak, usual_slow}
use Rattle.run_events.specs.declared.plan.Group.{Group}
use Rattle.run_events.specs.declared.plan.LeakTimeout.{LeakTimeout}
use Rattle.run_events.specs.declared.plan.PlanScript.{PlanScript}
use Rattle.run_events.specs.declared.plan.PlanTest.{PlanTest}
use Rattle.run_events.specs.declared.plan.SlowTimeout.{SlowTimeout}
use Rattle.run_events.specs.declared.result.FlakyResult.{FlakyResult}
use Rattle.run_events.specs.declared.result.FlakyResult.TheVariants as flakies
use Rattle.run_events.specs.declared.result.LeakTimeoutResult.{LeakTimeoutResult}
use Rattle.run_events.specs.declared.result.LeakTimeoutResult.TheVariants as leaks
use Rattle.run_events.specs.declared.result.SlowTimeoutResult.{SlowTimeoutResult}
use Rattle.run_events.specs.declared.result.SlowTimeoutResult.TheVariants as timeouts
use Rattle.run_events.specs.declared.retry_policy.MaxFail.{MaxFail}
use Rattle.run_events.specs.declared.retry_policy.MaxFail.TheVariants.{All, Count}
use Rattle.run_events.specs.declared.retry_policy.RetryPolicy.{RetryPolicy}
use Rattle.run_events.specs.declared.retry_policy.RetryPolicy.TheVariants.{Fixed, Exponential}
use Rattle.run_input.specs.PlanScripts.{usual_script_slow}
use Rattle.run_output.specs.Fields.{array_of, count, object_of, texts}
use Rattle.run_output.specs.Stress.{condition_data, condition_fields}
use Rattle.run_output.specs.Texts.{runs_text}
use Rattle.run_text_laws.specs.Objects.{AreShallow}
use Rattle.run_text_laws.proofs.ObjectLemmas.{has_fields}
use Rattle.run_plan_line.specs.PlanFields.{KeyedFields, flaky_result_word, flaky_unless_pass, group_fields}
use Rattle.run_plan_line.specs.PlanFields.{group_object}
use Rattle.run_plan_line.specs.PlanFields.{if_false, if_true, is_no_retries, is_usual_leak, is_usual_slow, leak_fields}
use Rattle.run_plan_line.specs.PlanFields.{leak_object, leak_result_word, limit_fields, list_fields, list_if_any}
use Rattle.run_plan_line.specs.PlanFields.{max_fail_object, number_unless, said_plan_fields, plan_test_fields}
use Rattle.run_plan_line.specs.PlanFields.{plan_test_object, platform_word, priority_unless_0, retries_fields}
use Rattle.run_plan_line.specs.PlanFields.{retries_if_any, retries_object, run_fields, call_fields, failure_fields}
use Rattle.run_plan_line.specs.PlanFields.{script_word_fields}
use Rattle.run_plan_line.specs.PlanFields.{script_object, slow_fields, slow_object, timeout_result_word, way_fields}
use Rattle.run_plan_line.specs.PlanFields.{name_fields, rank_fields, plan_script_fields, script_way_fields, tie_fields}
use Rattle.run_plan_line.specs.PlanFields.{capture_word, mode_word, stress_fields, trial_fields}
use Rattle.run_plan_line.specs.declared.said.SaidPlan.{SaidPlan}
use Rattle.run_plan_line.proofs.FieldLemmas.{any_float, float_in, object_whole}

-- what stands at a key has no float, and is no deeper than this
record IsFlat (n : ℕ) (o : Option Data) : Type 0 where
  whole : float_in o ≡ false
  shallow : IfSome o (λ d. depth d ≤ n)

-- so of each field
abbrev AreFlat : ℕ → KeyedFields → Type 0
AreFlat n [] = Unit {0}
AreFlat n (field ∷ fields) = IsFlat n field.1 × AreFlat n fields

all_whole : (n : ℕ) (fields : KeyedFields) → AreFlat n fields → any_float fields ≡ false
all_whole n [] h = refl
all_whole n (field ∷ fields) h = rw (h.0.whole) (all_whole n fields h.1)

all_shallow : (n : ℕ) (fields : KeyedFields) → AreFlat n fields → AreShallow n fields
all_shallow n [] h = tt
all_shallow n (field ∷ fields) h = (h.0.shallow, all_shallow n fields h.1)

-- an object of flat fields is flat
object_flat : (n : ℕ) (fields : KeyedFields) → AreFlat n fields → IsFlat (suc n) (Some (object_of fields))
object_flat n fields h = record {
  whole = object_whole fields (all_whole n fields h);
  shallow = (has_fields fields).shallow n (all_shallow n fields h);
}

-- what is left out is flat, and so is what stands there
unless_flat : (n : ℕ) (b : Bool) (d : Data) → IsFlat n (Some d) → IsFlat n (cond b None (Some d))
unless_flat n true d h = record { whole = refl; shallow = tt }
unless_flat n false d h = h

-- what is no object and no list
leaf : (n : ℕ) (d : Data) → has_float d ≡ false → depth d ≡ 0 → IsFlat n (Some d)
leaf n d h e = record { whole = h; shallow = omega (arith, e) }

number_flat : (n usual m : ℕ) → IsFlat n (number_unless usual m)
number_flat n usual m = unless_flat n (nat_eq m usual) (count m) (leaf n (count m) refl refl)

count_flat : (n : ℕ) (m : Option ℕ) → IsFlat n (option_map count m)
count_flat n None = record { whole = refl; shallow = tt }
count_flat n (Some m) = leaf n (count m) refl refl

text_flat : (n : ℕ) (t : Option (List ℕ)) → IsFlat n (option_map string t)
text_flat n None = record { whole = refl; shallow = tt }
text_flat n (Some t) = leaf n (string t) refl refl

word_flat : (n : ℕ) (t : List ℕ) → IsFlat n (Some (string t))
word_flat n t = leaf n (string t) refl refl

nothing_flat : (n : ℕ) → IsFlat n None
nothing_flat n = record { whole = refl; shallow = tt }

true_flat : (n : ℕ) (b : Bool) → IsFlat n (if_true b)
true_flat n true = leaf n _ refl refl
true_flat n false = nothing_flat n

false_flat : (n : ℕ) (b : Bool) → IsFlat n (if_false b)
false_flat n true = nothing_flat n
false_flat n false = leaf n _ refl refl

timeout_flat : (n : ℕ) (r : SlowTimeoutResult) → IsFlat n (timeout_result_word r)
timeout_flat n timeouts.Fail = nothing_flat n
timeout_flat n timeouts.Pass = word_flat n _

leak_result_flat : (n : ℕ) (r : LeakTimeoutResult) → IsFlat n (leak_result_word r)
leak_result_flat n leaks.Pass = nothing_flat n
leak_result_flat n leaks.Fail = word_flat n _

flaky_flat : (n : ℕ) (r : FlakyResult) → IsFlat n (flaky_unless_pass r)
flaky_flat n flakies.Pass = nothing_flat n
flaky_flat n flakies.Fail = word_flat n _

result_flat : (n : ℕ) (r : Option FlakyResult) → IsFlat n (option_map flaky_result_word r)
result_flat n None = nothing_flat n
result_flat n (Some r) = word_flat n _

platform_flat : (n : ℕ) (p : BuildPlatform) → IsFlat n (platform_word p)
platform_flat n platforms.Target = nothing_flat n
platform_flat n platforms.Host = word_flat n _

priority_flat : (n : ℕ) (z : ℤ) → IsFlat n (priority_unless_0 z)
priority_flat n (pos zero) = nothing_flat n
priority_flat n (pos (suc m)) = leaf n _ refl refl
priority_flat n (negsuc m) = leaf n _ refl refl

slow_flat : (period : ℕ) (slow : SlowTimeout) → IsFlat 1 (slow_object period slow)
unfolding slow_fields
slow_flat period slow =
    unless_flat 1 (is_usual_slow period slow) (object_of (slow_fields period slow))
    (object_flat 0 (slow_fields period slow) (
      number_flat 0 usual_slow.grace slow.grace,
      (
        timeout_flat 0 slow.on_timeout,
        (number_flat 0 period slow.period, (count_flat 0 slow.terminate_after, tt)),
      ),
    ))

leak_flat : (leak : LeakTimeout) → IsFlat 1 (leak_object leak)
unfolding leak_fields
leak_flat leak =
    unless_flat 1 (is_usual_leak leak) (object_of (leak_fields leak))
    (object_flat 0 (leak_fields leak)
    (number_flat 0 usual_leak.period leak.period, (leak_result_flat 0 leak.result, tt)))

retries_flat : (r : RetryPolicy) → IsFlat 1 (Some (retries_object r))
unfolding retries_fields
retries_flat (Fixed n delay jitter) =
    object_flat 0 (retries_fields (Fixed n delay jitter))
    (count_flat 0 (Some n), (number_flat 0 0 delay, (true_flat 0 jitter, tt)))
retries_flat (Exponential n delay jitter most) =
    object_flat 0 (retries_fields (Exponential n delay jitter most)) (
      word_flat 0 (codes "exponential"),
      (
        count_flat 0 (Some n),
        (
          number_flat 0 0 delay,
          (
            true_flat 0 jitter,
            (count_flat 0 most, tt),
          ),
        ),
      ),
    )

tried_flat : (r : RetryPolicy) → IsFlat 1 (retries_if_any r)
tried_flat r = unless_flat 1 (is_no_retries r) (retries_object r) (retries_flat r)

said_flat : (r : Option RetryPolicy) → IsFlat 1 (option_map retries_object r)
said_flat None = nothing_flat 1
said_flat (Some r) = retries_flat r

max_fail_flat : (m : MaxFail) → IsFlat 1 (max_fail_object m)
unfolding limit_fields
max_fail_flat All = nothing_flat 1
max_fail_flat (Count n mode) =
    object_flat 0 (limit_fields n mode) (count_flat 0 (Some n), (word_flat 0 (mode_word mode), tt))

-- what is no deeper is no deeper than more
deeper : (n m : ℕ) (o : Option Data) → n ≤ m → IsFlat n o → IsFlat m o
deeper n m None le h = record { whole = refl; shallow = tt }
deeper n m (Some d) le h = record { whole = h.whole; shallow = omega (arith, le, h.shallow) }

-- a list of what is flat
items_whole : {X : Type 0} (n : ℕ) (printed : X → Data) (list : List X) → ((x : X) → IsFlat n (Some (printed x)))
    → items_have_float (items_of (map printed list)) ≡ false
items_whole n printed [] h = refl
items_whole n printed (x ∷ list) h = rw ((h x).whole) (items_whole n printed list h)

items_shallow : {X : Type 0} (n : ℕ) (printed : X → Data) (list : List X) → ((x : X) → IsFlat n (Some (printed x)))
    → items_depth (items_of (map printed list)) ≤ n
items_shallow n printed [] h = omega arith
items_shallow n printed (x ∷ list) h =
    let first : depth (printed x) ≤ n = (h x).shallow in omega (arith, first, items_shallow n printed list h)

list_flat : {X : Type 0} (n : ℕ) (printed : X → Data) (list : List X) → ((x : X) → IsFlat n (Some (printed x)))
    → IsFlat (suc n) (Some (array_of printed list))
list_flat n printed list h = record {
  whole = items_whole n printed list h;
  shallow = omega (arith, items_shallow n printed list h);
}

any_flat : {X : Type 0} (n : ℕ) (printed : X → Data) (list : List X) → ((x : X) → IsFlat n (Some (printed x)))
    → IsFlat (suc n) (list_if_any printed list)
any_flat n printed list h =
    unless_flat (suc n) (nat_eq (length list) 0) (array_of printed list) (list_flat n printed list h)

texts_flat : (list : List (List ℕ)) → IsFlat 1 (Some (texts list))
texts_flat list = list_flat 0 string list (λ t. word_flat 0 t)

-- fields and more fields
both_flat : (n : ℕ) (fields more : KeyedFields) → AreFlat n fields → AreFlat n more → AreFlat n (fields ++ more)
both_flat n [] more h g = g
both_flat n (field ∷ fields) more h g = (h.0, both_flat n fields more h.1 g)

-- a test
names_flat : (test : PlanTest) → AreFlat 1 (name_fields test)
unfolding name_fields
names_flat test = (word_flat 1 test.id.binary, (texts_flat test.command, (word_flat 1 test.id.name, tt)))

ties_flat : (test : PlanTest) → AreFlat 1 (tie_fields test)
unfolding tie_fields
ties_flat test =
    (text_flat 1 test.group, (any_flat 0 count test.scripts (λ n. count_flat 0 (Some n)), (text_flat 1 test.skip, tt)))

trials_flat : (test : PlanTest) → AreFlat 1 (trial_fields test)
unfolding trial_fields
trials_flat test = (
  flaky_flat 1 test.flaky,
  (
    leak_flat test.leak,
    (
      tried_flat test.retries,
      (slow_flat usual_slow.period test.slow, tt),
    ),
  ),
)

ranks_flat : (test : PlanTest) → AreFlat 1 (rank_fields test)
unfolding rank_fields
ranks_flat test = (platform_flat 1 test.platform, (priority_flat 1 test.priority, (number_flat 1 1 test.weight, tt)))

test_flat : (test : PlanTest) → IsFlat 2 (Some (plan_test_object test))
test_flat test =
    object_flat 1 (plan_test_fields test)
    (both_flat 1 (name_fields test ++ tie_fields test ++ trial_fields test) (rank_fields test)
    (both_flat 1 (name_fields test ++ tie_fields test) (trial_fields test)
    (both_flat 1 (name_fields test) (tie_fields test) (names_flat test) (ties_flat test))
    (trials_flat test)) (ranks_flat test))

group_flat : (group : Group) → IsFlat 2 (Some (group_object group))
unfolding group_fields
group_flat group =
    object_flat 1 (group_fields group) (count_flat 1 (Some group.limit), (word_flat 1 group.name, tt))

-- a setup script
script_words_flat : (script : PlanScript) → AreFlat 1 (script_word_fields script)
unfolding script_word_fields
script_words_flat script =
    (texts_flat script.command, (word_flat 1 script.env_path, (word_flat 1 script.id, tt)))

script_ways_flat : (script : PlanScript) → AreFlat 1 (script_way_fields script)
unfolding script_way_fields
script_ways_flat script = (
  false_flat 1 script.capture_stderr,
  (
    false_flat 1 script.capture_stdout,
    (
      leak_flat script.leak,
      (slow_flat usual_script_slow.period script.slow, tt),
    ),
  ),
)

script_flat : (script : PlanScript) → IsFlat 2 (Some (script_object script))
script_flat script =
    object_flat 1 (plan_script_fields script)
    (both_flat 1 (script_word_fields script) (script_way_fields script) (script_words_flat script)
    (script_ways_flat script))

-- the object of a plan
calls_flat : (plan : SaidPlan) → AreFlat 3 (call_fields plan)
unfolding call_fields
calls_flat plan = (
  deeper 1 3 (Some (texts plan.args)) (omega arith) (texts_flat plan.args),
  (
    word_flat 3 plan.profile,
    (word_flat 3 plan.workspace_root, tt),
  ),
)

runs_flat : (plan : SaidPlan) → AreFlat 3 (run_fields plan)
unfolding run_fields
runs_flat plan =
    (word_flat 3 (codes "0.9.129"), (word_flat 3 (hyphenated_text lower plan.run_id), (count_flat 3 (Some 2), tt)))

ways_flat : (plan : SaidPlan) → AreFlat 3 (way_fields plan)
unfolding way_fields
ways_flat plan = (
  word_flat 3 (capture_word plan.capture),
  (
    count_flat 3 plan.global_timeout,
    (
      count_flat 3 (Some plan.threads),
      tt,
    ),
  ),
)

condition_flat : (stress : StressCondition) → IsFlat 1 (Some (condition_data stress))
unfolding condition_fields
condition_flat (conditions.Count count) =
    object_flat 0 (condition_fields (conditions.Count count)) (word_flat 0 (runs_text count), tt)
condition_flat (conditions.Duration time) =
    object_flat 0 (condition_fields (conditions.Duration time)) (count_flat 0 (Some time), tt)

stressed_flat : (stress : Option StressCondition) → IsFlat 1 (option_map condition_data stress)
stressed_flat None = nothing_flat 1
stressed_flat (Some stress) = condition_flat stress

stress_flat : (plan : SaidPlan) → AreFlat 3 (stress_fields plan)
unfolding stress_fields
stress_flat plan = (deeper 1 3 (option_map condition_data plan.stress) (omega arith) (stressed_flat plan.stress), tt)

failures_flat : (plan : SaidPlan) → AreFlat 3 (failure_fields plan)
unfolding failure_fields
failures_flat plan = (
  result_flat 3 plan.flaky_result,
  (
    deeper 1 3 (max_fail_object plan.max_fail) (omega arith) (max_fail_flat plan.max_fail),
    (deeper 1 3 (option_map retries_object plan.retries) (omega arith) (said_flat plan.retries), tt),
  ),
)

lists_flat : (plan : SaidPlan) → AreFlat 3 (list_fields plan)
unfolding list_fields
lists_flat plan = (
  any_flat 2 group_object plan.groups group_flat,
  (
    any_flat 2 script_object plan.scripts script_flat,
    (list_flat 2 plan_test_object plan.tests test_flat, tt),
  ),
)

plan_flat : (plan : SaidPlan) → IsFlat 4 (Some (object_of (said_plan_fields plan)))
plan_flat plan =
    object_flat 3 (said_plan_fields plan)
    (both_flat 3
    (call_fields plan ++ run_fields plan ++ way_fields plan ++ stress_fields plan ++ failure_fields plan)
    (list_fields plan)
    (both_flat 3 (call_fields plan ++ run_fields plan ++ way_fields plan ++ stress_fields plan) (failure_fields plan)
    (both_flat 3 (call_fields plan ++ run_fields plan ++ way_fields plan) (stress_fields plan)
    (both_flat 3 (call_fields plan ++ run_fields plan) (way_fields plan)
    (both_flat 3 (call_fields plan) (run_fields plan) (calls_flat plan) (runs_flat plan))
    (ways_flat plan)) (stress_flat plan)) (failures_flat plan)) (lists_flat plan))

pub plan_whole : (plan : SaidPlan) → has_float (object_of (said_plan_fields plan)) ≡ false
plan_whole plan = (plan_flat plan).whole

pub plan_shallow : (plan : SaidPlan) → depth (object_of (said_plan_fields plan)) ≤ max_depth
plan_shallow plan =
    let low : depth (object_of (said_plan_fields plan)) ≤ 4 = (plan_flat plan).shallow in omega (arith, low)
