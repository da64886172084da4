-- The line of a plan is read as that plan.
use Rattle.std.proofs.Common.{◌≡◌, ◌∙◌, ℕ, ◌+◌, ◌<◌, ◌≤◌, ◌^◌, true, false, Option, Some, None, codes, refl}
use Rattle.std.proofs.Common.{ap, lt-ltb, arith, All, IfSome, List, [], ◌∷◌, map, length}
use Rattle.std.specs.Option.{option_and_then, option_map}
use Rattle.std.specs.Str.{IsUtf8}
use Rattle.std.proofs.lemmas.Str.{is_utf8-from_IsUtf8}
use Rattle.semver.specs.Parse.{digits_from}
use Rattle.serde_json.specs.Data.{Data, depth, string}
use Rattle.serde_json.specs.Find.{get}
use Rattle.serde_json.specs.Read.{max_depth, read}
use Rattle.serde_json.specs.View.{items_of}
use Rattle.serde_json.specs.Written.{compact_text, has_float}
use Rattle.uuid.specs.Text.{hyphenated_text, lower, parsed}
use Rattle.run_capture.specs.declared.test_output.CaptureStrategy.{CaptureStrategy}
use Rattle.run_capture.specs.declared.test_output.CaptureStrategy.TheVariants as captures
use Rattle.run_events.specs.declared.plan.Group.{Group}
use Rattle.run_events.specs.declared.plan.PlanScript.{PlanScript}
use Rattle.run_events.specs.declared.plan.PlanTest.{PlanTest}
use Rattle.run_events.specs.declared.result.FlakyResult.{FlakyResult}
use Rattle.run_events.specs.declared.result.FlakyResult.TheVariants as flakies
use Rattle.run_events.specs.declared.retry_policy.MaxFail.{MaxFail}
use Rattle.run_events.specs.declared.retry_policy.MaxFail.TheVariants as limits
use Rattle.run_events.specs.declared.retry_policy.RetryPolicy.{RetryPolicy}
use Rattle.run_events.specs.declared.retry_policy.TerminateMode.{TerminateMode}
use Rattle.run_events.specs.declared.retry_policy.TerminateMode.TheVariants as modes
use Rattle.run_input.specs.Fields.{is_object_of, optional, or_usual}
use Rattle.run_input.specs.Input.{plan_line_of}
use Rattle.run_input.specs.PlanHead.{version_of}
use Rattle.run_input.specs.PlanLine.{capture_of, groups_from, groups_of, max_fail_of, plan_names, plan_of, tests_from}
use Rattle.run_input.specs.PlanLine.{terminate_of}
use Rattle.run_input.specs.PlanRetries.{flaky_from, retries_from}
use Rattle.run_input.specs.PlanScripts.{scripts_from, scripts_listed}
use Rattle.run_output.specs.Fields.{count, object_of}
use Rattle.run_output.specs.Stress.{condition_data}
use Rattle.run_text_laws.specs.Objects.{field_at}
use Rattle.run_text_laws.proofs.ObjectLemmas.{has_fields}
use Rattle.run_wave_line.proofs.WaveLemmas.{id_again, value_of, words_again}
use Rattle.run_plan_line.specs.PlanFields.{capture_word, flaky_result_word, group_object, limit_fields, list_fields}
use Rattle.run_plan_line.specs.PlanFields.{list_if_any, max_fail_object, mode_word, said_plan_fields, plan_test_object}
use Rattle.run_plan_line.specs.PlanFields.{plan_text, retries_object, run_fields, script_object, way_fields}
use Rattle.run_plan_line.specs.PlanFields.{call_fields, failure_fields, stress_fields}
use Rattle.run_plan_line.specs.SaidPlan.{FitsWays, HasRank, IsReadGroup, IsReadScript, IsReadTest, most_failures}
use Rattle.run_plan_line.specs.SaidPlan.{said_keys}
use Rattle.run_plan_line.specs.SaidPlan.{said_plan, tries}
use Rattle.run_plan_line.specs.declared.said.SaidPlan.{SaidPlan}
use Rattle.run_plan_line.proofs.FieldLemmas.{all_first, all_rest, object_names, option_or_none, time_again}
use Rattle.run_plan_line.proofs.FlatLemmas.{plan_shallow, plan_whole}
use Rattle.run_plan_line.proofs.SettingLemmas.{retries_again}
use Rattle.run_plan_line.proofs.StressLemmas.{stress_again}
use Rattle.run_plan_line.proofs.UnitLemmas.{any_again}

-- lists are read as they were
tests_again : (list : List PlanTest) → All IsReadTest list → All HasRank list
    → tests_from 2 (items_of (map plan_test_object list)) ≡ Some list
tests_again [] read rank = refl
tests_again (test ∷ list) read rank =
    rw (
      all_first IsReadTest test list read (all_first HasRank test list rank),
      tests_again list (all_rest IsReadTest test list read) (all_rest HasRank test list rank),
    ) refl

groups_again : (list : List Group) → All IsReadGroup list → groups_from (items_of (map group_object list)) ≡ Some list
groups_again [] read = refl
groups_again (group ∷ list) read =
    rw (all_first IsReadGroup group list read, groups_again list (all_rest IsReadGroup group list read)) refl

groups_said : (list : List Group) → All IsReadGroup list
    → or_usual [] groups_of (list_if_any group_object list) ≡ Some list
groups_said list read = any_again group_object groups_of list (groups_again list read)

scripts_again : (list : List PlanScript) → All IsReadScript list
    → scripts_from (items_of (map script_object list)) ≡ Some list
scripts_again [] read = refl
scripts_again (script ∷ list) read =
    rw (all_first IsReadScript script list read, scripts_again list (all_rest IsReadScript script list read)) refl

scripts_said : (list : List PlanScript) → All IsReadScript list
    → or_usual [] scripts_listed (list_if_any script_object list) ≡ Some list
scripts_said list read = any_again script_object scripts_listed list (scripts_again list read)

-- the ways of a run are read as they were
capture_again : (c : CaptureStrategy) → capture_of (string (capture_word c)) ≡ Some c
capture_again captures.None = refl
capture_again captures.Split = refl
capture_again captures.Combined = refl

mode_again : (m : TerminateMode) → terminate_of (string (mode_word m)) ≡ Some m
mode_again modes.Wait = refl
mode_again modes.Immediate = refl

flaky_said : (r : Option FlakyResult) → optional flaky_from (option_map flaky_result_word r) ≡ Some r
flaky_said None = refl
flaky_said (Some flakies.Pass) = refl
flaky_said (Some flakies.Fail) = refl

retries_said : (r : Option RetryPolicy) → IfSome r (λ r. tries r < 2 ^ 32)
    → optional retries_from (option_map retries_object r) ≡ Some r
retries_said None fits = refl
retries_said (Some r) fits = ap (option_map Some) (retries_again r fits)

limit_said : (n : ℕ) (mode : TerminateMode) (d : Data) → n < 2 ^ 32
    → is_object_of (codes "count" ∷ codes "mode" ∷ []) d ≡ true
    → ((k : List ℕ) → get k d ≡ field_at k (limit_fields n mode) None)
    → max_fail_of d ≡ Some (limits.Count n mode)
unfolding max_fail_of limit_fields
limit_said n mode d fits is at =
    rw (is, at (codes "count"), at (codes "mode"), lt-ltb n (2 ^ 32) fits, mode_again mode) refl

max_fail_again : (m : MaxFail) → most_failures m < 2 ^ 32 → or_usual limits.All max_fail_of (max_fail_object m) ≡ Some m
unfolding limit_fields
max_fail_again limits.All fits = refl
max_fail_again (limits.Count n mode) fits =
    limit_said n mode _ fits
    (object_names (codes "count" ∷ codes "mode" ∷ []) (limit_fields n mode) refl) (has_fields (limit_fields n mode)).at

version_again : version_of (string (codes "0.9.129")) ≡ Some (0, 9, 129, [], [])
unfolding digits_from
version_again = refl

-- what is known of the values of a plan
pub record IsKnown (plan : SaidPlan) : Type 0 where
  pub ways : FitsWays plan
  pub id : Some plan.run_id ≡ parsed (hyphenated_text lower plan.run_id)
  pub groups : All IsReadGroup plan.groups
  pub scripts : All IsReadScript plan.scripts
  pub tests : All IsReadTest plan.tests
  pub ranks : All HasRank plan.tests
  pub few : length plan.groups < 2 ^ 32
  pub units : length plan.scripts + length plan.tests < 2 ^ 32

plan_said : (plan : SaidPlan) (d : Data) → IsKnown plan → is_object_of plan_names d ≡ true
    → ((k : List ℕ) → get k d ≡ field_at k (said_plan_fields plan) None)
    → plan_of d ≡ Some (said_keys plan, said_plan plan)
unfolding plan_of call_fields run_fields way_fields stress_fields failure_fields list_fields
plan_said plan d known is at =
    rw (
      is,
      at (codes "capture"),
      at (codes "threads"),
      at (codes "max_fail") ∙ option_or_none (max_fail_object plan.max_fail),
      at (codes "retries") ∙ option_or_none (option_map retries_object plan.retries),
      at (codes "flaky_result") ∙ option_or_none (option_map flaky_result_word plan.flaky_result),
      at (codes "stress") ∙ option_or_none (option_map condition_data plan.stress),
      at (codes "interceptor"),
      at (codes "expected"),
      at (codes "version"),
      at (codes "signals"),
      at (codes "input"),
      at (codes "quit_is_info"),
      at (codes "global_timeout") ∙ option_or_none (option_map count plan.global_timeout),
      at (codes "run_id"),
      at (codes "started_at"),
      at (codes "mode"),
      at (codes "profile"),
      at (codes "workspace_root"),
      at (codes "args"),
      at (codes "nextest_version"),
      at (codes "required_version"),
      at (codes "recommended_version"),
      at (codes "runners"),
      at (codes "groups") ∙ option_or_none (list_if_any group_object plan.groups),
      at (codes "scripts") ∙ option_or_none (list_if_any script_object plan.scripts),
      at (codes "tests"),
    )
    (rw (
      capture_again plan.capture,
      lt-ltb plan.threads (2 ^ 32) known.ways.threads,
      max_fail_again plan.max_fail known.ways.max_fail,
      retries_said plan.retries known.ways.retries,
      flaky_said plan.flaky_result,
      stress_again plan.stress known.ways.repeats,
      time_again plan.global_timeout,
      id_again plan.run_id known.id,
      version_again,
      words_again plan.args,
      groups_said plan.groups known.groups,
      scripts_said plan.scripts known.scripts,
      tests_again plan.tests known.tests known.ranks,
      lt-ltb (length plan.groups) (2 ^ 32) known.few,
      lt-ltb (length plan.scripts) (2 ^ 32) (omega (arith, known.units)),
      lt-ltb (length plan.tests) (2 ^ 32) (omega (arith, known.units)),
      lt-ltb (length plan.scripts + length plan.tests) (2 ^ 32) known.units,
    ) refl)

plan_again : (plan : SaidPlan) → IsKnown plan
    → plan_of (object_of (said_plan_fields plan)) ≡ Some (said_keys plan, said_plan plan)
unfolding call_fields run_fields way_fields stress_fields failure_fields list_fields
plan_again plan known =
    plan_said plan _ known
    (object_names plan_names (said_plan_fields plan) refl) (has_fields (said_plan_fields plan)).at

pub text_is : (plan : SaidPlan) (text : List ℕ) (d : Data) → d ≡ object_of (said_plan_fields plan)
    → (has_float d ≡ false → text ≡ compact_text d) → text ≡ plan_text plan
text_is plan text d is written = written (ap has_float is ∙ plan_whole plan) ∙ ap compact_text is

pub line_says : (plan : SaidPlan) (text : List ℕ) (d : Data) → d ≡ object_of (said_plan_fields plan) → IsUtf8 text
    → (depth d ≤ max_depth → read text ≡ Some d) → IsKnown plan
    → plan_line_of text ≡ Some (said_keys plan, said_plan plan)
line_says plan text d is utf8 reads known =
    let low : depth d ≤ max_depth = omega (arith, ap depth is, plan_shallow plan) in
    ap (option_and_then plan_of)
    (value_of text d (is_utf8-from_IsUtf8 text utf8) (reads low) (ap has_float is ∙ plan_whole plan) ∙ ap Some is)
    ∙ plan_again plan known
