-- Groups, setup scripts and tests are read as they were.
use Rattle.std.proofs.Common.{◌≡◌, ◌∙◌, ℕ, ◌<◌, ◌^◌, suc, ℤ, pos, negsuc, Bool, true, false, Option, Some, None, codes}
use Rattle.std.proofs.Common.{cond, refl, nat_eq, nat_le, lt-ltb, leb-true, eqb-true, All, IfSome, List, []}
use Rattle.std.proofs.Common.{◌∷◌, length, arith}
use Rattle.std.proofs.Common.{zero}
use Rattle.std.specs.Option.{option_map}
use Rattle.serde_json.specs.Data.{Data, string}
use Rattle.serde_json.specs.Find.{as_str, get}
use Rattle.run_commands.specs.declared.target_runner.BuildPlatform.{BuildPlatform}
use Rattle.run_commands.specs.declared.target_runner.BuildPlatform.TheVariants as platforms
use Rattle.run_events.specs.Usual.{usual_slow}
use Rattle.run_events.specs.declared.plan.Group.{Group}
use Rattle.run_events.specs.declared.plan.PlanScript.{PlanScript}
use Rattle.run_events.specs.declared.plan.PlanTest.{PlanTest}
use Rattle.run_input.specs.Fields.{is_object_of, numbers_of, optional, or_usual, truth_of}
use Rattle.run_input.specs.PlanLine.{group_from}
use Rattle.run_input.specs.PlanScripts.{script_of, usual_script_slow}
use Rattle.run_input.specs.PlanTest.{keys_of_test, platform_of, priority_said, test_from}
use Rattle.run_output.specs.Fields.{array_of, count}
use Rattle.run_text_laws.specs.Objects.{field_at}
use Rattle.run_text_laws.proofs.ObjectLemmas.{has_fields}
use Rattle.run_wave_line.proofs.WaveLemmas.{words_again}
use Rattle.run_plan_line.specs.PlanFields.{flaky_unless_pass, group_fields, if_false, is_no_retries, is_usual_slow}
use Rattle.run_plan_line.specs.PlanFields.{leak_object, list_if_any}
use Rattle.run_plan_line.specs.PlanFields.{number_unless, plan_test_fields, platform_word, priority_unless_0}
use Rattle.run_plan_line.specs.PlanFields.{retries_if_any, name_fields, rank_fields, plan_script_fields}
use Rattle.run_plan_line.specs.PlanFields.{script_way_fields, script_word_fields, slow_object, tie_fields, trial_fields}
use Rattle.run_plan_line.specs.SaidPlan.{HasRank, IsReadGroup, IsReadScript, IsReadTest, is_rank, tries}
use Rattle.run_plan_line.proofs.FieldLemmas.{all_first, all_rest, object_names, option_or_none, small_again}
use Rattle.run_plan_line.proofs.SettingLemmas.{flaky_again, leak_again, retries_if_any_again, slow_again}

-- a group is read as it was
group_said : (group : Group) (d : Data) → group.limit < 2 ^ 32
    → is_object_of (codes "limit" ∷ codes "name" ∷ []) d ≡ true
    → ((k : List ℕ) → get k d ≡ field_at k (group_fields group) None) → group_from d ≡ Some group
unfolding group_from group_fields
group_said group d fits is at = rw (is, at (codes "limit"), at (codes "name"), lt-ltb group.limit (2 ^ 32) fits) refl

pub group_again : (group : Group) → group.limit < 2 ^ 32 → IsReadGroup group
unfolding group_fields
group_again group fits =
    group_said group _ fits
    (object_names (codes "limit" ∷ codes "name" ∷ []) (group_fields group) refl) (has_fields (group_fields group)).at

-- numbers of 32 bits are read as they were
numbers_again : (list : List ℕ) → All (λ n. n < 2 ^ 32) list → numbers_of (array_of count list) ≡ Some list
numbers_again [] fits = refl
numbers_again (n ∷ list) fits =
    rw (
      lt-ltb n (2 ^ 32) (all_first (λ n. n < 2 ^ 32) n list fits),
      numbers_again list (all_rest (λ n. n < 2 ^ 32) n list fits),
    ) refl

-- a list that is left out where it is empty
any_by : {X : Type 0} (printed : X → Data) (reader : Data → Option (List X)) (list : List X) (b : Bool)
    → nat_eq (length list) 0 ≡ b → reader (array_of printed list) ≡ Some list
    → or_usual [] reader (cond b None (Some (array_of printed list))) ≡ Some list
any_by printed reader [] true is h = refl
any_by printed reader (x ∷ xs) true is h =
    let none : suc (length xs) ≡ 0 = eqb-true (suc (length xs)) 0 is in absurd (omega (arith, none))
any_by printed reader list false is h = h

pub any_again : {X : Type 0} (printed : X → Data) (reader : Data → Option (List X)) (list : List X)
    → reader (array_of printed list) ≡ Some list → or_usual [] reader (list_if_any printed list) ≡ Some list
any_again printed reader list h = any_by printed reader list (nat_eq (length list) 0) refl h

list_again : (list : List ℕ) → All (λ n. n < 2 ^ 32) list
    → or_usual [] numbers_of (list_if_any count list) ≡ Some list
list_again list fits = any_again count numbers_of list (numbers_again list fits)

text_again : (text : Option (List ℕ)) → optional as_str (option_map string text) ≡ Some text
text_again None = refl
text_again (Some text) = refl

platform_again : (p : BuildPlatform) → or_usual platforms.Target platform_of (platform_word p) ≡ Some p
platform_again platforms.Target = refl
platform_again platforms.Host = refl

-- a priority is read as it was
rank_again : (z : ℤ) → is_rank z ≡ true → priority_said 2 (priority_unless_0 z) ≡ Some z
rank_again (pos zero) h = refl
rank_again (pos (suc n)) h =
    let low : nat_le (suc n) 100 ≡ true = h in
    rw (lt-ltb (suc n) (2 ^ 63) (omega (arith, leb-true _ _ low)), h) refl
rank_again (negsuc n) h = rw h refl

truth_again : (b : Bool) → or_usual true truth_of (if_false b) ≡ Some b
truth_again true = refl
truth_again false = refl

-- a script is read as it was
script_said : (script : PlanScript) (d : Data)
    → (is_usual_slow usual_script_slow.period script.slow ≡ false
    → IfSome script.slow.terminate_after (λ n. n < 2 ^ 32))
    → is_object_of (codes "capture_stderr" ∷ codes "capture_stdout" ∷ codes "command" ∷ codes "env_path"
    ∷ codes "id" ∷ codes "leak" ∷ codes "slow" ∷ []) d ≡ true
    → ((k : List ℕ) → get k d ≡ field_at k (plan_script_fields script) None) → script_of d ≡ Some script
unfolding script_of script_word_fields script_way_fields
script_said script d fits is at =
    rw (
      is,
      at (codes "slow") ∙ option_or_none (slow_object usual_script_slow.period script.slow),
      at (codes "leak") ∙ option_or_none (leak_object script.leak),
      at (codes "capture_stdout") ∙ option_or_none (if_false script.capture_stdout),
      at (codes "capture_stderr") ∙ option_or_none (if_false script.capture_stderr),
      at (codes "id"),
      at (codes "command"),
      at (codes "env_path"),
      slow_again usual_script_slow.period script.slow fits,
      leak_again script.leak,
      truth_again script.capture_stdout,
      truth_again script.capture_stderr,
      words_again script.command,
    ) refl

pub script_again : (script : PlanScript)
    → (is_usual_slow usual_script_slow.period script.slow ≡ false
    → IfSome script.slow.terminate_after (λ n. n < 2 ^ 32)) → IsReadScript script
unfolding script_word_fields script_way_fields
script_again script fits =
    script_said script _ fits (object_names
    (codes "capture_stderr" ∷ codes "capture_stdout" ∷ codes "command" ∷ codes "env_path" ∷ codes "id" ∷ codes "leak"
    ∷ codes "slow" ∷ []) (plan_script_fields script) refl) (has_fields (plan_script_fields script)).at

-- a test is read as it was
test_said : (test : PlanTest) (d : Data) → HasRank test
    → (is_usual_slow usual_slow.period test.slow ≡ false → IfSome test.slow.terminate_after (λ n. n < 2 ^ 32))
    → (is_no_retries test.retries ≡ false → tries test.retries < 2 ^ 32)
    → test.weight < 2 ^ 32 → All (λ n. n < 2 ^ 32) test.scripts
    → is_object_of keys_of_test d ≡ true
    → ((k : List ℕ) → get k d ≡ field_at k (plan_test_fields test) None) → test_from 2 d ≡ Some test
unfolding test_from name_fields tie_fields trial_fields rank_fields
test_said test d rank slow tried heavy scripts is at =
    rw (
      is,
      at (codes "weight") ∙ option_or_none (number_unless 1 test.weight),
      at (codes "slow") ∙ option_or_none (slow_object usual_slow.period test.slow),
      at (codes "leak") ∙ option_or_none (leak_object test.leak),
      at (codes "retries") ∙ option_or_none (retries_if_any test.retries),
      at (codes "flaky") ∙ option_or_none (flaky_unless_pass test.flaky),
      at (codes "platform") ∙ option_or_none (platform_word test.platform),
      at (codes "priority") ∙ option_or_none (priority_unless_0 test.priority),
      at (codes "group") ∙ option_or_none (option_map string test.group),
      at (codes "scripts") ∙ option_or_none (list_if_any count test.scripts),
      at (codes "skip") ∙ option_or_none (option_map string test.skip),
      at (codes "binary"),
      at (codes "name"),
      at (codes "command"),
    )
    (rw (
      small_again 1 test.weight heavy,
      slow_again usual_slow.period test.slow slow,
      leak_again test.leak,
      retries_if_any_again test.retries tried,
      flaky_again test.flaky,
      platform_again test.platform,
      rank_again test.priority rank,
      text_again test.group,
      list_again test.scripts scripts,
      words_again test.command,
      text_again test.skip,
    ) refl)

pub test_again : (test : PlanTest)
    → (is_usual_slow usual_slow.period test.slow ≡ false → IfSome test.slow.terminate_after (λ n. n < 2 ^ 32))
    → (is_no_retries test.retries ≡ false → tries test.retries < 2 ^ 32)
    → test.weight < 2 ^ 32 → All (λ n. n < 2 ^ 32) test.scripts → IsReadTest test
unfolding name_fields tie_fields trial_fields rank_fields
test_again test slow tried heavy scripts rank =
    test_said test _ rank slow tried heavy scripts (object_names keys_of_test (plan_test_fields test) refl)
    (has_fields (plan_test_fields test)).at
