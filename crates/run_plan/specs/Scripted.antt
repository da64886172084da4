-- The setup scripts of a plan.
use Rattle.std.specs.Prelude.{ℕ, ◌≡◌, ⊤, ◌+◌, ◌==◌, ◌&&◌, ◌++◌, Bool, true, List, [], ◌∷◌, codes, filter}
use Rattle.std.specs.Prelude.{filter_map, find, length}
use Rattle.std.specs.Prelude.{nat_eq, nat_le, is_none, if◌then◌else◌, Option, Some, None, option_and_then, unwrap_or}
use Rattle.std.specs.List.{list_any}
use Rattle.run_events.specs.Usual.{usual_leak}
use Rattle.run_events.specs.declared.plan.PlanScript.{PlanScript}
use Rattle.run_input.specs.PlanScripts.{usual_script_slow}
use Rattle.run_profile.specs.Settings.{wants_script}
use Rattle.uuid.specs.Text.{hyphenated_text, lower}
use Rattle.run_profile.specs.declared.scripts.RelativeTo.{RelativeTo}
use Rattle.run_profile.specs.declared.scripts.RelativeTo.TheVariants as bases
use Rattle.run_profile.specs.declared.scripts.SetupScript.{SetupScript}
use Rattle.run_profile.specs.declared.settings.Profile.{Profile}
use Rattle.run_plan.specs.Listed.{AskedTest}
use Rattle.run_plan.specs.Reasons.{reason_of_filters}
use Rattle.run_plan.specs.declared.choices.Picks.{Picks}
use Rattle.run_plan.specs.declared.plan_fault.PlanFault.{PlanFault}
use Rattle.run_plan.specs.declared.plan_fault.PlanFault.TheVariants as faults
use Rattle.run_plan.specs.declared.test_list.TestList.{TestList}
use lib.Pointwise.{pointwise}

-- whether a test runs: nothing else leaves it out, and it stands in the part
abbrev pub is_run_test : Picks → AskedTest × Bool → Bool
is_run_test picks row = is_none (reason_of_filters picks row.0) && row.1

-- whether it runs and wants a script
abbrev pub wants : Profile → Picks → SetupScript → AskedTest × Bool → Bool
wants p picks script row = is_run_test picks row && wants_script p script.name row.0.1.rules

-- the scripts that some test wants
abbrev pub wanted : Profile → Picks → List (AskedTest × Bool) → List SetupScript → List SetupScript
wanted p picks rows scripts = filter (λ script. list_any (wants p picks script) rows) scripts

-- scripts in an order of names
abbrev pub has_name : List ℕ → SetupScript → Bool
has_name name script = pointwise nat_eq script.name name

abbrev pub in_order : List (List ℕ) → List SetupScript → List SetupScript
in_order names scripts = filter_map (λ name. find (has_name name) scripts) names

-- scripts in the file's order: fewer than two have one order alone, and of more each has a place in it
abbrev pub all_of : List SetupScript → List SetupScript → Option (List SetupScript)
all_of scripts found = if length found == length scripts then Some found else None

abbrev pub file_ordered : Option (List (List ℕ)) → List SetupScript → Option (List SetupScript)
file_ordered names scripts =
    if nat_le (length scripts) 1 then Some scripts
    else option_and_then (λ order. all_of scripts (in_order order scripts)) names

-- the numbers of those that a test wants, of scripts from a number on
abbrev pub script_numbers : Profile → Picks → AskedTest × Bool → ℕ → List SetupScript → List ℕ
script_numbers p picks row n [] = []
script_numbers p picks row n (script ∷ scripts) =
    if wants p picks script row then n ∷ script_numbers p picks row (n + 1) scripts
    else script_numbers p picks row (n + 1) scripts

-- the words of a script, whose program may be a path below a folder
abbrev pub words_below : List ℕ → List (List ℕ) → List (List ℕ)
words_below folder [] = []
words_below folder (program ∷ words) = (folder ++ codes "/" ++ program) ∷ words

abbrev pub based_words : TestList → RelativeTo → List (List ℕ) → List (List ℕ)
based_words list bases.Nothing words = words
based_words list bases.WorkspaceRoot words = words_below (unwrap_or list.root (codes "/")) words
based_words list bases.Target words = words_below list.target words

-- and which runs in the workspace's folder
abbrev pub script_words : TestList → RelativeTo → List (List ℕ) → List (List ℕ)
script_words list base words =
    codes "env" ∷ codes "-C" ∷ unwrap_or list.root (codes "/") ∷ based_words list base words

-- where a script writes its variables: a file of its run alone
abbrev pub env_path : TestList → List ℕ → List ℕ → List ℕ
env_path list run_id name =
    list.target ++ codes "/nextest_run-" ++ hyphenated_text lower run_id ++ codes "-" ++ name ++ codes ".env"

-- a script of the plan
abbrev pub plan_script : TestList → List ℕ → SetupScript → PlanScript
plan_script list run_id script = record {
  id = script.name;
  command = script_words list script.command.relative_to script.command.words;
  env_path = env_path list run_id script.name;
  slow = unwrap_or script.slow usual_script_slow;
  leak = unwrap_or script.leak usual_leak;
  capture_stdout = unwrap_or script.capture_stdout true;
  capture_stderr = unwrap_or script.capture_stderr true;
}

-- why scripts have no order; want of memory has no cause
abbrev pub IsUnordered : Option (List SetupScript) → PlanFault → Type 0
IsUnordered scripts faults.ScriptOrder = scripts ≡ None
IsUnordered scripts faults.OutOfMemory = ⊤
IsUnordered scripts fault = ⊥
