-- The words and the variables of a start.
use Rattle.std.proofs.Common.{◌≡◌, ℕ, List, ◌++◌, map, refl, ap, Option}
use Rattle.std.proofs.lemmas.List.{map-append}
use Rattle.run_events.specs.declared.plan.PlanScript.{PlanScript}
use Rattle.run_events.specs.declared.plan.PlanTest.{PlanTest}
use Rattle.run_events.specs.declared.plan.TestSlotAssignment.{TestSlotAssignment}
use Rattle.run_events.specs.declared.settings.Settings.{Settings}
use Rattle.run_commands.specs.Interceptor.{interceptor_words}
use Rattle.run_commands.specs.TargetRunner.{runner_for}
use Rattle.run_commands.specs.VersionEnvVars.{version_pairs}
use Rattle.run_commands.specs.Pair.{Pair}
use Rattle.run_events.specs.Variables.{test_variables, identity_variables, place_variables}
use Rattle.run_events.specs.Variables.{script_variables}
use Rattle.run_model.specs.Environment.{start_ask}
use Rattle.run_model.specs.Admission.{first_view, runner_words, script_view}
use Rattle.run_laws.specs.Starts.{command_asked, names_asked, start_at, test_names, script_names, version_names}
use Rattle.run_events.specs.declared.stress.StressIndex.{StressIndex}

pub test_words : (p : Settings) (index : Option StressIndex) (k : ℕ) (slot : TestSlotAssignment)
    (handed : List Pair) (test : PlanTest) (n : ℕ)
    → command_asked (start_at (first_view p index k slot handed test) n)
    ≡ interceptor_words p.interceptor ++ (runner_words (runner_for p.plan.runners test.platform) ++ test.command)
unfolding start_ask
test_words p index k slot handed test n = refl

pub test_names_are : (p : Settings) (index : Option StressIndex) (k : ℕ) (slot : TestSlotAssignment)
    (handed : List Pair) (test : PlanTest) (n : ℕ)
    → names_asked (start_at (first_view p index k slot handed test) n)
    ≡ test_names ++ (version_names p ++ map (λ v. v.0) handed)
unfolding start_ask test_variables identity_variables place_variables
test_names_are p index k slot handed test n =
    ap (λ names. test_names ++ names) (map-append (λ v. v.0) (version_pairs p.plan.head.versions) handed)

pub script_words : (p : Settings) (index : Option StressIndex) (k : ℕ) (script : PlanScript) (n : ℕ)
    → command_asked (start_at (script_view p index k script) n) ≡ script.command
unfolding start_ask
script_words p index k script n = refl

pub script_names_are : (p : Settings) (index : Option StressIndex) (k : ℕ) (script : PlanScript) (n : ℕ)
    → names_asked (start_at (script_view p index k script) n) ≡ script_names ++ version_names p
unfolding start_ask script_variables
script_names_are p index k script n = refl
