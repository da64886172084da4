-- The starts of children that are asked, and those of units that are told, as the plan says.
use Rattle.std.specs.Prelude.{ℕ, zero, suc, ◌≡◌, ◌+◌, ◌-◌, ◌==◌, List, [], ◌∷◌, ◌++◌, map, length, if◌then◌else◌}
use Rattle.std.specs.Prelude.{Option}
use Rattle.std.specs.Prelude.{Some, None, option_map, unwrap_or, slice_get, filter_map, codes, IfSome}
use Rattle.std.specs.List.{All, list_any, range_with_len}
use Rattle.run_commands.specs.Interceptor.{interceptor_words}
use Rattle.run_commands.specs.TargetRunner.{runner_for}
use Rattle.run_commands.specs.VersionEnvVars.{version_pairs}
use Rattle.run_events.specs.declared.plan.PlanScript.{PlanScript}
use Rattle.run_events.specs.declared.plan.PlanTest.{PlanTest}
use Rattle.run_events.specs.declared.plan.TestSlotAssignment.{TestSlotAssignment}
use Rattle.run_events.specs.declared.settings.Settings.{Settings}
use Rattle.run_events.specs.declared.ask.Ask.{Ask}
use Rattle.run_events.specs.declared.ask.Ask.TheVariants.{Start as StartAsked}
use Rattle.run_events.specs.declared.message.Message.{Message}
use Rattle.run_events.specs.declared.message.Message.TheVariants.{ScriptStart, Start}
use Rattle.run_events.specs.declared.events.ReporterEvent.{ReporterEvent}
use Rattle.run_events.specs.declared.events.ReporterEvent.TheVariants.{Test}
use Rattle.run_events.specs.declared.events.TestEventKind.{TestEventKind}
use Rattle.run_events.specs.declared.events.TestEventKind.TheVariants.{SetupScriptStarted, TestStarted}
use Rattle.run_events.specs.declared.result.ScriptEnv.{ScriptEnv}
use Rattle.run_events.specs.declared.result.ScriptEnv.TheVariants.{Unread}
use Rattle.run_model.specs.declared.entry.Entry.{Entry}
use Rattle.run_model.specs.declared.happening.Happening.{Happening}
use Rattle.run_model.specs.declared.unit_view.UnitView.{UnitView}
use Rattle.run_commands.specs.Pair.{Pair}
use Rattle.run_model.specs.Environment.{start_ask}
use Rattle.run_model.specs.Admission.{is_script, scripts_in, global_slot, first_view, runner_words, script_view}
use Rattle.run_model.specs.Admission.{start_message, variables_of}
use Rattle.run_model.specs.Ending.{last_status}
use Rattle.run_model.specs.Retries.{has_passed}
use Rattle.run_model.specs.Story.{OwnTurn, story_of}
use Rattle.run_model.specs.Attempts.{env_in, pieces_of, statuses_of}
use Rattle.run_model.specs.Words.{sub_run, told, asked}
use Rattle.run_model.specs.Journal.{IsLegal, past_of}
use Rattle.run_laws.specs.Limits.{slots_told}
use Rattle.run_events.specs.declared.stress.StressIndex.{StressIndex}
use Rattle.run_model.specs.SubRuns.{stress_index}

-- what came of the environment file of a unit, by its own turns: the newest one that says it
abbrev pub env_said : List OwnTurn → ScriptEnv
env_said [] = Unread
env_said (t ∷ before) = unwrap_or (env_in t.turn) (env_said before)

-- the variables that script k gives to tests: those of its environment file, where it passed
abbrev pub given_by : Settings → ℕ → List Happening → List Pair
given_by p k run =
    if has_passed (last_status (statuses_of p k run)) then variables_of (env_said (story_of k run)) else []

-- what each of n numbers from k on gives, where it is among these numbers: in order, each once
abbrev pub given_from : (ℕ → List Pair) → List ℕ → ℕ → ℕ → List Pair
given_from given numbers k zero = []
given_from given numbers k (suc n) =
    (if list_any (λ i. i == k) numbers then given k else []) ++ given_from given numbers (k + 1) n

-- the variables that the scripts give to a test: those of the scripts that it lists
abbrev pub given_to : Settings → List Happening → PlanTest → List Pair
given_to p run test = given_from (λ k. given_by p k run) test.scripts 0 (scripts_in p)

-- unit k by the plan, as it begins in such a sub-run of a stress run, if it is one: a script, or a test in the slots
-- with which it was told started, with what its scripts give to it
abbrev pub planned_test : Settings → Option StressIndex → List Happening → ℕ → PlanTest → UnitView
planned_test p index run k test =
    first_view p index k (unwrap_or (slots_told k (told run)) (global_slot 0)) (given_to p run test) test

abbrev pub planned_unit : Settings → Option StressIndex → List Happening → ℕ → Option UnitView
planned_unit p index run k =
    if is_script p k
    then option_map (script_view p index k) (slice_get p.plan.scripts k)
    else option_map (planned_test p index run k) (slice_get p.plan.tests (k - scripts_in p))

-- the start of its child for the attempt of this number, and those for the first n attempts
abbrev pub start_at : UnitView → ℕ → Ask
start_at u n = start_ask (record u { attempt = n })

abbrev pub starts_by : Option UnitView → ℕ → List Ask
starts_by None n = []
starts_by (Some u) n = map (start_at u) (range_with_len 1 n)

-- the starts that were asked for unit k
abbrev pub start_for : ℕ → Ask → Option Ask
start_for k (StartAsked ask) = if ask.unit == k then Some (StartAsked ask) else None
start_for k _ = None

abbrev pub starts_asked : ℕ → List Happening → List Ask
starts_asked k run = filter_map (λ a. start_for k a.1) (asked run)

-- the start of a unit that an event tells, as the message of that start
abbrev pub start_told_in : TestEventKind → Option Message
start_told_in (SetupScriptStarted start) = Some (ScriptStart start)
start_told_in (TestStarted event) = Some (Start event.start)
start_told_in _ = None

abbrev pub start_told : ReporterEvent → Option Message
start_told (Test event) = start_told_in event.kind
start_told _ = None

-- a start is that of a unit by the plan
abbrev pub message_of : UnitView → Message
message_of u = start_message u.role u

abbrev pub IsPlannedStart : Settings → Option StressIndex → List Happening → Message → Type 0
IsPlannedStart p index run m = (k : ℕ) × (option_map message_of (planned_unit p index run k) ≡ Some m)

-- for each script and test one start is asked for each attempt that was let go, in order, with the command, the
-- variables, the streams and all else that the plan says; and each start that is told is that of the plan
pub record AreStartsPlanned (p : Settings) (index : Option StressIndex) (run : List Happening) : Type 0 where
  pub asked : (k : ℕ) → starts_asked k run ≡ starts_by (planned_unit p index run k) (length (pieces_of k run))
  pub told : All (λ e. IfSome (start_told e) (IsPlannedStart p index run)) (told run)

-- that holds in the newest sub-run after every legal journal
abbrev pub StartsArePlanned : Type 0
StartsArePlanned = (p : Settings) (journal : List Entry) → IsLegal p journal
    → AreStartsPlanned p (stress_index p (past_of p journal)) (sub_run (past_of p journal))

-- the words of a start that is asked, and the names of its variables, in order
abbrev pub command_asked : Ask → List (List ℕ)
command_asked (StartAsked ask) = ask.command
command_asked _ = []

abbrev pub names_asked : Ask → List (List ℕ)
names_asked (StartAsked ask) = map (λ v. v.0) ask.env
names_asked _ = []

-- the names of the variables of a test's child, and of a script's, before those of versions
abbrev pub test_names : List (List ℕ)
test_names =
    codes "NEXTEST_RUN_ID" ∷ codes "NEXTEST_RUN_MODE" ∷ codes "NEXTEST_BINARY_ID" ∷ codes "NEXTEST_TEST_NAME"
    ∷ codes "NEXTEST_ATTEMPT" ∷ codes "NEXTEST_TOTAL_ATTEMPTS" ∷ codes "NEXTEST_STRESS_CURRENT"
    ∷ codes "NEXTEST_STRESS_TOTAL" ∷ codes "NEXTEST_TEST_GLOBAL_SLOT" ∷ codes "NEXTEST_TEST_GROUP"
    ∷ codes "NEXTEST_TEST_GROUP_SLOT" ∷ codes "NEXTEST_TEST_THREADS" ∷ codes "NEXTEST_WORKSPACE_ROOT" ∷ []

abbrev pub script_names : List (List ℕ)
script_names =
    codes "NEXTEST_ENV" ∷ codes "NEXTEST_RUN_ID" ∷ codes "NEXTEST_RUN_MODE" ∷ codes "NEXTEST_TEST_THREADS"
    ∷ codes "NEXTEST_WORKSPACE_ROOT" ∷ []

abbrev pub version_names : Settings → List (List ℕ)
version_names p = map (λ v. v.0) (version_pairs p.plan.head.versions)

-- a test's child is started with the words of the interceptor, then those of its platform's runner, then its own; a
-- script's with its own alone. Their variables have these names, a test's last those that its scripts handed on
pub record StartsHaveWords : Type 0 where
  pub test : (p : Settings) (index : Option StressIndex) (k : ℕ) (slot : TestSlotAssignment) (handed : List Pair)
      (test : PlanTest) (n : ℕ)
      → command_asked (start_at (first_view p index k slot handed test) n)
      ≡ interceptor_words p.interceptor ++ (runner_words (runner_for p.plan.runners test.platform) ++ test.command)
  pub test_variables : (p : Settings) (index : Option StressIndex) (k : ℕ) (slot : TestSlotAssignment)
      (handed : List Pair) (test : PlanTest) (n : ℕ)
      → names_asked (start_at (first_view p index k slot handed test) n)
      ≡ test_names ++ (version_names p ++ map (λ v. v.0) handed)
  pub script : (p : Settings) (index : Option StressIndex) (k : ℕ) (script : PlanScript) (n : ℕ)
      → command_asked (start_at (script_view p index k script) n) ≡ script.command
  pub script_variables : (p : Settings) (index : Option StressIndex) (k : ℕ) (script : PlanScript) (n : ℕ)
      → names_asked (start_at (script_view p index k script) n) ≡ script_names ++ version_names p
