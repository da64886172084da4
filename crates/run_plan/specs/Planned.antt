-- The plan that a list of tests, a project's profile and the words of a call make.
use Rattle.std.specs.Prelude.{ℕ, ℤ, pos, negsuc, int_le, Bool, true, false, List, [], ◌∷◌, ◌++◌}
use Rattle.std.specs.Prelude.{map, codes, if◌then◌else◌, Option, Some, None, is_none, option_map, unwrap_or}
use Rattle.std.specs.List.{zip}
use Rattle.run_capture.specs.declared.test_output.CaptureStrategy.TheVariants as captures
use Rattle.run_events.specs.Usual.{usual_test}
use Rattle.run_events.specs.declared.plan.Group.{Group}
use Rattle.run_events.specs.declared.plan.PlanScript.{PlanScript}
use Rattle.run_events.specs.declared.plan.PlanTest.{PlanTest}
use Rattle.run_events.specs.declared.plan.TestInstanceId.{TestInstanceId}
use Rattle.run_events.specs.declared.retry_policy.MaxFail.TheVariants as limits
use Rattle.run_events.specs.declared.retry_policy.RetryPolicy.{RetryPolicy}
use Rattle.run_events.specs.declared.retry_policy.RetryPolicy.TheVariants.{Fixed}
use Rattle.run_events.specs.declared.retry_policy.TerminateMode.TheVariants as modes
use Rattle.run_filter.specs.Partition.{parted}
use Rattle.run_filter.specs.declared.partition.Candidate.{Candidate}
use Rattle.run_filter.specs.declared.partition.PartitionKind.{PartitionKind}
use Rattle.run_profile.specs.Settings.{test_settings, weight_count}
use Rattle.run_profile.specs.Threads.{threads_count}
use Rattle.run_profile.specs.declared.groups.TestGroup.{TestGroup}
use Rattle.run_profile.specs.declared.groups.Threads.TheVariants as threads
use Rattle.run_profile.specs.declared.levels.Project.{Project}
use Rattle.run_profile.specs.declared.scripts.SetupScript.{SetupScript}
use Rattle.run_profile.specs.declared.settings.Profile.{Profile}
use Rattle.run_profile.specs.declared.settings.TestSettings.{TestSettings}
use Rattle.run_plan_line.specs.declared.said.SaidPlan.{SaidPlan}
use Rattle.run_plan.specs.Listed.{AskedTest, Listed, listed}
use Rattle.run_plan.specs.Reasons.{part_reason, reason_of_filters}
use Rattle.run_plan.specs.Scripted.{script_numbers, plan_script, wanted}
use Rattle.run_plan.specs.declared.asked.Asked.{Asked}
use Rattle.run_plan.specs.declared.asked.Call.{Call}
use Rattle.run_plan.specs.declared.choices.Choices.{Choices}
use Rattle.run_plan.specs.declared.choices.Picks.{Picks}
use Rattle.run_plan.specs.declared.choices.Ways.{Ways}
use Rattle.run_plan.specs.declared.test_list.ListedTest.{ListedTest}
use Rattle.run_plan.specs.declared.test_list.TestBinary.{TestBinary}
use Rattle.run_plan.specs.declared.test_list.TestList.{TestList}

-- a test as partitions see it
abbrev pub candidate_of : Picks → AskedTest → Candidate
candidate_of picks row = record {
  binary = row.0.0;
  name = record { ref_ptr = (0, 0); now = row.0.2.name };
  is_ignored = row.0.2.is_ignored;
  passes = is_none (reason_of_filters picks row);
}

-- whether each test stands in the part, where the words name one
abbrev pub kept_tests : Option (PartitionKind × ℕ × ℕ) → Picks → List AskedTest → List Bool
kept_tests None picks rows = map (λ row. true) rows
kept_tests (Some p) picks rows = parted p.0 p.1 p.2 [] (map (candidate_of picks) rows)

-- tests, each with whether it stands in the part
abbrev pub kept_rows : Picks → List AskedTest → List (AskedTest × Bool)
kept_rows picks rows = zip rows (kept_tests picks.partition picks rows)

-- how many tests may run at a time
abbrev pub threads_of_call : Call → Profile → Ways → ℕ
threads_of_call call profile ways =
    unwrap_or ways.threads (threads_count call.processors (unwrap_or profile.run.threads (threads.Processors 0)))

-- the words that run a test: those of its binary, its name, whether it is one that is ignored, and more words
abbrev pub name_words : List ℕ → List (List ℕ)
name_words name = codes "--exact" ∷ name ∷ codes "--nocapture" ∷ []

abbrev pub ignored_words : Bool → List (List ℕ)
ignored_words is_ignored = if is_ignored then codes "--ignored" ∷ [] else []

abbrev pub test_words : TestBinary → ListedTest → List (List ℕ) → List (List ℕ)
test_words binary test extra =
    binary.command ++ name_words test.name ++ ignored_words test.is_ignored ++ extra

-- a test's name, beside its binary's
abbrev pub test_id : Listed → TestInstanceId
test_id l = record { binary = l.1.id; name = l.2.name }

-- a priority, no less than -100 and no greater than 100
abbrev pub within_100 : ℤ → ℤ
within_100 z = if int_le z (negsuc 99) then negsuc 99 else if int_le (pos 100) z then pos 100 else z

-- a test of the plan, with its settings, and the reason for which it is skipped
abbrev pub test_with : ℕ → ℕ → Listed → TestSettings → Option (List ℕ) → PlanTest
test_with processors most l s skip =
    record (usual_test (test_id l) (test_words l.1 l.2 s.extra_args.value) skip) {
      weight = weight_count processors most s.weight.value;
      priority = within_100 s.priority.value;
      group = s.group.value;
      retries = s.retries.value;
      flaky = s.flaky.value;
      slow = s.slow.value;
      leak = s.leak.value;
      platform = l.1.facts.platform;
    }

-- a test of the plan, by what filters say of it and whether it stands in the part
abbrev pub plan_test : ℕ → ℕ → Profile → Picks → AskedTest × Bool → PlanTest
plan_test processors most profile picks row =
    test_with processors most row.0.0 (test_settings profile row.0.1.overrides)
    (part_reason (reason_of_filters picks row.0) row.1)

-- with the numbers of its scripts, of those that run
abbrev pub scripted_test : ℕ → ℕ → Profile → Picks → List SetupScript → AskedTest × Bool → PlanTest
scripted_test processors most profile picks used row =
    record (plan_test processors most profile picks row) { scripts = script_numbers profile picks row 0 used }

abbrev pub plan_tests : ℕ → ℕ → Profile → Picks → List SetupScript → List AskedTest → List PlanTest
plan_tests processors most profile picks used rows =
    map (scripted_test processors most profile picks used) (kept_rows picks rows)

abbrev pub plan_group : ℕ → TestGroup → Group
plan_group processors group = record { name = group.name; limit = threads_count processors group.limit }

abbrev pub word_retries : ℕ → RetryPolicy
word_retries n = Fixed n 0 false

-- the scripts of a project that some test wants
abbrev pub used_in : Project → Picks → List AskedTest → List SetupScript
used_in project picks rows = wanted project.profile picks (kept_rows picks rows) project.scripts

-- the plan: each listed test once, in the list's order, where so much is known of each, and these scripts
unfoldable pub planned : TestList → Project → Choices → Call → List AskedTest → List SetupScript → SaidPlan
planned list project choices call rows used = record {
  run_id = call.run_id;
  profile = unwrap_or choices.ways.profile (codes "default");
  workspace_root = unwrap_or list.root (codes "/");
  args = call.args;
  capture = if choices.ways.no_capture then captures.None else captures.Combined;
  threads = threads_of_call call project.profile choices.ways;
  max_fail = unwrap_or choices.ways.max_fail (unwrap_or project.profile.run.max_fail (limits.Count 1 modes.Wait));
  retries = option_map word_retries choices.ways.retries;
  flaky_result = choices.ways.flaky;
  stress = choices.ways.stress;
  global_timeout = project.profile.run.global_timeout;
  groups = map (plan_group call.processors) project.groups;
  scripts = map (plan_script list call.run_id) used;
  tests = plan_tests call.processors (threads_of_call call project.profile choices.ways) project.profile choices.picks
      used rows;
}

-- the name of the profile, the workspace's folder, and the words of the call
abbrev pub heads_with : TestList → Ways → Call → List ℕ × List ℕ × List (List ℕ)
heads_with list ways call = (unwrap_or ways.profile (codes "default"), unwrap_or list.root (codes "/"), call.args)

-- the groups, the scripts and the tests
abbrev pub parts_with : TestList → Project → Choices → Call → List AskedTest → List SetupScript
    → List Group × List PlanScript × List PlanTest
parts_with list project choices call rows used = (
  map (plan_group call.processors) project.groups,
  map (plan_script list call.run_id) used,
  plan_tests call.processors (threads_of_call call project.profile choices.ways) project.profile choices.picks used
      rows,
)
