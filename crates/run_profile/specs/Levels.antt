-- What a profile's table says, and what profiles say that inherit from each other.
use Rattle.std.specs.Prelude.{ℕ, zero, suc, ◌+◌, ℤ, pos, negsuc, Bool, true, false, List, [], ◌∷◌, ◌++◌}
use Rattle.std.specs.Prelude.{codes}
use Rattle.std.specs.Prelude.{Option, Some, None, option_and_then, option_map, unwrap_or}
use Rattle.std.specs.Prelude.{Ok}
use Rattle.std.specs.Prelude.{if◌then◌else◌, nat_eq}
use Rattle.toml.specs.Data.{Data, table, Items, no_items, item, Members, no_members, member}
use Rattle.toml.specs.Data.{as_array, as_bool, as_integer, as_str, as_table, get, get_member}
use Rattle.run_events.specs.declared.retry_policy.MaxFail.{MaxFail}
use Rattle.run_events.specs.declared.retry_policy.MaxFail.TheVariants as limits
use Rattle.run_events.specs.declared.retry_policy.TerminateMode.{TerminateMode}
use Rattle.run_events.specs.declared.retry_policy.TerminateMode.TheVariants as modes
use Rattle.run_profile.specs.declared.cfg.Cfg.{Cfg}
use Rattle.run_profile.specs.declared.errors.Fault.TheVariants as faults
use Rattle.run_profile.specs.declared.errors.ProfileError.TheVariants.{Refused}
use Rattle.run_profile.specs.declared.groups.TestGroup.{TestGroup}
use Rattle.run_profile.specs.declared.groups.Threads.{Threads}
use Rattle.run_profile.specs.declared.groups.Threads.TheVariants as threads
use Rattle.run_profile.specs.declared.settings.Override.{Override}
use Rattle.run_profile.specs.declared.settings.Profile.{Profile}
use Rattle.run_profile.specs.declared.run_keys.RunKeys.{RunKeys}
use Rattle.run_profile.specs.declared.scripts.SetupScript.{SetupScript}
use Rattle.run_profile.specs.declared.levels.Level.{Level}
use Rattle.run_profile.specs.declared.levels.Project.{Project}
use Rattle.run_profile.specs.declared.version.VersionsAsked.{VersionsAsked}
use Rattle.run_profile.specs.Fields.{ProfileRead, Reader, needed, number_read, only_keys}
use Rattle.run_profile.specs.Fields.{only_names, optional_key, refused}
use Rattle.run_profile.specs.Fields.{nothing_or, or_nothing, refused_at, those}
use Rattle.run_profile.specs.Fields.{text_read, time_read, within}
use Rattle.run_profile.specs.Reads.{◌>>=◌, or_else, or_refuse}
use Rattle.run_profile.specs.Refusals.{dotted, item_path}
use Rattle.run_profile.specs.Said.{said_of}
use Rattle.run_profile.specs.Scope.{conditions, holds_of}
use Rattle.run_profile.specs.Scripts.{rules_read, scripts_read}
use Rattle.run_profile.specs.Settings.{no_profile}
use Rattle.run_profile.specs.Version.{versions_at}
use lib.Pointwise.{pointwise}

abbrev pub override_keys : List (List ℕ)
override_keys =
    codes "bench" ∷ codes "default-filter" ∷ codes "failure-output" ∷ codes "filter" ∷ codes "flaky-result"
    ∷ codes "junit" ∷ codes "leak-timeout" ∷ codes "platform" ∷ codes "priority" ∷ codes "retries"
    ∷ codes "run-extra-args" ∷ codes "slow-timeout" ∷ codes "success-output" ∷ codes "test-group"
    ∷ codes "threads-required" ∷ []

-- which tests an override is for: whether its platform is this one, its filter, and its default filter
abbrev pub scope_of : Cfg → List ℕ → Data → ProfileRead (Bool × Option (List ℕ) × Option (List ℕ))
scope_of cfg path d = do
  holds ← optional_key (holds_of cfg) path (codes "platform") d
  filter ← optional_key text_read path (codes "filter") d
  default_filter ← optional_key text_read path (codes "default-filter") d
  _ ← conditions path holds filter default_filter
  Ok (unwrap_or holds true, filter, default_filter)

-- the override of this number in a profile, where its platform is this one
unfoldable pub override_of : Cfg → List TestGroup → List ℕ → ℕ → Reader (Option Override)
override_of cfg groups profile number path d = do
  _ ← only_keys override_keys path d
  scope ← scope_of cfg path d
  said ← said_of groups path d
  Ok (if scope.0 then Some (record {
    profile = profile;
    number = number;
    filter = scope.1;
    default_filter = scope.2;
    said = said;
  }) else None)

-- those of a list, counted from its front
abbrev pub overrides_from : Cfg → List TestGroup → List ℕ → List ℕ → ℕ → Items → ProfileRead (List Override)
overrides_from cfg groups profile path number no_items = Ok []
overrides_from cfg groups profile path number (item d ds) = do
  first ← override_of cfg groups profile number (item_path path number) d
  rest ← overrides_from cfg groups profile path (number + 1) ds
  Ok (those first ++ rest)

abbrev pub overrides_of : Cfg → List TestGroup → List ℕ → Reader (List Override)
overrides_of cfg groups profile path d = do
  items ← or_refuse (as_array d) (Refused path faults.NotList)
  overrides_from cfg groups profile path 0 items

-- how many tests may run at a time: a number, or, where it is negative, as many as there are processors, less so many
abbrev pub threads_number : ℤ → Option Threads
threads_number (pos n) = option_map threads.Count (within 1 4294967295 (pos n))
threads_number (negsuc n) = option_map threads.Processors (within 1 4294967295 (pos (suc n)))

abbrev pub threads_said : Option (List ℕ) → Reader Threads
threads_said (Some word) path d =
    if pointwise nat_eq word (codes "num-cpus") then Ok (threads.Processors 0) else refused path faults.NotWord
threads_said None path d = do
  z ← or_refuse (as_integer d) (Refused path faults.NotNumber)
  or_refuse (threads_number z) (Refused path faults.OutOfRange)

unfoldable pub threads_read : Reader Threads
threads_read path d = threads_said (as_str d) path d

-- after how many failures no test starts any more; none is all
abbrev pub failures_said : Option (List ℕ) → Reader (Option ℕ)
failures_said (Some word) path d =
    if pointwise nat_eq word (codes "all") then Ok None else refused path faults.NotWord
failures_said None path d = do
  count ← number_read 1 4294967295 path d
  Ok (Some count)

abbrev pub failures_of : Reader (Option ℕ)
failures_of path d = failures_said (as_str d) path d

-- what becomes of the tests that run then
abbrev pub mode_said : List ℕ → List ℕ → ProfileRead TerminateMode
mode_said path word =
    if pointwise nat_eq word (codes "wait") then Ok modes.Wait
    else if pointwise nat_eq word (codes "immediate") then Ok modes.Immediate
    else refused path faults.NotWord

abbrev pub mode_read : Reader TerminateMode
mode_read path d = do
  word ← text_read path d
  mode_said path word

abbrev pub max_fail_with : Option ℕ → TerminateMode → MaxFail
max_fail_with None mode = limits.All
max_fail_with (Some count) mode = limits.Count count mode

-- when a run gives up: at the first failure, never, or as a table says
abbrev pub fail_fast_said : Option Bool → Reader MaxFail
fail_fast_said (Some fast) path d = Ok (if fast then limits.Count 1 modes.Wait else limits.All)
fail_fast_said None path d = do
  _ ← only_keys (codes "max-fail" ∷ codes "terminate" ∷ []) path d
  failures ← needed failures_of path (codes "max-fail") d
  mode ← optional_key mode_read path (codes "terminate") d
  Ok (max_fail_with failures (unwrap_or mode modes.Wait))

abbrev pub fail_fast_of : Reader MaxFail
fail_fast_of path d = fail_fast_said (as_bool d) path d

-- what a profile says of the whole run
unfoldable pub run_keys_of : Reader RunKeys
run_keys_of path d = do
  count ← optional_key threads_read path (codes "test-threads") d
  max_fail ← optional_key fail_fast_of path (codes "fail-fast") d
  global_timeout ← optional_key time_read path (codes "global-timeout") d
  default_filter ← optional_key text_read path (codes "default-filter") d
  Ok (record { threads = count; max_fail = max_fail; global_timeout = global_timeout; default_filter = default_filter })

-- the keys of the profile `default`, and those of all others
unfoldable pub default_keys : List (List ℕ)
default_keys =
    codes "archive" ∷ codes "bench" ∷ codes "default-filter" ∷ codes "fail-fast" ∷ codes "failure-output"
    ∷ codes "final-status-level" ∷ codes "flaky-result" ∷ codes "global-timeout" ∷ codes "junit" ∷ codes "leak-timeout"
    ∷ codes "overrides" ∷ codes "retries" ∷ codes "run-extra-args" ∷ codes "scripts" ∷ codes "slow-timeout"
    ∷ codes "status-level" ∷ codes "success-output" ∷ codes "test-threads" ∷ codes "threads-required" ∷ []

abbrev pub is_default : List ℕ → Bool
is_default name = pointwise nat_eq name (codes "default")

abbrev pub keys_for : Bool → List (List ℕ)
keys_for true = default_keys
keys_for false = codes "inherits" ∷ default_keys

abbrev pub profile_keys : List ℕ → List (List ℕ)
profile_keys name = keys_for (is_default name)

-- what the table of a profile says
unfoldable pub level_of : Cfg → List TestGroup → List SetupScript → List ℕ → Reader Level
level_of cfg groups scripts name path d = do
  _ ← only_keys (profile_keys name) path d
  run ← run_keys_of path d
  said ← said_of groups path d
  overrides ← or_nothing (overrides_of cfg groups name) path (codes "overrides") d
  rules ← or_nothing (rules_read cfg scripts name) path (codes "scripts") d
  Ok (record { said = said; overrides = overrides; rules = rules; run = run })

-- the path of a profile
abbrev pub profile_path : List ℕ → List ℕ
profile_path name = dotted (codes "profile") name

-- its table among those of all profiles; that of `default` may be missing, and is then empty
abbrev pub profile_in : Option Data → List ℕ → Option Data
profile_in profiles name = option_and_then (get name) profiles

abbrev pub level_at : Cfg → List TestGroup → List SetupScript → Option Data → List ℕ → ProfileRead Level
level_at cfg groups scripts profiles name =
    level_of cfg groups scripts name (profile_path name) (unwrap_or (profile_in profiles name) (table no_members))

-- the profile that one inherits: `default` where nothing is said
abbrev pub base_said : Reader (List ℕ)
base_said path d = do
  base ← optional_key text_read path (codes "inherits") d
  Ok (unwrap_or base (codes "default"))

abbrev pub base_of : Option Data → List ℕ → ProfileRead (List ℕ)
base_of profiles name = do
  d ← or_refuse (profile_in profiles name) (Refused (profile_path name) faults.UnknownName)
  base_said (profile_path name) d

-- a profile, those that it inherits, and `default`: no more than so many
abbrev pub chain : ℕ → Option Data → List ℕ → ProfileRead (List (List ℕ))
chain zero profiles name = refused_at (profile_path name) (codes "inherits") faults.Circle
chain (suc room) profiles name =
    if is_default name then Ok (name ∷ [])
    else do
      base ← base_of profiles name
      names ← chain room profiles base
      Ok (name ∷ names)

-- a key of the run that the first profile says, else the others
abbrev pub run_or : RunKeys → RunKeys → RunKeys
run_or first others = record {
  threads = or_else first.threads others.threads;
  max_fail = or_else first.max_fail others.max_fail;
  global_timeout = or_else first.global_timeout others.global_timeout;
  default_filter = or_else first.default_filter others.default_filter;
}

-- a profile's own level, before what it inherits
abbrev pub joined : Level → Profile → Profile
joined level base = record {
  overrides = level.overrides ++ base.overrides;
  rules = level.rules ++ base.rules;
  plain = level.said ∷ base.plain;
  run = run_or level.run base.run;
}

-- what profiles give together, the first before the others
abbrev pub profile_from : Cfg → List TestGroup → List SetupScript → Option Data → List (List ℕ)
    → ProfileRead Profile
profile_from cfg groups scripts profiles [] = Ok no_profile
profile_from cfg groups scripts profiles (name ∷ names) = do
  level ← level_at cfg groups scripts profiles name
  base ← profile_from cfg groups scripts profiles names
  Ok (joined level base)

-- the groups of tests, in the order of their names
abbrev pub group_entry : List ℕ → List ℕ → Data → ProfileRead TestGroup
group_entry path name d = do
  _ ← only_keys (codes "max-threads" ∷ []) path d
  limit ← needed threads_read path (codes "max-threads") d
  Ok (record { name = name; limit = limit })

abbrev pub group_entries : List ℕ → Members → ProfileRead (List TestGroup)
group_entries path no_members = Ok []
group_entries path (member name d ms) = do
  group ← group_entry (dotted path name) name d
  groups ← group_entries path ms
  Ok (group ∷ groups)

abbrev pub groups_read : Reader (List TestGroup)
groups_read path d = do
  members ← or_refuse (as_table d) (Refused path faults.NotTable)
  group_entries path members

abbrev pub root_keys : List (List ℕ)
root_keys =
    codes "experimental" ∷ codes "nextest-version" ∷ codes "profile" ∷ codes "scripts" ∷ codes "store"
    ∷ codes "test-groups" ∷ []

-- the profile of a name and those that it inherits, no more than so many, and what they give together
abbrev pub named_profile : ℕ → Cfg → List TestGroup → List SetupScript → Option Data → List ℕ
    → ProfileRead (List (List ℕ) × Profile)
named_profile room cfg groups scripts profiles name = do
  names ← chain room profiles name
  profile ← profile_from cfg groups scripts profiles names
  Ok (names, profile)

-- what the profiles of a file share: the groups, the setup scripts, and the versions that it asks for
abbrev pub shared_of : Members → ProfileRead (List TestGroup × List SetupScript × VersionsAsked)
shared_of members = do
  _ ← only_names [] root_keys members
  groups ← nothing_or groups_read (codes "test-groups") (get_member (codes "test-groups") members)
  scripts ← nothing_or scripts_read (codes "scripts") (get_member (codes "scripts") members)
  versions ← versions_at (codes "nextest-version") (get_member (codes "nextest-version") members)
  Ok (groups, scripts, versions)

-- a project: what its profiles share, and what the profile of a name gives, of no more than so many that inherit from
-- each other
unfoldable pub project_of : ℕ → Cfg → List ℕ → Members → ProfileRead Project
project_of room cfg name members = do
  shared ← shared_of members
  named ← named_profile room cfg shared.0 shared.1 (get_member (codes "profile") members) name
  Ok (record {
    groups = shared.0;
    scripts = shared.1;
    versions = shared.2;
    names = named.0;
    profile = named.1;
  })
