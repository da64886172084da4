-- What a plan line says of what a run is to its children, and of the runners of its tests.
use Rattle.std.specs.Prelude.{ℕ, ℤ, pos, neg_ℤ, ◌≤ℤ◌, ◌==◌, ◌&&◌, not, Bool, true, false, T, List, [], ◌∷◌, length}
use Rattle.std.specs.Prelude.{Option, Some, None, option_and_then, if◌then◌else◌, nat_eq, codes}
use Rattle.std.specs.List.{starts_with}
use Rattle.std.specs.Result.{result_ok}
use Rattle.serde_json.specs.Data.{Data, Items, no_items, item}
use Rattle.serde_json.specs.Find.{get, as_str, as_array}
use Rattle.uuid.specs.Text.{parsed}
use Rattle.jiff.specs.Words.{parse_timestamp}
use Rattle.jiff_core.specs.declared.timestamp.Timestamp.{Timestamp}
use Rattle.semver.specs.Parse.{version_parts}
use Rattle.run_commands.specs.Versions.{Parts, Versions}
use Rattle.run_commands.specs.TargetRunner.{no_runners, runners_with, runner_with}
use Rattle.run_commands.specs.declared.target_runner.TargetRunner.{TargetRunner}
use Rattle.run_commands.specs.declared.target_runner.PlatformRunner.{PlatformRunner}
use Rattle.run_commands.specs.declared.target_runner.PlatformRunnerSource.TheVariants.{Env}
use Rattle.run_events.specs.declared.plan.RunHead.{RunHead}
use Rattle.run_events.specs.declared.retry_policy.RunMode.{RunMode}
use Rattle.run_events.specs.declared.retry_policy.RunMode.TheVariants as modes
use Rattle.run_events.specs.Usual.{usual_versions}
use Rattle.run_input.specs.Fields.{◌>>=◌, when, is_object_of, optional, or_usual, texts_from, texts_of}
use lib.Pointwise.{pointwise}
use lib.Signed.{le_z, le_z_yes}

-- the UUID that a text writes; the prefix of the urn form, the one of 45 bytes, is in lower case
abbrev pub uuid_of : List ℕ → Option (List ℕ)
uuid_of text = if (length text == 45) && not (starts_with nat_eq text (codes "urn:uuid:")) then None else parsed text

-- the UUID of a run
abbrev pub run_id_of : Data → Option (List ℕ)
run_id_of d = option_and_then uuid_of (as_str d)

-- what a text says that a run is of
abbrev pub mode_named : List ℕ → Option RunMode
mode_named name =
    if pointwise nat_eq name (codes "test") then Some modes.Test
    else if pointwise nat_eq name (codes "benchmark") then Some modes.Benchmark
    else None

abbrev pub mode_from : Data → Option RunMode
mode_from d = option_and_then mode_named (as_str d)

-- the first moment that a timestamp has, and the last, in nanoseconds since the start of 1970
abbrev pub first_moment : ℤ
first_moment = neg_ℤ (pos 377_705_023_201_000_000_000)

abbrev pub last_moment : ℤ
last_moment = pos 253_402_207_200_999_999_999

-- the moment so many nanoseconds after the start of 1970, where it isn't after the last one, and isn't before the first
abbrev pub not_after_last : (n : ℤ) → first_moment ≤ℤ n → (b : Bool) → (T b → n ≤ℤ last_moment) → Option Timestamp
not_after_last n above true below = Some (record { nanosecond = n; in_range = (above, below tt) })
not_after_last n above false below = None

abbrev pub not_before_first : (n : ℤ) → (b : Bool) → (T b → first_moment ≤ℤ n) → Option Timestamp
not_before_first n true above = not_after_last n (above tt) (le_z n last_moment) (λ h. le_z_yes h)
not_before_first n false above = None

-- the moment so many nanoseconds after the start of 1970, where there is one
abbrev pub moment_at : ℤ → Option Timestamp
moment_at n = not_before_first n (le_z first_moment n) (λ h. le_z_yes h)

-- the moment that a text writes in the Temporal format
abbrev pub moment_named : List ℕ → Option Timestamp
moment_named text = option_and_then moment_at (result_ok (parse_timestamp text))

abbrev pub moment_of : Data → Option Timestamp
moment_of d = option_and_then moment_named (as_str d)

-- the version that a text writes
abbrev pub version_named : List ℕ → Option Parts
version_named text = result_ok (version_parts text)

abbrev pub version_of : Data → Option Parts
version_of d = option_and_then version_named (as_str d)

-- the versions that a child is told, 0.0.0 and none that the project asks for where nothing else is said
abbrev pub versions_of : Data → Option Versions
versions_of d = do
  current ← or_usual usual_versions.current version_of (get (codes "nextest_version") d)
  required ← optional version_of (get (codes "required_version") d)
  recommended ← optional version_of (get (codes "recommended_version") d)
  Some (record { current = current; required = required; recommended = recommended })

-- which run it is, when its clock is 0, and what it is of
abbrev pub run_of : Data → Option (List ℕ × Option Timestamp × RunMode)
run_of d = do
  run_id ← option_and_then run_id_of (get (codes "run_id") d)
  started_at ← optional moment_of (get (codes "started_at") d)
  mode ← or_usual modes.Test mode_from (get (codes "mode") d)
  Some (run_id, started_at, mode)

-- its profile, its folder, and the words with which the runner was called
abbrev pub words_of : Data → Option (List ℕ × List ℕ × List (List ℕ))
words_of d = do
  profile ← or_usual (codes "default") as_str (get (codes "profile") d)
  root ← or_usual (codes "/") as_str (get (codes "workspace_root") d)
  args ← or_usual [] texts_of (get (codes "args") d)
  Some (profile, root, args)

-- what a run is to its children
abbrev pub head_from : Data → Option RunHead
head_from d = do
  run ← run_of d
  words ← words_of d
  versions ← versions_of d
  Some (record {
    run_id = run.0;
    started_at = run.1;
    profile = words.0;
    workspace_root = words.1;
    args = words.2;
    mode = run.2;
    versions = versions;
  })

-- the runner whose program is the first of items, and whose arguments are the others
abbrev pub runner_from : Items → Option PlatformRunner
runner_from no_items = None
runner_from (item d ds) = do
  binary ← as_str d
  args ← texts_from ds
  Some (runner_with binary args (Env (codes "nextest_run")))

abbrev pub runner_of : Data → Option PlatformRunner
runner_of d = option_and_then runner_from (as_array d)

-- the runners of both platforms, each where it is named
unfoldable pub runners_of : Data → Option TargetRunner
runners_of d = do
  _ ← when (is_object_of (codes "host" ∷ codes "target" ∷ []) d)
  host ← optional runner_of (get (codes "host") d)
  target ← optional runner_of (get (codes "target") d)
  Some (runners_with host target)

-- what a run is to its children, and the runners of its tests
abbrev pub frame_of : Data → Option (RunHead × TargetRunner)
frame_of d = do
  head ← head_from d
  runners ← or_usual no_runners runners_of (get (codes "runners") d)
  Some (head, runners)
