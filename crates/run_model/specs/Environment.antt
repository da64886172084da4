-- What the child of a unit is started with: its command, its variables and its streams.
use Rattle.std.specs.Prelude.{ℕ, ◌+◌, List, [], ◌∷◌, ◌++◌, Bool, if◌then◌else◌, Option, Some, None}
use Rattle.run_capture.specs.declared.test_output.Stream.{Stream}
use Rattle.run_capture.specs.declared.test_output.Stream.TheVariants as streams
use Rattle.run_commands.specs.Pair.{Pair}
use Rattle.run_events.specs.Variables.{script_variables, test_variables}
use Rattle.run_events.specs.declared.ask.Ask.{Ask}
use Rattle.run_events.specs.declared.ask.Ask.TheVariants.{Start as AskStart}
use Rattle.run_events.specs.declared.message.ScriptStart.{ScriptStart}
use Rattle.run_events.specs.declared.message.TestStart.{TestStart}
use Rattle.run_events.specs.declared.retry_policy.RetryPolicy.{RetryPolicy}
use Rattle.run_model.specs.declared.unit_view.CapturedStreams.{CapturedStreams}
use Rattle.run_model.specs.declared.unit_view.CapturedStreams.TheVariants as captured
use Rattle.run_model.specs.declared.unit_view.ScriptRole.{ScriptRole}
use Rattle.run_model.specs.declared.unit_view.TestRole.{TestRole}
use Rattle.run_model.specs.declared.unit_view.UnitRole.{UnitRole}
use Rattle.run_model.specs.declared.unit_view.UnitRole.TheVariants as roles
use Rattle.run_model.specs.declared.unit_view.UnitView.{UnitView}
use Rattle.run_model.specs.Backoff.{retry_count}

-- the number of a unit
abbrev pub number_of : UnitRole → ℕ
number_of (roles.Test t) = t.test.unit
number_of (roles.Script s) = s.script.unit

abbrev pub number : UnitView → ℕ
number u = number_of u.role

-- how many attempts a unit has at most
abbrev pub attempts_by : RetryPolicy → ℕ
attempts_by retries = retry_count retries + 1

abbrev pub attempts : UnitView → ℕ
attempts u = attempts_by u.terms.retries

-- a test, and a script, as its starts tell it
abbrev pub test_start : TestRole → UnitView → TestStart
test_start t u = record { test = t.test; command = u.command; slot = t.slot }

abbrev pub script_start : ScriptRole → UnitView → ScriptStart
script_start s u = record { script = s.script; command = u.command }

-- the variables of a unit's child
abbrev pub environment_as : UnitRole → UnitView → List Pair
environment_as (roles.Test t) u = test_variables (record {
  run = u.around.run;
  id = t.test.id;
  attempt = u.attempt;
  attempts = attempts u;
  stress_index = t.test.stress_index;
  slot = t.slot;
  handed = t.handed;
})
environment_as (roles.Script s) u = script_variables (record { run = u.around.run; env_path = s.env_path })

-- where a script's child writes the variables that it hands on
abbrev pub env_path_of : UnitRole → Option (List ℕ)
env_path_of (roles.Test t) = None
env_path_of (roles.Script s) = Some s.env_path

-- the captured streams, in order
abbrev pub split_streams : Bool → Bool → List Stream
split_streams stdout stderr =
    (if stdout then streams.Stdout ∷ [] else []) ++ (if stderr then streams.Stderr ∷ [] else [])

abbrev pub streams_of : CapturedStreams → List Stream
streams_of (captured.Apart stdout stderr) = split_streams stdout stderr
streams_of captured.Combined = streams.Combined ∷ []

-- the start of a unit's child that is asked where its attempt is let go: the words of the interceptor, which a script
-- has none of, stand before its command
unfoldable pub start_ask : UnitView → Ask
start_ask u = AskStart (record {
  unit = number u;
  attempt = u.attempt;
  command = u.around.wrapper ++ u.command;
  env = environment_as u.role u;
  group = u.around.group;
  stdin = u.around.stdin;
  streams = streams_of u.terms.streams;
  env_path = env_path_of u.role;
})
