-- What a unit answers, as objects.
use Rattle.std.specs.Prelude.{ℕ, List, [], ◌∷◌, ◌++◌, Option, Some, None, option_map, codes}
use Rattle.serde_json.specs.Data.{Data, boolean, string}
use Rattle.run_commands.specs.declared.errors.SetupScriptOutputError.{SetupScriptOutputError}
use Rattle.run_events.specs.declared.info.UnitState.{UnitState}
use Rattle.run_events.specs.declared.info.UnitState.TheVariants.{Running, Terminating, Exiting, Exited, Delay}
use Rattle.run_events.specs.declared.request.TermSignal.{TermSignal}
use Rattle.run_events.specs.declared.request.TermSignal.TheVariants.{Interrupt, Term, Hangup, Quit, Kill}
use Rattle.run_events.specs.declared.request.TerminateReason.{TerminateReason}
use Rattle.run_events.specs.declared.request.TerminateReason.TheVariants as reasons
use Rattle.run_events.specs.declared.result.ChildExecutionOutput.{ChildExecutionOutput}
use Rattle.run_output.specs.Fields.{count, object_of}
use Rattle.run_output.specs.Errors.{child_errors, errors_data, fault_errors}
use Rattle.run_output.specs.Statuses.{stream_fields}
use Rattle.run_output.specs.Texts.{result_text}

-- the signal that ends a child, by its word
unfoldable pub method_word : TermSignal → List ℕ
method_word Interrupt = codes "interrupt"
method_word Term = codes "term"
method_word Hangup = codes "hangup"
method_word Quit = codes "quit"
method_word Kill = codes "kill"

-- why a child is being ended, by its word
unfoldable pub terminate_word : TerminateReason → List ℕ
terminate_word reasons.Timeout = codes "timeout"
terminate_word (reasons.Signal request) = codes "signal"

-- what a unit is doing
unfoldable pub state_fields : UnitState → List (List ℕ × Option Data)
state_fields (Running pid time slow_after) =
    (codes "kind", Some (string (codes "running")))
    ∷ (codes "pid", Some (count pid))
    ∷ (codes "slow_after", option_map count slow_after)
    ∷ (codes "time", Some (count time))
    ∷ []
state_fields (Terminating pid time reason method waiting) =
    (codes "kind", Some (string (codes "terminating")))
    ∷ (codes "method", Some (string (method_word method)))
    ∷ (codes "pid", Some (count pid))
    ∷ (codes "reason", Some (string (terminate_word reason)))
    ∷ (codes "remaining", Some (count waiting.remaining))
    ∷ (codes "time", Some (count time))
    ∷ (codes "waiting", Some (count waiting.waiting))
    ∷ []
state_fields (Exiting pid time slow_after outcome waiting) =
    (codes "kind", Some (string (codes "exiting")))
    ∷ (codes "pid", Some (count pid))
    ∷ (codes "remaining", Some (count waiting.remaining))
    ∷ (codes "result", option_map (λ r. string (result_text r)) outcome)
    ∷ (codes "slow_after", option_map count slow_after)
    ∷ (codes "time", Some (count time))
    ∷ (codes "waiting", Some (count waiting.waiting))
    ∷ []
state_fields (Exited outcome time slow_after fault) =
    (codes "kind", Some (string (codes "exited")))
    ∷ (codes "result", Some (string (result_text outcome)))
    ∷ (codes "slow_after", option_map count slow_after)
    ∷ (codes "time", Some (count time))
    ∷ []
state_fields (Delay outcome slow waiting) =
    (codes "kind", Some (string (codes "delay")))
    ∷ (codes "remaining", Some (count waiting.remaining))
    ∷ (codes "result", Some (string (result_text outcome)))
    ∷ (codes "slow", Some (boolean slow))
    ∷ (codes "waiting", Some (count waiting.waiting))
    ∷ []

-- the object
abbrev pub state_data : UnitState → Data
state_data state = object_of (state_fields state)

-- what a child wrote, and its errors, with what was wrong with its environment file
abbrev pub output_data : ChildExecutionOutput → Option SetupScriptOutputError → Data
output_data child fault =
    object_of ((codes "errors", errors_data (child_errors child ++ fault_errors fault)) ∷ stream_fields child)

-- in a delay nothing of it is shown
abbrev pub shown_data : UnitState → ChildExecutionOutput → Data
shown_data (Running pid time slow_after) child = output_data child None
shown_data (Terminating pid time reason method waiting) child = output_data child None
shown_data (Exiting pid time slow_after outcome waiting) child = output_data child None
shown_data (Exited outcome time slow_after fault) child = output_data child fault
shown_data (Delay outcome slow waiting) child = object_of []
