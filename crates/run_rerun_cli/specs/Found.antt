-- What a store has, by its bytes, where they are told.
use Rattle.std.specs.Prelude.{ℕ, ◌≡◌, ◌≤◌, ◌<◌, List, length, ⊤, Bool, true, false, Option, Some, None, option_map}
use Rattle.std.specs.Prelude.{if◌then◌else◌}
use Rattle.run_capture.specs.Bytes.{Gives}
use Rattle.run_events.specs.declared.plan.Plan.{Plan}
use Rattle.run_events.specs.declared.turn.Turn.{Turn}
use Rattle.run_input.specs.declared.plan_line.RunnerKeys.{RunnerKeys}
use Rattle.run_input.specs.Input.{plan_line_of}
use Rattle.run_laws.specs.Course.{Stops, refuses_none}
use Rattle.run_store.specs.Stores.{StoreReading, whole, torn, no_plan, bad, IsReading}
use Rattle.run_store_io.specs.Reads.{most_stored}
use Rattle.run_output.specs.declared.fault.PlanFault.{PlanFault}
use Rattle.run_cli.specs.Plans.{settings_for, plan_refusal, IsPlanFault}
use Rattle.run_rerun.specs.Runs.{AreTestsOf}
use Rattle.run_rerun_cli.specs.declared.faults.RerunFault.{RerunFault}
use Rattle.run_rerun_cli.specs.declared.faults.RerunFault.TheVariants as faults
use Rattle.run_rerun.specs.declared.answers.StoredRun.{StoredRun}

-- a store has these bytes, where its bytes are told
abbrev pub HasBytes : Option (List ℕ) → List ℕ → Type 0
HasBytes told bytes = told ≡ option_map (λ _. bytes) told

-- its bytes are read so, and are no more than a store may have
pub record IsStoreOf (told : Option (List ℕ)) (reading : StoreReading) : Type 0 where
  pub bytes : List ℕ
  pub has : HasBytes told bytes
  pub within : length bytes ≤ most_stored
  pub read : IsReading bytes reading

-- it begins with more bytes than a store may have
abbrev pub IsTooLongStore : Option (List ℕ) → Type 0
IsTooLongStore told =
    (front : List ℕ) × (left : Option (List ℕ)) × Gives told left front × (most_stored < length front)

-- it has this plan line, which says this plan, and these turns, and is whole or torn
pub record HasStoredRun (told : Option (List ℕ)) (line : List ℕ) (keys : RunnerKeys) (plan : Plan) (turns : List Turn)
    : Type 0 where
  pub ended : Bool
  pub store : IsStoreOf told (if ended then whole line turns else torn line turns)
  pub says : plan_line_of line ≡ Some (keys, plan)

-- it has this plan line, the tests of its run are these, and it is whole or not
pub record HasTests (told : Option (List ℕ)) (run : StoredRun) : Type 0 where
  pub keys : RunnerKeys
  pub plan : Plan
  pub turns : List Turn
  pub has : HasStoredRun told run.line keys plan turns
  pub ends : run.whole ≡ has.ended
  pub accepted : plan_refusal keys plan ≡ None
  pub tests : AreTestsOf (settings_for keys plan) turns run.tests

-- its turns stop at this place, at a third shutdown signal or not
pub record StopsIn (told : Option (List ℕ)) (place : ℕ) (third : Bool) : Type 0 where
  pub line : List ℕ
  pub keys : RunnerKeys
  pub plan : Plan
  pub turns : List Turn
  pub has : HasStoredRun told line keys plan turns
  pub accepted : plan_refusal keys plan ≡ None
  pub stops : Stops (settings_for keys plan) turns refuses_none place third

-- its plan is refused
pub record IsRefusedIn (told : Option (List ℕ)) (fault : PlanFault) : Type 0 where
  pub line : List ℕ
  pub keys : RunnerKeys
  pub plan : Plan
  pub turns : List Turn
  pub has : HasStoredRun told line keys plan turns
  pub refused : IsPlanFault keys plan fault

-- what each fault says of a store; that it could not be read says nothing of its bytes
abbrev pub ShowsFault : Option (List ℕ) → RerunFault → Type 0
ShowsFault told faults.Read = ⊤
ShowsFault told faults.TooLong = IsTooLongStore told
ShowsFault told faults.Torn = IsStoreOf told no_plan
ShowsFault told (faults.Bad place) = IsStoreOf told (bad place)
ShowsFault told (faults.Plan fault) = IsRefusedIn told fault
ShowsFault told (faults.NotEnabled place) = StopsIn told place false
ShowsFault told (faults.ThirdSignal place) = StopsIn told place true
