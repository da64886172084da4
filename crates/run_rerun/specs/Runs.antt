-- What is said of a stored run.
use Rattle.std.specs.Prelude.{ℕ, ◌≡◌, ◌⊎◌, List, Bool, true, false, None, IsSome, Result, Ok, Err, ⊤}
use Rattle.run_events.specs.declared.plan.Plan.{Plan}
use Rattle.run_events.specs.declared.settings.Settings.{Settings}
use Rattle.run_events.specs.declared.turn.Turn.{Turn}
use Rattle.run_input.specs.declared.plan_line.RunnerKeys.{RunnerKeys}
use Rattle.run_model.specs.declared.entry.Entry.{Entry}
use Rattle.run_model.specs.Journal.{past_of}
use Rattle.run_model.specs.Words.{is_over, told}
use Rattle.run_laws.specs.Course.{IsJournalOf, Stops, refuses_none}
use Rattle.run_cli.specs.Plans.{plan_refusal, settings_for}
use Rattle.run_rerun.specs.declared.answers.RunTests.{RunTests}
use Rattle.run_rerun.specs.declared.answers.RerunError.{RerunError}
use Rattle.run_rerun.specs.declared.answers.RerunError.TheVariants.{Plan as Refused, NotEnabled, ThirdSignal}
use Rattle.run_rerun.specs.declared.answers.RerunError.TheVariants.{OutOfMemory}
use Rattle.run_rerun.specs.Outstanding.{ids_had, ids_passed}

-- the tests of a run with these settings that took just these turns: those that it has, and those that passed by what
-- it told a reporter that refuses nothing; and whether it is over
pub record AreTestsOf (p : Settings) (turns : List Turn) (tests : RunTests) : Type 0 where
  pub journal : List Entry
  pub took : IsJournalOf p turns refuses_none journal
  pub had : tests.has ≡ ids_had p.plan
  pub passes : tests.passed ≡ ids_passed p.plan (told (past_of p journal))
  pub ends : tests.over ≡ is_over (past_of p journal)

-- what each answer says of the turns, after a plan that isn't refused
abbrev pub SaysTests : Settings → List Turn → Result RunTests RerunError → Type 0
SaysTests p turns (Ok tests) = AreTestsOf p turns tests
SaysTests p turns (Err (NotEnabled place)) = Stops p turns refuses_none place false
SaysTests p turns (Err (ThirdSignal place)) = Stops p turns refuses_none place true
SaysTests p turns (Err OutOfMemory) = ⊤
SaysTests p turns (Err Refused) = ⊥

-- what each answer says of a plan with its keys, and of the turns
abbrev pub SaysStored : RunnerKeys → Plan → List Turn → Result RunTests RerunError → Type 0
SaysStored keys plan turns (Err Refused) = IsSome (plan_refusal keys plan)
SaysStored keys plan turns (Err OutOfMemory) = ⊤
SaysStored keys plan turns answer = (plan_refusal keys plan ≡ None) × SaysTests (settings_for keys plan) turns answer

-- where turns stop, as an error
abbrev pub stop_error : ℕ → Bool → RerunError
stop_error place true = ThirdSignal place
stop_error place false = NotEnabled place

-- what turns are answered, unless memory was wanting: where they stop, or the tests of a run that took them all
pub record GetsTests (p : Settings) (turns : List Turn) (answer : Result RunTests RerunError) : Type 0 where
  pub stopped : (place : ℕ) (third : Bool) → Stops p turns refuses_none place third
      → (answer ≡ Err (stop_error place third)) ⊎ (answer ≡ Err OutOfMemory)
  pub taken : (journal : List Entry) → IsJournalOf p turns refuses_none journal
      → ((tests : RunTests) × (answer ≡ Ok tests)) ⊎ (answer ≡ Err OutOfMemory)

-- what a plan with its keys and turns are answered, unless memory was wanting
pub record GetsStored (keys : RunnerKeys) (plan : Plan) (turns : List Turn) (answer : Result RunTests RerunError)
    : Type 0 where
  pub refused : IsSome (plan_refusal keys plan) → (answer ≡ Err Refused) ⊎ (answer ≡ Err OutOfMemory)
  pub built : plan_refusal keys plan ≡ None → GetsTests (settings_for keys plan) turns answer
