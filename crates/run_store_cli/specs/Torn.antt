-- How the turns of a torn store end.
use Rattle.std.specs.Prelude.{ℕ, ◌≡◌, ◌⊎◌, List, ◌++◌, length, Option, Some, None, IsSome, Bool, true, false, Result}
use Rattle.std.specs.Prelude.{Ok, Err}
use Rattle.run_capture.specs.declared.source.Failed.{Failed}
use Rattle.run_events.specs.declared.plan.Plan.{Plan}
use Rattle.run_events.specs.declared.settings.Settings.{Settings}
use Rattle.run_events.specs.declared.turn.Turn.{Turn}
use Rattle.run_events.specs.declared.outcome.RunOutcome.{RunOutcome}
use Rattle.run_input.specs.declared.plan_line.RunnerKeys.{RunnerKeys}
use Rattle.run_model.specs.declared.entry.Entry.{Entry}
use Rattle.run_model.specs.declared.happening.Happening.{Happening}
use Rattle.run_model.specs.Words.{asked}
use Rattle.run_model.specs.Journal.{past_of, IsLegal}
use Rattle.run_laws.specs.Course.{turns_of}
use Rattle.run_engine.specs.declared.errors.TestRunnerExecuteErrors.{TestRunnerExecuteErrors}
use Rattle.run_engine.specs.declared.errors.TestRunnerExecuteErrors.TheVariants as engine
use Rattle.run_output.specs.Asks.{ask_lines}
use Rattle.run_output.specs.declared.fault.Fault.{Fault}
use Rattle.run_output.specs.declared.fault.Fault.TheVariants.{NotEnabled, ThirdSignal, Memory, Plan as BadPlan}
use Rattle.run_output.specs.declared.fault.PlanFault.{PlanFault}
use Rattle.run_output.specs.Faults.{fault_status}
use Rattle.run_store_io.specs.declared.fault_lines.StoreFault.TheVariants.{Torn}
use Rattle.run_cli.specs.Call.{Writing, then_writing, HasTaken, HasWriteFault, Writes}
use Rattle.run_cli.specs.Executed.{TookEvents, TookParts}
use Rattle.run_cli.specs.Finish.{IsAnswered, IsReplayed, IsReplayEnding}
use Rattle.run_cli.specs.Plans.{settings_for, plan_refusal, IsPlanFault}
use Rattle.run_cli.specs.Short.{IsShort, RunsShort}
use Rattle.run_cli.specs.Text.{joined, whole_form, fault_only}
use Rattle.run_store_cli.specs.Ends.{store_fault_only}

-- the lines after those of events: of what a history asked, and that the store is torn after so many turns
abbrev pub torn_rest : List Happening → ℕ → List ℕ
torn_rest past n = ask_lines (asked past) ++ store_fault_only (Torn n)

-- every turn was taken, and the lines are theirs and the torn one: whole where the sink didn't fail, and else parts of
-- them; and nothing else
pub record WritesTorn (p : Settings) (turns : List Turn) (w : Writing) : Type 0 where
  pub run : IsReplayed p w
  pub all : turns_of run.journal ≡ turns
  pub whole : ¬ HasWriteFault w
      → HasTaken w (joined (whole_form.lines (past_of p run.journal)) ++ torn_rest (past_of p run.journal)
      (length turns))
  pub parts : TookParts whole_form (past_of p run.journal) (torn_rest (past_of p run.journal) (length turns)) w

-- every turn was taken, and memory was wanting for the rest: after the lines of the events a front part of it went out
pub record TornShort (p : Settings) (turns : List Turn) (w : Writing) : Type 0 where
  pub journal : List Entry
  pub legal : IsLegal p journal
  pub all : turns_of journal ≡ turns
  pub between : Option (List ℕ)
  pub count : ℕ
  pub events : TookEvents whole_form (past_of p journal) (record w { taken_after = between; faults_after = count })
  pub last : IsShort (torn_rest (past_of p journal) (length turns)) (record w { taken = between; faults = count })

-- the fault of turns that were not all taken, where there is one
abbrev pub stop_of : Result RunOutcome (TestRunnerExecuteErrors Failed) → Option Fault
stop_of (Ok outcome) = None
stop_of (Err (engine.Report e)) = None
stop_of (Err engine.Unfinished) = None
stop_of (Err (engine.NotEnabled place)) = Some (NotEnabled place)
stop_of (Err (engine.ThirdSignal place)) = Some (ThirdSignal place)
stop_of (Err engine.OutOfMemory) = Some Memory

-- whether a fault says where turns stop: at one that isn't enabled
abbrev pub stops_play : Fault → Bool
stops_play (NotEnabled place) = true
stops_play (ThirdSignal place) = true
stops_play _ = false

-- memory was wanting for turns that stop: while they were taken, or for the lines that say where they stop. So what was
-- left to write ends with no outcome
abbrev pub StopsForMemory : Settings → List Turn → Writing → Type 0
StopsForMemory p turns w = (short : RunsShort whole_form p turns w) × IsSome (stop_of short.answer)

-- turns stop as those of a replay do: at one that isn't enabled, or for want of memory
abbrev pub StopsSo : Settings → List Turn → Writing → ℕ → Type 0
StopsSo p turns w status =
    ((fault : Fault) × (stops_play fault ≡ true) × (status ≡ fault_status fault)
    × IsReplayEnding whole_form p turns w (Err fault))
    ⊎ ((status ≡ 11) × StopsForMemory p turns w)

-- the turns of a torn store end so: all were taken, with status 14 in place of an outcome's and of 8 and 9; or they
-- stop; or memory was wanting after all
abbrev pub IsTornEnd : Settings → List Turn → Writing → ℕ → Type 0
IsTornEnd p turns w status =
    ((status ≡ 14) × WritesTorn p turns w) ⊎ (StopsSo p turns w status ⊎ ((status ≡ 11) × TornShort p turns w))

-- whatever turns this is the answer to, with these lines of asks and a sink that is left as this writing found it, they
-- end so
abbrev pub FinishesTorn : Writing → List ℕ → Result RunOutcome (TestRunnerExecuteErrors Failed) → ℕ → ℕ → Type 0
FinishesTorn v asks answer n status =
    (p : Settings) (turns : List Turn) (w : Writing) → v.taken ≡ w.taken_after → v.faults ≡ w.faults_after
    → n ≡ length turns → IsAnswered whole_form p turns w asks answer → IsTornEnd p turns (then_writing w v) status

-- a plan and the turns of a torn store end so: the plan is refused, or memory was wanting for that; or the turns end so
abbrev pub IsTornInput : RunnerKeys → Plan → List Turn → Writing → ℕ → Type 0
IsTornInput keys plan turns w status =
    ((plan_refusal keys plan ≡ None) × IsTornEnd (settings_for keys plan) turns w status)
    ⊎ (((fault : PlanFault) × (status ≡ 5) × IsPlanFault keys plan fault × Writes w (fault_only (BadPlan fault)))
    ⊎ ((status ≡ 11) × ((fault : Fault) × IsShort (fault_only fault) w)))
