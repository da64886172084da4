-- What a chain of stores comes to, and how the program of reruns answers that.
use Rattle.std.specs.Prelude.{ℕ, ◌≡◌, ◌⊎◌, List, [], ◌∷◌, map, take, Option, Some, codes}
use Rattle.serde_json.specs.Data.{Data}
use Rattle.serde_json.specs.Written.{compact_text}
use Rattle.run_events.specs.declared.plan.Plan.{Plan}
use Rattle.run_events.specs.declared.plan.TestInstanceId.{TestInstanceId}
use Rattle.run_input.specs.Input.{plan_line_of}
use Rattle.run_input.specs.ValueOf.{json_value}
use Rattle.run_input.specs.declared.plan_line.RunnerKeys.{RunnerKeys}
use Rattle.run_output.specs.Fields.{count, line_bytes, object_text}
use Rattle.run_rerun.specs.Made.{made, made_keys, made_plan}
use Rattle.run_rerun.specs.Outstanding.{AreOutstanding}
use Rattle.run_cli.specs.Call.{Writing}
use Rattle.run_rerun_cli.specs.declared.verdicts.Verdict.{Verdict}
use Rattle.run_rerun_cli.specs.declared.verdicts.Verdict.TheVariants.{Rerun, NothingLeft, Faulty}
use Rattle.run_rerun.specs.declared.answers.StoredRun.{StoredRun}
use Rattle.run_rerun_cli.specs.Chains.{HaveRuns, IsFirstFault, VisitsTo, newest_line}
use Rattle.run_rerun_cli.specs.LineEnds.{EndsEarly, EndsWith}
use Rattle.run_rerun_cli.specs.RerunFaults.{rerun_fault_status, rerun_fault_text}
use Rattle.run_rerun_cli.specs.Shelves.{Shelf}
use Rattle.run_rerun_cli.specs.Visits.{StoreAct, visits}

-- the text is that of the plan line of a rerun that expects these tests, made of this plan line
pub record IsRerunLine (line : List ℕ) (ids : List TestInstanceId) (text : List ℕ) : Type 0 where
  pub value : Data
  pub value_is : json_value line ≡ Some value
  pub text_is : text ≡ compact_text (made ids value)
  pub says : (keys : RunnerKeys) (plan : Plan) → plan_line_of line ≡ Some (keys, plan)
      → plan_line_of text ≡ Some (made_keys ids keys, made_plan ids plan)

-- all stores of these names have runs, and these tests are outstanding of the chain of them; each store was opened and
-- given back, one by one, and none has failed
pub record LeavesTests (names : List (List ℕ)) (s : Shelf) (Did : List StoreAct → Type 0) (runs : List StoredRun)
    (ids : List TestInstanceId) : Type 0 where
  pub have : HaveRuns s.bytes names runs
  pub left : AreOutstanding (map (λ run. run.tests) runs) ids
  pub did : Did (visits names)
  pub calm : s.faults_after ≡ s.faults

-- what each verdict says of the stores of these names, and of what was done with them
abbrev pub IsVerdict : List (List ℕ) → Shelf → (List StoreAct → Type 0) → Verdict → Type 0
IsVerdict names s Did (Rerun text) =
    (runs : List StoredRun) × (ids : List TestInstanceId) × LeavesTests names s Did runs ids × (ids ≡ [] → ⊥)
    × IsRerunLine (newest_line runs) ids text
IsVerdict names s Did NothingLeft = (runs : List StoredRun) × LeavesTests names s Did runs []
IsVerdict names s Did (Faulty place fault) = IsFirstFault names s place fault × VisitsTo names Did place fault

-- the text of each verdict
abbrev pub verdict_text : Verdict → List ℕ
verdict_text (Rerun text) = text
verdict_text NothingLeft = object_text ((codes "outstanding", Some (count 0)) ∷ [])
verdict_text (Faulty place fault) = rerun_fault_text place fault

-- its status, where its line was written, and where the sink failed
abbrev pub verdict_status : Verdict → ℕ
verdict_status (Rerun text) = 0
verdict_status NothingLeft = 4
verdict_status (Faulty place fault) = rerun_fault_status fault

abbrev pub unwritten_status : Verdict → ℕ
unwritten_status (Rerun text) = 9
unwritten_status NothingLeft = 9
unwritten_status (Faulty place fault) = rerun_fault_status fault

-- the stores of these names came to a verdict, and its line was written, or the sink failed, or memory was wanting; or
-- memory was wanting before that, after some of the stores were opened and given back, and none has failed
abbrev pub AnswersRerun : List (List ℕ) → Shelf → (List StoreAct → Type 0) → Writing → ℕ → Type 0
AnswersRerun names s Did w status =
    ((verdict : Verdict) × IsVerdict names s Did verdict
    × EndsWith w (line_bytes (verdict_text verdict)) (verdict_status verdict) (unwritten_status verdict) status)
    ⊎ (EndsEarly w status × ((count : ℕ) × Did (visits (take count names))) × (s.faults_after ≡ s.faults))
