-- The lines of faults of jobs, and their statuses.
use Rattle.std.specs.Prelude.{ℕ, List, [], ◌∷◌, Option, Some, codes}
use Rattle.serde_json.specs.Data.{string}
use Rattle.run_output.specs.Faults.{fault_status, fault_text}
use Rattle.run_output.specs.Fields.{count, object_text}
use Rattle.run_jobs_cli.specs.declared.fault.JobsFault.{JobsFault}
use Rattle.run_jobs_cli.specs.declared.fault.JobsFault.TheVariants.{Plain, ZeroThreads, DuplicateName, BadAfter}
use Rattle.run_jobs_cli.specs.declared.fault.JobsFault.TheVariants.{NotEnabled, ThirdSignal, Unfinished, Extra}

-- the exit status of a fault
abbrev pub jobs_fault_status : JobsFault → ℕ
jobs_fault_status (Plain fault) = fault_status fault
jobs_fault_status ZeroThreads = 5
jobs_fault_status (DuplicateName job) = 5
jobs_fault_status (BadAfter job) = 5
jobs_fault_status (NotEnabled turn wave) = 6
jobs_fault_status (ThirdSignal turn wave) = 7
jobs_fault_status (Unfinished wave) = 8
jobs_fault_status (Extra due given) = 14

-- the line of a job that is refused, by what is wrong with it
abbrev pub refused_text : ℕ → List ℕ → List ℕ
refused_text job kind =
    object_text ((codes "fault", Some (string (codes "jobs"))) ∷ (codes "job", Some (count job))
    ∷ (codes "kind", Some (string kind)) ∷ (codes "status", Some (count 5)) ∷ [])

-- the line of a turn of a wave that is refused
abbrev pub turn_fault_text : List ℕ → ℕ → ℕ → ℕ → List ℕ
turn_fault_text word status turn wave =
    object_text ((codes "fault", Some (string word)) ∷ (codes "status", Some (count status))
    ∷ (codes "turn", Some (count turn)) ∷ (codes "wave", Some (count wave)) ∷ [])

-- the line of a fault, without its line feed
abbrev pub jobs_fault_text : JobsFault → List ℕ
jobs_fault_text (Plain fault) = fault_text fault
jobs_fault_text ZeroThreads =
    object_text ((codes "fault", Some (string (codes "jobs"))) ∷ (codes "kind", Some (string (codes "zero-threads")))
    ∷ (codes "status", Some (count 5)) ∷ [])
jobs_fault_text (DuplicateName job) = refused_text job (codes "duplicate-name")
jobs_fault_text (BadAfter job) = refused_text job (codes "bad-after")
jobs_fault_text (NotEnabled turn wave) = turn_fault_text (codes "not-enabled") 6 turn wave
jobs_fault_text (ThirdSignal turn wave) = turn_fault_text (codes "third-signal") 7 turn wave
jobs_fault_text (Unfinished wave) =
    object_text ((codes "fault", Some (string (codes "unfinished"))) ∷ (codes "status", Some (count 8))
    ∷ (codes "wave", Some (count wave)) ∷ [])
jobs_fault_text (Extra due given) =
    object_text ((codes "due", Some (count due)) ∷ (codes "fault", Some (string (codes "extra")))
    ∷ (codes "given", Some (count given)) ∷ (codes "status", Some (count 14)) ∷ [])
