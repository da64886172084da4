-- The status of a run that is recorded.
use Rattle.std.specs.Prelude.{ℕ, ◌==◌, ◌∷◌, [], Bool, if◌then◌else◌}
use Rattle.std.specs.List.{list_any}
use Rattle.run_record.specs.declared.outcome.RecordOutcome.{RecordOutcome}
use Rattle.run_record.specs.declared.outcome.RecordOutcome.TheVariants.{Recorded, Planless, Unwritten, Unstorable}
use Rattle.run_record.specs.declared.outcome.RecordOutcome.TheVariants.{NoMemory}

-- the statuses of a run that is over: those of outcomes, and that of a refused event
abbrev pub is_over_status : ℕ → Bool
is_over_status status = list_any (λ known. known == status) (0 ∷ 4 ∷ 9 ∷ 100 ∷ 105 ∷ [])

-- the status of a run that is over, by what became of its record
abbrev pub status_for_outcome : RecordOutcome → ℕ → ℕ
status_for_outcome Recorded status = status
status_for_outcome Planless status = status
status_for_outcome Unwritten status = 9
status_for_outcome Unstorable status = 12
status_for_outcome NoMemory status = 11

-- the status of a recorded run: any other run keeps its own
abbrev pub recorded_status : RecordOutcome → ℕ → ℕ
recorded_status end status = if is_over_status status then status_for_outcome end status else status
