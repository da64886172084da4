-- What came of a turn that was offered to a run.
use Rattle.std.specs.Prelude.{ℕ, Result, Ok, Err}
use Rattle.run_events.specs.declared.turn.Turn.{Turn}
use Rattle.run_engine.specs.declared.errors.StepError.{StepError}
use Rattle.run_engine.specs.declared.errors.StepError.TheVariants as errors
use Rattle.run_shared.specs.declared.offered.Offered.{Offered}
use Rattle.run_shared.specs.declared.offered.Offered.TheVariants.{Taken, Refused}
use Rattle.run_shared.specs.declared.offered.RefusalKind.{RefusalKind}
use Rattle.run_shared.specs.declared.offered.RefusalKind.TheVariants.{NotEnabled, ThirdSignal, Full}

-- the turn that was offered
abbrev pub offered_turn : Offered → Turn
offered_turn (Taken receipt) = receipt.turn
offered_turn (Refused refusal) = refusal.turn

-- how many turns were taken
abbrev pub taken_count : Offered → ℕ
taken_count (Taken receipt) = 1
taken_count (Refused refusal) = 0

-- the error of a refusal
abbrev pub step_error : RefusalKind → StepError
step_error NotEnabled = errors.NotEnabled
step_error ThirdSignal = errors.ThirdSignal
step_error Full = errors.Full

-- what the run answered: the turn's place, or why it was refused
abbrev pub step_answer : Offered → Result ℕ StepError
step_answer (Taken receipt) = Ok receipt.number
step_answer (Refused refusal) = Err (step_error refusal.kind)
