-- What a recorded run says.
use Rattle.std.specs.Prelude.{ℕ, ◌≡◌, List, [], Option, true}
use Rattle.std.specs.Option.{IfSome}
use Rattle.run_events.specs.declared.turn.Turn.{Turn}
use Rattle.run_cli.specs.Call.{Writing}
use Rattle.run_cli.specs.Live.{is_unbegun}
use Rattle.run_whole_cli.specs.Answers.{AnswersWhole}
use Rattle.run_whole_cli.specs.Hears.{AreLegal, turns_left}
use Rattle.run_whole_cli.specs.Relations.{Relations}
use Rattle.run_whole_cli.specs.declared.left.WholeLeft.{WholeLeft}
use Rattle.run_record.specs.Recorded.{IsRunRecord}
use Rattle.run_record.specs.Statuses.{is_over_status, recorded_status}
use Rattle.run_record.specs.declared.outcome.RecordOutcome.{RecordOutcome}

-- what a recorded run says: its run answered as without a record, a second sink took the record of the turns that it
-- took, and the status is that of both. They are those of its journal where one is left, else those of a legal journal,
-- and none where no run was begun
pub record AnswersRecorded {W T O S : Type 0} (k : Relations W T O S) (line : List ℕ) (w v : Writing)
    (left : Option (WholeLeft W T O S)) (own : ℕ) (end : RecordOutcome) (status : ℕ) : Type 0 where
  pub ran : AnswersWhole k line w left own
  pub turns : List Turn
  pub journal : IfSome left (λ l. turns ≡ turns_left l)
  pub legal : AreLegal turns
  pub none : is_unbegun own ≡ true → turns ≡ []
  pub kept : IsRunRecord (is_over_status own) line turns v end
  pub status_is : status ≡ recorded_status end own
