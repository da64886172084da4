-- What the threads of a run leave, and the last lines that are written by it.
use Rattle.std.specs.Prelude.{ℕ, ◌≡◌, ◌≢◌, ◌⊎◌, ◌<◌, ◌++◌, ◌||◌, ◌==◌, List, length, take, Bool, true, false}
use Rattle.std.specs.Prelude.{is_some, Option, Some, None, Result, Ok, Err, IfSome}
use Rattle.std.specs.Option.{IsNone}
use Rattle.std.specs.List.{All}
use Rattle.run_capture.specs.declared.source.Failed.{Failed}
use Rattle.run_events.specs.declared.settings.Settings.{Settings}
use Rattle.run_events.specs.declared.events.ReporterEvent.{ReporterEvent}
use Rattle.run_events.specs.declared.outcome.RunOutcome.{RunOutcome}
use Rattle.run_model.specs.Words.{times}
use Rattle.run_shared.specs.declared.closing.CloseKind.TheVariants.{OutOfMemory as CloseMemory}
use Rattle.run_shared.specs.declared.order_check.OrderFault.{OrderFault}
use Rattle.run_shared.specs.declared.order_check.OrderFault.TheVariants.{OutOfMemory}
use Rattle.run_shared.specs.Closed.{IsLeft, IsLeftUnclosed, Refuses}
use Rattle.run_shared.specs.Orders.{Delivers, IsOrderFault}
use Rattle.run_shared.specs.Receipts.{concatenated, receipt_numbers, StandsIn}
use Rattle.run_output.specs.Fields.{line_bytes}
use Rattle.run_output.specs.declared.fault.Fault.{Fault}
use Rattle.run_output.specs.Faults.{fault_text}
use Rattle.run_output.specs.declared.fault.Fault.TheVariants.{Memory, ThirdSignal}
use Rattle.run_whole.specs.declared.left.Whole.{Whole}
use Rattle.run_whole.specs.declared.left.WholeError.{WholeError}
use Rattle.run_whole.specs.declared.left.WholeError.TheVariants.{Receipts, Orders}
use Rattle.run_whole.specs.Whole.{order_fault, receipts_error}
use Rattle.run_cli.specs.declared.live.LiveEnding.{LiveEnding}
use Rattle.run_cli.specs.declared.live.LiveEnding.TheVariants as lives
use Rattle.run_cli.specs.Call.{Writing, HasTaken, Writes}
use Rattle.run_cli.specs.Finish.{EndsAtFault}
use Rattle.run_cli.specs.Lived.{EndsAtReceipt, EndsOver, IsOpenFault}
use Rattle.run_cli.specs.Short.{IsShort}
use Rattle.run_cli.specs.Text.{fault_only}
use Rattle.run_whole_cli.specs.OrderText.{order_text}
use Rattle.run_whole_cli.specs.Relations.{Relations}
use Rattle.run_whole_cli.specs.Ends.{HaveReceipts, handed_in}
use Rattle.run_whole_cli.specs.declared.left.WholeEnding.{WholeEnding}
use Rattle.run_whole_cli.specs.declared.left.WholeEnding.TheVariants as ends

-- what the threads of a run of these settings leave
pub record IsLeftWhole {W T O S R : Type 0} (k : Relations W T O S)
    (tells : R → List (ReporterEvent × Option Failed) → Type 0) (p : Settings) (w : Whole W T O S R) : Type 0 where
  pub threads : HaveReceipts k p w.threads w.run.receipts
  pub left : IsNone (receipts_error w.error) → IsLeft tells w.run.report w.run.asks p w.run.journal w.run.outcome
  pub stands : IsNone (receipts_error w.error) → All (StandsIn w.run.journal) (concatenated w.run.receipts)
  pub once : IsNone (receipts_error w.error) → (n : ℕ) → n < length w.run.journal
      → times n (receipt_numbers (concatenated w.run.receipts)) ≡ 1
  pub delivers : IsNone w.error → Delivers w.run.asks (handed_in w.threads)
  pub undelivered : IfSome (order_fault w.error) (IsOrderFault w.run.asks (handed_in w.threads))
  pub fault_kind : IfSome (order_fault w.error) (λ f. f ≢ OutOfMemory)
  pub left_too : IfSome (receipts_error w.error)
      (λ e. IsLeftUnclosed tells w.run.report w.run.asks p w.run.journal e.kind)
  pub refused : IfSome (receipts_error w.error)
      (λ e. Refuses p w.run.journal (concatenated w.run.receipts) e.kind)
  pub kind : IfSome (receipts_error w.error) (λ e. e.kind ≢ CloseMemory)

-- how a run ends whose last lines ended so
abbrev pub so_ended : LiveEnding → WholeEnding
so_ended (lives.Outcome o) = ends.Outcome o
so_ended (lives.Fault fault) = ends.Fault fault
so_ended lives.Receipt = ends.Receipt

abbrev pub end_by : Result RunOutcome Fault → WholeEnding
end_by (Ok o) = ends.Outcome o
end_by (Err fault) = ends.Fault fault

-- what is handed back of a run that ended so: nothing where memory was wanting
abbrev pub left_by : {L : Type 0} → WholeEnding → L → Option L
left_by (ends.Fault Memory) l = None
left_by _ l = Some l

-- the line of a fault was written, where the sink failed a front part of it, unless memory was wanting
abbrev pub EndsWithout : Writing → Fault → WholeEnding → Type 0
EndsWithout w fault ending =
    ((ending ≡ ends.Fault Memory) × IsShort (fault_only fault) w)
    ⊎ ((ending ≡ ends.Fault fault) × Writes w (fault_only fault))

-- the lines of asks and of what is wrong with what was handed on were written, where the sink failed a front part of
-- them; or memory was wanting, and none of them was
abbrev pub EndsAtOrder : Writing → List ℕ → OrderFault → WholeEnding → Type 0
EndsAtOrder w asks fault ends.Order = Writes w (asks ++ line_bytes (order_text fault))
EndsAtOrder w asks fault (ends.Fault Memory) = (n : ℕ) × HasTaken w (take n (fault_only Memory))
EndsAtOrder w asks fault _ = ⊥

-- the lines of asks and of a third signal were written, where the sink failed a front part of them; or memory was
-- wanting, and none of them was
abbrev pub EndsAtThird : Writing → List ℕ → ℕ → WholeEnding → Type 0
EndsAtThird w asks place (ends.Fault (ThirdSignal at)) =
    (at ≡ place) × Writes w (asks ++ line_bytes (fault_text (ThirdSignal place)))
EndsAtThird w asks place (ends.Fault Memory) = (n : ℕ) × HasTaken w (take n (fault_only Memory))
EndsAtThird w asks place _ = ⊥

-- whether a run with a journal of this length and with this outcome, if it has one, takes no turn any more
abbrev pub is_stopped : ℕ → Option RunOutcome → Bool
is_stopped len end = is_some end || (len == 4294967295)

-- so the last lines of a run end that takes no turn any more; of another that memory was wanting
abbrev pub EndsUndelivered : Writing → List ℕ → OrderFault → Bool → WholeEnding → Type 0
EndsUndelivered w asks fault true ending = EndsAtOrder w asks fault ending
EndsUndelivered w asks fault false ending =
    (end : Result RunOutcome Fault) × (ending ≡ end_by end) × EndsAtFault w asks Memory end

-- the last lines of a run with nothing wrong were written: of one that is over its asks and its outcome, or where an
-- event was refused the fault; of another why it isn't
abbrev pub EndsPlain : Writing → List ℕ → ℕ → Option RunOutcome → Bool → Result RunOutcome Fault → Type 0
EndsPlain w asks len (Some o) refused end = EndsOver w asks o refused end
EndsPlain w asks len None refused end = (fault : Fault) × IsOpenFault len fault × EndsAtFault w asks fault end

-- the last lines of a run were written, by what is wrong with it
abbrev pub EndsWhole : Writing → List ℕ → Option WholeError → ℕ → Option RunOutcome → Bool → WholeEnding → Type 0
EndsWhole w asks (Some (Receipts error)) len outcome refused ending =
    (end : LiveEnding) × (ending ≡ so_ended end) × EndsAtReceipt w asks error.kind end
EndsWhole w asks (Some (Orders fault)) len outcome refused ending =
    EndsUndelivered w asks fault (is_stopped len outcome) ending
EndsWhole w asks None len outcome refused ending =
    (end : Result RunOutcome Fault) × (ending ≡ end_by end) × EndsPlain w asks len outcome refused end
