-- How the run of a plan ends whose asked signals are delivered: what is left of it, and what it wrote.
use Rattle.std.specs.Prelude.{ℕ, ◌≡◌, ◌≢◌, ◌⊎◌, ◌+◌, ◌<◌, ◌++◌, List, length, map, Bool, false, Option, Some, None}
use Rattle.std.specs.Prelude.{IsSomeAnd, Ok, Err}
use Rattle.std.specs.Option.{IsNone}
use Rattle.std.specs.List.{All}
use Rattle.run_events.specs.declared.settings.Settings.{Settings}
use Rattle.run_events.specs.declared.outcome.RunOutcome.{RunOutcome}
use Rattle.run_events.specs.declared.ask.Ask.{Ask}
use Rattle.run_events.specs.declared.events.ReporterEvent.{ReporterEvent}
use Rattle.run_capture.specs.declared.source.Failed.{Failed}
use Rattle.run_engine.specs.Heard.{IsFurther}
use Rattle.run_engine.specs.World.{flagged}
use Rattle.run_model.specs.declared.entry.Entry.{Entry}
use Rattle.run_model.specs.Words.{answers, asked, is_over, times}
use Rattle.run_model.specs.Journal.{past_of, outcome, IsLegal}
use Rattle.run_shared.specs.declared.shared.Receipt.{Receipt}
use Rattle.run_shared.specs.declared.closing.CloseKind.TheVariants.{OutOfMemory as CloseMemory}
use Rattle.run_shared.specs.declared.order_check.OrderFault.{OrderFault}
use Rattle.run_shared.specs.declared.order_check.OrderFault.TheVariants.{OutOfMemory}
use Rattle.run_shared.specs.declared.orders.Errand.{Errand}
use Rattle.run_shared.specs.Closed.{Refuses}
use Rattle.run_shared.specs.Orders.{Delivers, IsOrderFault}
use Rattle.run_shared.specs.Receipts.{concatenated, receipt_numbers, StandsIn}
use Rattle.run_output.specs.Asks.{ask_lines}
use Rattle.run_output.specs.Fields.{line_bytes}
use Rattle.run_output.specs.Faults.{fault_status, fault_text}
use Rattle.run_output.specs.Told.{TookLines, AreCounted, event_lines, marks}
use Rattle.run_output.specs.declared.fault.Fault.TheVariants.{Unfinished, Report, Memory, ThirdSignal}
use Rattle.run_whole.specs.declared.left.Ended.{Ended}
use Rattle.run_whole.specs.Own.{IsListenerWork, IsTickerWork, AreAllKept}
use Rattle.run_whole.specs.declared.left.CutOff.{CutOff}
use Rattle.run_whole.specs.Whole.{ComesThird, handed, order_fault, receipts_error}
use Rattle.run_cli.specs.Call.{Writing, HasTaken, HasWriteFault, Writes}
use Rattle.run_cli.specs.Ending.{IsFinished}
use Rattle.run_cli.specs.Executed.{TookParts, WritesRun, report_ending}
use Rattle.run_cli.specs.Live.{workers_in}
use Rattle.run_cli.specs.Text.{whole_form, rest_text, history_text, outcome_status}
use Rattle.run_cli.specs.Unclosed.{WritesRefusal, LivesShort}
use Rattle.run_whole_cli.specs.OrderText.{order_text}
use Rattle.run_whole_cli.specs.Relations.{Relations}
use Rattle.run_whole_cli.specs.declared.left.WholeEnding.{WholeEnding}
use Rattle.run_whole_cli.specs.declared.left.WholeEnding.TheVariants as ends
use Rattle.run_whole_cli.specs.declared.left.WholeRun.{WholeRun}
use Rattle.run_whole_cli.specs.declared.left.WholeLeft.{WholeLeft}
use Rattle.run_whole_cli.specs.declared.left.WholeLeft.TheVariants as lefts

-- what the threads of a run handed on, each with its place
abbrev pub handed_in : {W T O S : Type 0} → Ended W T O S → List (ℕ × Errand)
handed_in t = handed t.workers.orders t.ear.halts

-- there are as many workers as may run at a time, or as there are units where they are fewer. The receipts, refusals
-- and orders of each are all that its keeper was asked, was told and said; behind them stand the ticker's receipts, and
-- those of what came from outside, of which only what the plan doesn't hear or the run refused was dropped, and no
-- third shutdown signal; and the program was stopped once for each halt
pub record HaveReceipts {W T O S : Type 0} (k : Relations W T O S) (p : Settings) (t : Ended W T O S)
    (receipts : List (List Receipt)) : Type 0 where
  pub count : length t.workers.keepers.items ≡ workers_in p
  pub own : AreAllKept k.has_heard t.workers.keepers.items receipts t.workers.lost t.workers.orders
  pub ticker : IsTickerWork k.has_told t.rounds.ticker (length t.workers.keepers.items) receipts t.rounds.refused
  pub listener : IsListenerWork k.has_come p.plan.hearing t.ear.around.outside (length t.workers.keepers.items + 1)
      receipts t.ear.dropped
  pub halts : k.has_halted t.ear.around.halter (length t.ear.halts)

-- the receipts of a run are those of its journal, which is legal: each stands in it, and each place of it has one
pub record IsBorneOut {W T O S : Type 0} (k : Relations W T O S) (p : Settings) (l : WholeRun W T O S) : Type 0 where
  pub legal : IsLegal p l.journal
  pub stands : All (StandsIn l.journal) (concatenated l.receipts)
  pub once : (n : ℕ) → n < length l.journal → times n (receipt_numbers (concatenated l.receipts)) ≡ 1
  pub threads : HaveReceipts k p l.threads l.receipts

-- and each signal and each stop of the program that it asked was handed on exactly once, and nothing else was
pub record IsDelivered {W T O S : Type 0} (k : Relations W T O S) (p : Settings) (l : WholeRun W T O S) : Type 0 where
  pub borne_out : IsBorneOut k p l
  pub no_error : IsNone l.error
  pub delivers : Delivers (asked (past_of p l.journal)) (handed_in l.threads)

-- a run takes no turn any more: it is over, or its journal is full
abbrev pub HasStopped : Settings → List Entry → Type 0
HasStopped p journal =
    ((o : RunOutcome) × (outcome p (past_of p journal) ≡ Some o)) ⊎ (length journal ≡ 4294967295)

-- the receipts of a run are those of its journal, it takes no turn any more, and this is wrong with what was handed on
pub record IsMisdelivered {W T O S : Type 0} (k : Relations W T O S) (p : Settings) (l : WholeRun W T O S)
    (fault : OrderFault) : Type 0 where
  pub borne_out : IsBorneOut k p l
  pub stopped : HasStopped p l.journal
  pub wrong : IsOrderFault (asked (past_of p l.journal)) (handed_in l.threads) fault
  pub kind : fault ≢ OutOfMemory

-- the receipts of a run are refused, and why: never for want of memory
pub record IsDisowned {W T O S : Type 0} (k : Relations W T O S) (p : Settings) (l : WholeRun W T O S) : Type 0 where
  pub why : IsSomeAnd (receipts_error l.error)
      (λ e. Refuses p l.journal (concatenated l.receipts) e.kind × (e.kind ≢ CloseMemory))
  pub threads : HaveReceipts k p l.threads l.receipts

-- of a run that takes no turn any more the sink took the lines of its events, each whole, or of one that was refused a
-- front part; then the lines of its asks, and that of what is wrong with what was handed on: whole, or where it failed
-- there a front part, and not all; and nothing else
abbrev pub WritesOrder : Settings → List Entry → OrderFault → Writing → Type 0
WritesOrder p journal fault w =
    TookParts whole_form (past_of p journal)
    (ask_lines (asked (past_of p journal)) ++ line_bytes (order_text fault)) w

-- a run was cut off: its journal is legal, it isn't over, and after two shutdown signals at least it refused one as a
-- third
pub record IsCutOff (p : Settings) (c : CutOff) : Type 0 where
  pub legal : IsLegal p c.journal
  pub going : is_over (past_of p c.journal) ≡ false
  pub third : ComesThird c.journal c.refusal

-- of a run that was cut off the sink took the lines of its events, and of a part of one further turn's at most: each
-- whole, or of one that was refused a front part; and its count of faults rose at each that was, and at no other. Then
-- it took the lines of its asks, and that of the third signal: whole, or where it failed there a front part, and not
-- all; and nothing else
pub record WritesThird (p : Settings) (journal : List Entry) (asks : List (ℕ × Ask)) (w : Writing) : Type 0 where
  pub events : List (ReporterEvent × Option Failed)
  pub extra : List (ReporterEvent × Bool)
  pub sent : List (ℕ × Ask)
  pub flags : map flagged events ≡ answers (past_of p journal) ++ extra
  pub asked : asks ≡ asked (past_of p journal) ++ sent
  pub part : IsFurther p journal extra sent
  pub between : Option (List ℕ)
  pub count : ℕ
  pub took : TookLines w.taken between (event_lines events)
  pub counted : AreCounted (marks events) w.faults count
  pub last : Writes (record w { taken = between; faults = count })
      (ask_lines asks ++ line_bytes (fault_text (ThirdSignal (length journal))))

-- what is left of a run all of whose threads have ended, and of one that was cut off
abbrev pub run_in : {W T O S : Type 0} → Option (WholeLeft W T O S) → Option (WholeRun W T O S)
run_in None = None
run_in (Some (lefts.Run l)) = Some l
run_in (Some (lefts.CutOff c)) = None

abbrev pub cut_in : {W T O S : Type 0} → Option (WholeLeft W T O S) → Option CutOff
cut_in None = None
cut_in (Some (lefts.Run l)) = None
cut_in (Some (lefts.CutOff c)) = Some c

-- how the run of a plan ends, by what is left of it and what the sink took. With an outcome or status 9 it is over;
-- with status 8 its journal is full and it isn't; with status 13 its receipts are refused, or what was handed on isn't
-- what it asked; with 7 it was cut off by a third shutdown signal, whose turn would be the next of its journal; with 11
-- memory was wanting, and nothing of it is handed back
abbrev pub IsWholeRunEnd : {W T O S : Type 0} → Relations W T O S → Settings → Writing → Option (WholeLeft W T O S)
    → WholeEnding → Type 0
IsWholeRunEnd k p w left (ends.Outcome o) = IsSomeAnd (run_in left) (λ l. IsDelivered k p l × IsFinished p l.journal o
    × HasTaken w (history_text whole_form (past_of p l.journal) (Ok o))) × (w.faults_after ≡ w.faults)
IsWholeRunEnd k p w left (ends.Fault Report) = IsSomeAnd (run_in left) (λ l. IsDelivered k p l
    × ((o : RunOutcome) × IsFinished p l.journal o
    × TookParts whole_form (past_of p l.journal) (rest_text whole_form (past_of p l.journal)
    (report_ending l.journal o)) w))
    × HasWriteFault w
IsWholeRunEnd k p w left (ends.Fault Unfinished) = IsSomeAnd (run_in left) (λ l. IsDelivered k p l
    × (length l.journal ≡ 4294967295) × (is_over (past_of p l.journal) ≡ false)
    × WritesRun whole_form (past_of p l.journal) (Err Unfinished) w)
IsWholeRunEnd k p w left ends.Receipt = IsSomeAnd (run_in left) (λ l. IsDisowned k p l
    × IsSomeAnd (receipts_error l.error) (λ e. WritesRefusal p l.journal e.kind w))
IsWholeRunEnd k p w left ends.Order = IsSomeAnd (run_in left) (λ l. IsSomeAnd (order_fault l.error)
    (λ fault. IsMisdelivered k p l fault × WritesOrder p l.journal fault w))
IsWholeRunEnd k p w left (ends.Fault (ThirdSignal place)) = IsSomeAnd (cut_in left) (λ c. IsCutOff p c
    × (place ≡ length c.journal) × WritesThird p c.journal c.asks w)
IsWholeRunEnd k p w left (ends.Fault Memory) = (left ≡ None) × LivesShort w
IsWholeRunEnd k p w left (ends.Fault _) = ⊥

-- the status of each end
abbrev pub whole_status : WholeEnding → ℕ
whole_status (ends.Outcome o) = outcome_status o
whole_status (ends.Fault fault) = fault_status fault
whole_status ends.Receipt = 13
whole_status ends.Order = 13
