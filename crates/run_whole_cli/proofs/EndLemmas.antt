-- How the run of a plan ends, by what its threads left.
use Rattle.std.proofs.Common.{◌≡◌, ◌≢◌, ℕ, inl, inr, List, ◌++◌, length, take, Bool, true, false}
use Rattle.std.proofs.Common.{Option, Some, None, Result, Ok, Err, refl, ap, sym, subst, ◌∙◌}
use Rattle.std.specs.Prelude.{IfSome, IsSomeAnd}
use Rattle.std.specs.Option.{IsNone}
use Rattle.run_capture.specs.declared.source.Failed.{Failed}
use Rattle.run_events.specs.declared.settings.Settings.{Settings}
use Rattle.run_events.specs.declared.ask.Ask.{Ask}
use Rattle.run_events.specs.declared.events.ReporterEvent.{ReporterEvent}
use Rattle.run_events.specs.declared.outcome.RunOutcome.{RunOutcome}
use Rattle.run_model.specs.declared.entry.Entry.{Entry}
use Rattle.run_model.specs.Words.{asked}
use Rattle.run_model.specs.Journal.{past_of, outcome}
use Rattle.run_shared.specs.declared.closing.CloseError.{CloseError}
use Rattle.run_shared.specs.declared.closing.CloseKind.TheVariants.{OutOfMemory as CloseMemory}
use Rattle.run_shared.specs.declared.order_check.OrderFault.{OrderFault}
use Rattle.run_shared.specs.declared.order_check.OrderFault.TheVariants.{OutOfMemory}
use Rattle.run_shared.specs.Closed.{IsLeft, Refuses}
use Rattle.run_shared.specs.Orders.{IsOrderFault}
use Rattle.run_shared.specs.Receipts.{concatenated}
use Rattle.run_output.specs.Asks.{ask_lines}
use Rattle.run_output.specs.Faults.{fault_text}
use Rattle.run_output.specs.Fields.{line_bytes}
use Rattle.run_output.specs.Told.{HasTold, event_lines, some_refused}
use Rattle.run_output.specs.declared.fault.Fault.{Fault}
use Rattle.run_output.specs.declared.fault.Fault.TheVariants.{Words, Line, Plan as BadPlan, NotEnabled, ThirdSignal}
use Rattle.run_output.specs.declared.fault.Fault.TheVariants.{Unfinished, Report, Read, Memory, TooLong}
use Rattle.run_whole.specs.declared.left.Whole.{Whole}
use Rattle.run_whole.specs.declared.left.WholeError.{WholeError}
use Rattle.run_whole.specs.declared.left.WholeError.TheVariants.{Receipts, Orders}
use Rattle.run_whole.specs.Whole.{order_fault, receipts_error}
use Rattle.run_cli.specs.declared.live.LiveEnding.{LiveEnding}
use Rattle.run_cli.specs.declared.live.LiveEnding.TheVariants as lives
use Rattle.run_cli.specs.Call.{Writing, then_writing, HasTaken, Writes}
use Rattle.run_cli.specs.Executed.{TookEvents}
use Rattle.run_cli.specs.Finish.{EndsAtFault}
use Rattle.run_cli.specs.Lived.{EndsAtReceipt, HasWritten, HasWrittenRefused}
use Rattle.run_cli.specs.Text.{whole_form, fault_only}
use Rattle.run_cli.specs.Unclosed.{LivesShort, WritesRefusal}
use Rattle.run_cli.proofs.GivenUpLemmas.{lives_short, run_out, writes_refusal}
use Rattle.run_cli.proofs.LivedLemmas.{over_from, refused_from, written_from}
use Rattle.run_cli.proofs.RunEndLemmas.{WritesEnd, memory_written, open_written, over_written}
use Rattle.run_cli.proofs.ShortLemmas.{lines_some, short_none}
use Rattle.run_whole_cli.specs.OrderText.{order_text}
use Rattle.run_whole_cli.specs.Relations.{Relations}
use Rattle.run_whole_cli.specs.Ends.{HasStopped, IsDelivered, IsDisowned, IsMisdelivered, IsWholeRunEnd, WritesOrder}
use Rattle.run_whole_cli.specs.Ends.{handed_in}
use Rattle.run_whole_cli.specs.Last.{EndsAtOrder, EndsPlain, EndsUndelivered, EndsWhole, IsLeftWhole, is_stopped}
use Rattle.run_whole_cli.specs.Last.{end_by, left_by, so_ended}
use Rattle.run_whole_cli.specs.declared.left.WholeEnding.{WholeEnding}
use Rattle.run_whole_cli.specs.declared.left.WholeEnding.TheVariants as ends
use Rattle.run_whole_cli.specs.declared.left.WholeLeft.TheVariants as lefts
use Rattle.run_whole_cli.specs.declared.left.WholeRun.{WholeRun}
use Rattle.run_whole_cli.proofs.LeftLemmas.{asks_are, borne_out, delivered, flags_are, left_of, stopped_of, took_all}

-- an end by what the sink took, of a run with nothing wrong
plain_end : {W T O S : Type 0} (k : Relations W T O S) (p : Settings) (w : Writing) (l : WholeRun W T O S)
    (end : Result RunOutcome Fault) → (HasStopped p l.journal → IsDelivered k p l) → WritesEnd p l.journal w end
    → IsWholeRunEnd k p w (left_by (end_by end) (lefts.Run l)) (end_by end)
plain_end k p w l (Ok o) d h = ((d (inl (o, h.0.over)), h.0, h.1), h.2)
plain_end k p w l (Err Report) d h = ((d (inl (h.0.0, h.0.1.over)), h.0), h.1)
plain_end k p w l (Err Unfinished) d h = (d (inr h.0), h.0, h.1, h.2)
plain_end k p w l (Err Memory) d h = (refl, h)
plain_end k p w l (Err Words) d h = absurd h
plain_end k p w l (Err (Line n)) d h = absurd h
plain_end k p w l (Err (BadPlan f)) d h = absurd h
plain_end k p w l (Err (NotEnabled n)) d h = absurd h
plain_end k p w l (Err (ThirdSignal n)) d h = absurd h
plain_end k p w l (Err Read) d h = absurd h
plain_end k p w l (Err TooLong) d h = absurd h

-- so it ends, by its outcome
plain_ends : {W T O S R : Type 0} (k : Relations W T O S)
    (tells : R → List (ReporterEvent × Option Failed) → Type 0) (p : Settings) (w v : Writing) (n : ℕ)
    (x : Whole W T O S R) (refused : Bool) (end : Result RunOutcome Fault) → v.taken ≡ w.taken_after
    → v.faults ≡ w.faults_after
    → ((ys : List (ReporterEvent × Option Failed)) → tells x.run.report ys
    → HasTold w.taken w.taken_after w.faults w.faults_after n (event_lines ys))
    → ((ys : List (ReporterEvent × Option Failed)) → tells x.run.report ys → refused ≡ some_refused ys)
    → IsLeftWhole k tells p x → x.error ≡ None
    → EndsPlain v (ask_lines x.run.asks) (length x.run.journal) x.run.outcome refused end
    → IsWholeRunEnd k p (then_writing w v) (left_by (end_by end) (lefts.Run (left_of x))) (end_by end)
plain_ends k tells p w v n x refused end on from told marked h none wrote =
    plain_end k p (then_writing w v) (left_of x) end (delivered k tells p x h none)
    (by_outcome x.run.outcome refl wrote)
  where
    calm : IsNone (receipts_error x.error)
    calm = subst (λ e. IsNone (receipts_error e)) (sym none) refl

    by_outcome : (o : Option RunOutcome) → x.run.outcome ≡ o
        → EndsPlain v (ask_lines x.run.asks) (length x.run.journal) o refused end
        → WritesEnd p x.run.journal (then_writing w v) end
    by_outcome (Some o) is wrote =
        over_written p w v n x.run.journal x.run.asks o refused end on from
        (over_from tells p w n x.run.report x.run.journal x.run.asks o refused told marked
        (subst (λ e. IsLeft tells x.run.report x.run.asks p x.run.journal e) is (h.left calm))) wrote
    by_outcome None is wrote =
        open_written p w v n x.run.journal x.run.asks wrote.0 end on from (sym (h.left calm).ended ∙ is)
        (written_from tells p w n x.run.report x.run.journal x.run.asks x.run.outcome told (h.left calm)) wrote.1
        wrote.2

-- the lines of a run that takes no turn any more, and of what is wrong with what was handed on
order_writes : (p : Settings) (w v : Writing) (journal : List Entry) (asks : List (ℕ × Ask)) (fault : OrderFault)
    → v.taken ≡ w.taken_after → v.faults ≡ w.faults_after → TookEvents whole_form (past_of p journal) w
    → asks ≡ asked (past_of p journal) → Writes v (ask_lines asks ++ line_bytes (order_text fault))
    → WritesOrder p journal fault (then_writing w v)
order_writes p w v journal asks fault on from took asked_is h = record {
  between = w.taken_after;
  count = w.faults_after;
  events = took;
  last = subst (λ sent. Writes (record v { taken = w.taken_after; faults = w.faults_after })
      (ask_lines sent ++ line_bytes (order_text fault))) asked_is
      (subst (λ m. Writes (record v { taken = w.taken_after; faults = m })
      (ask_lines asks ++ line_bytes (order_text fault))) from
      (subst (λ t. Writes (record v { taken = t }) (ask_lines asks ++ line_bytes (order_text fault))) on h));
}

-- where memory was wanting for the last lines, a front part of its own line went out
pub no_memory : (p : Settings) (w v : Writing) (n m : ℕ) (journal : List Entry) (asks : List (ℕ × Ask))
    → v.taken ≡ w.taken_after → v.faults ≡ w.faults_after → HasWritten p w n journal asks
    → HasTaken v (take m (fault_only Memory)) → LivesShort (then_writing w v)
no_memory p w v n m journal asks on from x h =
    lives_short p w v asks on from
    (run_out p journal w n asks x.events x.extra x.sent x.runnable.legal x.flags x.asked x.part x.told)
    (short_none (ask_lines asks ++ fault_only Memory) v m (lines_some (ask_lines asks) (fault_text Memory)) h)

-- so a run ends that takes no turn any more, where something asked wasn't handed on exactly once
order_ends : {W T O S R : Type 0} (k : Relations W T O S)
    (tells : R → List (ReporterEvent × Option Failed) → Type 0) (p : Settings) (w v : Writing) (n : ℕ)
    (x : Whole W T O S R) (fault : OrderFault) (ending : WholeEnding) → v.taken ≡ w.taken_after
    → v.faults ≡ w.faults_after
    → ((ys : List (ReporterEvent × Option Failed)) → tells x.run.report ys
    → HasTold w.taken w.taken_after w.faults w.faults_after n (event_lines ys))
    → IsLeftWhole k tells p x → x.error ≡ Some (Orders fault)
    → IsLeft tells x.run.report x.run.asks p x.run.journal x.run.outcome → HasStopped p x.run.journal
    → EndsAtOrder v (ask_lines x.run.asks) fault ending
    → IsWholeRunEnd k p (then_writing w v) (left_by ending (lefts.Run (left_of x))) ending
order_ends k tells p w v n x fault ends.Order on from told h is left stopped wrote =
    let asks = asks_are tells x.run.report x.run.asks p x.run.journal x.run.outcome left stopped in
    let flags = flags_are tells x.run.report x.run.asks p x.run.journal x.run.outcome left stopped in
    let wrong : IsOrderFault x.run.asks (handed_in x.threads) fault =
    subst (λ e. IfSome (order_fault e) (IsOrderFault x.run.asks (handed_in x.threads))) is h.undelivered in
    let none : IsNone (receipts_error x.error) = subst (λ e. IsNone (receipts_error e)) (sym is) refl in
    let both : IsMisdelivered k p (left_of x) fault = record {
      borne_out = borne_out k tells p x h none;
      stopped = stopped;
      wrong = subst (λ asks. IsOrderFault asks (handed_in x.threads) fault) asks wrong;
      kind = subst (λ e. IfSome (order_fault e) (λ f. f ≢ OutOfMemory)) is h.fault_kind;
    } in
    subst (λ e. IsSomeAnd (order_fault e)
    (λ f. IsMisdelivered k p (left_of x) f × WritesOrder p x.run.journal f (then_writing w v))) (sym is) (
      both,
      order_writes p w v x.run.journal x.run.asks fault on from
          (took_all p x.run.journal w n left.events left.legal flags (told left.events left.told)) asks wrote,
    )
order_ends k tells p w v n x fault (ends.Fault Memory) on from told h is left stopped wrote =
    let written = written_from tells p w n x.run.report x.run.journal x.run.asks x.run.outcome told left in
    (refl, no_memory p w v n wrote.0 x.run.journal x.run.asks on from written wrote.1)
order_ends k tells p w v n x fault ends.Receipt on from told h is left stopped wrote = absurd wrote
order_ends k tells p w v n x fault (ends.Outcome o) on from told h is left stopped wrote = absurd wrote
order_ends k tells p w v n x fault (ends.Fault Words) on from told h is left stopped wrote = absurd wrote
order_ends k tells p w v n x fault (ends.Fault (Line m)) on from told h is left stopped wrote = absurd wrote
order_ends k tells p w v n x fault (ends.Fault (BadPlan f)) on from told h is left stopped wrote = absurd wrote
order_ends k tells p w v n x fault (ends.Fault (NotEnabled m)) on from told h is left stopped wrote = absurd wrote
order_ends k tells p w v n x fault (ends.Fault (ThirdSignal m)) on from told h is left stopped wrote = absurd wrote
order_ends k tells p w v n x fault (ends.Fault Unfinished) on from told h is left stopped wrote = absurd wrote
order_ends k tells p w v n x fault (ends.Fault Report) on from told h is left stopped wrote = absurd wrote
order_ends k tells p w v n x fault (ends.Fault Read) on from told h is left stopped wrote = absurd wrote
order_ends k tells p w v n x fault (ends.Fault TooLong) on from told h is left stopped wrote = absurd wrote

-- an end at want of memory is that
at_memory : (v : Writing) (asks : List ℕ) (end : Result RunOutcome Fault) → EndsAtFault v asks Memory end
    → end ≡ Err Memory
at_memory v asks (Ok o) h = absurd h
at_memory v asks (Err e) (inl h) = ap (λ f. Err f) h.0
at_memory v asks (Err e) (inr h) = ap (λ f. Err f) h.0

-- and one that was given up
given_up_ends : {W T O S R : Type 0} (k : Relations W T O S)
    (tells : R → List (ReporterEvent × Option Failed) → Type 0) (p : Settings) (w v : Writing) (n : ℕ)
    (x : Whole W T O S R) (ending : WholeEnding) (end : Result RunOutcome Fault) → v.taken ≡ w.taken_after
    → v.faults ≡ w.faults_after
    → ((ys : List (ReporterEvent × Option Failed)) → tells x.run.report ys
    → HasTold w.taken w.taken_after w.faults w.faults_after n (event_lines ys))
    → IsLeft tells x.run.report x.run.asks p x.run.journal x.run.outcome → ending ≡ end_by end
    → EndsAtFault v (ask_lines x.run.asks) Memory end
    → IsWholeRunEnd k p (then_writing w v) (left_by ending (lefts.Run (left_of x))) ending
given_up_ends k tells p w v n x ending end on from told left is wrote =
    let memory : end ≡ Err Memory = at_memory v (ask_lines x.run.asks) end wrote in
    let written = written_from tells p w n x.run.report x.run.journal x.run.asks x.run.outcome told left in
    let short : LivesShort (then_writing w v) = subst (WritesEnd p x.run.journal (then_writing w v)) memory
    (memory_written p w v n x.run.journal x.run.asks end on from written wrote) in
    subst (λ e. IsWholeRunEnd k p (then_writing w v) (left_by e (lefts.Run (left_of x))) e)
    (sym (is ∙ ap end_by memory)) (refl, short)

-- by whether it takes no turn any more
undelivered_ends : {W T O S R : Type 0} (k : Relations W T O S)
    (tells : R → List (ReporterEvent × Option Failed) → Type 0) (p : Settings) (w v : Writing) (n : ℕ)
    (x : Whole W T O S R) (fault : OrderFault) (ending : WholeEnding) → v.taken ≡ w.taken_after
    → v.faults ≡ w.faults_after
    → ((ys : List (ReporterEvent × Option Failed)) → tells x.run.report ys
    → HasTold w.taken w.taken_after w.faults w.faults_after n (event_lines ys))
    → IsLeftWhole k tells p x → x.error ≡ Some (Orders fault)
    → EndsUndelivered v (ask_lines x.run.asks) fault (is_stopped (length x.run.journal) x.run.outcome) ending
    → IsWholeRunEnd k p (then_writing w v) (left_by ending (lefts.Run (left_of x))) ending
undelivered_ends k tells p w v n x fault ending on from told h is wrote =
    by_stop (is_stopped (length x.run.journal) x.run.outcome) refl wrote
  where
    left : IsLeft tells x.run.report x.run.asks p x.run.journal x.run.outcome
    left = h.left (subst (λ e. IsNone (receipts_error e)) (sym is) refl)

    by_stop : (b : Bool) → is_stopped (length x.run.journal) x.run.outcome ≡ b
        → EndsUndelivered v (ask_lines x.run.asks) fault b ending
        → IsWholeRunEnd k p (then_writing w v) (left_by ending (lefts.Run (left_of x))) ending
    by_stop true stop wrote =
        order_ends k tells p w v n x fault ending on from told h is left
        (stopped_of tells x.run.report x.run.asks p x.run.journal x.run.outcome left stop) wrote
    by_stop false stop wrote = given_up_ends k tells p w v n x ending wrote.0 on from told left wrote.1 wrote.2

-- a run whose receipts are refused
disowned_ends : {W T O S R : Type 0} (k : Relations W T O S)
    (tells : R → List (ReporterEvent × Option Failed) → Type 0) (p : Settings) (w v : Writing) (n : ℕ)
    (x : Whole W T O S R) (error : CloseError) (end : LiveEnding) → v.taken ≡ w.taken_after
    → v.faults ≡ w.faults_after
    → ((ys : List (ReporterEvent × Option Failed)) → tells x.run.report ys
    → HasTold w.taken w.taken_after w.faults w.faults_after n (event_lines ys))
    → IsLeftWhole k tells p x → x.error ≡ Some (Receipts error)
    → HasWrittenRefused p w n x.run.journal x.run.asks error.kind
    → EndsAtReceipt v (ask_lines x.run.asks) error.kind end
    → IsWholeRunEnd k p (then_writing w v) (left_by (so_ended end) (lefts.Run (left_of x))) (so_ended end)
disowned_ends k tells p w v n x error lives.Receipt on from told h is written wrote =
    let refuses : Refuses p x.run.journal (concatenated x.run.receipts) error.kind =
    subst (λ e. IfSome (receipts_error e) (λ e. Refuses p x.run.journal (concatenated x.run.receipts) e.kind)) is
    h.refused in
    let kind : error.kind ≢ CloseMemory =
    subst (λ e. IfSome (receipts_error e) (λ e. e.kind ≢ CloseMemory)) is h.kind in
    let why = subst (λ e. IsSomeAnd (receipts_error e)
    (λ e. Refuses p x.run.journal (concatenated x.run.receipts) e.kind × (e.kind ≢ CloseMemory))) (sym is)
    (refuses, kind) in
    let disowned : IsDisowned k p (left_of x) = record { why = why; threads = h.threads } in (
      disowned,
      subst (λ e. IsSomeAnd (receipts_error e) (λ e. WritesRefusal p x.run.journal e.kind (then_writing w v))) (sym is)
          (writes_refusal p w v n x.run.journal x.run.asks error.kind on from written wrote),
    )
disowned_ends k tells p w v n x error (lives.Fault Memory) on from told h is written wrote = (
  refl,
  no_memory written.settings w v n wrote.0 x.run.journal x.run.asks on from written.written wrote.1,
)
disowned_ends k tells p w v n x error (lives.Outcome o) on from told h is written wrote = absurd wrote
disowned_ends k tells p w v n x error (lives.Fault Words) on from told h is written wrote = absurd wrote
disowned_ends k tells p w v n x error (lives.Fault (Line m)) on from told h is written wrote = absurd wrote
disowned_ends k tells p w v n x error (lives.Fault (BadPlan f)) on from told h is written wrote = absurd wrote
disowned_ends k tells p w v n x error (lives.Fault (NotEnabled m)) on from told h is written wrote = absurd wrote
disowned_ends k tells p w v n x error (lives.Fault (ThirdSignal m)) on from told h is written wrote = absurd wrote
disowned_ends k tells p w v n x error (lives.Fault Unfinished) on from told h is written wrote = absurd wrote
disowned_ends k tells p w v n x error (lives.Fault Report) on from told h is written wrote = absurd wrote
disowned_ends k tells p w v n x error (lives.Fault Read) on from told h is written wrote = absurd wrote
disowned_ends k tells p w v n x error (lives.Fault TooLong) on from told h is written wrote = absurd wrote

-- so each run whose threads have ended ends
pub whole_ends : {W T O S R : Type 0} (k : Relations W T O S)
    (tells : R → List (ReporterEvent × Option Failed) → Type 0) (p : Settings) (w v : Writing) (n : ℕ)
    (x : Whole W T O S R) (refused : Bool) (ending : WholeEnding) → v.taken ≡ w.taken_after
    → v.faults ≡ w.faults_after
    → ((ys : List (ReporterEvent × Option Failed)) → tells x.run.report ys
    → HasTold w.taken w.taken_after w.faults w.faults_after n (event_lines ys))
    → ((ys : List (ReporterEvent × Option Failed)) → tells x.run.report ys → refused ≡ some_refused ys)
    → IsLeftWhole k tells p x
    → EndsWhole v (ask_lines x.run.asks) x.error (length x.run.journal) x.run.outcome refused ending
    → IsWholeRunEnd k p (then_writing w v) (left_by ending (lefts.Run (left_of x))) ending
whole_ends k tells p w v n x refused ending on from told marked h wrote = by_error x.error refl wrote
  where
    by_error : (error : Option WholeError) → x.error ≡ error
        → EndsWhole v (ask_lines x.run.asks) error (length x.run.journal) x.run.outcome refused ending
        → IsWholeRunEnd k p (then_writing w v) (left_by ending (lefts.Run (left_of x))) ending
    by_error None is wrote =
        subst (λ e. IsWholeRunEnd k p (then_writing w v) (left_by e (lefts.Run (left_of x))) e) (sym wrote.1)
        (plain_ends k tells p w v n x refused wrote.0 on from told marked h is wrote.2)
    by_error (Some (Orders fault)) is wrote =
        undelivered_ends k tells p w v n x fault ending on from told h is wrote
    by_error (Some (Receipts error)) is wrote =
        let written = subst (λ e. IfSome (receipts_error e)
        (λ e. HasWrittenRefused p w n x.run.journal x.run.asks e.kind)) is
        (refused_from tells p w n x.run.report x.run.journal x.run.asks (receipts_error x.error) told h.left_too) in
        subst (λ e. IsWholeRunEnd k p (then_writing w v) (left_by e (lefts.Run (left_of x))) e) (sym wrote.1)
        (disowned_ends k tells p w v n x error wrote.0 on from told h is written wrote.2)
