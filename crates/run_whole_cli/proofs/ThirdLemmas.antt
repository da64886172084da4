-- How the run of a plan ends that was cut off by a third signal.
use Rattle.std.proofs.Common.{◌≡◌, ℕ, List, ◌++◌, length, Option, Some, None, false, refl, sym, subst}
use Rattle.run_capture.specs.declared.source.Failed.{Failed}
use Rattle.run_events.specs.declared.settings.Settings.{Settings}
use Rattle.run_events.specs.declared.ask.Ask.{Ask}
use Rattle.run_events.specs.declared.events.ReporterEvent.{ReporterEvent}
use Rattle.run_model.specs.declared.entry.Entry.{Entry}
use Rattle.run_model.specs.Journal.{past_of}
use Rattle.run_engine.proofs.OutcomeLemmas.{not_over}
use Rattle.run_shared.specs.Closed.{IsLeft}
use Rattle.run_output.specs.Asks.{ask_lines}
use Rattle.run_output.specs.Faults.{fault_text}
use Rattle.run_output.specs.Fields.{line_bytes}
use Rattle.run_output.specs.Told.{AreCounted, HasTold, event_lines}
use Rattle.run_output.specs.declared.fault.Fault.TheVariants.{Words, Line, Plan as BadPlan, NotEnabled, ThirdSignal}
use Rattle.run_output.specs.declared.fault.Fault.TheVariants.{Unfinished, Report, Read, Memory, TooLong}
use Rattle.run_whole.specs.declared.left.CutOff.{CutOff}
use Rattle.run_whole.specs.Whole.{ComesThird}
use Rattle.run_cli.specs.Call.{Writing, then_writing, Writes}
use Rattle.run_cli.specs.Lived.{HasWritten}
use Rattle.run_cli.proofs.GivenUpLemmas.{marks_lines}
use Rattle.run_cli.proofs.LivedLemmas.{written_from}
use Rattle.run_whole_cli.specs.Relations.{Relations}
use Rattle.run_whole_cli.specs.Ends.{IsCutOff, IsWholeRunEnd, WritesThird}
use Rattle.run_whole_cli.specs.Last.{EndsAtThird, left_by}
use Rattle.run_whole_cli.specs.declared.left.WholeEnding.{WholeEnding}
use Rattle.run_whole_cli.specs.declared.left.WholeEnding.TheVariants as ends
use Rattle.run_whole_cli.specs.declared.left.WholeLeft.TheVariants as lefts
use Rattle.run_whole_cli.proofs.EndLemmas.{no_memory}

-- the lines of a run that was cut off
third_writes : (p : Settings) (w v : Writing) (n : ℕ) (journal : List Entry) (asks : List (ℕ × Ask))
    → v.taken ≡ w.taken_after → v.faults ≡ w.faults_after → HasWritten p w n journal asks
    → Writes v (ask_lines asks ++ line_bytes (fault_text (ThirdSignal (length journal))))
    → WritesThird p journal asks (then_writing w v)
third_writes p w v n journal asks on from x h =
    let last = line_bytes (fault_text (ThirdSignal (length journal))) in record {
      events = x.events;
      extra = x.extra;
      sent = x.sent;
      flags = x.flags;
      asked = x.asked;
      part = x.part;
      between = w.taken_after;
      count = w.faults_after;
      took = x.told.took;
      counted = subst (λ bs. AreCounted bs w.faults w.faults_after) (marks_lines x.events) x.told.counted;
      last = subst (λ m. Writes (record v { taken = w.taken_after; faults = m }) (ask_lines asks ++ last)) from
          (subst (λ t. Writes (record v { taken = t }) (ask_lines asks ++ last)) on h);
    }

-- so it ends
pub third_ends : {W T O S R : Type 0} (k : Relations W T O S)
    (tells : R → List (ReporterEvent × Option Failed) → Type 0) (p : Settings) (w v : Writing) (n : ℕ) (report : R)
    (c : CutOff) (ending : WholeEnding) → v.taken ≡ w.taken_after → v.faults ≡ w.faults_after
    → ((ys : List (ReporterEvent × Option Failed)) → tells report ys
    → HasTold w.taken w.taken_after w.faults w.faults_after n (event_lines ys))
    → IsLeft tells report c.asks p c.journal None → ComesThird c.journal c.refusal
    → EndsAtThird v (ask_lines c.asks) (length c.journal) ending
    → IsWholeRunEnd k p (then_writing w v) (left_by ending (lefts.CutOff c)) ending
third_ends k tells p w v n report c (ends.Fault (ThirdSignal at)) on from told left third wrote =
    let written = written_from tells p w n report c.journal c.asks None told left in
    let cut : IsCutOff p c = record {
      legal = left.legal.legal;
      going = not_over p c.journal left.legal.legal (sym left.ended);
      third = third;
    } in
    (cut, wrote.0, third_writes p w v n c.journal c.asks on from written wrote.1)
third_ends k tells p w v n report c (ends.Fault Memory) on from told left third wrote =
    let written = written_from tells p w n report c.journal c.asks None told left in
    (refl, no_memory p w v n wrote.0 c.journal c.asks on from written wrote.1)
third_ends k tells p w v n report c ends.Receipt on from told left third wrote = absurd wrote
third_ends k tells p w v n report c ends.Order on from told left third wrote = absurd wrote
third_ends k tells p w v n report c (ends.Outcome o) on from told left third wrote = absurd wrote
third_ends k tells p w v n report c (ends.Fault Words) on from told left third wrote = absurd wrote
third_ends k tells p w v n report c (ends.Fault (Line m)) on from told left third wrote = absurd wrote
third_ends k tells p w v n report c (ends.Fault (BadPlan f)) on from told left third wrote = absurd wrote
third_ends k tells p w v n report c (ends.Fault (NotEnabled m)) on from told left third wrote = absurd wrote
third_ends k tells p w v n report c (ends.Fault Unfinished) on from told left third wrote = absurd wrote
third_ends k tells p w v n report c (ends.Fault Report) on from told left third wrote = absurd wrote
third_ends k tells p w v n report c (ends.Fault Read) on from told left third wrote = absurd wrote
third_ends k tells p w v n report c (ends.Fault TooLong) on from told left third wrote = absurd wrote
