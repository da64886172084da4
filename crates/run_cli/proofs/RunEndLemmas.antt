-- The last lines of a run by threads.
use Rattle.std.proofs.Common.{◌≡◌, ℕ, ◌≤◌, inl, inr, List, ◌++◌, length, Bool, true, false}
use Rattle.std.proofs.Common.{Some, None, Result, Ok, Err, refl, ap, sym, subst, ◌∙◌, arith}
use Rattle.run_capture.specs.Faults.{Rose}
use Rattle.run_events.specs.declared.settings.Settings.{Settings}
use Rattle.run_events.specs.declared.ask.Ask.{Ask}
use Rattle.run_events.specs.declared.outcome.RunOutcome.{RunOutcome}
use Rattle.run_model.specs.declared.entry.Entry.{Entry}
use Rattle.run_model.specs.Words.{is_over}
use Rattle.run_model.specs.Journal.{past_of, outcome}
use Rattle.run_laws.specs.Course.{turns_of}
use Rattle.run_engine.proofs.OutcomeLemmas.{not_over}
use Rattle.run_engine.specs.declared.errors.TestRunnerExecuteErrors.TheVariants as engine
use Rattle.run_output.specs.declared.fault.Fault.{Fault}
use Rattle.run_output.specs.declared.fault.Fault.TheVariants.{Words, Line, Plan as BadPlan, NotEnabled, ThirdSignal}
use Rattle.run_output.specs.declared.fault.Fault.TheVariants.{Unfinished, Report, Read, Memory, TooLong}
use Rattle.run_output.specs.Fields.{line_bytes}
use Rattle.run_output.specs.Outcomes.{outcome_text}
use Rattle.run_drive.specs.declared.spawner.Heard.{Heard}
use Rattle.run_live.specs.declared.lived.Live.{Live}
use Rattle.run_cli.specs.Call.{Writing, then_writing, HasTaken, HasWriteFault, Writes}
use Rattle.run_output.specs.Asks.{ask_lines}
use Rattle.run_cli.specs.Text.{whole_form, fault_only, rest_text, history_text}
use Rattle.run_cli.specs.Ending.{IsFinished}
use Rattle.run_cli.specs.Executed.{IsExecuted, TookParts, WritesRun, report_ending}
use Rattle.run_cli.specs.Finish.{EndsAtFault, EndsAtOutcome}
use Rattle.run_cli.specs.Live.{IsClosed, IsRunEnd}
use Rattle.run_cli.specs.Lived.{HasWritten, IsOver, EndsOver, IsOpenFault, ending_of, kept_by}
use Rattle.run_cli.specs.Short.{IsShort}
use Rattle.run_cli.specs.Unclosed.{LivesShort}
use Rattle.run_cli.proofs.EndLemmas.{rose_then, whole_text, took_parts, report_of, fault_writes, short_of}
use Rattle.run_cli.proofs.GivenUpLemmas.{executed_full, lives_short, run_out}
use Rattle.run_cli.proofs.ShortLemmas.{short_written}
use Rattle.run_cli.proofs.GivenLemmas.{finished}
use Rattle.run_cli.proofs.ToldLines.{executed_from, executed_whole}
use Rattle.run_cli.proofs.LivedLemmas.{executed_calm, executed_rough, rough_error}

-- what the sink took of a run with this journal that ended so
abbrev pub WritesEnd : Settings → List Entry → Writing → Result RunOutcome Fault → Type 0
WritesEnd p journal w (Ok o) =
    IsFinished p journal o × HasTaken w (history_text whole_form (past_of p journal) (Ok o))
    × (w.faults_after ≡ w.faults)
WritesEnd p journal w (Err Report) =
    ((o : RunOutcome) × IsFinished p journal o
    × TookParts whole_form (past_of p journal) (rest_text whole_form (past_of p journal) (report_ending journal o)) w)
    × HasWriteFault w
WritesEnd p journal w (Err Unfinished) =
    (length journal ≡ 4294967295) × (is_over (past_of p journal) ≡ false)
    × WritesRun whole_form (past_of p journal) (Err Unfinished) w
WritesEnd p journal w (Err Memory) = LivesShort w
WritesEnd p journal w (Err _) = ⊥

-- a run that is over and had no event refused, after its outcome
calm_written : (p : Settings) (w v : Writing) (n : ℕ) (journal : List Entry) (asks : List (ℕ × Ask)) (o : RunOutcome)
    (ending : Result RunOutcome Fault) → v.taken ≡ w.taken_after → v.faults ≡ w.faults_after
    → IsOver p w n journal asks o false → EndsAtOutcome v (ask_lines asks) o ending
    → WritesEnd p journal (then_writing w v) ending
unfolding executed_calm executed_whole executed_from
calm_written p w v n journal asks o (Ok e) on from x h =
    let run : IsExecuted whole_form p (turns_of journal) w asks (Ok o) = executed_calm p w n journal asks o x in
    let text = whole_text whole_form p (turns_of journal) w v asks (Ok o) (line_bytes (outcome_text e)) on run refl
    (subst (λ u. HasTaken v (ask_lines asks ++ line_bytes (outcome_text u))) (sym h.0) h.1) in
    let over : outcome p (past_of p journal) ≡ Some e = x.over ∙ ap Some (sym h.0) in
    (finished p journal e x.runnable.legal over, text, h.2 ∙ from ∙ run.quiet refl)
calm_written p w v n journal asks o (Err Report) on from x h =
    let run : IsExecuted whole_form p (turns_of journal) w asks (Ok o) = executed_calm p w n journal asks o x in
    let parts = report_of whole_form p (turns_of journal) w v asks (Ok o) run o true refl
    (took_parts whole_form p (turns_of journal) w v asks (Ok o) (line_bytes (outcome_text o))
    on from run (inr h)) in (
      (o, finished p journal o x.runnable.legal x.over, parts),
      subst (λ n. Rose n v.faults_after) (from ∙ run.quiet refl) h.1,
    )
calm_written p w v n journal asks o (Err Memory) on from x h =
    let run : IsExecuted whole_form p (turns_of journal) w asks (Ok o) = executed_calm p w n journal asks o x in
    (p, turns_of journal, short_of whole_form p (turns_of journal) w v asks (Ok o) (λ e. cc) on from run h)
calm_written p w v n journal asks o (Err Words) on from x h = absurd h
calm_written p w v n journal asks o (Err (Line k)) on from x h = absurd h
calm_written p w v n journal asks o (Err (BadPlan f)) on from x h = absurd h
calm_written p w v n journal asks o (Err (NotEnabled k)) on from x h = absurd h
calm_written p w v n journal asks o (Err (ThirdSignal k)) on from x h = absurd h
calm_written p w v n journal asks o (Err Unfinished) on from x h = absurd h
calm_written p w v n journal asks o (Err Read) on from x h = absurd h
calm_written p w v n journal asks o (Err TooLong) on from x h = absurd h

-- an end at a fault is this fault or want of memory
fault_or_memory : (p : Settings) (w v : Writing) (journal : List Entry) (asks : List (ℕ × Ask)) (fault : Fault)
    (ending : Result RunOutcome Fault)
    → (IsShort (ask_lines asks ++ fault_only fault) v → LivesShort w)
    → (v.faults ≤ v.faults_after → Writes v (ask_lines asks ++ fault_only fault) → WritesEnd p journal w (Err fault))
    → EndsAtFault v (ask_lines asks) fault ending → WritesEnd p journal w ending
fault_or_memory p w v journal asks fault (Ok o) short says h = absurd h
fault_or_memory p w v journal asks fault (Err e) short says (inl m) =
    subst (λ f. WritesEnd p journal w (Err f)) (sym m.0) (short m.1)
fault_or_memory p w v journal asks fault (Err e) short says (inr h) =
    subst (λ f. WritesEnd p journal w (Err f)) (sym h.0) (says h.1 h.2)

-- one that had an event refused, after that fault
rough_written : (p : Settings) (w v : Writing) (n : ℕ) (journal : List Entry) (asks : List (ℕ × Ask)) (o : RunOutcome)
    (ending : Result RunOutcome Fault) → v.taken ≡ w.taken_after → v.faults ≡ w.faults_after
    → IsOver p w n journal asks o true → EndsAtFault v (ask_lines asks) Report ending
    → WritesEnd p journal (then_writing w v) ending
unfolding executed_rough executed_whole executed_from
rough_written p w v n journal asks o ending on from x h =
    let turns = turns_of journal in
    let first = rough_error p w n journal asks o x in
    let answer = Err (engine.Report first.0) in
    let run : IsExecuted whole_form p turns w asks answer = executed_rough p w n journal asks o first.0 x first.1 in
    fault_or_memory p (then_writing w v) v journal asks Report ending
    (λ h. (p, turns, short_of whole_form p turns w v asks answer (λ e. cc) on from run h))
    (λ le writes. (
      (
        o,
        finished p journal o x.runnable.legal x.over,
        report_of whole_form p turns w v asks answer run o false refl
            (took_parts whole_form p turns w v asks answer (fault_only Report) on from run writes),
      ),
      rose_then w.faults w.faults_after v.faults_after (run.risen refl) (omega arith),
    )) h

-- a run whose journal is full and that isn't over, after that fault; and want of memory
full_written : (p : Settings) (w v : Writing) (n : ℕ) (journal : List Entry) (asks : List (ℕ × Ask))
    (ending : Result RunOutcome Fault) → v.taken ≡ w.taken_after → v.faults ≡ w.faults_after
    → length journal ≡ 4294967295 → outcome p (past_of p journal) ≡ None
    → HasWritten p w n journal asks → EndsAtFault v (ask_lines asks) Unfinished ending
    → WritesEnd p journal (then_writing w v) ending
unfolding executed_full executed_whole executed_from
full_written p w v n journal asks ending on from full none x h =
    let turns = turns_of journal in
    let answer = Err engine.Unfinished in
    let run : IsExecuted whole_form p turns w asks answer = executed_full p w n journal asks x full none in
    fault_or_memory p (then_writing w v) v journal asks Unfinished ending
    (λ h. (p, turns, short_of whole_form p turns w v asks answer (λ e. cc) on from run h))
    (λ le writes. (
      full,
      not_over p journal x.runnable.legal none,
      fault_writes whole_form p turns w v asks answer Unfinished on from run le writes,
    )) h

pub memory_written : (p : Settings) (w v : Writing) (n : ℕ) (journal : List Entry) (asks : List (ℕ × Ask))
    (ending : Result RunOutcome Fault) → v.taken ≡ w.taken_after → v.faults ≡ w.faults_after
    → HasWritten p w n journal asks → EndsAtFault v (ask_lines asks) Memory ending
    → WritesEnd p journal (then_writing w v) ending
memory_written p w v n journal asks ending on from x h =
    let short = lives_short p w v asks on from
    (run_out p journal w n asks x.events x.extra x.sent x.runnable.legal x.flags x.asked x.part x.told) in
    fault_or_memory p (then_writing w v) v journal asks Memory ending short
    (λ le writes. short (short_written (ask_lines asks) v writes)) h

-- so a run that is over ends, by whether an event was refused
pub over_written : (p : Settings) (w v : Writing) (n : ℕ) (journal : List Entry) (asks : List (ℕ × Ask))
    (o : RunOutcome) (refused : Bool) (ending : Result RunOutcome Fault) → v.taken ≡ w.taken_after
    → v.faults ≡ w.faults_after → IsOver p w n journal asks o refused
    → EndsOver v (ask_lines asks) o refused ending → WritesEnd p journal (then_writing w v) ending
over_written p w v n journal asks o true ending on from x h = rough_written p w v n journal asks o ending on from x h
over_written p w v n journal asks o false ending on from x h = calm_written p w v n journal asks o ending on from x h

-- and one that isn't over
pub open_written : (p : Settings) (w v : Writing) (n : ℕ) (journal : List Entry) (asks : List (ℕ × Ask))
    (fault : Fault) (ending : Result RunOutcome Fault) → v.taken ≡ w.taken_after → v.faults ≡ w.faults_after
    → outcome p (past_of p journal) ≡ None → HasWritten p w n journal asks → IsOpenFault (length journal) fault
    → EndsAtFault v (ask_lines asks) fault ending → WritesEnd p journal (then_writing w v) ending
open_written p w v n journal asks fault ending on from none x (inl full) h =
    full_written p w v n journal asks ending on from full.1 none x (subst
    (λ f. EndsAtFault v (ask_lines asks) f ending) full.0 h)
open_written p w v n journal asks fault ending on from none x (inr memory) h =
    memory_written p w v n journal asks ending on from x
    (subst (λ f. EndsAtFault v (ask_lines asks) f ending) memory h)

-- the end of a run of `live` that was closed
run_ends : {W : Type 0} (said : W → List Heard → Type 0) (p : Settings) (w : Writing) (l : Live W)
    (ending : Result RunOutcome Fault) → IsClosed said p l → WritesEnd p l.journal w ending
    → IsRunEnd said p w (kept_by ending l) (ending_of ending)
run_ends said p w l (Ok o) closed h = ((closed, h.0, h.1), h.2)
run_ends said p w l (Err Report) closed h = ((closed, h.0), h.1)
run_ends said p w l (Err Unfinished) closed h = (closed, h.0, h.1, h.2)
run_ends said p w l (Err Memory) closed h = (refl, h)
run_ends said p w l (Err Words) closed h = absurd h
run_ends said p w l (Err (Line k)) closed h = absurd h
run_ends said p w l (Err (BadPlan f)) closed h = absurd h
run_ends said p w l (Err (NotEnabled k)) closed h = absurd h
run_ends said p w l (Err (ThirdSignal k)) closed h = absurd h
run_ends said p w l (Err Read) closed h = absurd h
run_ends said p w l (Err TooLong) closed h = absurd h

pub over_ends : {W : Type 0} (said : W → List Heard → Type 0) (p : Settings) (w v : Writing) (n : ℕ) (l : Live W)
    (asks : List (ℕ × Ask)) (o : RunOutcome) (refused : Bool) (ending : Result RunOutcome Fault)
    → v.taken ≡ w.taken_after → v.faults ≡ w.faults_after → IsClosed said p l
    → IsOver p w n l.journal asks o refused → EndsOver v (ask_lines asks) o refused ending
    → IsRunEnd said p (then_writing w v) (kept_by ending l) (ending_of ending)
over_ends said p w v n l asks o refused ending on from closed x h =
    run_ends said p (then_writing w v) l ending closed
    (over_written p w v n l.journal asks o refused ending on from x h)

pub open_ends : {W : Type 0} (said : W → List Heard → Type 0) (p : Settings) (w v : Writing) (n : ℕ) (l : Live W)
    (asks : List (ℕ × Ask)) (fault : Fault) (ending : Result RunOutcome Fault) → v.taken ≡ w.taken_after
    → v.faults ≡ w.faults_after → IsClosed said p l → outcome p (past_of p l.journal) ≡ None
    → HasWritten p w n l.journal asks → IsOpenFault (length l.journal) fault
    → EndsAtFault v (ask_lines asks) fault ending
    → IsRunEnd said p (then_writing w v) (kept_by ending l) (ending_of ending)
open_ends said p w v n l asks fault ending on from closed none x why h =
    run_ends said p (then_writing w v) l ending closed
    (open_written p w v n l.journal asks fault ending on from none x why h)
