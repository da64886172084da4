-- The run, and then its last lines.
use Rattle.std.proofs.Common.{◌≡◌, ℕ, ◌≤◌, inl, inr, List, [], ◌++◌, length, map, take, if◌then◌else◌, true, false}
use Rattle.std.proofs.Common.{Bool, Option, Some, None, is_none, IsSome, Result, Ok, Err, refl, ap, sym, subst, ◌∙◌}
use Rattle.std.proofs.Common.{arith}
use Rattle.run_capture.specs.Faults.{Rose}
use Rattle.run_capture.specs.declared.source.Failed.{Failed}
use Rattle.run_capture.proofs.BytesLemmas.{takes_both}
use Rattle.run_events.specs.declared.settings.Settings.{Settings}
use Rattle.run_events.specs.declared.turn.Turn.{Turn}
use Rattle.run_events.specs.declared.ask.Ask.{Ask}
use Rattle.run_events.specs.declared.outcome.RunOutcome.{RunOutcome}
use Rattle.run_model.specs.declared.happening.Happening.{Happening}
use Rattle.run_model.specs.Words.{asked}
use Rattle.run_model.specs.Journal.{past_of}
use Rattle.run_engine.proofs.OutcomeLemmas.{has_outcome}
use Rattle.run_engine.specs.Execution.{IsAnswerOf}
use Rattle.run_engine.specs.World.{flagged}
use Rattle.run_laws.specs.Course.{turns_of}
use Rattle.run_model.specs.declared.entry.Entry.{Entry}
use Rattle.std.proofs.lemmas.List.{append-nil}
use Rattle.run_engine.specs.declared.errors.TestRunnerExecuteErrors.{TestRunnerExecuteErrors}
use Rattle.run_engine.specs.declared.errors.TestRunnerExecuteErrors.TheVariants as engine
use Rattle.run_output.specs.declared.fault.Fault.{Fault}
use Rattle.run_output.specs.declared.fault.Fault.TheVariants.{Words, Line, Plan as BadPlan, NotEnabled, ThirdSignal}
use Rattle.run_output.specs.declared.fault.Fault.TheVariants.{Unfinished, Report, Read, Memory, TooLong}
use Rattle.run_output.specs.Fields.{line_bytes}
use Rattle.run_output.specs.Outcomes.{outcome_text}
use Rattle.run_cli.specs.Call.{Writing, then_writing, HasTaken, HasWriteFault, Writes}
use Rattle.run_output.specs.Asks.{ask_lines}
use Rattle.run_cli.specs.Text.{Form, joined, fault_only, last_text, rest_text}
use Rattle.run_cli.specs.Executed.{IsExecuted, TookParts, WritesRun, report_ending}
use Rattle.run_cli.specs.Finish.{EndsAtFault, EndsAtOutcome, IsAnswered, IsReplayed, IsReplayEnding}
use Rattle.run_cli.specs.Short.{IsShort, IsRunOut, RunsShort, ending_by, fault_of_error}
use Rattle.run_cli.proofs.ShortLemmas.{short_written, take-whole}

-- a count that rose before it stayed or rose has risen
pub rose_then : (a b c : ℕ) → Rose a b → b ≤ c → Rose a c
rose_then a b c r le = omega arith

pub some_is : (o : Option Failed) (d : Failed) → o ≡ Some d → IsSome o
some_is None d e = cc
some_is (Some x) d e = refl

-- the lines of a run whose events were all taken, and then those of its asks and its end; w is the run, v its last
-- lines,
-- which begin where it ended
pub whole_text : (form : Form) (p : Settings) (turns : List Turn) (w v : Writing) (asks : List (ℕ × Ask))
    (answer : Result RunOutcome (TestRunnerExecuteErrors Failed)) (last : List ℕ) → v.taken ≡ w.taken_after
    → (x : IsExecuted form p turns w asks answer) → x.refusal ≡ None → HasTaken v (ask_lines asks ++ last)
    → HasTaken (then_writing w v)
    (joined (form.lines (past_of p x.journal)) ++ (ask_lines (form.asks (asked (past_of p x.journal))) ++ last))
whole_text form p turns w v asks answer last on x none rest =
    let past : List Happening = past_of p x.journal in
    takes_both w.taken w.taken_after v.taken_after (joined (form.lines past))
    (ask_lines (form.asks (asked past)) ++ last)
    (x.told none)
    (subst (λ told_asks. HasTaken (record v { taken = w.taken_after }) (ask_lines told_asks ++ last)) x.asked
    (subst (λ t. HasTaken (record v { taken = t }) (ask_lines asks ++ last)) on rest))

-- the lines of its events, each as it was taken, and then those of its asks and its end
pub took_parts : (form : Form) (p : Settings) (turns : List Turn) (w v : Writing) (asks : List (ℕ × Ask))
    (answer : Result RunOutcome (TestRunnerExecuteErrors Failed)) (last : List ℕ) → v.taken ≡ w.taken_after
    → v.faults ≡ w.faults_after → (x : IsExecuted form p turns w asks answer) → Writes v (ask_lines asks ++ last)
    → TookParts form (past_of p x.journal) (ask_lines (form.asks (asked (past_of p x.journal))) ++
    last) (then_writing w v)
took_parts form p turns w v asks answer last on from x writes = record {
  between = w.taken_after;
  count = w.faults_after;
  events = x.took;
  last = subst (λ sent. Writes (record v { taken = w.taken_after; faults = w.faults_after }) (ask_lines sent ++ last))
      x.asked
      (subst (λ n. Writes (record v { taken = w.taken_after; faults = n }) (ask_lines asks ++ last)) from
      (subst (λ t. Writes (record v { taken = t }) (ask_lines asks ++ last)) on writes));
}

-- bytes that went out are whole where the sink's count didn't rise
pub whole_of : (v : Writing) (text : List ℕ) → Writes v text → ¬ HasWriteFault v → HasTaken v text
whole_of v text (inl whole) calm = whole.1
whole_of v text (inr front) calm = absurd (calm front.1)

-- where the sink failed neither in the run nor after it, no event was refused
calm_run : (form : Form) (p : Settings) (turns : List Turn) (w v : Writing) (asks : List (ℕ × Ask))
    (answer : Result RunOutcome (TestRunnerExecuteErrors Failed)) → w.faults_after ≤ v.faults_after
    → (x : IsExecuted form p turns w asks answer) → ¬ HasWriteFault (then_writing w v) → x.refusal ≡ None
calm_run form p turns w v asks answer le x calm = by_refusal x.refusal refl
  where
    by_refusal : (o : Option Failed) → x.refusal ≡ o → o ≡ None
    by_refusal None e = refl
    by_refusal (Some d) e =
        absurd (calm (rose_then w.faults w.faults_after v.faults_after (x.risen (some_is x.refusal d e)) le))

-- the run so far: its journal is legal, and tied to the sink
replayed : (form : Form) (p : Settings) (turns : List Turn) (w v : Writing) (asks : List (ℕ × Ask))
    (answer : Result RunOutcome (TestRunnerExecuteErrors Failed)) → w.faults_after ≤ v.faults_after
    → IsExecuted form p turns w asks answer → IsReplayed p (then_writing w v)
replayed form p turns w v asks answer le x = record {
  journal = x.journal;
  legal = x.runnable.legal;
  tied = λ calm. sym x.marked ∙ ap is_none (calm_run form p turns w v asks answer le x calm);
}

-- the lines of a run that ends at a fault
pub fault_writes : (form : Form) (p : Settings) (turns : List Turn) (w v : Writing) (asks : List (ℕ × Ask))
    (answer : Result RunOutcome (TestRunnerExecuteErrors Failed)) (fault : Fault) → v.taken ≡ w.taken_after
    → v.faults ≡ w.faults_after → (x : IsExecuted form p turns w asks answer) → v.faults ≤ v.faults_after
    → Writes v (ask_lines asks ++ fault_only fault)
    → WritesRun form (past_of p x.journal) (Err fault) (then_writing w v)
fault_writes form p turns w v asks answer fault on from x le writes = record {
  whole = λ calm.
      let none = calm_run form p turns w v asks answer (omega arith) x calm in
      let stayed : v.faults ≡ w.faults = from ∙ x.quiet none in
      whole_text form p turns w v asks answer (fault_only fault) on x none
      (whole_of v (ask_lines asks ++ fault_only fault) writes
      (λ rose. calm (subst (λ n. Rose n v.faults_after) stayed rose)));
  parts = took_parts form p turns w v asks answer (fault_only fault) on from x writes;
}

-- the last line of a run that is over, by whether an event was refused
pub report_of : (form : Form) (p : Settings) (turns : List Turn) (w v : Writing) (asks : List (ℕ × Ask))
    (answer : Result RunOutcome (TestRunnerExecuteErrors Failed)) (x : IsExecuted form p turns w asks answer)
    (o : RunOutcome) (b : Bool)
    → is_none x.refusal ≡ b
    → TookParts form (past_of p x.journal) (rest_text form (past_of p x.journal) (if b then Ok o else Err Report))
    (then_writing w v)
    → TookParts form (past_of p x.journal) (rest_text form (past_of p x.journal) (report_ending x.journal o))
    (then_writing w v)
report_of form p turns w v asks answer x o b is parts =
    subst (λ b. TookParts form (past_of p x.journal)
    (rest_text form (past_of p x.journal) (if b then Ok o else Err Report)) (then_writing w v))
    (sym is ∙ x.marked) parts

-- what went out where the run's lines ended
pub begun_there : (v w : Writing) (text : List ℕ) → v.taken ≡ w.taken_after → v.faults ≡ w.faults_after → IsShort text v
    → IsShort text (record v { taken = w.taken_after; faults = w.faults_after })
begun_there v w text on from h =
    subst (λ n. IsShort text (record v { taken = w.taken_after; faults = n })) from
    (subst (λ t. IsShort text (record v { taken = t })) on h)

-- the turns of a journal are the first of those that were given
pub taken_by : (p : Settings) (turns : List Turn) (journal : List Entry) (refusal : Option Failed)
    (answer : Result RunOutcome (TestRunnerExecuteErrors Failed)) → (answer ≡ Err engine.OutOfMemory → ⊥)
    → IsAnswerOf p turns journal refusal answer → (n : ℕ) × (turns_of journal ≡ take n turns)
taken_by p turns journal refusal (Ok o) some h = (length turns, h.0 ∙ sym (take-whole turns))
taken_by p turns journal refusal (Err (engine.Report e)) some h = (length turns, h.0 ∙ sym (take-whole turns))
taken_by p turns journal refusal (Err (engine.NotEnabled i)) some h = (i, h.0)
taken_by p turns journal refusal (Err (engine.ThirdSignal i)) some h = (i, h.0)
taken_by p turns journal refusal (Err engine.Unfinished) some h = (length turns, h.0 ∙ sym (take-whole turns))
taken_by p turns journal refusal (Err engine.OutOfMemory) some h = absurd (some refl)

-- a run that was answered, after whose turns memory was wanting
unfoldable pub short_of : (form : Form) (p : Settings) (turns : List Turn) (w v : Writing) (asks : List (ℕ × Ask))
    (answer : Result RunOutcome (TestRunnerExecuteErrors Failed)) → (answer ≡ Err engine.OutOfMemory → ⊥)
    → v.taken ≡ w.taken_after → v.faults ≡ w.faults_after → IsExecuted form p turns w asks answer
    → IsShort (ask_lines asks ++ line_bytes (last_text (ending_by answer))) v
    → RunsShort form p turns (then_writing w v)
short_of form p turns w v asks answer some on from x h =
    let taken = taken_by p turns x.journal x.refusal answer some x.says in
    record {
      journal = x.journal;
      legal = x.runnable.legal;
      taken = taken.0;
      takes = taken.1;
      refusal = x.refusal;
      answer = answer;
      says = x.says;
      asks = asks;
      later = [];
      asked = sym x.asked ∙ sym (append-nil asks);
      one = omega arith;
      between = w.taken_after;
      count = w.faults_after;
      events = record {
        events = x.took.events;
        left = [];
        flags = append-nil (map flagged x.took.events) ∙ x.took.flags;
        few = omega arith;
        took = x.took.took;
        counted = x.took.counted;
      };
      whole = λ _. (refl, refl);
      last = begun_there v w (ask_lines asks ++ line_bytes (last_text (ending_by answer))) on from h;
    }

-- one for which memory was wanting
unfoldable pub short_run : (form : Form) (p : Settings) (turns : List Turn) (w v : Writing) (asks : List (ℕ × Ask))
    → v.taken ≡ w.taken_after → v.faults ≡ w.faults_after → IsRunOut form p turns w asks
    → IsShort (ask_lines asks ++ fault_only Memory) v → RunsShort form p turns (then_writing w v)
short_run form p turns w v asks on from x h = record {
  journal = x.journal;
  legal = x.legal;
  taken = x.taken;
  takes = x.takes;
  refusal = None;
  answer = Err engine.OutOfMemory;
  says = tt;
  asks = asks;
  later = x.later;
  asked = x.asked;
  one = x.one;
  between = w.taken_after;
  count = w.faults_after;
  events = x.took;
  whole = λ other. absurd (other refl);
  last = begun_there v w (ask_lines asks ++ fault_only Memory) on from h;
}

-- after an outcome
pub outcome_ends : (form : Form) (p : Settings) (turns : List Turn) (w v : Writing) (asks : List (ℕ × Ask))
    (o : RunOutcome)
    (ending : Result RunOutcome Fault) → v.taken ≡ w.taken_after → v.faults ≡ w.faults_after
    → IsExecuted form p turns w asks (Ok o) → EndsAtOutcome v (ask_lines asks) o ending → v.faults ≤ v.faults_after
    → IsReplayEnding form p turns (then_writing w v) ending
unfolding replayed
outcome_ends form p turns w v asks o (Ok e) on from x h le =
    let text : HasTaken v (ask_lines asks ++ line_bytes (outcome_text e)) =
    subst (λ u. HasTaken v (ask_lines asks ++ line_bytes (outcome_text u))) (sym h.0) h.1 in (
      replayed form p turns w v asks (Ok o) (omega arith) x,
      x.says.0,
      x.says.1 ∙ ap Some (sym h.0),
      whole_text form p turns w v asks (Ok o) (line_bytes (outcome_text e)) on x x.says.2 text,
      h.2 ∙ from ∙ x.quiet x.says.2,
      took_parts form p turns w v asks (Ok o) (line_bytes (outcome_text e)) on from x (inl (h.2, text)),
    )
outcome_ends form p turns w v asks o (Err Report) on from x h le = (
  replayed form p turns w v asks (Ok o) (omega arith) x,
  x.says.0,
  (
    o,
    x.says.1,
    report_of form p turns w v asks (Ok o) x o true (ap is_none x.says.2)
        (took_parts form p turns w v asks (Ok o) (line_bytes (outcome_text o)) on from x (inr h)),
  ),
  subst (λ n. Rose n v.faults_after) (from ∙ x.quiet x.says.2) h.1,
)
outcome_ends form p turns w v asks o (Err Memory) on from x h le =
    short_of form p turns w v asks (Ok o) (λ e. cc) on from x h
outcome_ends form p turns w v asks o (Err Words) on from x h le = absurd h
outcome_ends form p turns w v asks o (Err (Line n)) on from x h le = absurd h
outcome_ends form p turns w v asks o (Err (BadPlan f)) on from x h le = absurd h
outcome_ends form p turns w v asks o (Err (NotEnabled n)) on from x h le = absurd h
outcome_ends form p turns w v asks o (Err (ThirdSignal n)) on from x h le = absurd h
outcome_ends form p turns w v asks o (Err Unfinished) on from x h le = absurd h
outcome_ends form p turns w v asks o (Err Read) on from x h le = absurd h
outcome_ends form p turns w v asks o (Err TooLong) on from x h le = absurd h

-- after a fault: what it says, or want of memory
fault_ends : (form : Form) (p : Settings) (turns : List Turn) (w v : Writing) (lines : List ℕ) (fault : Fault)
    (ending : Result RunOutcome Fault)
    → (IsShort (lines ++ fault_only fault) v → RunsShort form p turns (then_writing w v))
    → (v.faults ≤ v.faults_after → Writes v (lines ++ fault_only fault)
    → IsReplayEnding form p turns (then_writing w v) (Err fault))
    → EndsAtFault v lines fault ending → IsReplayEnding form p turns (then_writing w v) ending
fault_ends form p turns w v lines fault (Ok o) short says h = absurd h
fault_ends form p turns w v lines fault (Err e) short says (inl m) =
    subst (λ f. IsReplayEnding form p turns (then_writing w v) (Err f)) (sym m.0) (short m.1)
fault_ends form p turns w v lines fault (Err e) short says (inr h) =
    subst (λ f. IsReplayEnding form p turns (then_writing w v) (Err f)) (sym h.0) (says h.1 h.2)

-- after an error of the engine
pub error_ends : (form : Form) (p : Settings) (turns : List Turn) (w v : Writing) (lines : List ℕ)
    (error : TestRunnerExecuteErrors Failed) (ending : Result RunOutcome Fault) → v.taken ≡ w.taken_after
    → v.faults ≡ w.faults_after → IsAnswered form p turns w lines (Err error)
    → EndsAtFault v lines (fault_of_error error) ending → IsReplayEnding form p turns (then_writing w v) ending
unfolding replayed
error_ends form p turns w v lines (engine.Report d) ending on from ((asks, is, x), _) h =
    let end = has_outcome p x.journal x.runnable.legal x.says.1 in
    fault_ends form p turns w v (ask_lines asks) Report ending
    (short_of form p turns w v asks (Err (engine.Report d)) (λ e. cc) on from x)
    (λ le writes. (
      replayed form p turns w v asks (Err (engine.Report d)) (omega arith) x,
      x.says.0,
      (
        end.0,
        end.1,
        report_of form p turns w v asks (Err (engine.Report d)) x end.0 false (ap is_none x.says.2)
            (took_parts form p turns w v asks (Err (engine.Report d)) (fault_only Report) on from x writes),
      ),
      rose_then w.faults w.faults_after v.faults_after (x.risen (some_is x.refusal d x.says.2)) (omega arith),
    )) (subst (λ lines. EndsAtFault v lines Report ending) is h)
error_ends form p turns w v lines (engine.NotEnabled place) ending on from ((asks, is, x), _) h =
    fault_ends form p turns w v (ask_lines asks) (NotEnabled place) ending
    (short_of form p turns w v asks (Err (engine.NotEnabled place)) (λ e. cc) on from x)
    (λ le writes. (
      replayed form p turns w v asks (Err (engine.NotEnabled place)) (omega arith) x,
      x.says,
      fault_writes form p turns w v asks (Err (engine.NotEnabled place)) (NotEnabled place) on from x le writes,
    )) (subst (λ lines. EndsAtFault v lines (NotEnabled place) ending) is h)
error_ends form p turns w v lines (engine.ThirdSignal place) ending on from ((asks, is, x), _) h =
    fault_ends form p turns w v (ask_lines asks) (ThirdSignal place) ending
    (short_of form p turns w v asks (Err (engine.ThirdSignal place)) (λ e. cc) on from x)
    (λ le writes. (
      replayed form p turns w v asks (Err (engine.ThirdSignal place)) (omega arith) x,
      x.says,
      fault_writes form p turns w v asks (Err (engine.ThirdSignal place)) (ThirdSignal place) on from x le writes,
    )) (subst (λ lines. EndsAtFault v lines (ThirdSignal place) ending) is h)
error_ends form p turns w v lines engine.Unfinished ending on from ((asks, is, x), _) h =
    fault_ends form p turns w v (ask_lines asks) Unfinished ending
    (short_of form p turns w v asks (Err engine.Unfinished) (λ e. cc) on from x)
    (λ le writes. (
      replayed form p turns w v asks (Err engine.Unfinished) (omega arith) x,
      x.says.0,
      x.says.1,
      fault_writes form p turns w v asks (Err engine.Unfinished) Unfinished on from x le writes,
    )) (subst (λ lines. EndsAtFault v lines Unfinished ending) is h)
error_ends form p turns w v lines engine.OutOfMemory ending on from (_, out) h =
    let x = out refl in
    let short = λ (h : IsShort (lines ++ fault_only Memory) v). short_run form p turns w v x.0 on from x.2
    (subst (λ lines. IsShort (lines ++ fault_only Memory) v) x.1 h) in
    fault_ends form p turns w v lines Memory ending short (λ le writes. short (short_written lines v writes)) h
