-- Each cause gives its status, of `play`.
use Rattle.std.proofs.Common.{◌≡◌, ◌∙◌, ℕ, ◌<◌, ◌≤◌, ◌⊎◌, inl, inr, List, length, take, Bool, true, false, Some, None}
use Rattle.std.proofs.Common.{Option, Result, Ok, Err, refl, sym, ap, subst, arith}
use Rattle.std.proofs.Math.Seq.{take-length}
use Rattle.run_events.specs.declared.plan.Plan.{Plan}
use Rattle.run_events.specs.declared.settings.Settings.{Settings}
use Rattle.run_events.specs.declared.turn.Turn.{Turn}
use Rattle.run_events.specs.declared.outcome.RunOutcome.{RunOutcome}
use Rattle.run_model.specs.Journal.{past_of, outcome}
use Rattle.run_model.specs.Words.{is_over}
use Rattle.run_laws.specs.Course.{turns_of, refusals, refuses_as_in, Stops}
use Rattle.run_laws.specs.Course.{GoesOn, Ends, HasOneCourse}
use Rattle.run_laws.proofs.board.Courses.{one_course}
use Rattle.run_engine.specs.Execution.{IsRefusedAt}
use Rattle.run_engine.specs.declared.errors.TestRunnerBuildError.{TestRunnerBuildError}
use Rattle.run_input.specs.declared.plan_line.RunnerKeys.{RunnerKeys}
use Rattle.run_output.specs.declared.fault.Fault.{Fault}
use Rattle.run_output.specs.declared.fault.Fault.TheVariants.{Words, Line, Plan as BadPlan, NotEnabled, ThirdSignal}
use Rattle.run_output.specs.declared.fault.Fault.TheVariants.{Unfinished, Report, Read, Memory, TooLong}
use Rattle.run_cli.specs.Call.{Writing, HasWriteFault}
use Rattle.run_cli.specs.Cause.{IsAnsweredSo, GetsByCourse, stop_status}
use Rattle.run_cli.specs.Executed.{TookParts, report_ending}
use Rattle.run_cli.specs.Finish.{IsReplayed, IsInputEnding}
use Rattle.run_cli.specs.Plans.{settings_for, plan_refusal}
use Rattle.run_cli.specs.Text.{whole_form, rest_text, outcome_status, ending_status}
use Rattle.run_cli.specs.declared.command.Command.TheVariants.{Replay}
use Rattle.run_cli.proofs.CauseLemmas.{never_refused, false_at, journal_of, memory_gets, refused_gets}

-- ---- a journal's own answers

-- the answers of a journal, as a reporter
pub answers_in : (w : Writing) (p : Settings) (r : IsReplayed p w) → ¬ HasWriteFault w → (n : ℕ)
    → refuses_as_in r.journal n ≡ false
answers_in w p r calm n = false_at (refusals r.journal) n (r.tied calm)

-- the courses that a journal shows
pub ends_by : (p : Settings) (w : Writing) (turns : List Turn) (r : IsReplayed p w) (o : RunOutcome)
    → turns_of r.journal ≡ turns → outcome p (past_of p r.journal) ≡ Some o
    → Ends p turns (refuses_as_in r.journal) o
ends_by p w turns r o all is = (r.journal, journal_of p turns r.journal r.legal all, is)

pub goes_by : (p : Settings) (w : Writing) (turns : List Turn) (r : IsReplayed p w) → turns_of r.journal ≡ turns
    → is_over (past_of p r.journal) ≡ false → GoesOn p turns (refuses_as_in r.journal)
goes_by p w turns r all still = (r.journal, journal_of p turns r.journal r.legal all, still)

pub stops_by : (p : Settings) (w : Writing) (turns : List Turn) (r : IsReplayed p w) (place : ℕ) (third : Bool)
    → IsRefusedAt p turns r.journal place third → Stops p turns (refuses_as_in r.journal) place third
stops_by p w turns r place third h =
    (r.journal, journal_of p (take place turns) r.journal r.legal h.0, h.1)

-- the answers that the sink shows
shown : (p : Settings) (w : Writing) (turns : List Turn) (r : IsReplayed p w) (place : ℕ)
    (ending : Result RunOutcome Fault) → turns_of r.journal ≡ take place turns
    → TookParts whole_form (past_of p r.journal) (rest_text whole_form (past_of p r.journal) ending) w
    → IsAnsweredSo whole_form p turns (refuses_as_in r.journal) w
shown p w turns r place ending takes parts = record {
  place = place;
  journal = r.journal;
  answered = journal_of p (take place turns) r.journal r.legal takes;
  ending = ending;
  parts = parts;
}

pub all_of : (p : Settings) (w : Writing) (turns : List Turn) (r : IsReplayed p w) → turns_of r.journal ≡ turns
    → turns_of r.journal ≡ take (length turns) turns
all_of p w turns r all = all ∙ sym (take-length turns)

-- ---- a replay's ends

-- a run that ended: with its outcome, or where the sink failed
ended_gets : (keys : RunnerKeys) (plan : Plan) (turns : List Turn) (w : Writing) (ending : Result RunOutcome Fault)
    (status : ℕ) (o : RunOutcome) → plan_refusal keys plan ≡ None → (r : IsReplayed (settings_for keys plan) w)
    → turns_of r.journal ≡ turns
    → outcome (settings_for keys plan) (past_of (settings_for keys plan) r.journal) ≡ Some o
    → TookParts whole_form (past_of (settings_for keys plan) r.journal)
    (rest_text whole_form (past_of (settings_for keys plan) r.journal) ending) w
    → (¬ HasWriteFault w → status ≡ outcome_status o) → (w.faults < w.faults_after → status ≡ 9)
    → GetsByCourse Replay keys plan turns w status
ended_gets keys plan turns w ending status o accepted r all is parts calm_is rose_is =
    let p : Settings = settings_for keys plan in
    let one : HasOneCourse p turns (refuses_as_in r.journal) = one_course p turns (refuses_as_in r.journal) in
    let ends = ends_by p w turns r o all is in
    record {
      refuses = refuses_as_in r.journal;
      tied = answers_in w p r;
      refused = λ e x. never_refused (plan_refusal keys plan) e accepted x;
      stops = λ a k third s. absurd (one.stop_or_end k third o s ends);
      answered = λ a. inr (shown p w turns r (length turns) ending (all_of p w turns r all) parts);
      unfinished = λ a g. absurd (one.unfinished_or_end o g ends);
      ended = λ a u e calm. inl (calm_is calm ∙ ap outcome_status (one.one_end o u ends e));
      unreported = λ a u e lt. inl (rose_is lt);
    }

stopped_gets : (keys : RunnerKeys) (plan : Plan) (turns : List Turn) (w : Writing) (ending : Result RunOutcome Fault)
    (place : ℕ) (third : Bool) → plan_refusal keys plan ≡ None → (r : IsReplayed (settings_for keys plan) w)
    → IsRefusedAt (settings_for keys plan) turns r.journal place third
    → TookParts whole_form (past_of (settings_for keys plan) r.journal)
    (rest_text whole_form (past_of (settings_for keys plan) r.journal) ending) w
    → GetsByCourse Replay keys plan turns w (stop_status third)
stopped_gets keys plan turns w ending place third accepted r h parts =
    let p : Settings = settings_for keys plan in
    let one : HasOneCourse p turns (refuses_as_in r.journal) = one_course p turns (refuses_as_in r.journal) in
    let stops = stops_by p w turns r place third h in
    record {
      refuses = refuses_as_in r.journal;
      tied = answers_in w p r;
      refused = λ e x. never_refused (plan_refusal keys plan) e accepted x;
      stops = λ a k t s. inl (ap stop_status (one.one_stop place k third t stops s).1);
      answered = λ a. inr (shown p w turns r place ending h.0 parts);
      unfinished = λ a g. absurd (one.stop_or_unfinished place third stops g);
      ended = λ a u e calm. absurd (one.stop_or_end place third u stops e);
      unreported = λ a u e lt. absurd (one.stop_or_end place third u stops e);
    }

unfinished_gets : (keys : RunnerKeys) (plan : Plan) (turns : List Turn) (w : Writing) (ending : Result RunOutcome Fault)
    → plan_refusal keys plan ≡ None → (r : IsReplayed (settings_for keys plan) w) → turns_of r.journal ≡ turns
    → is_over (past_of (settings_for keys plan) r.journal) ≡ false
    → TookParts whole_form (past_of (settings_for keys plan) r.journal)
    (rest_text whole_form (past_of (settings_for keys plan) r.journal) ending) w
    → GetsByCourse Replay keys plan turns w 8
unfinished_gets keys plan turns w ending accepted r all still parts =
    let p : Settings = settings_for keys plan in
    let one : HasOneCourse p turns (refuses_as_in r.journal) = one_course p turns (refuses_as_in r.journal) in
    let goes = goes_by p w turns r all still in
    record {
      refuses = refuses_as_in r.journal;
      tied = answers_in w p r;
      refused = λ e x. never_refused (plan_refusal keys plan) e accepted x;
      stops = λ a k third s. absurd (one.stop_or_unfinished k third s goes);
      answered = λ a. inr (shown p w turns r (length turns) ending (all_of p w turns r all) parts);
      unfinished = λ a g. inl refl;
      ended = λ a u e calm. absurd (one.unfinished_or_end u goes e);
      unreported = λ a u e lt. absurd (one.unfinished_or_end u goes e);
    }

-- a plan and its turns that end so get the status of that end
pub input_gets : (keys : RunnerKeys) (plan : Plan) (turns : List Turn) (w : Writing) (ending : Result RunOutcome Fault)
    → IsInputEnding Replay keys plan turns w ending → GetsByCourse Replay keys plan turns w (ending_status ending)
input_gets keys plan turns w (Ok o) (accepted, (r, all, is, text, stayed, parts)) =
    ended_gets keys plan turns w (Ok o) (outcome_status o) o accepted r all is parts (λ calm. refl)
    (λ lt. absurd (omega arith))
input_gets keys plan turns w (Err Report) (accepted, (r, all, (o, is, parts), rose)) =
    ended_gets keys plan turns w (report_ending r.journal o) 9 o accepted r all is parts (λ calm. absurd (calm rose))
    (λ lt. refl)
input_gets keys plan turns w (Err (NotEnabled place)) (accepted, (r, h, writes)) =
    stopped_gets keys plan turns w (Err (NotEnabled place)) place false accepted r h writes.parts
input_gets keys plan turns w (Err (ThirdSignal place)) (accepted, (r, h, writes)) =
    stopped_gets keys plan turns w (Err (ThirdSignal place)) place true accepted r h writes.parts
input_gets keys plan turns w (Err Unfinished) (accepted, (r, all, still, writes)) =
    unfinished_gets keys plan turns w (Err Unfinished) accepted r all still writes.parts
input_gets keys plan turns w (Err (BadPlan fault)) ((error, refused, is), writes) =
    refused_gets Replay keys plan turns w error refused
input_gets keys plan turns w (Err Memory) h = memory_gets Replay keys plan turns w
input_gets keys plan turns w (Err Words) h = absurd h.1
input_gets keys plan turns w (Err (Line n)) h = absurd h.1
input_gets keys plan turns w (Err Read) h = absurd h.1
input_gets keys plan turns w (Err TooLong) h = absurd h.1
