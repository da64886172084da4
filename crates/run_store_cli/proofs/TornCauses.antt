-- Each cause gives its status, of the turns of a torn store.
use Rattle.std.proofs.Common.{◌≡◌, ◌∙◌, ℕ, ◌<◌, ◌⊎◌, inl, inr, List, length, take, Bool, true, false, Some, None}
use Rattle.std.proofs.Common.{Result, Ok, Err, refl, sym, ap, subst, arith}
use Rattle.run_events.specs.declared.plan.Plan.{Plan}
use Rattle.run_events.specs.declared.settings.Settings.{Settings}
use Rattle.run_events.specs.declared.turn.Turn.{Turn}
use Rattle.run_events.specs.declared.outcome.RunOutcome.{RunOutcome}
use Rattle.run_model.specs.Journal.{past_of}
use Rattle.run_model.specs.Words.{is_over}
use Rattle.run_laws.specs.Course.{turns_of, refuses_none, refuses_as_in, Stops, HasOneCourse}
use Rattle.run_laws.proofs.board.Courses.{one_course}
use Rattle.run_engine.proofs.OutcomeLemmas.{has_outcome}
use Rattle.run_engine.specs.Execution.{IsRefusedAt}
use Rattle.run_engine.specs.declared.errors.TestRunnerBuildError.{TestRunnerBuildError}
use Rattle.run_input.specs.declared.plan_line.RunnerKeys.{RunnerKeys}
use Rattle.run_output.specs.declared.fault.Fault.{Fault}
use Rattle.run_output.specs.declared.fault.Fault.TheVariants.{Words, Line, Plan as BadPlan, NotEnabled, ThirdSignal}
use Rattle.run_output.specs.declared.fault.Fault.TheVariants.{Unfinished, Report, Read, Memory, TooLong}
use Rattle.run_output.specs.Faults.{fault_status}
use Rattle.run_cli.specs.Call.{Writing, HasWriteFault}
use Rattle.run_cli.specs.Cause.{stop_status}
use Rattle.run_cli.specs.Executed.{TookParts}
use Rattle.run_cli.specs.Finish.{IsReplayed, IsReplayEnding}
use Rattle.run_cli.specs.Plans.{settings_for, plan_refusal}
use Rattle.run_cli.specs.Text.{whole_form}
use Rattle.run_store_cli.specs.Causes.{ShowsAnswers, GetsTorn}
use Rattle.run_store_cli.specs.Torn.{stops_play, IsTornEnd, IsTornInput, WritesTorn, torn_rest}
use Rattle.run_cli.proofs.CauseLemmas.{never_refused, journal_of}
use Rattle.run_store_cli.proofs.PlayCauses.{answers_in, stops_by, goes_by, ends_by, all_of}

pub torn_memory : (keys : RunnerKeys) (plan : Plan) (turns : List Turn) (w : Writing) → GetsTorn keys plan turns w 11
torn_memory keys plan turns w = record {
  refuses = refuses_none;
  tied = λ calm n. refl;
  refused = λ e r. inr refl;
  answered = λ a. inl refl;
  stops = λ a k third s. inr refl;
  unfinished = λ a g. inr refl;
  ended = λ a o e. inr refl;
}

torn_refused : (keys : RunnerKeys) (plan : Plan) (turns : List Turn) (w : Writing) (error : TestRunnerBuildError)
    → plan_refusal keys plan ≡ Some error → GetsTorn keys plan turns w 5
torn_refused keys plan turns w error refused = record {
  refuses = refuses_none;
  tied = λ calm n. refl;
  refused = λ e x. inl refl;
  answered = λ a. never_refused (plan_refusal keys plan) error a refused;
  stops = λ a k third s. never_refused (plan_refusal keys plan) error a refused;
  unfinished = λ a g. never_refused (plan_refusal keys plan) error a refused;
  ended = λ a o e. never_refused (plan_refusal keys plan) error a refused;
}

-- the answers that the sink shows
torn_shown : (p : Settings) (w : Writing) (turns : List Turn) (r : IsReplayed p w) (place : ℕ) (rest : List ℕ)
    → turns_of r.journal ≡ take place turns → TookParts whole_form (past_of p r.journal) rest w
    → ShowsAnswers p turns (refuses_as_in r.journal) w
torn_shown p w turns r place rest takes parts = record {
  place = place;
  journal = r.journal;
  answered = journal_of p (take place turns) r.journal r.legal takes;
  rest = rest;
  parts = parts;
}

-- nothing stops turns that a journal has all
never_stops : (p : Settings) (w : Writing) (turns : List Turn) (r : IsReplayed p w) → turns_of r.journal ≡ turns
    → (place : ℕ) (third : Bool) → Stops p turns (refuses_as_in r.journal) place third → ⊥
never_stops p w turns r all place third stops = by_end (is_over (past_of p r.journal)) refl
  where
    one : HasOneCourse p turns (refuses_as_in r.journal)
    one = one_course p turns (refuses_as_in r.journal)

    by_end : (b : Bool) → is_over (past_of p r.journal) ≡ b → ⊥
    by_end false still = one.stop_or_unfinished place third stops (goes_by p w turns r all still)
    by_end true over =
        let end = has_outcome p r.journal r.legal over in
        one.stop_or_end place third end.0 stops (ends_by p w turns r end.0 all end.1)

-- all turns were taken
torn_all : (keys : RunnerKeys) (plan : Plan) (turns : List Turn) (w : Writing) → plan_refusal keys plan ≡ None
    → WritesTorn (settings_for keys plan) turns w → GetsTorn keys plan turns w 14
torn_all keys plan turns w accepted h =
    let p : Settings = settings_for keys plan in
    record {
      refuses = refuses_as_in h.run.journal;
      tied = answers_in w p h.run;
      refused = λ e x. never_refused (plan_refusal keys plan) e accepted x;
      answered = λ a. inr (torn_shown p w turns h.run (length turns)
          (torn_rest (past_of p h.run.journal) (length turns)) (all_of p w turns h.run h.all) h.parts);
      stops = λ a k third s. absurd (never_stops p w turns h.run h.all k third s);
      unfinished = λ a g. inl refl;
      ended = λ a o e. inl refl;
    }

-- a place where turns stop
torn_stops : (keys : RunnerKeys) (plan : Plan) (turns : List Turn) (w : Writing) (place : ℕ) (third : Bool)
    (rest : List ℕ) → plan_refusal keys plan ≡ None → (r : IsReplayed (settings_for keys plan) w)
    → IsRefusedAt (settings_for keys plan) turns r.journal place third
    → TookParts whole_form (past_of (settings_for keys plan) r.journal) rest w
    → GetsTorn keys plan turns w (stop_status third)
torn_stops keys plan turns w place third rest accepted r h parts =
    let p : Settings = settings_for keys plan in
    let one : HasOneCourse p turns (refuses_as_in r.journal) = one_course p turns (refuses_as_in r.journal) in
    let stops = stops_by p w turns r place third h in
    record {
      refuses = refuses_as_in r.journal;
      tied = answers_in w p r;
      refused = λ e x. never_refused (plan_refusal keys plan) e accepted x;
      answered = λ a. inr (torn_shown p w turns r place rest h.0 parts);
      stops = λ a k t s. inl (ap stop_status (one.one_stop place k third t stops s).1);
      unfinished = λ a g. absurd (one.stop_or_unfinished place third stops g);
      ended = λ a o e. absurd (one.stop_or_end place third o stops e);
    }

-- turns that stop get the status of the fault
stop_gets : (keys : RunnerKeys) (plan : Plan) (turns : List Turn) (w : Writing) (fault : Fault)
    → plan_refusal keys plan ≡ None → stops_play fault ≡ true
    → IsReplayEnding whole_form (settings_for keys plan) turns w (Err fault)
    → GetsTorn keys plan turns w (fault_status fault)
stop_gets keys plan turns w (NotEnabled place) accepted stop (r, h, writes) =
    torn_stops keys plan turns w place false _ accepted r h writes.parts
stop_gets keys plan turns w (ThirdSignal place) accepted stop (r, h, writes) =
    torn_stops keys plan turns w place true _ accepted r h writes.parts
stop_gets keys plan turns w Words accepted stop h = cc
stop_gets keys plan turns w (Line n) accepted stop h = cc
stop_gets keys plan turns w (BadPlan f) accepted stop h = cc
stop_gets keys plan turns w Unfinished accepted stop h = cc
stop_gets keys plan turns w Report accepted stop h = cc
stop_gets keys plan turns w Read accepted stop h = cc
stop_gets keys plan turns w Memory accepted stop h = cc
stop_gets keys plan turns w TooLong accepted stop h = cc

-- a plan and the turns of a torn store that end so get that status
pub torn_gets : (keys : RunnerKeys) (plan : Plan) (turns : List Turn) (w : Writing) (status : ℕ)
    → IsTornInput keys plan turns w status → GetsTorn keys plan turns w status
torn_gets keys plan turns w status (inl (accepted, inl (is, writes))) =
    subst (GetsTorn keys plan turns w) (sym is) (torn_all keys plan turns w accepted writes)
torn_gets keys plan turns w status (inl (accepted, inr (inl (inl (fault, stop, is, h))))) =
    subst (GetsTorn keys plan turns w) (sym is) (stop_gets keys plan turns w fault accepted stop h)
torn_gets keys plan turns w status (inl (accepted, inr (inl (inr (is, short))))) =
    subst (GetsTorn keys plan turns w) (sym is) (torn_memory keys plan turns w)
torn_gets keys plan turns w status (inl (accepted, inr (inr (is, short)))) =
    subst (GetsTorn keys plan turns w) (sym is) (torn_memory keys plan turns w)
torn_gets keys plan turns w status (inr (inl (fault, is, (error, refused, same), writes))) =
    subst (GetsTorn keys plan turns w) (sym is) (torn_refused keys plan turns w error refused)
torn_gets keys plan turns w status (inr (inr (is, short))) =
    subst (GetsTorn keys plan turns w) (sym is) (torn_memory keys plan turns w)
