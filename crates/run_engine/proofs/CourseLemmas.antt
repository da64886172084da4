-- The answer to a list of turns goes by its course.
use Rattle.std.proofs.Common.{◌≡◌, ℕ, ◌<◌, inl, inr, List, reverse, Bool, true, false, sym, is_none, Option, Some, None}
use Rattle.std.proofs.Common.{Result, Ok, Err, refl, ap, ap₂, arith}
use Rattle.run_capture.specs.Faults.{Rose}
use Rattle.run_events.specs.declared.settings.Settings.{Settings}
use Rattle.run_events.specs.declared.turn.Turn.{Turn}
use Rattle.run_events.specs.declared.ask.Ask.{Ask}
use Rattle.run_events.specs.declared.events.ReporterEvent.{ReporterEvent}
use Rattle.run_events.specs.declared.outcome.RunOutcome.{RunOutcome}
use Rattle.run_model.specs.declared.entry.Entry.{Entry}
use Rattle.run_model.specs.Journal.{past_of, IsLegal, outcome}
use Rattle.run_laws.specs.Course.{AreAnswersOf, refuses_none, none_refused, Stops, GoesOn, Ends, HasOneCourse}
use Rattle.run_laws.proofs.board.Courses.{one_course, unrefused}
use Rattle.run_laws.proofs.told.FateLemmas.{ended_fates, over_ended}
use Rattle.run_engine.proofs.OutcomeLemmas.{has_outcome}
use Rattle.run_engine.specs.World.{Outside, CountsErrors}
use Rattle.run_engine.specs.Execution.{IsAnswerOf, IsRefusedAt, stop_at, AnswersCourse, UnlessMemory, Carries}
use Rattle.run_engine.specs.Execution.{Executes}
use Rattle.run_engine.specs.declared.errors.TestRunnerExecuteErrors.{TestRunnerExecuteErrors}
use Rattle.run_engine.specs.declared.errors.TestRunnerExecuteErrors.TheVariants.{Report, NotEnabled, ThirdSignal}
use Rattle.run_engine.specs.declared.errors.TestRunnerExecuteErrors.TheVariants.{Unfinished, OutOfMemory}

-- an error counts as a rise, none as no rise
risen : {E : Type 0} (a b : ℕ) (refusal : Option E) (e : E) → refusal ≡ Some e → CountsErrors a b refusal → Rose a b
risen a b None e is h = cc
risen a b (Some d) e is h = h.1

stayed : {E : Type 0} (a b : ℕ) (refusal : Option E) → refusal ≡ None → CountsErrors a b refusal → a < b → ⊥
stayed a b None is h lt = omega arith
stayed a b (Some d) is h lt = cc

-- want of memory answers any course
memory_course : {R E C : Type 0} (o : Outside R C) (p : Settings) (turns : List Turn) (refuses : ℕ → Bool)
    → AnswersCourse {E = E} o p turns refuses (Err OutOfMemory)
memory_course o p turns refuses = record {
  stops = λ place third s. inr refl;
  unfinished = λ g. inr refl;
  ended = λ u e calm. inr refl;
  refused = λ u e lt. inr refl;
}

-- a list of turns that stops answers where, and at what
stopped_course : {R E C : Type 0} (o : Outside R C) (p : Settings) (turns : List Turn) (refuses : ℕ → Bool)
    (journal : List Entry) (i : ℕ) (third : Bool) → IsLegal p journal → AreAnswersOf refuses journal
    → IsRefusedAt p turns journal i third → AnswersCourse {E = E} o p turns refuses (Err (stop_at i third))
stopped_course o p turns refuses journal i third legal answers says =
    let one : HasOneCourse p turns refuses = one_course p turns refuses in
    let stops : Stops p turns refuses i third =
    (journal, record { legal = legal; takes = says.0; answers = answers }, says.1) in
    record {
      stops = λ place t s.
          let same : (i ≡ place) × (third ≡ t) = one.one_stop i place third t stops s in
          inl (ap₂ (λ k t. Err (stop_at k t)) same.0 same.1);
      unfinished = λ g. absurd (one.stop_or_unfinished i third stops g);
      ended = λ u e calm. absurd (one.stop_or_end i third u stops e);
      refused = λ u e lt. absurd (one.stop_or_end i third u stops e);
    }

-- the answer goes by the course of the journal's turns
pub course_of : {R E C : Type 0} (o : Outside R C) (p : Settings) (turns : List Turn) (refuses : ℕ → Bool)
    (journal : List Entry) (refusal : Option E) (answer : Result RunOutcome (TestRunnerExecuteErrors E))
    → IsLegal p journal → AreAnswersOf refuses journal → IsAnswerOf p turns journal refusal answer
    → CountsErrors o.faults o.faults_after refusal → AnswersCourse o p turns refuses answer
course_of o p turns refuses journal refusal (Ok end) legal answers says counted =
    let one : HasOneCourse p turns refuses = one_course p turns refuses in
    let ends : Ends p turns refuses end =
    (journal, record { legal = legal; takes = says.0; answers = answers }, says.1) in
    record {
      stops = λ place third s. absurd (one.stop_or_end place third end s ends);
      unfinished = λ g. absurd (one.unfinished_or_end end g ends);
      ended = λ u e calm. inl (ap Ok (one.one_end end u ends e));
      refused = λ u e lt. absurd (stayed o.faults o.faults_after refusal says.2 counted lt);
    }
course_of o p turns refuses journal refusal (Err (Report d)) legal answers says counted =
    let one : HasOneCourse p turns refuses = one_course p turns refuses in
    let end : (o : RunOutcome) × (outcome p (past_of p journal) ≡ Some o) = has_outcome p journal legal says.1 in
    let ends : Ends p turns refuses end.0 =
    (journal, record { legal = legal; takes = says.0; answers = answers }, end.1) in
    record {
      stops = λ place third s. absurd (one.stop_or_end place third end.0 s ends);
      unfinished = λ g. absurd (one.unfinished_or_end end.0 g ends);
      ended = λ u e calm. absurd (calm (risen o.faults o.faults_after refusal d says.2 counted));
      refused = λ u e lt. inl (d, refl);
    }
course_of o p turns refuses journal refusal (Err (NotEnabled i)) legal answers says counted =
    stopped_course o p turns refuses journal i false legal answers says
course_of o p turns refuses journal refusal (Err (ThirdSignal i)) legal answers says counted =
    stopped_course o p turns refuses journal i true legal answers says
course_of o p turns refuses journal refusal (Err Unfinished) legal answers says counted =
    let one : HasOneCourse p turns refuses = one_course p turns refuses in
    let goes : GoesOn p turns refuses =
    (journal, record { legal = legal; takes = says.0; answers = answers }, says.1) in
    record {
      stops = λ place third s. absurd (one.stop_or_unfinished place third s goes);
      unfinished = λ g. inl refl;
      ended = λ u e calm. absurd (one.unfinished_or_end u goes e);
      refused = λ u e lt. absurd (one.unfinished_or_end u goes e);
    }
course_of o p turns refuses journal refusal (Err OutOfMemory) legal answers says counted =
    memory_course o p turns refuses

-- where the count of faults didn't rise no event was refused
calm : {E : Type 0} (journal : List Entry) (refusal : Option E) (a b : ℕ) → is_none refusal ≡ none_refused journal
    → CountsErrors a b refusal → ¬ Rose a b → AreAnswersOf refuses_none journal
calm journal None a b marked counted still = unrefused journal (sym marked)
calm journal (Some e) a b marked counted still = absurd (still counted.1)

-- a call whose count of faults didn't rise answers by the course of the turns with a reporter that refuses nothing
carried_course : {R E C : Type 0} (tells : R → List (ReporterEvent × Option E) → Type 0)
    (asks : C → List (ℕ × Ask) → Type 0) (o : Outside R C) (p : Settings) (turns : List Turn)
    (answer : Result RunOutcome (TestRunnerExecuteErrors E)) → Carries tells asks o p turns answer
    → ¬ Rose o.faults o.faults_after → AnswersCourse o p turns refuses_none answer
carried_course tells asks o p turns answer x still =
    course_of o p turns refuses_none x.journal x.refusal answer x.takes.runnable.legal
    (calm x.journal x.refusal o.faults o.faults_after x.takes.marked x.takes.counted still) x.says x.takes.counted

pub executed_course : {R E C : Type 0} (tells : R → List (ReporterEvent × Option E) → Type 0)
    (asks : C → List (ℕ × Ask) → Type 0) (o : Outside R C) (p : Settings) (turns : List Turn)
    (answer : Result RunOutcome (TestRunnerExecuteErrors E)) → UnlessMemory answer (Carries tells asks o p turns answer)
    → ¬ Rose o.faults o.faults_after → AnswersCourse o p turns refuses_none answer
executed_course tells asks o p turns (Ok u) x still = carried_course tells asks o p turns (Ok u) x still
executed_course tells asks o p turns (Err (Report d)) x still =
    carried_course tells asks o p turns (Err (Report d)) x still
executed_course tells asks o p turns (Err (NotEnabled i)) x still =
    carried_course tells asks o p turns (Err (NotEnabled i)) x still
executed_course tells asks o p turns (Err (ThirdSignal i)) x still =
    carried_course tells asks o p turns (Err (ThirdSignal i)) x still
executed_course tells asks o p turns (Err Unfinished) x still =
    carried_course tells asks o p turns (Err Unfinished) x still
executed_course tells asks o p turns (Err OutOfMemory) x still = memory_course o p turns refuses_none

-- a fact that follows from another follows unless memory was wanting
pub unless_weaker : {E : Type 0} (r : Result RunOutcome (TestRunnerExecuteErrors E)) (P Q : Type 0) → (P → Q)
    → UnlessMemory r P → UnlessMemory r Q
unless_weaker (Ok o) P Q f h = f h
unless_weaker (Err (Report e)) P Q f h = f h
unless_weaker (Err (NotEnabled i)) P Q f h = f h
unless_weaker (Err (ThirdSignal i)) P Q f h = f h
unless_weaker (Err Unfinished) P Q f h = f h
unless_weaker (Err OutOfMemory) P Q f h = h

-- what a call carries out leaves each test with its fate
pub executed_fates : {R E C : Type 0} (tells : R → List (ReporterEvent × Option E) → Type 0)
    (asks : C → List (ℕ × Ask) → Type 0) (o : Outside R C) (p : Settings) (turns : List Turn)
    (answer : Result RunOutcome (TestRunnerExecuteErrors E)) → UnlessMemory answer (Carries tells asks o p turns answer)
    → UnlessMemory answer (Executes tells asks o p turns answer)
executed_fates tells asks o p turns answer = unless_weaker answer _ _ (λ x. record {
  call = x;
  fates = ended_fates p (reverse x.journal) x.takes.runnable.legal;
  over = over_ended p (reverse x.journal) x.takes.runnable.legal;
  course = λ refuses answers. course_of o p turns refuses x.journal x.refusal answer x.takes.runnable.legal answers
      x.says x.takes.counted;
})
