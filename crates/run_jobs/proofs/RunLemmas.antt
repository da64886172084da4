-- What an answer to the turns of one wave says.
use Rattle.std.proofs.Common.{◌≡◌, ◌∙◌, ℕ, ◌<◌, List, [], ◌∷◌, ◌++◌, map, zip, reverse, length}
use Rattle.std.proofs.Common.{Bool}
use Rattle.std.proofs.Common.{Option, Some, None, is_none, slice_get, Result, Ok, Err, refl, sym, ap, subst}
use Rattle.std.proofs.Common.{arith}
use Rattle.std.specs.declared.convert.Infallible.{Infallible}
use Rattle.std.proofs.lemmas.List.{map-append}
use Rattle.std.proofs.lemmas.Slice.Zip.{firsts-zip}
use Rattle.run_events.specs.Tell.{Adds}
use Rattle.run_events.specs.declared.ask.Ask.{Ask}
use Rattle.run_events.specs.declared.events.ReporterEvent.{ReporterEvent}
use Rattle.run_events.specs.declared.outcome.RunOutcome.{RunOutcome}
use Rattle.run_events.specs.declared.plan.Plan.{Plan}
use Rattle.run_events.specs.declared.settings.Settings.{Settings}
use Rattle.run_events.specs.declared.turn.Turn.{Turn}
use Rattle.run_model.specs.declared.entry.Entry.{Entry}
use Rattle.run_model.specs.declared.happening.Happening.{Happening}
use Rattle.run_model.specs.Journal.{IsLegalBackward, history, past_of}
use Rattle.run_model.specs.Turns.{happening}
use Rattle.run_model.specs.Words.{answers, events_in, told}
use Rattle.run_laws.specs.Course.{refuses_none}
use Rattle.run_laws.proofs.board.Courses.{one_course, unrefused}
use Rattle.run_engine.specs.Builder.{Builder}
use Rattle.run_engine.specs.Execution.{Carries, Executes, UnlessMemory}
use Rattle.run_engine.specs.World.{CountsErrors, Outside, first_error, flagged}
use Rattle.run_engine.specs.declared.errors.TestRunnerExecuteErrors.{TestRunnerExecuteErrors}
use Rattle.run_jobs.specs.declared.ledger.Results.{Results}
use Rattle.run_jobs.specs.Heard.{HasResults}
use Rattle.run_jobs.specs.Ledgers.{IsResultsOf}
use Rattle.run_jobs.specs.declared.waves_error.WavesError.{WavesError}
use Rattle.run_jobs.specs.declared.waves_error.WavesError.TheVariants as errors
use Rattle.run_jobs.specs.Jobs.{Batch}
use Rattle.run_jobs.specs.Next.{AnswersList, AnswersNext, RunsToEnd, RunsWave, settings_where}
use Rattle.run_jobs.specs.WavePlan.{plan_of_jobs, wave_builder, wave_settings, wave_with}
use Rattle.run_jobs.specs.Waves.{ended_cancelled}
use Rattle.run_jobs.proofs.FaultLemmas.{some_is}

-- the answers of a legal journal are to the events that it told
told_in_answers : (p : Settings) (backward : List Entry) → IsLegalBackward p backward
    → map (λ x. x.0) (answers (history p backward)) ≡ told (history p backward)
told_in_answers p [] legal = refl
told_in_answers p (e ∷ before) legal =
    let x : Happening = happening p (history p before) e in
    map-append (λ x. x.0) (answers (history p before)) (zip (events_in x) x.refused)
    ∙ ap (λ es. es ++ map (λ x. x.0) (zip (events_in x) x.refused)) (told_in_answers p before legal.2)
    ∙ ap (λ es. told (history p before) ++ es) (firsts-zip (events_in x) e.refused legal.1)

-- the marks of events leave the events
unflagged : {E : Type 0} (ys : List (ReporterEvent × Option E)) → map (λ x. x.0) (map flagged ys) ≡ map (λ y. y.0) ys
unflagged [] = refl
unflagged (y ∷ ys) = ap (λ zs. y.0 ∷ zs) (unflagged ys)

-- events of which none was refused
pub all_unrefused : {E : Type 0} (ys : List (ReporterEvent × Option E)) → first_error ys ≡ None
    → ys ≡ map (λ event. (event, None)) (map (λ y. y.0) ys)
all_unrefused [] none = refl
all_unrefused ((event, None) ∷ ys) none = ap (λ zs. (event, None) ∷ zs) (all_unrefused ys none)
all_unrefused ((event, Some e) ∷ ys) none = cc

-- what is told with no refusal
unrefused_told : {R E C : Type 0} (tells : R → List (ReporterEvent × Option E) → Type 0)
    (asks : C → List (ℕ × Ask) → Type 0) (o : Outside R C) (p : Settings) (turns : List Turn)
    (answer : Result RunOutcome (TestRunnerExecuteErrors E)) (x : Carries tells asks o p turns answer)
    → x.refusal ≡ None
    → Adds tells o.report o.report_after (map (λ event. (event, None)) (told (past_of p x.journal)))
unrefused_told tells asks o p turns answer x none xs held =
    let told_it = x.takes.told xs held in
    let ys = told_it.0 in
    let events : map (λ y. y.0) ys ≡ told (past_of p x.journal) =
    sym (unflagged ys) ∙ ap (map (λ x. x.0)) told_it.2
    ∙ told_in_answers p (reverse x.journal) x.takes.runnable.legal in
    let is : ys ≡ map (λ event. (event, None)) (told (past_of p x.journal)) =
    all_unrefused ys (told_it.3 ∙ none) ∙ ap (map (λ event. (event, None))) events in
    subst (λ zs. tells o.report_after (xs ++ zs)) is told_it.1

-- a run that ended told and asked what its journal says
pub ran_to_end : {R E C : Type 0} (tells : R → List (ReporterEvent × Option E) → Type 0)
    (asks : C → List (ℕ × Ask) → Type 0) (o : Outside R C) (p : Settings) (turns : List Turn) (ended : RunOutcome)
    → Executes tells asks o p turns (Ok ended) → RunsToEnd tells asks o p turns ended
ran_to_end tells asks o p turns ended x =
    let call = x.call in
    let none : call.refusal ≡ None = call.says.2 in
    record {
      journal = call.journal;
      took = record {
        legal = call.takes.runnable.legal;
        takes = call.says.0;
        answers = unrefused call.journal (sym call.takes.marked ∙ ap is_none none);
      };
      ends = call.says.1;
      told = unrefused_told tells asks o p turns (Ok ended) call none;
      asked = call.takes.asked;
      calm = subst (CountsErrors o.faults o.faults_after) none call.takes.counted;
    }

abbrev pub unmarked : ReporterEvent → ReporterEvent × Option Infallible
unmarked event = (event, None)

firsts_again : (es : List ReporterEvent) → map (λ x. x.0) (map (λ (event : ReporterEvent). unmarked event) es) ≡ es
firsts_again [] = refl
firsts_again (e ∷ es) = ap (λ zs. e ∷ zs) (firsts_again es)

-- what results have heard of a run that ended
pub heard_to_end : {C : Type 0} (asks : C → List (ℕ × Ask) → Type 0) (o : Outside Results C) (p : Settings)
    (turns : List Turn) (ended : RunOutcome)
    → Executes {E = Infallible} (λ results xs. IsResultsOf results (map (λ x. x.0) xs)) asks o p turns (Ok ended)
    → IsResultsOf o.report [] → HasResults p turns o.report_after
heard_to_end asks o p turns ended x fresh =
    let tells = λ (results : Results) (xs : List (ReporterEvent × Option Infallible)).
    IsResultsOf results (map (λ x. x.0) xs) in
    let runs = ran_to_end {E = Infallible} tells asks o p turns ended x in (
      runs.journal,
      runs.took,
      subst (IsResultsOf o.report_after) (firsts_again (told (past_of p runs.journal))) (runs.told [] fresh),
    )

-- a wave that ran, and was heard again
pub wave_runs : {R E C : Type 0} (tells : R → List (ReporterEvent × Option E) → Type 0)
    (asks : C → List (ℕ × Ask) → Type 0) (o : Outside R C) (p : Settings) (turns : List Turn) (ended : RunOutcome)
    (cancelled : Bool) (results : Results) → Executes tells asks o p turns (Ok ended) → HasResults p turns results
    → cancelled ≡ ended_cancelled ended → RunsWave tells asks o p turns cancelled results
wave_runs tells asks o p turns ended cancelled results x has is =
    let runs = ran_to_end tells asks o p turns ended x in
    record {
      ended = ended;
      runs = runs;
      whether = is;
      heard = subst (λ j. IsResultsOf results (told (past_of p j)))
          ((one_course p turns refuses_none).one_journal runs.journal has.0 runs.took has.1) has.2;
    }

-- the settings of a wave that has a job
pub settings_there : (batch : Batch) (ks : List ℕ) (p : Settings) → settings_where batch ks ≡ Some p
    → (0 < length ks) × (p ≡ wave_settings batch ks)
settings_there batch [] p there = cc
settings_there batch (k ∷ ks) p there =
    let same : wave_settings batch (k ∷ ks) ≡ p = cc in
    (omega arith, sym same)

pub settings_none : (batch : Batch) (ks : List ℕ) → settings_where batch ks ≡ None → ks ≡ []
settings_none batch [] none = refl
settings_none batch (k ∷ ks) none = cc

-- and its builder and its plan
pub wave_there : (batch : Batch) (ks : List ℕ) (builder : Builder) (plan : Plan)
    → wave_with batch ks ≡ Some (builder, plan)
    → (builder ≡ wave_builder batch.threads) × (plan ≡ plan_of_jobs batch ks)
wave_there batch [] builder plan there = cc
wave_there batch (k ∷ ks) builder plan there =
    let both = some_is (wave_builder batch.threads, plan_of_jobs batch (k ∷ ks)) (builder, plan) there in
    (sym (ap (λ (w : Builder × Plan). w.0) both), sym (ap (λ (w : Builder × Plan). w.1) both))

-- an error of a wave
pub list_error : {R E C : Type 0} (tells : R → List (ReporterEvent × Option E) → Type 0)
    (asks : C → List (ℕ × Ask) → Type 0) (o : Outside R C) (batch : Batch) (ks : List ℕ) (lists : List (List Turn))
    (w : ℕ) (p : Settings) (turns : List Turn) (error : WavesError E) → p ≡ wave_settings batch ks → 0 < length ks
    → slice_get lists w ≡ Some turns → AnswersList tells asks o p turns w (Err error)
    → AnswersNext tells asks o batch ks lists w (Err error)
list_error {R} {E} tells asks o batch ks lists w p turns (errors.Wave n x) is some given says = (
  says.0,
  some,
  (
    turns,
    given,
    subst (λ p. UnlessMemory {E = E} (Err x) (Executes tells asks o p turns (Err x))) is says.1,
  ),
)
list_error tells asks o batch ks lists w p turns (errors.Missing n) is some given says = absurd says
list_error tells asks o batch ks lists w p turns (errors.Extra g u) is some given says = absurd says
list_error tells asks o batch ks lists w p turns errors.OutOfMemory is some given says = tt
