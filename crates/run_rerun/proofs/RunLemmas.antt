-- What an answer to turns says of the tests.
use Rattle.std.proofs.Common.{◌≡◌, ◌∙◌, ℕ, ◌≤◌, ◌⊎◌, inl, inr, List, [], ◌∷◌, ◌++◌, map, filter, zip, reverse}
use Rattle.std.proofs.Common.{take, Bool, true, false, if◌then◌else◌, Option, Some, None, is_none, Result, Ok, Err}
use Rattle.std.proofs.Common.{refl, sym, ap}
use Rattle.std.proofs.Common.{subst}
use Rattle.std.proofs.Common.{arith}
use Rattle.std.specs.declared.convert.Infallible.{Infallible}
use Rattle.std.proofs.lemmas.List.{map-append}
use Rattle.std.proofs.lemmas.Slice.Zip.{firsts-zip}
use Rattle.run_capture.specs.Faults.{Rose}
use Rattle.run_events.specs.declared.ask.Ask.{Ask}
use Rattle.run_events.specs.declared.settings.Settings.{Settings}
use Rattle.run_events.specs.declared.turn.Turn.{Turn}
use Rattle.run_events.specs.declared.outcome.RunOutcome.{RunOutcome}
use Rattle.run_events.specs.declared.events.ReporterEvent.{ReporterEvent}
use Rattle.run_events.specs.declared.plan.Plan.{Plan}
use Rattle.run_events.specs.declared.plan.TestInstanceId.{TestInstanceId}
use Rattle.run_input.specs.declared.plan_line.RunnerKeys.{RunnerKeys}
use Rattle.run_model.specs.declared.entry.Entry.{Entry}
use Rattle.run_model.specs.declared.happening.Happening.{Happening}
use Rattle.run_model.specs.Journal.{history, past_of, IsLegalBackward, outcome}
use Rattle.run_model.specs.Turns.{happening}
use Rattle.run_model.specs.SubRuns.{outcome_in}
use Rattle.run_model.specs.Words.{answers, ended_runs, events_in, is_over, told}
use Rattle.run_laws.specs.Course.{AreAnswersOf, IsJournalOf, Stops, refuses_none, none_refused, turns_of}
use Rattle.run_laws.proofs.board.Courses.{unrefused}
use Rattle.run_engine.proofs.OutcomeLemmas.{has_outcome}
use Rattle.run_engine.specs.World.{CountsErrors, Outside, flagged}
use Rattle.run_engine.specs.Execution.{AnswersCourse, Carries, Executes, UnlessMemory, stop_at}
use Rattle.run_engine.specs.declared.errors.TestRunnerExecuteErrors.{TestRunnerExecuteErrors}
use Rattle.run_engine.specs.declared.errors.TestRunnerExecuteErrors.TheVariants as engine
use Rattle.run_cli.specs.Plans.{plan_refusal, settings_for}
use Rattle.run_rerun.specs.declared.answers.RunTests.{RunTests}
use Rattle.run_rerun.specs.declared.answers.RerunError.{RerunError}
use Rattle.run_rerun.specs.declared.answers.RerunError.TheVariants.{Plan as Refused, NotEnabled, ThirdSignal}
use Rattle.run_rerun.specs.declared.answers.RerunError.TheVariants.{OutOfMemory}
use Rattle.run_rerun.specs.declared.ledger.Ledger.{Ledger}
use Rattle.run_rerun.specs.Ledgers.{IsLedgerOf, is_marked}
use Rattle.run_rerun.specs.Outstanding.{tests_had, is_told_passed}
use Rattle.run_rerun.specs.Runs.{AreTestsOf, GetsTests, SaysStored, SaysTests, stop_error}
use Rattle.run_rerun.specs.Taken.{GetsTaken, HasHeard, SaysTaken, as_rerun}
use Rattle.run_rerun.proofs.TestLemmas.{marked_ids}

-- the answers of a legal journal are to the events that it told
answers-told : (p : Settings) (backward : List Entry) → IsLegalBackward p backward
    → map (λ x. x.0) (answers (history p backward)) ≡ told (history p backward)
answers-told p [] legal = refl
answers-told p (e ∷ before) legal =
    let x : Happening = happening p (history p before) e in
    map-append (λ x. x.0) (answers (history p before)) (zip (events_in x) x.refused)
    ∙ ap (λ es. es ++ map (λ x. x.0) (zip (events_in x) x.refused)) (answers-told p before legal.2)
    ∙ ap (λ es. told (history p before) ++ es) (firsts-zip (events_in x) e.refused legal.1)

-- the marks of events leave the events
firsts-flagged : {E : Type 0} (ys : List (ReporterEvent × Option E))
    → map (λ x. x.0) (map flagged ys) ≡ map (λ y. y.0) ys
firsts-flagged [] = refl
firsts-flagged (y ∷ ys) = ap (λ zs. y.0 ∷ zs) (firsts-flagged ys)

-- a reporter whose count of faults stays refused nothing
calm : {E : Type 0} (journal : List Entry) (refusal : Option E) (a : ℕ) → is_none refusal ≡ none_refused journal
    → CountsErrors a a refusal → ¬ Rose a a → AreAnswersOf refuses_none journal
calm journal None a marked counted still = unrefused journal (sym marked)
calm journal (Some e) a marked counted still = absurd (still counted.1)

-- the ledger of a run whose turns were all taken
heard_all : {C : Type 0} (asks : C → List (ℕ × Ask) → Type 0) (o : Outside Ledger C) (p : Settings)
    (turns : List Turn) (answer : Result RunOutcome (TestRunnerExecuteErrors Infallible))
    (x : Carries {E = Infallible} (λ ledger xs. IsLedgerOf ledger (map (λ x. x.0) xs)) asks o p turns answer)
    → o.faults_after ≡ o.faults → ¬ Rose o.faults o.faults → turns_of x.journal ≡ turns → IsLedgerOf o.report []
    → (over : Bool) → over ≡ is_over (past_of p x.journal) → HasHeard p turns o.report_after over
heard_all asks o p turns answer x same still takes fresh over ends =
    let counted : CountsErrors o.faults o.faults x.refusal =
    subst (λ n. CountsErrors o.faults n x.refusal) same x.takes.counted in
    let is : IsJournalOf p turns refuses_none x.journal = record {
      legal = x.takes.runnable.legal;
      takes = takes;
      answers = calm x.journal x.refusal o.faults x.takes.marked counted still;
    } in
    let told_it = x.takes.told [] fresh in
    let ys = told_it.0 in
    let events : map (λ y. y.0) ys ≡ told (past_of p x.journal) =
    sym (firsts-flagged ys) ∙ ap (map (λ x. x.0)) told_it.2
    ∙ answers-told p (reverse x.journal) x.takes.runnable.legal in
    (x.journal, is, subst (IsLedgerOf o.report_after) events told_it.1, ends)

-- a run that has an outcome is over
over_of : (p : Settings) (past : List Happening) (u : RunOutcome)
    → (if is_over past then outcome_in p (ended_runs past) else None) ≡ Some u → true ≡ is_over past
over_of p past u is = by (is_over past) is
  where
    by : (b : Bool) → (if b then outcome_in p (ended_runs past) else None) ≡ Some u → true ≡ b
    by true is = refl
    by false is = cc

-- a count of faults that stays 0 didn't rise
no_rise : ¬ Rose 0 0
no_rise rose = let one : 1 ≤ 0 = rose in omega (arith, one)

-- the outside of a run that is heard by a ledger
abbrev pub heard_by : {C : Type 0} → Ledger → Ledger → C → C → Outside Ledger C
heard_by before after children children_after = record {
  report = before;
  report_after = after;
  faults = 0;
  faults_after = 0;
  children = children;
  children_after = children_after;
}

-- turns that stop
stops_at : {C : Type 0} (asks : C → List (ℕ × Ask) → Type 0) (o : Outside Ledger C) (p : Settings)
    (turns : List Turn) (answer : Result RunOutcome (TestRunnerExecuteErrors Infallible))
    (x : Carries {E = Infallible} (λ ledger xs. IsLedgerOf ledger (map (λ x. x.0) xs)) asks o p turns answer)
    → o.faults_after ≡ o.faults → ¬ Rose o.faults o.faults → (place : ℕ) → turns_of x.journal ≡ take place turns
    → IsJournalOf p (take place turns) refuses_none x.journal
stops_at asks o p turns answer x same still place takes = record {
  legal = x.takes.runnable.legal;
  takes = takes;
  answers = calm x.journal x.refusal o.faults x.takes.marked
      (subst (λ n. CountsErrors o.faults n x.refusal) same x.takes.counted) still;
}

-- what each answer says of the turns, and of the ledger that heard them
pub taken_says : {C : Type 0} (asks : C → List (ℕ × Ask) → Type 0) (before after : Ledger) (children children_after : C)
    (p : Settings) (turns : List Turn) (answer : Result RunOutcome (TestRunnerExecuteErrors Infallible))
    → UnlessMemory answer (Executes {E = Infallible} (λ ledger xs. IsLedgerOf ledger (map (λ x. x.0) xs)) asks
    (heard_by before after children children_after) p turns answer)
    → IsLedgerOf before [] → SaysTaken p turns after (as_rerun answer)
taken_says asks before after children children_after p turns (Ok u) x fresh =
    heard_all asks (heard_by before after children children_after) p turns (Ok u) x.call refl no_rise x.call.says.0
    fresh true (over_of p (past_of p x.call.journal) u x.call.says.1)
taken_says asks before after children children_after p turns (Err engine.Unfinished) x fresh =
    heard_all asks (heard_by before after children children_after) p turns (Err engine.Unfinished) x.call refl no_rise
    x.call.says.0 fresh false (sym x.call.says.1)
taken_says asks before after children children_after p turns (Err (engine.NotEnabled i)) x fresh = (
  x.call.journal,
  stops_at asks (heard_by before after children children_after) p turns (Err (engine.NotEnabled i))
      x.call refl no_rise i x.call.says.0,
  x.call.says.1,
)
taken_says asks before after children children_after p turns (Err (engine.ThirdSignal i)) x fresh = (
  x.call.journal,
  stops_at asks (heard_by before after children children_after) p turns (Err (engine.ThirdSignal i))
      x.call refl no_rise i x.call.says.0,
  x.call.says.1,
)
taken_says asks before after children children_after p turns (Err (engine.Report e)) x fresh = tt
taken_says asks before after children children_after p turns (Err engine.OutOfMemory) x fresh = tt

-- where turns stop, as an error here
as_stop : (place : ℕ) (third : Bool) → as_rerun (Err (stop_at place third)) ≡ Err (stop_error place third)
as_stop place true = refl
as_stop place false = refl

-- what the course of turns is answered
pub taken_gets : {C : Type 0} (before after : Ledger) (children children_after : C) (p : Settings) (turns : List Turn)
    (answer : Result RunOutcome (TestRunnerExecuteErrors Infallible))
    → (¬ Rose 0 0 → AnswersCourse (heard_by before after children children_after) p turns refuses_none answer)
    → GetsTaken p turns (as_rerun answer)
taken_gets before after children children_after p turns answer has = record {
  stopped = λ place third stops. by_stop place third (course.stops place third stops);
  taken = λ journal is. by_end journal is (is_over (past_of p journal)) refl;
}
  where
    course : AnswersCourse (heard_by before after children children_after) p turns refuses_none answer
    course = has no_rise

    by_stop : (place : ℕ) (third : Bool) → (answer ≡ Err (stop_at place third)) ⊎ (answer ≡ Err engine.OutOfMemory)
        → (as_rerun answer ≡ Err (stop_error place third)) ⊎ (as_rerun answer ≡ Err OutOfMemory)
    by_stop place third (inl e) = inl (ap as_rerun e ∙ as_stop place third)
    by_stop place third (inr e) = inr (ap as_rerun e)

    ended : (u : RunOutcome) → (answer ≡ Ok u) ⊎ (answer ≡ Err engine.OutOfMemory)
        → (as_rerun answer ≡ Ok true) ⊎ (as_rerun answer ≡ Err OutOfMemory)
    ended u (inl e) = inl (ap as_rerun e)
    ended u (inr e) = inr (ap as_rerun e)

    unfinished : (answer ≡ Err engine.Unfinished) ⊎ (answer ≡ Err engine.OutOfMemory)
        → (as_rerun answer ≡ Ok false) ⊎ (as_rerun answer ≡ Err OutOfMemory)
    unfinished (inl e) = inl (ap as_rerun e)
    unfinished (inr e) = inr (ap as_rerun e)

    by_end : (journal : List Entry) → IsJournalOf p turns refuses_none journal → (over : Bool)
        → is_over (past_of p journal) ≡ over → (as_rerun answer ≡ Ok over) ⊎ (as_rerun answer ≡ Err OutOfMemory)
    by_end journal is true over =
        let end : (u : RunOutcome) × (outcome p (past_of p journal) ≡ Some u) = has_outcome p journal is.legal over in
        ended end.0 (course.ended end.0 (journal, is, end.1) no_rise)
    by_end journal is false over = unfinished (course.unfinished (journal, is, over))

-- the tests of a run whose ledger this is
pub says_tests : (p : Settings) (turns : List Turn) (ledger : Ledger) (tests : RunTests)
    (had : List (ℕ × TestInstanceId)) (over : Bool) → HasHeard p turns ledger over → had ≡ tests_had p.plan
    → tests.has ≡ map (λ t. t.1) had → tests.passed ≡ map (λ t. t.1) (filter (λ t. is_marked ledger t.0) had)
    → tests.over ≡ over → AreTestsOf p turns tests
says_tests p turns ledger tests had over heard is has passes ends =
    let events : List ReporterEvent = told (past_of p heard.0) in
    record {
      journal = heard.0;
      took = heard.1;
      had = has ∙ ap (map (λ t. t.1)) is;
      passes = passes ∙ ap (map (λ t. t.1)) (marked_ids ledger events heard.2 had)
          ∙ ap (λ ts. map (λ t. t.1) (filter (λ t. is_told_passed events t.0) ts)) is;
      ends = ends ∙ heard.3;
    }

-- what a run that was taken is answered, and one that wasn't
pub gets_ok : (p : Settings) (turns : List Turn) (tests : RunTests) (over : Bool) → GetsTaken p turns (Ok over)
    → GetsTests p turns (Ok tests)
gets_ok p turns tests over gets = record {
  stopped = λ place third stops. by place third (gets.stopped place third stops);
  taken = λ journal is. inl (tests, refl);
}
  where
    by : (place : ℕ) (third : Bool)
        → ◌≡◌ {A = Result Bool RerunError} (Ok over) (Err (stop_error place third))
        ⊎ ◌≡◌ {A = Result Bool RerunError} (Ok over) (Err OutOfMemory)
        → (Ok tests ≡ Err (stop_error place third)) ⊎ (Ok tests ≡ Err OutOfMemory)
    by place third (inl e) = cc
    by place third (inr e) = cc

pub gets_memory : (p : Settings) (turns : List Turn) → GetsTests p turns (Err OutOfMemory)
gets_memory p turns = record { stopped = λ place third stops. inr refl; taken = λ journal is. inr refl }

pub gets_err : (p : Settings) (turns : List Turn) (error : RerunError) → GetsTaken p turns (Err error)
    → GetsTests p turns (Err error)
gets_err p turns error gets = record {
  stopped = λ place third stops. by place third (gets.stopped place third stops);
  taken = λ journal is. ended (is_over (past_of p journal)) (gets.taken journal is);
}
  where
    by : (place : ℕ) (third : Bool)
        → ◌≡◌ {A = Result Bool RerunError} (Err error) (Err (stop_error place third))
        ⊎ ◌≡◌ {A = Result Bool RerunError} (Err error) (Err OutOfMemory)
        → ◌≡◌ {A = Result RunTests RerunError} (Err error) (Err (stop_error place third))
        ⊎ ◌≡◌ {A = Result RunTests RerunError} (Err error) (Err OutOfMemory)
    by place third (inl e) = let same : error ≡ stop_error place third = cc in inl (ap Err same)
    by place third (inr e) = let same : error ≡ OutOfMemory = cc in inr (ap Err same)

    ended : (over : Bool) → ◌≡◌ {A = Result Bool RerunError} (Err error) (Ok over)
        ⊎ ◌≡◌ {A = Result Bool RerunError} (Err error) (Err OutOfMemory)
        → ((tests : RunTests) × ◌≡◌ {A = Result RunTests RerunError} (Err error) (Ok tests))
        ⊎ ◌≡◌ {A = Result RunTests RerunError} (Err error) (Err OutOfMemory)
    ended over (inl e) = cc
    ended over (inr e) = let same : error ≡ OutOfMemory = cc in inr (ap Err same)

-- what is said of the turns of a plan that is built
pub says_stored : (keys : RunnerKeys) (plan : Plan) (turns : List Turn) (runner : Settings)
    → plan_refusal keys plan ≡ None → runner ≡ settings_for keys plan → (answer : Result RunTests RerunError)
    → SaysTests runner turns answer → SaysStored keys plan turns answer
says_stored keys plan turns runner none is (Ok tests) says =
    (none, subst (λ p. AreTestsOf p turns tests) is says)
says_stored keys plan turns runner none is (Err (NotEnabled place)) says =
    (none, subst (λ p. Stops p turns refuses_none place false) is says)
says_stored keys plan turns runner none is (Err (ThirdSignal place)) says =
    (none, subst (λ p. Stops p turns refuses_none place true) is says)
says_stored keys plan turns runner none is (Err OutOfMemory) says = tt
says_stored keys plan turns runner none is (Err Refused) says = absurd says
