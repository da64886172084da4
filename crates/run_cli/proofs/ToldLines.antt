-- The lines that a reporter wrote are those of the events that the journal told.
use Rattle.std.proofs.Common.{◌≡◌, ℕ, ◌≤◌, ◌||◌, List, [], ◌∷◌, ◌++◌, length, map, zip, Bool, true, false, Option}
use Rattle.std.proofs.Common.{Some, None, is_none, is_some, reverse, Result, Err, IsSome, refl, ap, sym, subst, ◌∙◌}
use Rattle.std.proofs.Common.{arith}
use Rattle.std.proofs.lemmas.List.{map-append, length-map}
use Rattle.run_events.specs.declared.settings.Settings.{Settings}
use Rattle.run_events.specs.declared.events.ReporterEvent.{ReporterEvent}
use Rattle.run_model.specs.declared.entry.Entry.{Entry}
use Rattle.run_model.specs.declared.happening.Happening.{Happening}
use Rattle.run_model.specs.Words.{told, asked, answers, events_in}
use Rattle.run_model.specs.Turns.{happening}
use Rattle.run_model.specs.Journal.{history, past_of, IsLegal, IsLegalBackward}
use Rattle.run_capture.specs.Faults.{Rose, RoseExactlyIf}
use Rattle.run_engine.specs.World.{flagged, earlier, first_error}
use Rattle.run_output.specs.Told.{IsWritten, AreWritten, marks, AreCounted, some_refused, HasTold, TookLines}
use Rattle.run_output.specs.Told.{event_line}
use Rattle.run_output.specs.Told.{event_lines}
use Rattle.run_laws.specs.Course.{none_refused, turns_of}
use Rattle.run_cli.specs.Call.{Writing, HasTaken}
use Rattle.run_cli.specs.Text.{Form, whole_form, joined}
use Rattle.run_cli.specs.Clocks.{turn_clocks}
use Rattle.run_cli.specs.Commands.{progress_form, display_of}
use Rattle.run_cli.specs.Short.{TookFirst, told_last}
use Rattle.run_cli.proofs.TickLemmas.{shown_by, shown_clocks}
use Rattle.run_engine.specs.declared.errors.TestRunnerExecuteErrors.TheVariants as engine
use Rattle.run_progress.specs.declared.max_running.MaxProgressRunning.TheVariants.{Count}
use Rattle.run_output.specs.Shown.{Screen, first_screen, line_in, lines_in, screen_after, screen_after_all}
use Rattle.run_output.specs.Shown.{shown_lines, answer_errors}
use Rattle.run_output.proofs.ShownLemmas.{length-lines_in}
use Rattle.run_cli.specs.Executed.{IsExecuted}
use Rattle.run_capture.specs.declared.source.Failed.{Failed}
use Rattle.run_events.specs.declared.turn.Turn.{Turn}
use Rattle.run_events.specs.declared.ask.Ask.{Ask}
use Rattle.run_events.specs.declared.outcome.RunOutcome.{RunOutcome}
use Rattle.run_engine.specs.Standing.{IsRunnable}
use Rattle.run_engine.specs.Execution.{IsAnswerOf}
use Rattle.run_engine.specs.declared.errors.TestRunnerExecuteErrors.{TestRunnerExecuteErrors}

-- events beside as many answers are the events
zip_first : {X Y : Type 0} (xs : List X) (ys : List Y) → length ys ≡ length xs → map (λ x. x.0) (zip xs ys) ≡ xs
zip_first [] ys e = refl
zip_first (x ∷ xs) [] e = absurd (omega arith)
zip_first (x ∷ xs) (y ∷ ys) e = ap (λ zs. x ∷ zs) (zip_first xs ys (omega arith))

-- the answers of a legal journal are to the events that it told
pub answers-told : (p : Settings) (backward : List Entry) → IsLegalBackward p backward
    → map (λ x. x.0) (answers (history p backward)) ≡ told (history p backward)
answers-told p [] legal = refl
answers-told p (e ∷ before) legal =
    let x : Happening = happening p (history p before) e in
    map-append (λ x. x.0) (answers (history p before)) (zip (events_in x) x.refused)
    ∙ ap (λ es. es ++ map (λ x. x.0) (zip (events_in x) x.refused)) (answers-told p before legal.2)
    ∙ ap (λ es. told (history p before) ++ es) (zip_first (events_in x) e.refused legal.1)

-- the lines of events, beside their errors
pub lines_beside : {E : Type 0} (ys : List (ReporterEvent × Option E))
    → event_lines ys ≡ zip (map event_line (map (λ y. y.0) ys)) (map (λ y. y.1) ys)
lines_beside [] = refl
lines_beside (y ∷ ys) = ap (λ ls. (event_line y.0, y.1) ∷ ls) (lines_beside ys)

-- lines beside as many errors are refused as those are
pub marks_beside : {E : Type 0} (lines : List (List ℕ)) (ys : List (ReporterEvent × Option E))
    → length lines ≡ length ys
    → marks (zip lines (map (λ y. y.1) ys)) ≡ marks ys
marks_beside [] [] same = refl
marks_beside [] (y ∷ ys) same = absurd (omega arith)
marks_beside (line ∷ lines) [] same = absurd (omega arith)
marks_beside (line ∷ lines) (y ∷ ys) same = ap (λ bs. is_some y.1 ∷ bs) (marks_beside lines ys (omega arith))

-- a line that wasn't refused, and then the others
one_whole : {E : Type 0} (text : List ℕ) (error later : Option E) (bytes line rest others : List ℕ)
    → earlier error later ≡ None → IsWritten text error line → (later ≡ None → rest ≡ others) → bytes ≡ line ++ rest
    → bytes ≡ text ++ others
one_whole text None later bytes line rest others none is same e =
    e ∙ ap (λ l. l ++ rest) is ∙ ap (λ r. text ++ r) (same none)
one_whole text (Some d) later bytes line rest others none is same e = cc

-- where no event was refused, the lines are whole
pub lines_whole : {E : Type 0} (lines : List (List ℕ)) (ys : List (ReporterEvent × Option E)) (bytes : List ℕ)
    → length lines ≡ length ys → first_error ys ≡ None → AreWritten (zip lines (map (λ y. y.1) ys)) bytes
    → bytes ≡ joined lines
lines_whole [] [] bytes same none written = written
lines_whole [] (y ∷ ys) bytes same none written = absurd (omega arith)
lines_whole (line ∷ lines) [] bytes same none written = absurd (omega arith)
lines_whole (line ∷ lines) (y ∷ ys) bytes same none written =
    one_whole line y.1 (first_error ys) bytes written.0 written.1 (joined lines) none written.2
    (λ none. lines_whole lines ys written.1 (omega arith) none written.3) written.4

-- the marks of events leave the events
pub flags_first : {X E : Type 0} (ys : List (X × Option E)) → map (λ x. x.0) (map flagged ys) ≡ map (λ y. y.0) ys
flags_first [] = refl
flags_first (y ∷ ys) = ap (λ zs. y.0 ∷ zs) (flags_first ys)

-- an event among these was refused exactly where there is a first error
pub first_refused : {E : Type 0} (ys : List (ReporterEvent × Option E)) → some_refused ys ≡ is_some (first_error ys)
first_refused [] = refl
first_refused (y ∷ ys) = by_error y.1 (first_refused ys)
  where
    by_error : (error : Option _) → some_refused ys ≡ is_some (first_error ys)
        → (is_some error || some_refused ys) ≡ is_some (earlier error (first_error ys))
    by_error None h = h
    by_error (Some d) h = refl

-- where no event was refused the sink's count stayed
pub stays : {E : Type 0} (ys : List (ReporterEvent × Option E)) (before now : ℕ) → first_error ys ≡ None
    → AreCounted (marks ys) before now → now ≡ before
stays [] before now none counted = counted
stays (y ∷ ys) before now none counted =
    by_error y.1 none counted.1 (λ later. stays ys counted.0 now later counted.2)
  where
    by_error : (error : Option _) → earlier error (first_error ys) ≡ None
        → RoseExactlyIf (is_some error) before counted.0 → (first_error ys ≡ None → now ≡ counted.0) → now ≡ before
    by_error None none same later = later none ∙ same
    by_error (Some d) none rose later = cc

-- it never falls
grown : (refused : List Bool) (before now : ℕ) → AreCounted refused before now → before ≤ now
grown [] before now counted = omega arith
grown (true ∷ refused) before now counted =
    omega (arith, counted.1.0, grown refused counted.0 now counted.2)
grown (false ∷ refused) before now counted =
    omega (arith, counted.1, grown refused counted.0 now counted.2)

-- so where one was refused it rose
pub rises : {E : Type 0} (ys : List (ReporterEvent × Option E)) (before now : ℕ) → IsSome (first_error ys)
    → AreCounted (marks ys) before now → Rose before now
rises [] before now some counted = cc
rises (y ∷ ys) before now some counted =
    by_error y.1 some counted.1 (λ later. rises ys counted.0 now later counted.2)
  where
    by_error : (error : Option _) → IsSome (earlier error (first_error ys))
        → RoseExactlyIf (is_some error) before counted.0 → (IsSome (first_error ys) → Rose counted.0 now)
        → Rose before now
    by_error None some same later = subst (λ n. Rose n now) same (later some)
    by_error (Some d) some rose later = omega (arith, rose.1, grown (marks ys) counted.0 now counted.2)

-- a run whose events the sink took, from what the reporter told
unfoldable pub executed_from : (form : Form) (p : Settings) (turns : List Turn) (w : Writing) (refusals : ℕ)
    (asks : List (ℕ × Ask)) (answer : Result RunOutcome (TestRunnerExecuteErrors Failed)) (journal : List Entry)
    (refusal : Option Failed) (ys : List (ReporterEvent × Option Failed))
    → IsRunnable p journal → IsAnswerOf p turns journal refusal answer → is_none refusal ≡ none_refused journal
    → asks ≡ form.asks (asked (past_of p journal)) → length (form.lines (past_of p journal)) ≡ length ys
    → HasTold w.taken w.taken_after w.faults w.faults_after refusals
    (zip (form.lines (past_of p journal)) (map (λ y. y.1) ys))
    → map flagged ys ≡ answers (past_of p journal)
    → first_error ys ≡ refusal → IsExecuted form p turns w asks answer
executed_from form p turns w refusals asks answer journal refusal ys runnable says marked
    asked_is fits told flags first =
    let lines = form.lines (past_of p journal) in
    let counted = subst (λ bs. AreCounted bs w.faults w.faults_after) (marks_beside lines ys fits) told.counted in
    record {
      journal = journal;
      refusal = refusal;
      runnable = runnable;
      says = says;
      marked = marked;
      asked = asked_is;
      took = record { events = ys; flags = flags; took = told.took; counted = counted };
      told = λ none. subst (HasTaken w) (lines_whole lines ys told.took.0 fits (first ∙ none) told.took.1) told.took.2;
      quiet = λ none. stays ys w.faults w.faults_after (first ∙ none) counted;
      risen = λ some. rises ys w.faults w.faults_after (subst IsSome (sym first) some) counted;
    }

-- the events that were told are those of the journal
pub told_is : (p : Settings) (journal : List Entry) (ys : List (ReporterEvent × Option Failed)) → IsRunnable p journal
    → map flagged ys ≡ answers (past_of p journal) → map (λ y. y.0) ys ≡ told (past_of p journal)
told_is p journal ys runnable flags =
    sym (flags_first ys) ∙ ap (map (λ x. x.0)) flags ∙ answers-told p (reverse journal) runnable.legal

-- the same of a reporter of lines
unfoldable pub executed_whole : (p : Settings) (turns : List Turn) (w : Writing) (refusals : ℕ) (asks : List (ℕ × Ask))
    (answer : Result RunOutcome (TestRunnerExecuteErrors Failed)) (journal : List Entry) (refusal : Option Failed)
    (ys : List (ReporterEvent × Option Failed))
    → IsRunnable p journal → IsAnswerOf p turns journal refusal answer → is_none refusal ≡ none_refused journal
    → asks ≡ asked (past_of p journal)
    → HasTold w.taken w.taken_after w.faults w.faults_after refusals (event_lines ys)
    → map flagged ys ≡ answers (past_of p journal)
    → first_error ys ≡ refusal → IsExecuted whole_form p turns w asks answer
executed_whole p turns w refusals asks answer journal refusal ys runnable says marked asked_is told flags first =
    let events = told_is p journal ys runnable flags in
    executed_from whole_form p turns w refusals asks answer journal refusal ys runnable says marked asked_is
    (ap (λ es. length (map event_line es)) (sym events) ∙ length-map (map (λ y. y.0) ys) event_line
    ∙ length-map ys (λ y. y.0))
    (subst (HasTold w.taken w.taken_after w.faults w.faults_after refusals)
    (lines_beside ys ∙ ap (λ es. zip (map event_line es) (map (λ y. y.1) ys)) events) told) flags first

-- and of one of progress
pub executed_shown : (p : Settings) (width : ℕ) (turns : List Turn) (w : Writing) (refusals : ℕ)
    (answer : Result RunOutcome (TestRunnerExecuteErrors Failed)) (journal : List Entry) (refusal : Option Failed)
    (ys : List (ReporterEvent × Option Failed)) → (answer ≡ Err engine.OutOfMemory → ⊥)
    → IsRunnable p journal → IsAnswerOf p turns journal refusal answer → is_none refusal ≡ none_refused journal
    → HasTold w.taken w.taken_after w.faults w.faults_after refusals
    (shown_lines (first_screen p.plan.head.mode (Count 8) width (turn_clocks 0 turns)) ys)
    → map flagged ys ≡ answers (past_of p journal)
    → first_error ys ≡ refusal → IsExecuted (progress_form p width) p turns w [] answer
executed_shown p width turns w refusals answer journal refusal ys some runnable says marked told flags first =
    let past : List Happening = past_of p journal in
    let events = told_is p journal ys runnable flags in
    let start = first_screen p.plan.head.mode (Count 8) width (turn_clocks 0 turns) in
    executed_from (progress_form p width) p turns w refusals [] answer journal refusal ys runnable says marked refl
    (length-lines_in (display_of p width past) _ ∙ ap length (sym events) ∙ length-map ys (λ y. y.0))
    (subst (HasTold w.taken w.taken_after w.faults w.faults_after refusals)
    (ap (λ es. zip (lines_in start es) (answer_errors ys)) events
    ∙ ap (λ ls. zip ls (answer_errors ys))
    (shown_clocks p turns journal refusal answer p.plan.head.mode (Count 8) width some runnable.legal says)) told)
    flags first

-- lines beside errors of which there are as many as of the first
zip_front : {E : Type 0} (lines more : List (List ℕ)) (errors : List E) → length errors ≡ length lines
    → zip (lines ++ more) errors ≡ zip lines errors
zip_front [] [] [] same = refl
zip_front [] (line ∷ more) [] same = refl
zip_front [] more (e ∷ errors) same = absurd (omega arith)
zip_front (line ∷ lines) more [] same = absurd (omega arith)
zip_front (line ∷ lines) more (e ∷ errors) same =
    ap (λ zs. (line, e) ∷ zs) (zip_front lines more errors (omega arith))

-- events whose answers are the first of a journal's are the first that it told
pub told_first : (p : Settings) (journal : List Entry) (ys : List (ReporterEvent × Option Failed))
    (left : List (ReporterEvent × Bool)) → IsLegal p journal
    → map flagged ys ++ left ≡ answers (past_of p journal)
    → map (λ y. y.0) ys ++ map (λ x. x.0) left ≡ told (past_of p journal)
told_first p journal ys left legal are =
    ap (λ es. es ++ map (λ x. x.0) left) (sym (flags_first ys))
    ∙ sym (map-append (λ x. x.0) (map flagged ys) left)
    ∙ ap (map (λ x. x.0)) are ∙ answers-told p (reverse journal) legal

-- a sink took the lines of the first events of a journal
first_from : (form : Form) (past : List Happening) (w : Writing) (refusals : ℕ)
    (ys : List (ReporterEvent × Option Failed)) (left : List (ReporterEvent × Bool)) (lines more : List (List ℕ))
    → map flagged ys ++ left ≡ answers past → length left ≤ told_last past → form.lines past ≡ lines ++ more
    → length lines ≡ length ys
    → HasTold w.taken w.taken_after w.faults w.faults_after refusals (zip lines (map (λ y. y.1) ys))
    → TookFirst form past w
first_from form past w refusals ys left lines more flags few are fits told = record {
  events = ys;
  left = left;
  flags = flags;
  few = few;
  took = subst (TookLines w.taken w.taken_after)
      (sym (zip_front lines more (map (λ y. y.1) ys) (length-map ys (λ y. y.1) ∙ sym fits))
      ∙ ap (λ ls. zip ls (map (λ y. y.1) ys)) (sym are)) told.took;
  counted = subst (λ bs. AreCounted bs w.faults w.faults_after) (marks_beside lines ys fits) told.counted;
}

-- of a reporter of lines
pub first_whole : (p : Settings) (journal : List Entry) (w : Writing) (refusals : ℕ)
    (ys : List (ReporterEvent × Option Failed)) (left : List (ReporterEvent × Bool)) → IsLegal p journal
    → map flagged ys ++ left ≡ answers (past_of p journal) → length left ≤ told_last (past_of p journal)
    → HasTold w.taken w.taken_after w.faults w.faults_after refusals (event_lines ys)
    → TookFirst whole_form (past_of p journal) w
first_whole p journal w refusals ys left legal flags few told =
    first_from whole_form (past_of p journal) w refusals ys left (map event_line (map (λ y. y.0) ys))
    (map event_line (map (λ x. x.0) left)) flags few
    (ap (map event_line) (sym (told_first p journal ys left legal flags))
    ∙ map-append event_line (map (λ y. y.0) ys) (map (λ x. x.0) left))
    (length-map (map (λ y. y.0) ys) event_line ∙ length-map ys (λ y. y.0))
    (subst (HasTold w.taken w.taken_after w.faults w.faults_after refusals) (lines_beside ys) told)

-- the lines of events, and then of more
lines_in-append : (start : Screen) (xs ys : List ReporterEvent)
    → lines_in start (xs ++ ys) ≡ lines_in start xs ++ lines_in (screen_after_all start xs) ys
lines_in-append start [] ys = refl
lines_in-append start (x ∷ xs) ys =
    ap (λ lines. line_in start x ∷ lines) (lines_in-append (screen_after start x) xs ys)

-- and of one of progress, of the first turns of these
pub first_shown : (p : Settings) (width : ℕ) (turns rest : List Turn) (journal : List Entry) (w : Writing)
    (refusals : ℕ) (ys : List (ReporterEvent × Option Failed)) (left : List (ReporterEvent × Bool))
    → IsLegal p journal → turns ≡ turns_of journal ++ rest
    → map flagged ys ++ left ≡ answers (past_of p journal) → length left ≤ told_last (past_of p journal)
    → HasTold w.taken w.taken_after w.faults w.faults_after refusals
    (shown_lines (first_screen p.plan.head.mode (Count 8) width (turn_clocks 0 turns)) ys)
    → TookFirst (progress_form p width) (past_of p journal) w
first_shown p width turns rest journal w refusals ys left legal are flags few told =
    let start = first_screen p.plan.head.mode (Count 8) width (turn_clocks 0 turns) in
    let mine = map (λ y. y.0) ys in
    let later = map (λ x. x.0) left in
    first_from (progress_form p width) (past_of p journal) w refusals ys left (lines_in start mine)
    (lines_in (screen_after_all start mine) later) flags few
    (sym (shown_by p turns journal rest p.plan.head.mode (Count 8) width legal are)
    ∙ ap (lines_in start) (sym (told_first p journal ys left legal flags)) ∙ lines_in-append start mine later)
    (length-lines_in start mine ∙ length-map ys (λ y. y.0)) told
