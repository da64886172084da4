-- How a run of workers ends, by what its threads left.
use Rattle.std.proofs.Common.{◌≡◌, ℕ, ◌&&◌, List, [], ◌∷◌, ◌++◌, length, map, zip, reverse}
use Rattle.std.proofs.Common.{Bool, true, false, not, Option, Some, None, is_none, is_some, Ok, Err}
use Rattle.std.proofs.Common.{refl, ap, sym, ◌∙◌, arith}
use Rattle.std.specs.Prelude.{IfSome, IsSomeAnd}
use Rattle.std.specs.Option.{IsNone}
use Rattle.std.specs.List.{list_all}
use Rattle.std.proofs.lemmas.List.{append-nil, map-append, reverse-append, reverse-reverse}
use Rattle.run_capture.specs.declared.source.Failed.{Failed}
use Rattle.run_events.specs.declared.settings.Settings.{Settings}
use Rattle.run_events.specs.declared.ask.Ask.{Ask}
use Rattle.run_events.specs.declared.events.ReporterEvent.{ReporterEvent}
use Rattle.run_events.specs.declared.outcome.RunOutcome.{RunOutcome}
use Rattle.run_model.specs.declared.entry.Entry.{Entry}
use Rattle.run_model.specs.declared.happening.Happening.{Happening}
use Rattle.run_model.specs.Words.{answers, asked, events_in}
use Rattle.run_model.specs.Turns.{happening}
use Rattle.run_model.specs.Journal.{history, past_of, IsLegalBackward}
use Rattle.run_laws.specs.Course.{turns_of, refusals, none_refused}
use Rattle.run_laws.proofs.board.Courses.{refusals-append}
use Rattle.run_laws.proofs.told.Outcomes.{over_is}
use Rattle.run_engine.specs.Standing.{IsRunnable}
use Rattle.run_engine.specs.World.{flagged, earlier, first_error}
use Rattle.run_engine.specs.declared.errors.TestRunnerExecuteErrors.TheVariants as engine
use Rattle.run_output.specs.Told.{HasTold, event_lines, some_refused}
use Rattle.run_cli.specs.Call.{Writing}
use Rattle.run_cli.specs.Text.{whole_form}
use Rattle.run_cli.specs.Executed.{IsExecuted}
use Rattle.run_shared.specs.Closed.{IsLeft, IsLeftUnclosed}
use Rattle.run_shared.specs.declared.closing.CloseError.{CloseError}
use Rattle.run_drive.specs.declared.spawner.Heard.{Heard}
use Rattle.run_live.specs.declared.lived.Lived.{Lived}
use Rattle.run_cli.specs.Live.{IsClosed, IsUnclosed}
use Rattle.run_cli.specs.Lived.{HasWritten, HasWrittenRefused, IsOver, IsLeftOver}
use Rattle.run_cli.proofs.ToldLines.{first_refused, executed_whole}

-- marks beside as many events are the marks
zip_second : {X : Type 0} (xs : List X) (bs : List Bool) → length bs ≡ length xs → map (λ x. x.1) (zip xs bs) ≡ bs
zip_second [] [] e = refl
zip_second [] (b ∷ bs) e = absurd (omega arith)
zip_second (x ∷ xs) [] e = absurd (omega arith)
zip_second (x ∷ xs) (b ∷ bs) e = ap (λ cs. b ∷ cs) (zip_second xs bs (omega arith))

-- the answers of a legal journal are marked as its entries are
answers-marks : (p : Settings) (backward : List Entry) → IsLegalBackward p backward
    → map (λ x. x.1) (answers (history p backward)) ≡ refusals (reverse backward)
answers-marks p [] legal = refl
answers-marks p (e ∷ before) legal =
    let x : Happening = happening p (history p before) e in
    let last : refusals (reverse (e ∷ before)) ≡ refusals (reverse before) ++ e.refused =
    ap refusals (reverse-append (e ∷ []) before) ∙ refusals-append (reverse before) (e ∷ [])
    ∙ ap (λ rs. refusals (reverse before) ++ rs) (append-nil e.refused) in
    map-append (λ x. x.1) (answers (history p before)) (zip (events_in x) x.refused)
    ∙ ap (λ bs. bs ++ map (λ x. x.1) (zip (events_in x) x.refused)) (answers-marks p before legal.2)
    ∙ ap (λ bs. refusals (reverse before) ++ bs) (zip_second (events_in x) e.refused legal.1)
    ∙ sym last

-- one of these events was refused exactly where not all marks of them are false
flags_refused : {X E : Type 0} (ys : List (X × Option E)) → is_some (first_error ys)
    ≡ not (list_all not (map (λ x. x.1) (map flagged ys)))
flags_refused [] = refl
flags_refused (y ∷ ys) = by_error y.1 (flags_refused ys)
  where
    by_error : (error : Option _)
        → is_some (first_error ys) ≡ not (list_all not (map (λ x. x.1) (map flagged ys)))
        → is_some (earlier error (first_error ys))
        ≡ not (not (is_some error) && list_all not (map (λ x. x.1) (map flagged ys)))
    by_error None h = h
    by_error (Some d) h = refl

-- so there is no first error exactly where the journal has no refusal
pub none_marked : (p : Settings) (journal : List Entry) (ys : List (ReporterEvent × Option Failed))
    → IsRunnable p journal
    → map flagged ys ≡ answers (past_of p journal) → is_none (first_error ys) ≡ none_refused journal
none_marked p journal ys runnable flags =
    let marks : map (λ x. x.1) (map flagged ys) ≡ refusals journal =
    ap (map (λ x. x.1)) flags ∙ answers-marks p (reverse journal) runnable.legal ∙ refusals_there in
    by_error (first_error ys) (none_refused journal)
    (flags_refused ys ∙ ap (λ bs. not (list_all not bs)) marks)
  where
    refusals_there : refusals (reverse (reverse journal)) ≡ refusals journal
    refusals_there = ap refusals (reverse-reverse journal)

    by_error : (o : Option Failed) (b : Bool) → is_some o ≡ not b → is_none o ≡ b
    by_error None true e = refl
    by_error None false e = cc
    by_error (Some d) true e = cc
    by_error (Some d) false e = refl

-- a run that is over, with no event refused
unfoldable pub executed_calm : (p : Settings) (w : Writing) (n : ℕ) (journal : List Entry) (asks : List (ℕ × Ask))
    (o : RunOutcome) → IsOver p w n journal asks o false → IsExecuted whole_form p (turns_of journal) w asks (Ok o)
executed_calm p w n journal asks o x =
    let none : first_error x.events ≡ None =
    by_error (first_error x.events) (x.marked ∙ first_refused x.events) in
    executed_whole p (turns_of journal) w n asks (Ok o) journal None x.events x.runnable (refl, x.over, refl)
    (sym (ap is_none none) ∙ none_marked p journal x.events x.runnable x.flags) x.asked x.told x.flags none
  where
    by_error : (o : Option Failed) → false ≡ is_some o → o ≡ None
    by_error None e = refl
    by_error (Some d) e = cc

-- one that is over, with an event refused: by its first error
unfoldable pub executed_rough : (p : Settings) (w : Writing) (n : ℕ) (journal : List Entry) (asks : List (ℕ × Ask))
    (o : RunOutcome) (d : Failed) → (x : IsOver p w n journal asks o true) → first_error x.events ≡ Some d
    → IsExecuted whole_form p (turns_of journal) w asks (Err (engine.Report d))
executed_rough p w n journal asks o d x first =
    executed_whole p (turns_of journal) w n asks (Err (engine.Report d)) journal (Some d) x.events x.runnable
    (refl, over_is p (past_of p journal) o x.over, refl)
    (sym (ap is_none first) ∙ none_marked p journal x.events x.runnable x.flags) x.asked x.told x.flags first

-- that one has a first error
pub rough_error : (p : Settings) (w : Writing) (n : ℕ) (journal : List Entry) (asks : List (ℕ × Ask))
    (o : RunOutcome) → (x : IsOver p w n journal asks o true) → (d : Failed) × (first_error x.events ≡ Some d)
rough_error p w n journal asks o x = by_error (first_error x.events) refl (x.marked ∙ first_refused x.events)
  where
    by_error : (error : Option Failed) → first_error x.events ≡ error → true ≡ is_some (first_error x.events)
        → (d : Failed) × (first_error x.events ≡ Some d)
    by_error None e some = cc
    by_error (Some d) e some = (d, e)

-- what the threads of a run left, where its receipts are borne out
pub closed_from : {W T R : Type 0} (said : W → List Heard → Type 0)
    (tells : R → List (ReporterEvent × Option Failed) → Type 0) (p : Settings) (l : Lived W T R)
    → IsLeftOver said tells p l → IsNone l.live.error → IsClosed said p l.live
closed_from said tells p l x none = record {
  legal = (x.left none).legal.legal;
  borne_out = none;
  stands = x.stands none;
  once = x.once none;
  own = x.own;
  count = x.count;
}

both_some : {E : Type 0} (P Q : E → Type 0) (error : Option E) → IfSome error P → IfSome error Q
    → is_some error ≡ true → IsSomeAnd error (λ e. P e × Q e)
both_some P Q None p q some = cc
both_some P Q (Some e) p q some = (p, q)

-- and where they are refused
pub unclosed_from : {W T R : Type 0} (said : W → List Heard → Type 0)
    (tells : R → List (ReporterEvent × Option Failed) → Type 0) (p : Settings) (l : Lived W T R)
    → IsLeftOver said tells p l → is_some l.live.error ≡ true → IsUnclosed said p l.live
unclosed_from said tells p l x some =
    record { why = both_some _ _ l.live.error x.refused x.kind some; own = x.own; count = x.count }

-- and where it is over, with what its reporter has told
pub over_from : {R : Type 0} (tells : R → List (ReporterEvent × Option Failed) → Type 0) (p : Settings) (w : Writing)
    (n : ℕ) (report : R) (journal : List Entry) (asks : List (ℕ × Ask)) (o : RunOutcome) (refused : Bool)
    → ((ys : List (ReporterEvent × Option Failed)) → tells report ys
    → HasTold w.taken w.taken_after w.faults w.faults_after n (event_lines ys))
    → ((ys : List (ReporterEvent × Option Failed)) → tells report ys → refused ≡ some_refused ys)
    → IsLeft tells report asks p journal (Some o) → IsOver p w n journal asks o refused
over_from tells p w n report journal asks o refused told marked x =
    let none = x.whole refl in
    record {
      runnable = x.legal;
      over = sym x.ended;
      asked = x.asked ∙ ap (λ sent. asked (past_of p journal) ++ sent) none.1 ∙ append-nil (asked (past_of p journal));
      events = x.events;
      flags = x.flags ∙ ap (λ extra. answers (past_of p journal) ++ extra) none.0
          ∙ append-nil (answers (past_of p journal));
      told = told x.events x.told;
      marked = marked x.events x.told;
    }

-- and where it isn't over
pub written_from : {R : Type 0} (tells : R → List (ReporterEvent × Option Failed) → Type 0) (p : Settings) (w : Writing)
    (n : ℕ) (report : R) (journal : List Entry) (asks : List (ℕ × Ask)) (end : Option RunOutcome)
    → ((ys : List (ReporterEvent × Option Failed)) → tells report ys
    → HasTold w.taken w.taken_after w.faults w.faults_after n (event_lines ys))
    → IsLeft tells report asks p journal end → HasWritten p w n journal asks
written_from tells p w n report journal asks end told x = record {
  runnable = x.legal;
  events = x.events;
  extra = x.extra;
  sent = x.sent;
  flags = x.flags;
  asked = x.asked;
  part = x.part;
  room = x.room;
  told = told x.events x.told;
}

-- and where its receipts are refused
pub refused_from : {R : Type 0} (tells : R → List (ReporterEvent × Option Failed) → Type 0) (p : Settings) (w : Writing)
    (n : ℕ) (report : R) (journal : List Entry) (asks : List (ℕ × Ask)) (error : Option CloseError)
    → ((ys : List (ReporterEvent × Option Failed)) → tells report ys
    → HasTold w.taken w.taken_after w.faults w.faults_after n (event_lines ys))
    → IfSome error (λ e. IsLeftUnclosed tells report asks p journal e.kind)
    → IfSome error (λ e. HasWrittenRefused p w n journal asks e.kind)
refused_from tells p w n report journal asks None told x = tt
refused_from tells p w n report journal asks (Some e) told x = record {
  settings = x.settings;
  same = x.same;
  written = written_from tells x.settings w n report journal asks _ told x.left;
}
