-- What each enabled turn does fits the sub-run before it: the one place where the turns are gone through.
use Rattle.std.proofs.Common.{is_none, ◌≡◌, ℕ, List, [], ◌∷◌, get_or, Bool, true, false, if◌then◌else◌, not, Option}
use Rattle.std.proofs.Common.{Some, None}
use Rattle.std.proofs.Common.{is_some, ◌&&◌, refl, ap, sym, subst, ◌∙◌, arith}
use Rattle.std.specs.List.{list_any}
use Rattle.std.specs.Cmp.{first_so, second_so}
use Rattle.std.proofs.lemmas.List.{append-nil}
use Rattle.std.proofs.lemmas.Option.{same_Some}
use Rattle.run_events.specs.declared.settings.Settings.{Settings}
use Rattle.run_events.specs.declared.turn.Turn.{Turn}
use Rattle.run_events.specs.declared.turn.Turn.TheVariants.{Begin}
use Rattle.run_events.specs.declared.message.Message.{Message}
use Rattle.run_events.specs.declared.message.Message.TheVariants.{ScriptStart, ScriptSlow, ScriptFinish, Start, Slow}
use Rattle.run_events.specs.declared.message.Message.TheVariants.{AttemptFailed, Retry, Skip, Finish}
use Rattle.run_events.specs.declared.result.ExecuteStatus.{ExecuteStatus}
use Rattle.run_events.specs.declared.events.ReporterEvent.{ReporterEvent}
use Rattle.run_events.specs.declared.events.TestEventKind.{TestEventKind}
use Rattle.run_events.specs.declared.events.TestEventKind.TheVariants.{SetupScriptStarted, SetupScriptSlow}
use Rattle.run_events.specs.declared.events.TestEventKind.TheVariants.{SetupScriptFinished, TestSlow as TestSlowed}
use Rattle.run_model.specs.declared.happening.Happening.{Happening}
use Rattle.run_clock.specs.Sleep.{fires_now}
use Rattle.run_model.specs.Story.{was_left}
use Rattle.run_model.specs.Words.{is_on, finished_test, sent, delivered, queue, told, unit_of, a_test, units, tally}
use Rattle.run_model.specs.Admission.{newcomer}
use Rattle.run_events.specs.Hearing.{heard_key}
use Rattle.run_events.specs.declared.turn.Turn.TheVariants.{End}
use Rattle.run_model.specs.Rounds.{is_answer, open_round, answers_waiting}
use Rattle.run_model.specs.Dispatch.{heard_by, is_main, stop_waits, query_waits, is_halted, may_go, with_start}
use Rattle.run_model.specs.Dispatch.{with_finish, started_event, finished_event}
use Rattle.run_model.specs.Board.{Board, Deed}
use Rattle.run_model.specs.Turns.{live_in, enabled_on, is_empty, is_complete, takes_turn, turn_of_unit, nothing_done}
use Rattle.run_model.specs.Turns.{event_of, tally_with, delivered_as, delivery, done_by, deed_on}
use Rattle.run_model.specs.Accounts.{finished, is_mismatched, attempt_of, account_of, news_in, pending_in}
use Rattle.run_model.specs.Cancel.{cause_of}
use Rattle.run_model.specs.Words.{was_reported, global_timer}
use Rattle.run_laws.proofs.board.Holds.{Holds}
use Rattle.run_laws.proofs.board.Queue.{lt-from_queue}
use Rattle.run_laws.proofs.board.ByTurn.{by_turn}
use Rattle.run_laws.proofs.units.AccountLemmas.{of_slow, of_failed, of_finish, of_skip, news_for}
use Rattle.run_laws.proofs.board.Order.{is_of_script, AreSorted, sorted-drop, none_behind, oldest_not}
use Rattle.run_laws.specs.Scripts.{starts_test}
use Rattle.run_laws.specs.Reports.{report_in, report_of_kind}
use Rattle.run_laws.proofs.told.Reported.{still_reports, told_report}
use Rattle.run_laws.proofs.board.OnBoard.{Frame, index_in, moment_in, event_in, board_of, board_with, unit_in-is}
use Rattle.run_laws.proofs.board.Facts.{finish_follows, finish_own, script_finish_own, may_go-is, oldest_kind}
use Rattle.run_laws.proofs.board.Facts.{script_below, test_above}
use Rattle.run_laws.proofs.board.DeedFits.{ToldFitsIn, IsInOrder, Does}
use Rattle.run_laws.proofs.board.BoundDeeds.{begin_does, end_does}
use Rattle.run_laws.proofs.board.RunDeeds.{caused_does, nothing_does, idles, cancels_does, signal_does, key_does}
use Rattle.run_laws.proofs.board.RunDeeds.{stops_does, answer_does, informs_does, ticks_does}
use Rattle.run_laws.proofs.board.UnitDeeds.{quiet, admits, unit_does, start_does, retry_does}

-- what the delivery of a slow report does
slow_does : (p : Settings) (f : Frame) (now : ℕ) (run : List Happening) (m : Message) (kind : TestEventKind)
    (rest : List Message) → Holds p now run → is_on run ≡ true → queue run ≡ m ∷ rest
    → ((k : ℕ) → pending_in k m ≡ None) → ((k : ℕ) → news_in k kind ≡ None)
    → ((k : ℕ) → report_of_kind k kind ≡ report_in k m) → is_answer kind ≡ false
    → ToldFitsIn p (told run) kind → IsInOrder p run (event_in now f kind)
    → Does p f now run (record nothing_done { taken = true; told = Some (event_in now f kind) })
slow_does p f now run m kind rest h on eq pends news same no_answer fits order = record {
  source = tt;
  asks = refl;
  sent_as = refl;
  order = order;
  part = tt;
  index = tt;
  room = lt-from_queue (delivered run) (sent run) rest _ eq;
  sends = tt;
  tells = fits;
  accounts = λ k. rw eq (of_slow (is_mismatched p k) (was_left k run) (moment_in now f) k (unit_of k run)
      (account_of k (told run)) rest m kind (pends k) (news k) (rw eq at (h.accounts k)));
  reported = λ k. still_reports _ k now run _ refl refl refl
      (rw eq (told_report k (moment_in now f) m kind rest (same k)));
  marks = quiet p f now run _ on refl refl refl refl refl refl no_answer;
}

-- what the delivery of a finish does, apart from its cause
finish_does : (p : Settings) (f : Frame) (now : ℕ) (run : List Happening) (i : ℕ) (m : Message) (kind : TestEventKind)
    (fs : List ExecuteStatus) (rest : List Message) → Holds p now run → is_on run ≡ true → queue run ≡ m ∷ rest
    → ((k : ℕ) → pending_in k m ≡ news_for i (finished fs) k) → ((k : ℕ) → news_in k kind ≡ news_for i (finished fs) k)
    → ((k : ℕ) → report_in k m ≡ None) → ((k : ℕ) → report_of_kind k kind ≡ None) → is_answer kind ≡ false
    → ToldFitsIn p (told run) kind → IsInOrder p run (event_in now f kind)
    → Does p f now run (record nothing_done { taken = true; told = Some (event_in now f kind) })
finish_does p f now run i m kind fs rest h on eq pends news silent quiet_kind no_answer fits order = record {
  source = tt;
  asks = refl;
  sent_as = refl;
  order = order;
  part = tt;
  index = tt;
  room = lt-from_queue (delivered run) (sent run) rest _ eq;
  sends = tt;
  tells = fits;
  accounts = λ k. rw eq (of_finish (is_mismatched p k) (was_left k run) (moment_in now f) k i fs (unit_of k run)
      (account_of k (told run)) rest m kind (pends k) (news k) (rw eq at (h.accounts k)));
  reported = λ k. still_reports _ k now run _ refl refl refl (rw eq (rw (silent k, quiet_kind k) refl));
  marks = quiet p f now run _ on refl refl refl refl refl refl no_answer;
}

-- where the oldest message is a script's no test was told started, and none of a script waits where it is a test's
script_early : (p : Settings) (now : ℕ) (run : List Happening) (m : Message) (rest : List Message)
    → Holds p now run → queue run ≡ m ∷ rest → is_of_script m ≡ true → list_any starts_test (told run) ≡ false
script_early p now run m rest h eq script = by_told (list_any starts_test (told run)) refl
  where
    by_told : (b : Bool) → list_any starts_test (told run) ≡ b → b ≡ false
    by_told false e = refl
    by_told true e =
        let none : list_any is_of_script (m ∷ rest) ≡ false =
        ap (list_any is_of_script) (sym eq) ∙ (h.tests_told e).0 in
        let never : true ≡ false = sym script ∙ oldest_not m rest none in cc

test_last : (p : Settings) (now : ℕ) (run : List Happening) (m : Message) (rest : List Message)
    → Holds p now run → queue run ≡ m ∷ rest → is_of_script m ≡ false → list_any is_of_script (queue run) ≡ false
test_last p now run m rest h eq test =
    ap (list_any is_of_script) eq
    ∙ none_behind m rest (subst AreSorted eq (sorted-drop (delivered run) (sent run) h.sorted)) test

-- what a delivery does
delivers : (p : Settings) (f : Frame) (now : ℕ) (run : List Happening) (q : List Message) → Holds p now run
    → is_on run ≡ true
    → queue run ≡ q → not (is_empty q) ≡ true → Does p f now run (delivery (board_of p f now run) q)
delivers p f now run [] h on eq en = cc
delivers p f now run (ScriptStart start ∷ rest) h on eq en =
    start_does p f now run start.script.unit (ScriptStart start) (SetupScriptStarted start) rest (may_go (tally p run))
    (get_or (units p run) start.script.unit None) h on (may_go-is p run) eq (λ k. refl)
    (λ k. refl) (λ k. refl) (λ k. refl)
    refl
    (λ untold below. (script_below p start.script.unit (oldest_kind p now run (ScriptStart start) rest h eq), untold))
    (λ admitted. record {
      test = λ e. cc;
      script = λ e. script_early p now run (ScriptStart start) rest h eq refl;
      said = λ m e. (rest, eq ∙ ap (λ m. m ∷ rest) (same_Some _ _ e));
    })
    (sym (unit_in-is p now run start.script.unit h))
delivers p f now run (Start start ∷ rest) h on eq en =
    start_does p f now run start.test.unit (Start start) (started_event start (with_start (tally p run))) rest
    (may_go (tally p run)) (get_or (units p run) start.test.unit None) h on (may_go-is p run) eq (λ k. refl) (λ k. refl)
    (λ k. refl) (λ k. refl) refl
    (λ untold below. (test_above p start.test.unit (oldest_kind p now run (Start start) rest h eq), below, untold))
    (λ admitted. record {
      test = λ e. (
        test_last p now run (Start start) rest h eq refl,
        h.admitted start.test.unit (oldest_kind p now run (Start start) rest h eq) admitted,
      );
      script = λ e. cc;
      said = λ m e. (rest, eq ∙ ap (λ m. m ∷ rest) (same_Some _ _ e));
    })
    (sym (unit_in-is p now run start.test.unit h))
delivers p f now run (Retry retry ∷ rest) h on eq en =
    retry_does p f now run retry rest (may_go (tally p run)) (get_or (units p run) retry.start.test.unit None) h on
    (may_go-is p run) eq (sym (unit_in-is p now run retry.start.test.unit h))
delivers p f now run (AttemptFailed failure ∷ rest) h on eq en = record {
  source = tt;
  asks = refl;
  sent_as = refl;
  order = record { test = λ e. cc; script = λ e. cc; said = λ m e. cc };
  part = tt;
  index = tt;
  room = lt-from_queue (delivered run) (sent run) rest _ eq;
  sends = tt;
  tells = tt;
  accounts = λ k. rw eq (of_failed (is_mismatched p k) (was_left k run) (moment_in now f) k (unit_of k run)
      (account_of k (told run)) rest failure (tally p run) (rw eq at (h.accounts k)));
  reported = λ k. still_reports _ k now run _ refl refl refl (rw eq refl);
  marks = quiet p f now run _ on refl refl refl refl refl refl refl;
}
delivers p f now run (Skip skip ∷ rest) h on eq en = record {
  source = tt;
  asks = refl;
  sent_as = refl;
  order = record { test = λ e. cc; script = λ e. cc; said = λ m e. cc };
  part = tt;
  index = tt;
  room = lt-from_queue (delivered run) (sent run) rest _ eq;
  sends = tt;
  tells = tt;
  accounts = λ k. rw eq (of_skip (is_mismatched p k) (was_left k run) (moment_in now f) k (unit_of k run)
      (account_of k (told run)) rest skip (rw eq at (h.accounts k)));
  reported = λ k. still_reports _ k now run _ refl refl refl (rw eq refl);
  marks = quiet p f now run _ on refl refl refl refl refl refl refl;
}
delivers p f now run (Slow slow ∷ rest) h on eq en =
    slow_does p f now run (Slow slow) (TestSlowed slow) rest h on eq (λ k. refl) (λ k. refl) (λ k. refl) refl tt
    (record { test = λ e. cc; script = λ e. cc; said = λ m e. cc })
delivers p f now run (ScriptSlow slow ∷ rest) h on eq en =
    slow_does p f now run (ScriptSlow slow) (SetupScriptSlow slow) rest h on eq (λ k. refl) (λ k. refl) (λ k. refl)
    refl tt
    (record { test = λ e. cc; script = λ e. cc; said = λ m e. cc })
delivers p f now run (Finish finish ∷ rest) h on eq en =
    let follows = finish_follows p now run finish.test.unit (Finish finish) finish.statuses rest h
    eq (finish_own finish) in
    let b : Board = board_of p f now run in
    let tells : Option ReporterEvent = event_of b (Finish finish) in
    caused_does p f now run (cause_of b.dispatcher.rules (tally_with b tells) (Finish finish))
    (delivered_as b (Finish finish) nothing_done) on refl refl refl refl refl
    (finish_does p f now run finish.test.unit (Finish finish)
    (finished_event finish (with_finish (tally p run) (a_test (finished_test finish)))) finish.statuses
    rest h on eq (λ k. refl)
    (λ k. refl) (λ k. refl) (λ k. refl) refl
    (test_above p finish.test.unit (oldest_kind p now run (Finish finish) rest h eq), follows.below, follows.runs)
    (record { test = λ e. cc; script = λ e. cc; said = λ m e. cc }))
delivers p f now run (ScriptFinish finish ∷ rest) h on eq en =
    let follows = finish_follows p now run finish.script.unit (ScriptFinish finish)
    (attempt_of finish.status ∷ []) rest h eq
    (script_finish_own finish) in
    let b : Board = board_of p f now run in
    let tells : Option ReporterEvent = event_of b (ScriptFinish finish) in
    caused_does p f now run (cause_of b.dispatcher.rules (tally_with b tells) (ScriptFinish finish))
    (delivered_as b (ScriptFinish finish) nothing_done) on refl refl refl refl refl
    (finish_does p f now run finish.script.unit (ScriptFinish finish) (SetupScriptFinished finish)
    (attempt_of finish.status ∷ []) rest h on eq (λ k. refl) (λ k. refl) (λ k. refl) (λ k. refl)
    refl (script_below p finish.script.unit (oldest_kind p now run (ScriptFinish finish) rest h eq), follows.runs)
    (record {
      test = λ e. cc;
      script = λ e. cc;
      said = λ m e. (rest, eq ∙ ap (λ m. m ∷ rest) (same_Some _ _ e));
    }))

-- the sub-run before a turn: none where it begins one
abbrev pub base_of : Bool → List Happening → List Happening
base_of begins run = if begins then [] else run

-- what a deed does that begins a sub-run, and one that doesn't
begins_with : (p : Settings) (f : Frame) (now : ℕ) (run : List Happening) (d : Deed) → d.begins ≡ true
    → Does p f now [] d → Does p f now (base_of d.begins run) d
begins_with p f now run d begins does = subst (λ b. Does p f now (base_of b run) d) (sym begins) does

goes_with : (p : Settings) (f : Frame) (now : ℕ) (run : List Happening) (d : Deed) → d.begins ≡ false
    → Does p f now run d → Does p f now (base_of d.begins run) d
goes_with p f now run d begins does = subst (λ b. Does p f now (base_of b run) d) (sym begins) does

goes_on : (p : Settings) (f : Frame) (now : ℕ) (run : List Happening) (d : Deed) → is_on run ≡ true
    → Does p f now run d → Does p f now (base_of d.begins run) d
goes_on p f now run d on does = goes_with p f now run d (by_begin d.begins refl) does
  where
    by_begin : (b : Bool) → d.begins ≡ b → b ≡ false
    by_begin false is = refl
    by_begin true is = let never : false ≡ true = ap is_on (sym (does.marks.begins is).0) ∙ on in cc

-- what each enabled turn does
pub does : (p : Settings) (f : Frame) (refused : Bool) (now : ℕ) (run : List Happening) (turn : Turn) → Holds p now run
    → enabled_on p (board_with p refused f now run) turn ≡ true
    → Does p f now (base_of (deed_on p (board_with p refused f now run) turn).begins run)
    (deed_on p (board_with p refused f now run) turn)
does p f refused now run turn h en =
    by_turn (λ turn named. takes_turn p b turn named ≡ true
    → Does p f now (base_of (done_by p b turn named).begins run) (done_by p b turn named))
    (record {
      begin = λ en. let begun = begin_does p f now b.dispatcher in begins_with p f now run _ begun.0 begun.1;
      admit = λ en.
          let on = first_so (is_on run) (is_some (newcomer p (index_in p f) (units p run))) en in
          goes_on p f now run _ on (admits p f now run (newcomer p (index_in p f) (units p run)) h on refl
          (second_so (is_on run) (is_some (newcomer p (index_in p f) (units p run))) en));
      deliver = λ en.
          let on = main (not (is_empty (queue run))) en in
          goes_on p f now run _ on (delivers p f now run (queue run) h on refl
          (second_so (is_main b.dispatcher) (not (is_empty (queue run))) en));
      named = λ turn k to other en. goes_with p f now run _ refl
          (unit_does p f now run k to _ h (sym (unit_in-is p now run k h)) en other);
      clock = λ ns en. goes_with p f now run _ refl (passes (is_on run) refl);
      signal = λ signal en. goes_on p f now run _ (main _ en)
          (signal_does p f now (live_in (units p run)) run signal (heard_by p.plan.hearing signal) h (main _ en));
      key = λ key en. goes_on p f now run _ (main _ en)
          (key_does p f now (live_in (units p run)) run (heard_key p.plan.hearing.input key) h (main _ en));
      tick = λ en.
          let on = first_so (is_on run) (is_none (open_round run)) en in
          goes_on p f now run _ on (ticks_does p f now run h on);
      stop_wait_due = λ en.
          let on = first_so (is_on run) (stop_waits (open_round run))
          (first_so (is_on run && stop_waits (open_round run)) _ en) in
          goes_on p f now run _ on (stops_does p f now run h on);
      answer = λ en. goes_on p f now run _ (asked _ en)
          (answer_does p f now run (answers_waiting run) h (asked _ en) refl);
      info_due = λ en. goes_on p f now run _ (asked _ en) (informs_does p f now run h (asked _ en));
      global_due = λ en.
          let on = main (fires_now now (global_timer p run)) en in
          goes_on p f now run _ on (cancels_does p f now run _ h on);
      report_cancel = λ en.
          let on = main refused (first_so (is_main b.dispatcher && refused) (not (was_reported run)) en) in
          goes_on p f now run _ on (cancels_does p f now run _ h on);
      end = λ en.
          let on = main (is_complete b) (ending en) in
          goes_on p f now run _ on (end_does p f now run h on
          (second_so (is_main b.dispatcher) (is_complete b) (ending en)));
    })
    turn (second_so (not f.over) (takes_turn p b turn (turn_of_unit turn)) en)
  where
    b : Board
    b = board_with p refused f now run

    -- a sub-run is on where its dispatcher is in its main state, or waits for answers
    main : (more : Bool) → (is_main b.dispatcher && more) ≡ true → is_on run ≡ true
    main more en = first_so (is_on run) (is_none (open_round run)) (first_so (is_main b.dispatcher) more en)

    asked : (more : Bool) → (is_on run && query_waits (open_round run) && more) ≡ true → is_on run ≡ true
    asked more en =
        first_so (is_on run) (query_waits (open_round run))
        (first_so (is_on run && query_waits (open_round run)) more en)

    ending : takes_turn p b End None ≡ true → (is_main b.dispatcher && is_complete b) ≡ true
    ending en = first_so (is_main b.dispatcher && is_complete b) (not (is_halted b.dispatcher)) en

    passes : (b : Bool) → is_on run ≡ b → Does p f now run nothing_done
    passes true on = idles p f now run h on
    passes false off = nothing_does p f now run h (record {
      cancel = λ _. refl;
      bounds = λ h. cc;
      begins = λ h. cc;
      still = λ _. refl;
      finishes = λ h. cc;
      ends = λ h. cc;
      stops = λ h. cc;
      opens = λ h. cc;
      answers = λ h. cc;
    })
