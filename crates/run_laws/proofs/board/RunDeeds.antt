-- What a cause, a signal, a key and the turns of rounds do fits the sub-run before it.
use Rattle.std.proofs.Common.{◌≡◌, ℕ, ◌+◌, ◌<◌, ◌≤◌, ◌||◌, List, [], ◌∷◌, ◌++◌, drop, length, Bool, true, false}
use Rattle.std.proofs.Common.{if◌then◌else◌, Option, Some, None, option_to_list, refl, ap, sym, subst, ◌∙◌, arith}
use Rattle.std.proofs.lemmas.List.{append-nil}
use Rattle.run_events.specs.declared.settings.Settings.{Settings}
use Rattle.run_events.specs.declared.request.Request.{Request}
use Rattle.run_events.specs.declared.request.Request.TheVariants.{Stop, Continue}
use Rattle.run_events.specs.declared.signal.Signal.{Signal as SignalKind}
use Rattle.run_events.specs.declared.signal.Signal.TheVariants.{Tstp}
use Rattle.run_events.specs.declared.signal.Heard.{Heard}
use Rattle.run_events.specs.declared.signal.Heard.TheVariants.{Shutdown, JobControl, Info}
use Rattle.run_events.specs.declared.input.InputEvent.{InputEvent}
use Rattle.run_events.specs.declared.input.InputEvent.TheVariants as inputs
use Rattle.run_events.specs.declared.info.InfoResponse.{InfoResponse}
use Rattle.run_events.specs.declared.events.ReporterEvent.{ReporterEvent}
use Rattle.run_events.specs.declared.events.ReporterEvent.TheVariants.{Tick}
use Rattle.run_events.specs.declared.events.TestEventKind.TheVariants.{RunPaused, RunContinued}
use Rattle.run_model.specs.declared.dispatcher_view.DispatcherView.{DispatcherView}
use Rattle.run_model.specs.declared.dispatcher_view.Tally.{Tally}
use Rattle.run_model.specs.declared.happening.Happening.{Happening}
use Rattle.run_model.specs.Words.{is_on, queue, told, unit_of, unit_after, tally}
use Rattle.run_model.specs.Rounds.{tells_answer, open_round, answers_told, answers_given, answers_waiting}
use Rattle.run_model.specs.Dispatch.{having_told, is_halted}
use Rattle.run_model.specs.Board.{Deed}
use Rattle.run_model.specs.Cancel.{Cause, caused}
use Rattle.run_model.specs.Turns.{nothing_done, tells, job_event, job_deed, stops_itself, asks_at, signal_deed}
use Rattle.run_model.specs.Turns.{key_deed, cancels_for, answered_by, oldest_of, informs_at, ticks}
use Rattle.run_model.specs.Accounts.{HasAccount, is_mismatched, account_of, news_of, pending_of}
use Rattle.run_laws.specs.Reports.{report_of, reports_waiting}
use Rattle.run_laws.proofs.board.Holds.{Holds}
use Rattle.run_laws.proofs.told.Cancels.{cancel_for, IsAfter, cancel_is, account_with, reports_with}
use Rattle.run_laws.proofs.told.Reported.{still_reports}
use Rattle.run_laws.proofs.board.Queue.{lt-from_queue}
use Rattle.run_laws.proofs.board.OnBoard.{board_of, moment_in}
use Rattle.run_laws.proofs.board.DeedFits.{ToldFits, Marks, left_with, IsInOrder, Does}
use Rattle.run_laws.proofs.board.UnitDeeds.{quiet}
use Rattle.run_laws.proofs.board.OnBoard.{Frame}

-- a cause adds nothing to what a deed does but its event
pub caused_does : (p : Settings) (f : Frame) (now : ℕ) (run : List Happening) (o : Option Cause) (d : Deed)
    → is_on run ≡ true → d.cause ≡ None → d.after ≡ None → d.begins ≡ false → d.over ≡ false → d.ends ≡ false
    → Does p f now run d → Does p f now run (caused (moment_in now f) (having_told (tally p run) d.told) o d)
caused_does p f now run None d on cause cancel begins over_not ends does = does
caused_does p f now run (Some c) d on cause uncancelled begins over_not ends does = record {
  part = does.part;
  index = does.index;
  room = does.room;
  sends = does.sends;
  tells = does.tells;
  accounts = λ k. subst (λ news. HasAccount (is_mismatched p k) (left_with k run d.part)
      (unit_after now k d.part (unit_of k run)) (account_of k (told run) ++ news)
      (pending_of k (drop (if d.taken then 1 else 0) (queue run) ++ option_to_list d.sent)))
      (account_with k (option_to_list d.told) d.after plain
      ∙ sym (account_with k (option_to_list d.told) cancel (cancel_is (moment_in now f) t (Some c.reason))))
      (does.accounts k);
  source = does.source;
  asks = does.asks;
  sent_as = does.sent_as;
  order = does.order;
  reported = λ k. let it = does.reported k in
      record {
        asks = it.asks;
        sends = it.sends;
        tells = ap (λ rs. rs ++ reports_waiting k (drop (if d.taken then 1 else 0) (queue run)))
            (reports_with k (option_to_list d.told) cancel (cancel_is (moment_in now f) t (Some c.reason))
            ∙ sym (reports_with k (option_to_list d.told) d.after plain)) ∙ it.tells;
      };
  marks = record {
    cancel = λ _. refl;
    bounds = λ some. let never : false ≡ true = sym (rw (begins, ends) refl) ∙ some in cc;
    begins = λ is. let never : false ≡ true = sym begins ∙ is in cc;
    still = λ off. let never : true ≡ false = sym (ap (λ b. b || is_on run) begins ∙ on) ∙ off in cc;
    finishes = does.marks.finishes;
    ends = λ h. let never : false ≡ true = sym ends ∙ h in cc;
    stops = does.marks.stops;
    opens = λ _. on;
    answers = does.marks.answers;
  };
}
  where
    t : Tally
    t = having_told (tally p run) d.told

    cancel : Option ReporterEvent
    cancel = cancel_for (moment_in now f) t (Some c.reason)

    plain : IsAfter d.after
    plain = subst IsAfter (sym uncancelled) tt

-- a deed that does nothing
pub nothing_does : (p : Settings) (f : Frame) (now : ℕ) (run : List Happening) → Holds p now run
    → Marks p f now run nothing_done → Does p f now run nothing_done
nothing_does p f now run h marks = record {
  part = tt;
  index = tt;
  room = omega (arith, h.fits);
  sends = tt;
  tells = tt;
  accounts = λ k. simp append-nil (h.accounts k);
  reported = λ k. still_reports _ k now run _ refl refl refl refl;
  source = tt;
  asks = refl;
  sent_as = refl;
  order = tt;
  marks = marks;
}

pub idles : (p : Settings) (f : Frame) (now : ℕ) (run : List Happening) → Holds p now run → is_on run ≡ true
    → Does p f now run nothing_done
idles p f now run h on =
    nothing_does p f now run h (quiet p f now run nothing_done on refl refl refl refl refl refl refl)

-- a deed that tells an event which says nothing of a unit
pub told_does : (p : Settings) (f : Frame) (now : ℕ) (run : List Happening) (e : ReporterEvent)
    (request : Option Request) → Holds p now run → is_on run ≡ true → ToldFits p (told run) (Some e)
    → ((k : ℕ) → news_of k e ≡ None) → ((k : ℕ) → report_of k e ≡ None) → IsInOrder p run e
    → (tells_answer (Some e) ≡ true → answers_told run < length (answers_given (open_round run) run))
    → Does p f now run (record nothing_done { told = Some e; request = request })
told_does p f now run e request h on fits news silent order answers = record {
  part = tt;
  index = tt;
  room = omega (arith, h.fits);
  sends = tt;
  tells = fits;
  accounts = λ k. rw (news k) (simp append-nil (h.accounts k));
  reported = λ k. still_reports _ k now run _ refl refl refl (rw (silent k) refl);
  source = tt;
  asks = refl;
  sent_as = refl;
  order = order;
  marks = record {
    cancel = λ _. refl;
    bounds = λ h. cc;
    begins = λ h. cc;
    still = λ off. let never : true ≡ false = sym on ∙ off in cc;
    finishes = λ h. cc;
    ends = λ h. cc;
    stops = λ h. cc;
    opens = λ _. on;
    answers = answers;
  };
}

-- the runner stops itself
pub stops_does : (p : Settings) (f : Frame) (now : ℕ) (run : List Happening) → Holds p now run → is_on run ≡ true
    → Does p f now run stops_itself
stops_does p f now run h on = record {
  part = tt;
  index = tt;
  room = omega (arith, h.fits);
  sends = tt;
  tells = tt;
  accounts = λ k. simp append-nil (h.accounts k);
  reported = λ k. still_reports _ k now run _ refl refl refl refl;
  source = tt;
  asks = refl;
  sent_as = refl;
  order = tt;
  marks = record {
    cancel = λ _. refl;
    bounds = λ h. cc;
    begins = λ h. cc;
    still = λ off. let never : true ≡ false = sym on ∙ off in cc;
    finishes = λ h. cc;
    ends = λ h. cc;
    stops = λ _. refl;
    opens = λ _. on;
    answers = λ h. cc;
  };
}

-- a stop or a continue, a query, and the end of its round
jobs_does : (p : Settings) (f : Frame) (now : ℕ) (run : List Happening) (signal : SignalKind) → Holds p now run
    → is_on run ≡ true → Does p f now run (job_deed now (board_of p f now run).dispatcher signal)
jobs_does p f now run signal h on = by_signal signal
  where
    d : DispatcherView
    d = (board_of p f now run).dispatcher

    stops : (halted : Bool) → Does p f now run (if halted then nothing_done
        else record (tells now d (RunPaused (job_event d.tally))) { request = Some (Stop d.rounds.count) })
    stops true = idles p f now run h on
    stops false = told_does p f now run _ _ h on tt (λ k. refl) (λ k. refl)
        (record { test = λ e. cc; script = λ e. cc; said = λ m e. cc }) (λ e. cc)

    continues : (halted : Bool) → Does p f now run (if halted
        then record (tells now d (RunContinued (job_event d.tally))) { request = Some Continue } else nothing_done)
    continues true = told_does p f now run _ _ h on tt (λ k. refl) (λ k. refl)
        (record { test = λ e. cc; script = λ e. cc; said = λ m e. cc }) (λ e. cc)
    continues false = idles p f now run h on

    by_signal : (signal : SignalKind) → Does p f now run (job_deed now d signal)
    by_signal Tstp = stops (is_halted d)
    by_signal signal = continues (is_halted d)

asks_does : (p : Settings) (f : Frame) (now live : ℕ) (run : List Happening) → Holds p now run
    → is_on run ≡ true → Does p f now run (asks_at now live (board_of p f now run).dispatcher)
asks_does p f now live run h on = told_does p f now run _ _ h on tt (λ k. refl) (λ k. refl)
    (record { test = λ e. cc; script = λ e. cc; said = λ m e. cc }) (λ e. cc)

-- a cause that does nothing else
pub cancels_does : (p : Settings) (f : Frame) (now : ℕ) (run : List Happening) (cause : Cause) → Holds p now run
    → is_on run ≡ true → Does p f now run (cancels_for now (board_of p f now run).dispatcher cause)
cancels_does p f now run cause h on =
    caused_does p f now run (Some cause) nothing_done on refl refl refl refl refl (idles p f now run h on)

-- a signal by what it is to the run, and a key
pub signal_does : (p : Settings) (f : Frame) (now live : ℕ) (run : List Happening) (signal : SignalKind)
    (heard : Option Heard) → Holds p now run → is_on run ≡ true
    → Does p f now run (signal_deed now live (board_of p f now run).dispatcher signal heard)
signal_does p f now live run signal (Some Shutdown) h on = cancels_does p f now run _ h on
signal_does p f now live run signal (Some JobControl) h on = jobs_does p f now run signal h on
signal_does p f now live run signal (Some Info) h on = asks_does p f now live run h on
signal_does p f now live run signal None h on = idles p f now run h on

pub key_does : (p : Settings) (f : Frame) (now live : ℕ) (run : List Happening) (heard : Option InputEvent)
    → Holds p now run → is_on run ≡ true
    → Does p f now run (key_deed now live (board_of p f now run).dispatcher heard)
key_does p f now live run (Some inputs.Enter) h on = told_does p f now run _ _ h on tt (λ k. refl) (λ k. refl)
    (record { test = λ e. cc; script = λ e. cc; said = λ m e. cc }) (λ e. cc)
key_does p f now live run (Some inputs.Info) h on = asks_does p f now live run h on
key_does p f now live run None h on = idles p f now run h on

-- the oldest answer is told, and a round of queries ends
pub answer_does : (p : Settings) (f : Frame) (now : ℕ) (run : List Happening) (waiting : List InfoResponse)
    → Holds p now run → is_on run ≡ true → answers_waiting run ≡ waiting
    → Does p f now run (answered_by (board_of p f now run) (oldest_of waiting))
answer_does p f now run [] h on eq = idles p f now run h on
answer_does p f now run (answer ∷ rest) h on eq = told_does p f now run _ _ h on tt (λ k. refl) (λ k. refl)
    (record { test = λ e. cc; script = λ e. cc; said = λ m e. cc })
    (λ e. let waits : answers_told run + 1 ≤ length (answers_given (open_round run) run) =
    lt-from_queue (answers_told run) (answers_given (open_round run) run) rest answer eq in omega arith)

pub informs_does : (p : Settings) (f : Frame) (now : ℕ) (run : List Happening) → Holds p now run
    → is_on run ≡ true → Does p f now run (informs_at now (board_of p f now run).dispatcher)
informs_does p f now run h on = told_does p f now run _ _ h on tt (λ k. refl) (λ k. refl)
    (record { test = λ e. cc; script = λ e. cc; said = λ m e. cc }) (λ e. cc)

pub ticks_does : (p : Settings) (f : Frame) (now : ℕ) (run : List Happening) → Holds p now run → is_on run ≡ true
    → Does p f now run ticks
ticks_does p f now run h on = told_does p f now run Tick None h on tt (λ k. refl) (λ k. refl)
    (record { test = λ e. cc; script = λ e. cc; said = λ m e. cc }) (λ e. cc)
