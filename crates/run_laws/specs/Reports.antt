-- The signals that are asked for the child of a unit, and the reports that it is slow, by its own turns alone, and as
-- they were asked and told.
use Rattle.std.specs.Prelude.{ℕ, ◌≡◌, ◌+◌, ◌==◌, List, [], ◌∷◌, ◌++◌, length, Bool, not, ◌&&◌, ◌||◌, if◌then◌else◌}
use Rattle.std.specs.Prelude.{Option, Some, None, option_map, option_to_list, filter_map}
use Rattle.std.specs.Option.{option_or}
use Rattle.run_clock.specs.Counted.{is_paused}
use Rattle.run_commands.specs.Interceptor.{sends_sigtstp}
use Rattle.run_events.specs.declared.plan.SlowTimeout.{SlowTimeout}
use Rattle.run_events.specs.declared.settings.Settings.{Settings}
use Rattle.run_events.specs.declared.ask.Ask.{Ask}
use Rattle.run_events.specs.declared.ask.Ask.TheVariants.{Signal}
use Rattle.run_events.specs.declared.request.ChildSignal.{ChildSignal}
use Rattle.run_events.specs.declared.request.ChildSignal.TheVariants.{End, Tstp, Cont}
use Rattle.run_events.specs.declared.request.Request.{Request}
use Rattle.run_events.specs.declared.request.Request.TheVariants.{Stop, Continue}
use Rattle.run_events.specs.declared.request.TermSignal.TheVariants.{Kill}
use Rattle.run_events.specs.declared.request.TerminateReason.TheVariants.{Timeout}
use Rattle.run_events.specs.declared.message.Message.{Message}
use Rattle.run_events.specs.declared.message.Message.TheVariants.{ScriptSlow, Slow}
use Rattle.run_events.specs.declared.events.ReporterEvent.{ReporterEvent}
use Rattle.run_events.specs.declared.events.ReporterEvent.TheVariants.{Test}
use Rattle.run_events.specs.declared.events.TestEventKind.{TestEventKind}
use Rattle.run_events.specs.declared.events.TestEventKind.TheVariants.{SetupScriptSlow, TestSlow}
use Rattle.run_model.specs.declared.entry.Entry.{Entry}
use Rattle.run_model.specs.declared.happening.Happening.{Happening}
use Rattle.run_model.specs.Slow.{slow_time}
use Rattle.run_model.specs.Terminate.{terminate_method}
use Rattle.run_model.specs.Story.{OwnTurn, Attempt, cut, any_is}
use Rattle.run_model.specs.Timing.{ends_wait, signal_of, slow_count, has_timed_out, is_slow_turn, is_timeout}
use Rattle.run_model.specs.Timing.{ends_grace}
use Rattle.run_model.specs.Timing.{standing, pauses_in}
use Rattle.run_model.specs.Attempts.{pieces_of}
use Rattle.run_model.specs.Admission.{unit_terms}
use Rattle.run_model.specs.Words.{sub_run, told, queue, asked}
use Rattle.run_model.specs.Journal.{IsLegal, past_of}

-- the signal of a stop or a continue that is taken after these turns: a stop is one where its child is given time to
-- end, or is one that stops with the run; a continue where it is given time to end, or was stopped
abbrev pub job_signal : Bool → SlowTimeout → Option Request → List OwnTurn → Option ChildSignal
job_signal stops slow (Some (Stop round)) before = if (standing slow before).in_grace || stops then Some Tstp else None
job_signal stops slow (Some Continue) before =
    if (standing slow before).in_grace || is_paused (pauses_in before) then Some Cont else None
job_signal stops slow request before = None

-- the signal that comes with a turn of an attempt, after the turns before it: where it runs out of time its child is
-- asked to end, or is killed where it is given no time for that; where that time is over it is killed; and else, while
-- it is waited for, it gets the signal of the request that is taken
abbrev pub signal_with : Bool → SlowTimeout → OwnTurn → List OwnTurn → Option ChildSignal
signal_with stops slow t before =
    if is_timeout slow t before then Some (End (terminate_method Timeout slow.grace))
    else if ends_grace slow t before then Some (End Kill)
    else if any_is ends_wait before then None
    else option_or (option_map End (signal_of slow t.request)) (job_signal stops slow t.request before)

-- the signals of an attempt, and of all attempts, in order
abbrev pub signals_in : Bool → SlowTimeout → List OwnTurn → List ChildSignal
signals_in stops slow [] = []
signals_in stops slow (t ∷ before) = signals_in stops slow before ++ option_to_list (signal_with stops slow t before)

abbrev pub signals_by : Bool → SlowTimeout → List Attempt → List ChildSignal
signals_by stops slow [] = []
signals_by stops slow (cut piece after ∷ earlier) = signals_by stops slow earlier ++ signals_in stops slow piece

-- a report that an attempt is slow: of this attempt, after this time, and whether it has run out of time with that
pub record SlowReport : Type 0 where
  pub attempt : ℕ
  pub elapsed : ℕ
  pub terminates : Bool

-- the report that comes with a turn of an attempt: where it is slow, unless it is given no time to end by itself
abbrev pub report_with : SlowTimeout → ℕ → OwnTurn → List OwnTurn → Option SlowReport
report_with slow attempt t before =
    if is_slow_turn slow t before && not (slow.grace == 0)
    then Some (record {
      attempt = attempt;
      elapsed = slow_time slow (slow_count slow (t ∷ before));
      terminates = has_timed_out slow (t ∷ before);
    })
    else None

-- the reports of an attempt, and of all attempts, in order
abbrev pub reports_in : SlowTimeout → ℕ → List OwnTurn → List SlowReport
reports_in slow attempt [] = []
reports_in slow attempt (t ∷ before) =
    reports_in slow attempt before ++ option_to_list (report_with slow attempt t before)

abbrev pub reports_by : SlowTimeout → List Attempt → List SlowReport
reports_by slow [] = []
reports_by slow (cut piece after ∷ earlier) = reports_by slow earlier ++ reports_in slow (length earlier + 1) piece

-- the signal for the child of unit k that is asked, if this asks one, and all of a sub-run
abbrev pub signal_for : ℕ → Ask → Option ChildSignal
signal_for k (Signal ask) = if ask.unit == k then Some ask.signal else None
signal_for k _ = None

abbrev pub signals_for : ℕ → Option Ask → List ChildSignal
signals_for k ask = filter_map (signal_for k) (option_to_list ask)

abbrev pub signals_asked : ℕ → List Happening → List ChildSignal
signals_asked k run = filter_map (λ a. signal_for k a.1) (asked run)

-- the slow report of unit k that a message sends, if it sends one, and all that wait: a script has one attempt
abbrev pub report_in : ℕ → Message → Option SlowReport
report_in k (ScriptSlow slow) =
    if slow.script.unit == k
    then Some (record { attempt = 1; elapsed = slow.elapsed_slow; terminates = slow.terminates })
    else None
report_in k (Slow slow) =
    if slow.test.unit == k
    then Some (record { attempt = slow.attempt; elapsed = slow.elapsed_slow; terminates = slow.terminates })
    else None
report_in k _ = None

abbrev pub reports_waiting : ℕ → List Message → List SlowReport
reports_waiting k messages = filter_map (report_in k) messages

-- the slow report of unit k that an event tells, if it tells one, and all that were told
abbrev pub report_of_kind : ℕ → TestEventKind → Option SlowReport
report_of_kind k (SetupScriptSlow slow) = report_in k (ScriptSlow slow)
report_of_kind k (TestSlow slow) = report_in k (Slow slow)
report_of_kind k _ = None

abbrev pub report_of : ℕ → ReporterEvent → Option SlowReport
report_of k (Test event) = report_of_kind k event.kind
report_of k _ = None

abbrev pub reports_told : ℕ → List ReporterEvent → List SlowReport
reports_told k events = filter_map (report_of k) events

-- the signals that were asked for the child of a unit are those of its own turns, and so are the slow reports of it
-- that were told, followed by those that wait to be told
pub record IsReportedByItsTurns (p : Settings) (run : List Happening) (k : ℕ) : Type 0 where
  pub signals : signals_asked k run ≡ signals_by (sends_sigtstp p.interceptor) (unit_terms p k).slow (pieces_of k run)
  pub reports : reports_told k (told run) ++ reports_waiting k (queue run)
      ≡ reports_by (unit_terms p k).slow (pieces_of k run)

-- after every legal journal that holds of each unit in the newest sub-run
abbrev pub ReportsAreOwnTurns : Type 0
ReportsAreOwnTurns = (p : Settings) (journal : List Entry) → IsLegal p journal → (k : ℕ)
    → IsReportedByItsTurns p (sub_run (past_of p journal)) k
