-- The tables of turns: which turn is enabled on a board, and what it does.
use Rattle.std.specs.Prelude.{ℕ, ◌+◌, ◌-◌, ◌==◌, ◌^◌, nat_lt, List, [], ◌∷◌, count_by, Bool, true, false, ◌&&◌, not}
use Rattle.std.specs.Prelude.{Option, Some, None, is_some, option_map, option_and_then, unwrap_or, if◌then◌else◌}
use Rattle.std.specs.List.{list_all, list_any}
use Rattle.run_events.specs.declared.settings.Settings.{Settings}
use Rattle.run_events.specs.declared.turn.Turn.{Turn}
use Rattle.run_events.specs.declared.turn.Turn.TheVariants.{Begin, Admit, Deliver, Started, StartFailed, Exit}
use Rattle.run_events.specs.declared.turn.Turn.TheVariants.{WaitFailed, Piece, StreamEnd, ReadError, Env, Decide, Clock}
use Rattle.run_events.specs.declared.turn.Turn.TheVariants.{End, UnitDue as TurnDue, Take, GlobalDue, Signal}
use Rattle.run_events.specs.declared.turn.Turn.TheVariants.{ReportCancel, StopWaitDue, InfoDue, Answer, Key as TurnKey}
use Rattle.run_events.specs.declared.turn.Turn.TheVariants.{Tick as TurnTick}
use Rattle.run_events.specs.Hearing.{heard_key}
use Rattle.run_events.specs.declared.ask.Ask.TheVariants.{StopSelf}
use Rattle.run_events.specs.declared.info.InfoResponse.{InfoResponse}
use Rattle.run_events.specs.declared.input.InputEvent.{InputEvent}
use Rattle.run_events.specs.declared.input.InputEvent.TheVariants as inputs
use Rattle.run_events.specs.declared.input.Key.{Key}
use Rattle.run_events.specs.declared.request.Request.{Request}
use Rattle.run_events.specs.declared.request.Request.TheVariants.{Stop, Continue, GetInfo}
use Rattle.run_events.specs.declared.signal.Heard.{Heard}
use Rattle.run_events.specs.declared.signal.Heard.TheVariants.{Shutdown, JobControl, Info}
use Rattle.run_events.specs.declared.signal.Signal.{Signal as SignalKind}
use Rattle.run_events.specs.declared.signal.Signal.TheVariants.{Tstp}
use Rattle.run_events.specs.declared.message.Message.{Message}
use Rattle.run_events.specs.declared.message.Message.TheVariants.{ScriptStart, Start, Retry}
use Rattle.run_events.specs.declared.events.TestEventKind.{TestEventKind}
use Rattle.run_events.specs.declared.events.JobControlled.{JobControlled}
use Rattle.run_events.specs.declared.events.ReporterEvent.TheVariants.{Tick}
use Rattle.run_events.specs.declared.events.TestEventKind.TheVariants.{RunStarted, RunFinished, RunPaused, RunContinued}
use Rattle.run_events.specs.declared.events.TestEventKind.TheVariants.{StressSubRunStarted, StressSubRunFinished}
use Rattle.run_events.specs.declared.events.TestEventKind.TheVariants.{InfoStarted, InfoResponse as InfoAnswer}
use Rattle.run_events.specs.declared.events.TestEventKind.TheVariants.{InfoFinished, InputEnter}
use Rattle.run_events.specs.declared.events.RunFinishedStats.{RunFinishedStats}
use Rattle.run_events.specs.declared.events.RunFinishedStats.TheVariants.{Single, Stress}
use Rattle.run_events.specs.declared.stress.StressIndex.{StressIndex}
use Rattle.run_events.specs.declared.stress.StressProgress.{StressProgress}
use Rattle.run_commands.specs.declared.stress_count.StressCondition.{StressCondition}
use Rattle.run_clock.specs.Stopwatch.{active_by}
use Rattle.run_events.specs.Outcome.{summary}
use Rattle.run_model.specs.Reruns.{not_seen_of}
use Rattle.run_model.specs.SubRuns.{index_at, progress_at, stops_after, stress_stats, with_sub_run}
use Rattle.run_model.specs.declared.dispatcher_view.DispatcherView.{DispatcherView}
use Rattle.run_model.specs.declared.dispatcher_view.Facts.{Facts}
use Rattle.run_model.specs.declared.entry.Entry.{Entry}
use Rattle.run_model.specs.declared.happening.Happening.{Happening}
use Rattle.run_model.specs.declared.happening.UnitPart.TheVariants.{Joins, Acts}
use Rattle.run_model.specs.declared.unit_turn.UnitTurn.{UnitTurn}
use Rattle.run_model.specs.declared.unit_turn.UnitTurn.TheVariants.{Answered, Started as UnitStarted}
use Rattle.run_model.specs.declared.unit_turn.UnitTurn.TheVariants.{StartFailed as UnitStartFailed, Exit as UnitExit}
use Rattle.run_model.specs.declared.unit_turn.UnitTurn.TheVariants.{WaitFailed as UnitWaitFailed, Piece as UnitPiece}
use Rattle.run_model.specs.declared.unit_turn.UnitTurn.TheVariants.{StreamEnd as UnitStreamEnd}
use Rattle.run_model.specs.declared.unit_turn.UnitTurn.TheVariants.{ReadError as UnitReadError, Decide as UnitDecide}
use Rattle.run_model.specs.declared.unit_turn.UnitTurn.TheVariants.{Due as UnitDue, Take as UnitTake, Env as UnitEnv}
use Rattle.run_model.specs.declared.unit_view.UnitView.{UnitView}
use Rattle.run_model.specs.Unit.{row, takes}
use Rattle.run_model.specs.Admission.{is_done, Newcomer, newcomer}
use Rattle.run_model.specs.Dispatch.{dispatch_takes, moment_by, event, having_told, told_of, go_of, is_third, heard_by}
use Rattle.run_model.specs.Dispatch.{is_halted}
use Rattle.run_model.specs.Same.{is_request}
use Rattle.run_model.specs.Story.{is_live_unit}
use Rattle.run_model.specs.Cancel.{Cause, time_is_up, event_refused, signal_cause, cause_of, caused}
use Rattle.run_events.specs.declared.events.ReporterEvent.{ReporterEvent}
use Rattle.run_model.specs.declared.dispatcher_view.Tally.{Tally}
use Rattle.run_model.specs.Words.{clock}
use Rattle.run_model.specs.Board.{Board, Deed, board, unit_in, said}

-- the turns that name a unit, and what they are to it
abbrev pub turn_of_unit : Turn → Option (ℕ × UnitTurn)
turn_of_unit (Started unit pid) = Some (unit, UnitStarted pid)
turn_of_unit (StartFailed unit error) = Some (unit, UnitStartFailed error)
turn_of_unit (Exit unit exit) = Some (unit, UnitExit exit)
turn_of_unit (WaitFailed unit error) = Some (unit, UnitWaitFailed error)
turn_of_unit (Piece unit stream bytes) = Some (unit, UnitPiece stream bytes)
turn_of_unit (StreamEnd unit stream) = Some (unit, UnitStreamEnd stream)
turn_of_unit (ReadError unit stream error) = Some (unit, UnitReadError stream error)
turn_of_unit (Env unit input) = Some (unit, UnitEnv input)
turn_of_unit (TurnDue unit) = Some (unit, UnitDue)
turn_of_unit (Take unit) = Some (unit, UnitTake)
turn_of_unit (Decide unit word) = Some (unit, UnitDecide word)
turn_of_unit _ = None

-- whether a unit takes a turn; one that wasn't admitted takes none
abbrev pub unit_takes : ℕ → Option UnitView → UnitTurn → Bool
unit_takes now None turn = false
unit_takes now (Some u) turn = takes now u turn

-- no message waits
abbrev pub is_empty : List Message → Bool
is_empty [] = true
is_empty _ = false

-- the answer that waits for longest
abbrev pub oldest_of : List InfoResponse → Option InfoResponse
oldest_of [] = None
oldest_of (answer ∷ rest) = Some answer

-- each message was delivered, and each script and test was admitted and is over
abbrev pub is_complete : Board → Bool
is_complete b = is_empty b.queue && list_all is_done b.units

-- how many units are live
abbrev pub live_in : List (Option UnitView) → ℕ
live_in us = count_by is_live_unit us

-- whether a unit has this request in its line, and whether one of some has what the open round asks
abbrev pub holds : Request → Option UnitView → Bool
holds request None = false
holds request (Some u) = list_any (is_request request) u.line

abbrev pub is_held : Option Request → List (Option UnitView) → Bool
is_held None us = false
is_held (Some request) us = list_any (holds request) us

-- what the dispatcher asks of the rest of the run
abbrev pub facts : Board → Facts
facts b = record {
  live = live_in b.units;
  held = is_held b.dispatcher.rounds.asks b.units;
  answer_waits = is_some (oldest_of b.answers);
  message_waits = not (is_empty b.queue);
  complete = is_complete b;
  refused = b.refused;
}

-- which sub-run of a stress run is on
abbrev pub index_of : DispatcherView → Option StressIndex
index_of d = option_map (λ condition. index_at condition d.sub_runs.ended) d.head.stress

-- which turns of the run's own are enabled where it isn't over; the clock moves while it fits in a u64
abbrev pub run_takes : Settings → Board → Turn → Bool
run_takes p b Admit = b.dispatcher.on && is_some (newcomer p (index_of b.dispatcher) b.units)
run_takes p b (Clock ns) = nat_lt (b.clock + ns) (2 ^ 64)
run_takes p b turn = dispatch_takes b.dispatcher (facts b) b.clock turn

-- a unit's turn is enabled where the unit takes it
abbrev pub takes_turn : Settings → Board → Turn → Option (ℕ × UnitTurn) → Bool
takes_turn p b turn None = run_takes p b turn
takes_turn p b turn (Some named) = unit_takes b.clock (unit_in b named.0) named.1

-- which turns are enabled: none once the run is over
abbrev pub enabled_on : Settings → Board → Turn → Bool
enabled_on p b turn = not b.dispatcher.over && takes_turn p b turn (turn_of_unit turn)

-- nothing is done
abbrev pub nothing_done : Deed
nothing_done = record {
  part = None;
  sent = None;
  info = [];
  taken = false;
  told = None;
  after = None;
  asked = None;
  cause = None;
  request = None;
  stops = false;
  begins = false;
  ends = false;
  over = false;
}

-- a unit's turn is a row of the unit table
abbrev pub taken_deed : ℕ → ℕ → UnitTurn → Option UnitView → Deed
taken_deed now k turn u = record nothing_done {
  part = option_map (λ v. Acts k turn) u;
  sent = option_and_then (λ v. (row now turn v).sent) u;
  asked = option_and_then (λ v. (row now turn v).asked) u;
  info = unwrap_or (option_map (λ v. (row now turn v).info) u) [];
}

-- an admission makes a unit and sends its message
abbrev pub admission : Option Newcomer → Deed
admission None = nothing_done
admission (Some new) = record nothing_done { part = Some (Joins new.unit); sent = Some new.sent }

-- the unit whose start, or retry, a message is
abbrev pub starting : Message → Option ℕ
starting (ScriptStart start) = Some start.script.unit
starting (Start start) = Some start.test.unit
starting (Retry retry) = Some retry.start.test.unit
starting _ = None

-- the answer to a unit
abbrev pub answer_to : Board → Option ℕ → Option Bool → Deed
answer_to b (Some k) (Some go) = taken_deed b.clock k (Answered go) (unit_in b k)
answer_to b _ _ = nothing_done

-- the event that a message tells at a moment, and the counts after it
abbrev pub told_by : ℕ → DispatcherView → Message → Option ReporterEvent
told_by now d m = option_map (event (moment_by now d.watch)) (told_of d.tally m)

abbrev pub tally_by : ℕ → DispatcherView → Message → Tally
tally_by now d m = having_told d.tally (told_by now d m)

-- the delivery of a message, with the answer that its unit is given, and what it does as a cause
abbrev pub message_deed : ℕ → DispatcherView → Message → Deed → Deed
message_deed now d m answer = record nothing_done {
  part = answer.part;
  sent = answer.sent;
  info = answer.info;
  taken = true;
  told = told_by now d m;
  asked = answer.asked;
}

abbrev pub delivers : ℕ → DispatcherView → Message → Deed → Deed
delivers now d m answer =
    caused (moment_by now d.watch) (tally_by now d m) (cause_of d.rules (tally_by now d m) m)
    (message_deed now d m answer)

-- a cause that tells nothing else
abbrev pub cancels_for : ℕ → DispatcherView → Cause → Deed
cancels_for now d cause = caused (moment_by now d.watch) d.tally (Some cause) nothing_done

-- how far a stress run is, after so many of its sub-runs
abbrev pub progress_of : ℕ → DispatcherView → ℕ → StressCondition → StressProgress
progress_of now d end_deed condition = progress_at condition end_deed (active_by d.watch now)

-- a sub-run of a stress run starts, and ends with its statistics
abbrev pub sub_run_started : ℕ → DispatcherView → StressCondition → ReporterEvent
sub_run_started now d condition =
    event (moment_by now d.watch) (StressSubRunStarted (progress_of now d d.sub_runs.ended condition))

abbrev pub sub_run_finished : ℕ → DispatcherView → StressCondition → ReporterEvent
sub_run_finished now d condition = event (moment_by now d.watch) (StressSubRunFinished (record {
  progress = progress_of now d (d.sub_runs.ended + 1) condition;
  sub_elapsed = active_by d.sub_run_watch now;
  stats = d.tally.stats;
}))

-- the end of a run: it tells the statistics, and in a rerun the tests that it did not see
abbrev pub run_finished : ℕ → DispatcherView → RunFinishedStats → ReporterEvent
run_finished now d stats =
    event (moment_by now d.watch) (RunFinished (record { stats = stats; not_seen = not_seen_of d.rerun }))

-- the begin of a sub-run: the first tells that the run started, and in a stress run each tells that it starts
abbrev pub begins_as : ℕ → DispatcherView → Bool → Deed
begins_as now d true = record nothing_done {
  told = Some (event (moment_by now d.watch) (RunStarted d.head));
  after = option_map (sub_run_started now d) d.head.stress;
  begins = true;
}
begins_as now d false = record nothing_done { told = option_map (sub_run_started now d) d.head.stress; begins = true }

abbrev pub begins_at : ℕ → DispatcherView → Deed
begins_at now d = begins_as now d (d.sub_runs.ended == 0)

-- whether a stress run stops after the sub-run that is on
abbrev pub stops_with : ℕ → DispatcherView → StressCondition → Bool
stops_with now d condition =
    stops_after d.tally.stats (progress_of now d (d.sub_runs.ended + 1) condition) (d.sub_runs.ended + 1)

-- the statistics that are told at the end of a stress run
abbrev pub stress_finale : DispatcherView → StressCondition → RunFinishedStats
stress_finale d condition =
    Stress (stress_stats condition (with_sub_run d.tally.stats d.sub_runs) (summary d.tally.stats))

-- the end of a sub-run: in a stress run that is told, and the end of the run after it where it stops there; any other
-- run ends with it
abbrev pub ends_as : ℕ → DispatcherView → Option StressCondition → Deed
ends_as now d None =
    record nothing_done { told = Some (run_finished now d (Single d.tally.stats)); ends = true; over = true }
ends_as now d (Some condition) = record nothing_done {
  told = Some (sub_run_finished now d condition);
  after = if stops_with now d condition then Some (run_finished now d (stress_finale d condition)) else None;
  ends = true;
  over = stops_with now d condition;
}

abbrev pub ends_at : ℕ → DispatcherView → Deed
ends_at now d = ends_as now d d.head.stress

-- a deed that tells an event alone
abbrev pub tells : ℕ → DispatcherView → TestEventKind → Deed
tells now d kind = record nothing_done { told = Some (event (moment_by now d.watch) kind) }

-- the run is paused where it isn't, and each live unit asked to stop in a new round; it goes on where it is paused
abbrev pub job_event : Tally → JobControlled
job_event t = record { running = t.running; scripts_running = t.scripts_running }

abbrev pub stops_at : ℕ → DispatcherView → Deed
stops_at now d = if is_halted d then nothing_done
    else record (tells now d (RunPaused (job_event d.tally))) { request = Some (Stop d.rounds.count) }

abbrev pub continues_at : ℕ → DispatcherView → Deed
continues_at now d =
    if is_halted d
    then record (tells now d (RunContinued (job_event d.tally))) { request = Some Continue }
    else nothing_done

-- the wait for stopped units is over: the runner stops itself
abbrev pub stops_itself : Deed
stops_itself = record nothing_done { asked = Some StopSelf; stops = true }

-- each of so many live units is asked what it is doing, in a new round; an answer of it is told; it is over
abbrev pub asks_at : ℕ → ℕ → DispatcherView → Deed
asks_at now live d = record (tells now d (InfoStarted (record {
  total = live;
  running = d.tally.running;
  stats = d.tally.stats;
}))) { request = Some (GetInfo d.rounds.count) }

abbrev pub answers_at : ℕ → DispatcherView → InfoResponse → Deed
answers_at now d response =
    tells now d (InfoAnswer (record { response = response; index = d.rounds.told; total = d.rounds.total }))

abbrev pub informs_at : ℕ → DispatcherView → Deed
informs_at now d = tells now d (InfoFinished (d.rounds.total - d.rounds.told))

-- what a signal does, by what it is to the run, and a key; and a display that wants to draw anew
abbrev pub job_deed : ℕ → DispatcherView → SignalKind → Deed
job_deed now d Tstp = stops_at now d
job_deed now d signal = continues_at now d

abbrev pub signal_deed : ℕ → ℕ → DispatcherView → SignalKind → Option Heard → Deed
signal_deed now live d signal (Some Shutdown) = cancels_for now d (signal_cause d.causes.signals signal)
signal_deed now live d signal (Some JobControl) = job_deed now d signal
signal_deed now live d signal (Some Info) = asks_at now live d
signal_deed now live d signal None = nothing_done

abbrev pub signals_at : ℕ → ℕ → DispatcherView → SignalKind → Deed
signals_at now live d signal = signal_deed now live d signal (heard_by d.rules.hearing signal)

abbrev pub key_deed : ℕ → ℕ → DispatcherView → Option InputEvent → Deed
key_deed now live d (Some inputs.Enter) =
    tells now d (InputEnter (record { running = d.tally.running; stats = d.tally.stats }))
key_deed now live d (Some inputs.Info) = asks_at now live d
key_deed now live d None = nothing_done

abbrev pub keys_at : ℕ → ℕ → DispatcherView → Key → Deed
keys_at now live d key = key_deed now live d (heard_key d.rules.hearing.input key)

abbrev pub ticks : Deed
ticks = record nothing_done { told = Some Tick }

-- the same on a board
abbrev pub event_of : Board → Message → Option ReporterEvent
event_of b m = told_by b.clock b.dispatcher m

abbrev pub tally_with : Board → Option ReporterEvent → Tally
tally_with b told = having_told b.dispatcher.tally told

abbrev pub delivered_as : Board → Message → Deed → Deed
delivered_as b m answer = message_deed b.clock b.dispatcher m answer

abbrev pub delivery_of : Board → Message → Deed → Deed
delivery_of b m answer = delivers b.clock b.dispatcher m answer

abbrev pub cancelled : Board → Cause → Deed
cancelled b cause = cancels_for b.clock b.dispatcher cause

abbrev pub begin_deed : Board → Deed
begin_deed b = begins_at b.clock b.dispatcher

abbrev pub end_deed : Board → Deed
end_deed b = ends_at b.clock b.dispatcher

-- the delivery of the oldest message
abbrev pub delivery : Board → List Message → Deed
delivery b [] = nothing_done
delivery b (m ∷ rest) = delivery_of b m (answer_to b (starting m) (go_of b.dispatcher.tally m))

-- the oldest answer is told
abbrev pub answered_by : Board → Option InfoResponse → Deed
answered_by b None = nothing_done
answered_by b (Some response) = answers_at b.clock b.dispatcher response

-- what a turn of the run's own does; the clock does nothing but move
abbrev pub run_turn : Settings → Board → Turn → Deed
run_turn p b Begin = begin_deed b
run_turn p b Admit = admission (newcomer p (index_of b.dispatcher) b.units)
run_turn p b Deliver = delivery b b.queue
run_turn p b (Signal signal) = signals_at b.clock (live_in b.units) b.dispatcher signal
run_turn p b (TurnKey key) = keys_at b.clock (live_in b.units) b.dispatcher key
run_turn p b TurnTick = ticks
run_turn p b StopWaitDue = stops_itself
run_turn p b Answer = answered_by b (oldest_of b.answers)
run_turn p b InfoDue = informs_at b.clock b.dispatcher
run_turn p b GlobalDue = cancelled b time_is_up
run_turn p b ReportCancel = cancelled b event_refused
run_turn p b End = end_deed b
run_turn p b _ = nothing_done

-- what a turn does
abbrev pub done_by : Settings → Board → Turn → Option (ℕ × UnitTurn) → Deed
done_by p b turn None = run_turn p b turn
done_by p b turn (Some named) = taken_deed b.clock named.0 named.1 (unit_in b named.0)

abbrev pub deed_on : Settings → Board → Turn → Deed
deed_on p b turn = done_by p b turn (turn_of_unit turn)

-- a shutdown signal that is taken no more, since two came before it
abbrev pub is_third_signal : Board → Turn → Bool
is_third_signal b turn = is_third b.dispatcher turn

-- the same after a history
abbrev pub enabled : Settings → List Happening → Turn → Bool
enabled p past turn = enabled_on p (board p past) turn

abbrev pub happening : Settings → List Happening → Entry → Happening
happening p past e = said (clock past) e (deed_on p (board p past) e.turn)
