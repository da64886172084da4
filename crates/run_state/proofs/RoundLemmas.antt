-- What the dispatcher's turns do to the rounds, and to the board.
use Rattle.std.proofs.Common.{◌≡◌, ℕ, ◌+◌, nat_le, option_map, List, [], ◌++◌, drop, filter_map, option_to_list}
use Rattle.std.proofs.Common.{if◌then◌else◌}
use Rattle.std.proofs.Common.{Bool, true, false, ◌||◌, Option, Some, None, append-nil, refl, ap, ap₂, sym, ◌∙◌}
use Rattle.std.proofs.Common.{◌==◌, map, length, get_or, arith}
use Rattle.std.proofs.lemmas.List.{ext_get_or, get_or-map, length-map}
use Rattle.run_events.specs.declared.info.InfoResponse.{InfoResponse}
use Rattle.run_events.specs.declared.input.InputEvent.{InputEvent}
use Rattle.run_events.specs.declared.input.InputEvent.TheVariants as inputs
use Rattle.run_events.specs.declared.request.Request.{Request}
use Rattle.run_events.specs.declared.events.ReporterEvent.{ReporterEvent}
use Rattle.run_events.specs.declared.events.TestEventKind.{TestEventKind}
use Rattle.run_events.specs.declared.events.TestEventKind.TheVariants.{SetupScriptStarted}
use Rattle.run_events.specs.declared.message.Message.{Message}
use Rattle.run_events.specs.declared.message.Message.TheVariants.{Finish, Retry, ScriptFinish, ScriptStart, Start}
use Rattle.run_events.specs.declared.retry_policy.MaxFail.{MaxFail}
use Rattle.run_events.specs.declared.retry_policy.MaxFail.TheVariants.{All, Count}
use Rattle.run_events.specs.declared.retry_policy.TerminateMode.{TerminateMode}
use Rattle.run_events.specs.declared.retry_policy.TerminateMode.TheVariants.{Immediate, Wait}
use Rattle.run_events.specs.Outcome.{failed_count}
use Rattle.run_events.specs.Result.{is_success}
use Rattle.run_events.specs.declared.signal.Heard.{Heard}
use Rattle.run_events.specs.declared.signal.Heard.TheVariants.{Info, JobControl, Shutdown}
use Rattle.run_events.specs.declared.signal.Signal.{Signal}
use Rattle.run_events.specs.declared.signal.Signal.TheVariants as signals
use Rattle.run_model.specs.declared.dispatcher_view.DispatcherView.{DispatcherView}
use Rattle.run_model.specs.declared.unit_view.UnitView.{UnitView}
use Rattle.run_model.specs.Board.{Board, Deed, anew, answers_after, cleared, dispatched, dispatched_in, moved, moved_in}
use Rattle.run_model.specs.Board.{reach_all, round_from, units_after}
use Rattle.run_model.specs.declared.dispatcher_view.CancelRules.{CancelRules}
use Rattle.run_model.specs.declared.dispatcher_view.Tally.{Tally}
use Rattle.run_model.specs.Cancel.{Cause, cause_of, caused, failure_cause, is_above, script_failed, too_many_failed}
use Rattle.run_model.specs.Dispatch.{Moment, event, is_halted, may_go, moment_by, retried_event, started_event}
use Rattle.run_model.specs.Dispatch.{with_start}
use Rattle.run_model.specs.Rounds.{answer_of, closes_round, opens_round, tells_answer}
use Rattle.run_model.specs.Turns.{answered_by, continues_at, delivers, message_deed}
use Rattle.run_model.specs.Turns.{job_deed, key_deed, signal_deed, stops_at}
use Rattle.run_model.specs.Turns.{begins_as, begin_deed, ends_as, sub_run_started, tally_by, told_by}
use Rattle.run_commands.specs.declared.stress_count.StressCondition.{StressCondition}
use Rattle.run_dispatch.specs.declared.effects.DispatchEffects.{DispatchEffects}
use Rattle.run_dispatch.specs.Deeds.{Does}
use Rattle.run_state.specs.declared.effects.Effects.{Effects}
use Rattle.run_state.specs.Counted.{holders_in}
use Rattle.run_state.specs.Done.{Done}
use Rattle.run_state.specs.Held.{Held}
use Rattle.run_dispatch.proofs.FinishLemmas.{no_round}

-- a deed of the dispatcher alone, which takes no message, tells no answer and closes no round
pub record IsOwn (deed : Deed) : Type 0 where
  pub part : deed.part ≡ None
  pub sent : deed.sent ≡ None
  pub info : deed.info ≡ []
  pub taken : deed.taken ≡ false
  pub closes : closes_round deed.stops deed.told ≡ false
  pub tells : tells_answer deed.told ≡ false
  pub begins : deed.begins ≡ false

-- what the open round asks after it, where it opens none
pub asks_kept : (now : ℕ) (d : DispatcherView) (deed : Deed) → opens_round deed.request ≡ false
    → closes_round deed.stops deed.told ≡ false → deed.begins ≡ false
    → (dispatched now d deed).rounds.asks ≡ d.rounds.asks
asks_kept now d deed opens closes begins =
    ap (λ begins. (dispatched_in now (if begins then cleared d else d) deed).rounds.asks) begins
    ∙ by_case (opens_round deed.request) (closes_round deed.stops deed.told) (tells_answer deed.told) opens closes
  where
    by_case : (o c t : Bool) → o ≡ false → c ≡ false
        → (if o then round_from now d.rounds deed
        else if c then record d.rounds { asks = None }
        else if t then record d.rounds { since = now; told = d.rounds.told + 1 }
        else d.rounds).asks ≡ d.rounds.asks
    by_case true c t opens closes = cc
    by_case false true t opens closes = cc
    by_case false false true opens closes = refl
    by_case false false false opens closes = refl

-- so as many units hold that
pub holders_kept : (now : ℕ) (d e : DispatcherView) (deed : Deed) (us : List (Option UnitView)) (n : ℕ)
    → n ≡ holders_in d.rounds.asks us → e ≡ dispatched now d deed
    → (dispatched now d deed).rounds.asks ≡ d.rounds.asks → n ≡ holders_in e.rounds.asks us
holders_kept now d e deed us n is after kept =
    is ∙ ap (λ asks. holders_in asks us) (sym kept ∙ sym (ap (λ (e : DispatcherView). e.rounds.asks) after))

-- also where the deed asks nothing of the units
pub holders_unasked : (now : ℕ) (d e : DispatcherView) (deed : Deed) (us : List (Option UnitView)) (n : ℕ)
    (request : Option Request)
    → IsOwn deed → n ≡ holders_in d.rounds.asks us → e ≡ dispatched now d deed → request ≡ deed.request → request ≡ None
    → n ≡ holders_in e.rounds.asks us
holders_unasked now d e deed us n request own is after asked none =
    holders_kept now d e deed us n is after
    (asks_kept now d deed (ap opens_round (sym asked ∙ none)) own.closes own.begins)

own_in : (b : Board) (deed : Deed) → IsOwn deed
    → record b {
      units = reach_all deed.request b.units;
      answers = if opens_round deed.request then [] else b.answers;
      dispatcher = dispatched_in b.clock b.dispatcher deed;
    } ≡ moved_in b deed
own_in b deed own =
    ap (λ us. record b {
      units = us;
      answers = if opens_round deed.request then [] else b.answers;
      dispatcher = dispatched_in b.clock b.dispatcher deed;
    }) units
    ∙ ap (λ q. record (moved_in b deed) {
      queue = q;
      answers = if opens_round deed.request then [] else b.answers;
    }) queue
    ∙ ap (λ answers. record (moved_in b deed) { answers = answers }) waits
  where
    units : reach_all deed.request b.units ≡ reach_all deed.request (units_after b.clock deed.part b.units)
    units = ap (λ part. reach_all deed.request (units_after b.clock part b.units)) (sym own.part)

    queue : b.queue ≡ drop (if deed.taken then 1 else 0) b.queue ++ option_to_list deed.sent
    queue =
        sym (append-nil b.queue)
        ∙ ap₂ (λ taken sent. drop (if taken then 1 else 0) b.queue ++ option_to_list sent) (sym own.taken)
        (sym own.sent)

    by_case : (o c t : Bool) (info : List (ℕ × InfoResponse)) → c ≡ false → t ≡ false → info ≡ []
        → (if o then [] else b.answers)
        ≡ (if o || c then []
        else drop (if t then 1 else 0) b.answers ++ filter_map (answer_of b.dispatcher.rounds.asks) info)
    by_case true c t info closes tells none = refl
    by_case false true t info closes tells none = cc
    by_case false false true info closes tells none = cc
    by_case false false false info closes tells none =
        sym (append-nil b.answers)
        ∙ ap (λ info. b.answers ++ filter_map (answer_of b.dispatcher.rounds.asks) info) (sym none)

    waits : (if opens_round deed.request then [] else b.answers) ≡ answers_after b.dispatcher.rounds.asks deed b.answers
    waits =
        by_case (opens_round deed.request) (closes_round deed.stops deed.told)
        (tells_answer deed.told) deed.info own.closes
        own.tells own.info

-- what it does to the board
pub own_moved : (b : Board) (deed : Deed) → IsOwn deed
    → record b {
      units = reach_all deed.request b.units;
      answers = if opens_round deed.request then [] else b.answers;
      dispatcher = dispatched b.clock b.dispatcher deed;
    } ≡ moved b deed
own_moved b deed own =
    ap (λ begins. record b {
      units = reach_all deed.request b.units;
      answers = if opens_round deed.request then [] else b.answers;
      dispatcher = dispatched_in b.clock (if begins then cleared b.dispatcher else b.dispatcher) deed;
    }) own.begins
    ∙ own_in b deed own ∙ sym (ap (λ begins. moved_in (if begins then anew b else b) deed) own.begins)

-- the answers that wait after a deed that opens no round, closes none and tells no answer
pub answers_kept : (asks : Option Request) (deed : Deed) (waiting : List InfoResponse)
    → opens_round deed.request ≡ false
    → closes_round deed.stops deed.told ≡ false → tells_answer deed.told ≡ false
    → waiting ++ filter_map (answer_of asks) deed.info ≡ answers_after asks deed waiting
answers_kept asks deed waiting opens closes tells = rw (opens, closes, tells) refl

-- a deed that opens no round, closes none and tells no answer
pub record LeavesRound (deed : Deed) : Type 0 where
  pub opens : opens_round deed.request ≡ false
  pub closes : closes_round deed.stops deed.told ≡ false
  pub tells : tells_answer deed.told ≡ false
  pub begins : deed.begins ≡ false

-- what a delivery tells is none of a round, and what its cause asks opens none
record IsQuiet (told : Option ReporterEvent) : Type 0 where
  closes : closes_round false told ≡ false
  tells : tells_answer told ≡ false

told_where : (go : Bool) (moment : Moment) (kind : TestEventKind) → IsQuiet (Some (event moment kind))
    → IsQuiet (option_map (event moment) (if go then Some kind else None))
told_where true moment kind quiet = quiet
told_where false moment kind quiet = record { closes = refl; tells = refl }

told_quiet : (now : ℕ) (d : DispatcherView) (m : Message) → IsQuiet (told_by now d m)
told_quiet now d (ScriptStart start) =
    told_where (may_go d.tally) (moment_by now d.watch) (SetupScriptStarted start)
    (record { closes = refl; tells = refl })
told_quiet now d (Start start) =
    told_where (may_go d.tally) (moment_by now d.watch) (started_event start (with_start d.tally))
    (record { closes = refl; tells = refl })
told_quiet now d (Retry retry) =
    told_where (may_go d.tally) (moment_by now d.watch) (retried_event retry d.tally)
    (record { closes = refl; tells = refl })
told_quiet now d m = record { closes = refl; tells = refl }

abbrev OpensNone : Option Cause → Type 0
OpensNone None = Unit {0}
OpensNone (Some cause) = opens_round (Some cause.request) ≡ false

cause_quiet : (rules : CancelRules) (t : Tally) (m : Message) → OpensNone (cause_of rules t m)
cause_quiet rules t (ScriptFinish finish) = by_result (is_success finish.status.result)
  where
    by_result : (b : Bool) → OpensNone (if b then None else Some script_failed)
    by_result true = tt
    by_result false = refl
cause_quiet rules t (Finish finish) = by_rule rules.max_fail
  where
    by_mode : (b : Bool) (mode : TerminateMode) → OpensNone (if b then Some (too_many_failed mode) else None)
    by_mode true Wait = refl
    by_mode true Immediate = refl
    by_mode false mode = tt

    by_rule : (rule : MaxFail) → OpensNone (failure_cause rule t.stats)
    by_rule All = tt
    by_rule (Count most mode) = by_mode (nat_le most (failed_count t.stats)) mode
cause_quiet rules t m = tt

-- so a delivery leaves the round
pub delivery_leaves : (now : ℕ) (d : DispatcherView) (m : Message) (answer : Deed)
    → LeavesRound (delivers now d m answer)
delivery_leaves now d m answer =
    by_cause (cause_of d.rules (tally_by now d m) m) (cause_quiet d.rules (tally_by now d m) m)
  where
    quiet : IsQuiet (told_by now d m)
    quiet = told_quiet now d m

    by_rank : (above : Bool) (request : Request) → opens_round (Some request) ≡ false
        → opens_round (if above then Some request else None) ≡ false
    by_rank true request is = is
    by_rank false request is = refl

    by_cause : (cause : Option Cause) → OpensNone cause
        → LeavesRound (caused (moment_by now d.watch) (tally_by now d m) cause (message_deed now d m answer))
    by_cause None opens = record { opens = refl; closes = quiet.closes; tells = quiet.tells; begins = refl }
    by_cause (Some cause) opens = record {
      opens = by_rank (is_above (tally_by now d m).stats.cancel_reason cause.reason) cause.request opens;
      closes = quiet.closes;
      tells = quiet.tells;
      begins = refl;
    }

-- so a call of the dispatcher does such a deed, where what it asks of the units reaches them
pub done_own : (old : Held) (deed : Deed) (us : List (Option UnitView)) (answers : List InfoResponse)
    (e : DispatcherView)
    (fx : DispatchEffects) (go : Option Bool) (out : Effects)
    → IsOwn deed → us ≡ reach_all fx.request old.board.units
    → answers ≡ (if opens_round fx.request then [] else old.board.answers)
    → Does old.board.clock old.board.dispatcher deed go e fx → out ≡ record { events = fx.events; asked = fx.asked }
    → Done old deed (record old { board = record old.board { units = us; answers = answers; dispatcher = e } }) out
done_own old deed us answers e fx go out own reach waits does tells = record {
  after =
      ap (λ us. record old.board { units = us; answers = answers; dispatcher = e })
      (reach ∙ ap (λ request. reach_all request old.board.units) does.request)
      ∙ ap₂ (λ answers e. record old.board {
        units = reach_all deed.request old.board.units;
        answers = answers;
        dispatcher = e;
      }) (waits ∙ ap (λ request. if opens_round request then [] else old.board.answers) does.request) does.after
      ∙ own_moved old.board deed own;
  kept = refl;
  told = ap (λ (x : Effects). x.events) tells ∙ does.told;
  asked = ap (λ (x : Effects). x.asked) tells ∙ does.asked;
}

-- a signal and a key do such deeds
pub signal_own : (now live : ℕ) (d : DispatcherView) (signal : Signal) (heard : Option Heard)
    → IsOwn (signal_deed now live d signal heard)
signal_own now live d signal None =
    record { part = refl; sent = refl; info = refl; taken = refl; closes = refl; tells = refl; begins = refl }
signal_own now live d signal (Some Shutdown) =
    record { part = refl; sent = refl; info = refl; taken = refl; closes = refl; tells = refl; begins = refl }
signal_own now live d signal (Some Info) =
    record { part = refl; sent = refl; info = refl; taken = refl; closes = refl; tells = refl; begins = refl }
signal_own now live d signal (Some JobControl) = by_signal signal
  where
    stopped : (halted : Bool) → is_halted d ≡ halted → IsOwn (stops_at now d)
    stopped true is = rw is (record {
      part = refl;
      sent = refl;
      info = refl;
      taken = refl;
      closes = refl;
      tells = refl;
      begins = refl;
    })
    stopped false is = rw is (record {
      part = refl;
      sent = refl;
      info = refl;
      taken = refl;
      closes = refl;
      tells = refl;
      begins = refl;
    })

    continued : (halted : Bool) → is_halted d ≡ halted → IsOwn (continues_at now d)
    continued true is = rw is (record {
      part = refl;
      sent = refl;
      info = refl;
      taken = refl;
      closes = refl;
      tells = refl;
      begins = refl;
    })
    continued false is = rw is (record {
      part = refl;
      sent = refl;
      info = refl;
      taken = refl;
      closes = refl;
      tells = refl;
      begins = refl;
    })

    by_signal : (signal : Signal) → IsOwn (job_deed now d signal)
    by_signal signals.Tstp = stopped (is_halted d) refl
    by_signal signal = continued (is_halted d) refl

pub key_own : (now live : ℕ) (d : DispatcherView) (heard : Option InputEvent) → IsOwn (key_deed now live d heard)
key_own now live d None = record {
  part = refl;
  sent = refl;
  info = refl;
  taken = refl;
  closes = refl;
  tells = refl;
  begins = refl;
}
key_own now live d (Some inputs.Enter) =
    record { part = refl; sent = refl; info = refl; taken = refl; closes = refl; tells = refl; begins = refl }
key_own now live d (Some inputs.Info) =
    record { part = refl; sent = refl; info = refl; taken = refl; closes = refl; tells = refl; begins = refl }

-- no unit acts where an answer is told, and no sub-run begins
pub answered_part : (b : Board) (answer : Option InfoResponse) → (answered_by b answer).part ≡ None
answered_part b None = refl
answered_part b (Some answer) = refl

pub answered_on : (b : Board) (answer : Option InfoResponse) → (answered_by b answer).begins ≡ false
answered_on b None = refl
answered_on b (Some answer) = refl

-- the end of a sub-run is such a deed
pub end_own : (now : ℕ) (d : DispatcherView) (stress : Option StressCondition) → IsOwn (ends_as now d stress)
end_own now d None =
    record { part = refl; sent = refl; info = refl; taken = refl; closes = refl; tells = refl; begins = refl }
end_own now d (Some condition) =
    record { part = refl; sent = refl; info = refl; taken = refl; closes = refl; tells = refl; begins = refl }

pub end_opens : (now : ℕ) (d : DispatcherView) (stress : Option StressCondition)
    → opens_round (ends_as now d stress).request ≡ false
end_opens now d None = refl
end_opens now d (Some condition) = refl

-- a sub-run begins: it tells nothing of a round
begin_quiet : (now : ℕ) (d : DispatcherView) (stress : Option StressCondition)
    → IsQuiet (option_map (sub_run_started now d) stress)
begin_quiet now d None = record { closes = refl; tells = refl }
begin_quiet now d (Some condition) = record { closes = refl; tells = refl }

-- so the board is one on which no unit was admitted and nothing waits
begun_board : (b : Board) (first : Bool)
    → record b {
      units = map (λ u. None) b.units;
      queue = [];
      answers = [];
      dispatcher = dispatched b.clock b.dispatcher (begins_as b.clock b.dispatcher first);
    } ≡ moved b (begins_as b.clock b.dispatcher first)
begun_board b true = refl
begun_board b false =
    let deed : Deed = begins_as b.clock b.dispatcher false in
    let quiet = begin_quiet b.clock b.dispatcher b.dispatcher.head.stress in
    ap (λ answers. record (moved b deed) { answers = answers })
    (answers_kept None deed [] refl quiet.closes quiet.tells)

pub begun_moved : (b : Board) (us : List (Option UnitView)) (d : DispatcherView) → length us ≡ length b.units
    → ((k : ℕ) → get_or us k None ≡ None) → d ≡ dispatched b.clock b.dispatcher (begin_deed b)
    → record b { units = us; queue = []; answers = []; dispatcher = d } ≡ moved b (begin_deed b)
begun_moved b us d many none after =
    ap₂ (λ us d. record b { units = us; queue = []; answers = []; dispatcher = d }) units after
    ∙ begun_board b (b.dispatcher.sub_runs.ended == 0)
  where
    nones : List (Option UnitView)
    nones = map (λ u. None) b.units

    units : us ≡ nones
    units = ext_get_or None us nones (many ∙ sym (length-map b.units (λ u. None)))
        (λ i below. none i ∙ sym (get_or-map (λ u. None) b.units i None None (omega (arith, below, many))))
