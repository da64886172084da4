-- What the delivery of a finish leaves.
use Rattle.std.proofs.Common.{◌≡◌, ℕ, List, ◌++◌, ◌∷◌, [], nat_le, Bool, true, false, if◌then◌else◌, refl}
use Rattle.std.proofs.Common.{Option, Some, None, IfSome, Result, Ok, Err, IfOk, OnOk, option_map, option_to_list, ap}
use Rattle.std.proofs.Common.{sym, ◌∙◌, arith}
use Rattle.run_clock.specs.Counted.{other}
use Rattle.run_events.specs.Cancel.{greater}
use Rattle.run_events.specs.declared.ask.Ask.{Ask}
use Rattle.run_events.specs.declared.cancel.CancelReason.{CancelReason}
use Rattle.run_events.specs.declared.cancel.CancelReason.TheVariants.{SecondSignal}
use Rattle.run_events.specs.declared.events.ReporterEvent.{ReporterEvent}
use Rattle.run_events.specs.declared.message.TestFinish.{TestFinish}
use Rattle.run_events.specs.declared.plan.TestInstanceId.{TestInstanceId}
use Rattle.run_events.specs.declared.events.TestEventKind.TheVariants.{SetupScriptFinished}
use Rattle.run_events.specs.declared.message.ScriptFinish.{ScriptFinish}
use Rattle.run_events.specs.declared.message.Message.TheVariants.{Finish, ScriptFinish as ScriptFinished}
use Rattle.run_events.specs.declared.request.Request.{Request}
use Rattle.run_events.specs.declared.result.ExecutionResult.{ExecutionResult}
use Rattle.run_events.specs.declared.retry_policy.MaxFail.{MaxFail}
use Rattle.run_events.specs.declared.retry_policy.MaxFail.TheVariants.{All, Count}
use Rattle.run_events.specs.declared.retry_policy.TerminateMode.{TerminateMode}
use Rattle.run_events.specs.declared.retry_policy.TerminateMode.TheVariants.{Wait, Immediate}
use Rattle.run_events.specs.declared.stats.RunStats.{RunStats}
use Rattle.run_events.specs.Outcome.{failed_count}
use Rattle.run_events.specs.Result.{is_success}
use Rattle.run_model.specs.declared.dispatcher_view.CancelRules.{CancelRules}
use Rattle.run_model.specs.declared.dispatcher_view.Causes.{Causes}
use Rattle.run_model.specs.declared.dispatcher_view.DispatcherView.{DispatcherView}
use Rattle.run_model.specs.declared.dispatcher_view.Tally.{Tally}
use Rattle.run_model.specs.Board.{Deed, deed_events, causes_after, with_cause, is_noted}
use Rattle.run_model.specs.Rounds.{act_of, tells_answer, of_told, ends_queries, opens_round}
use Rattle.run_model.specs.Cancel.{Cause, caused, cancel_event, cancelled_for, is_above, failure_cause, too_many_failed}
use Rattle.run_model.specs.Cancel.{script_cause, script_failed}
use Rattle.run_model.specs.Dispatch.{Moment, moment_by, event, having_told, finished_event}
use Rattle.run_model.specs.Turns.{nothing_done, delivers, told_by, tally_by}
use Rattle.run_model.specs.Words.{is_by_signal, is_by_report, is_by_time}
use Rattle.run_dispatch.specs.Deeds.{Acts, with_seen, having_seen}
use Rattle.run_dispatch.specs.declared.effects.DispatchEffects.{DispatchEffects}

-- no cause leaves the reason
greater-none : (r : Option CancelReason) → greater r None ≡ r
greater-none None = refl
greater-none (Some r) = refl

-- no cause leaves the counts
pub with_cause-none : (t : Tally) → with_cause None t ≡ t
with_cause-none t =
    ap (λ r. record t { stats = record t.stats { cancel_reason = r } }) (greater-none t.stats.cancel_reason)

-- the event of a cause counts nothing
pub cancel_counts : (moment : Moment) (t u : Tally) (above : Bool) (r : CancelReason)
    → having_told t (if above then Some (event moment (cancel_event r u)) else None) ≡ t
cancel_counts moment t u false r = refl
cancel_counts moment t u true SecondSignal = refl
cancel_counts moment t u true r = refl

-- and tells no test started or skipped
pub cancel_sees : (moment : Moment) (unseen : Option (List TestInstanceId)) (u : Tally) (above : Bool)
    (r : CancelReason)
    → having_seen unseen (if above then Some (event moment (cancel_event r u)) else None) ≡ unseen
cancel_sees moment unseen u false r = refl
cancel_sees moment unseen u true SecondSignal = refl
cancel_sees moment unseen u true r = refl

-- an event that neither pauses the run or lets it go on, nor tells an answer or the end of a round of them, nor a test
-- started or skipped
pub record IsPlain (told : Option ReporterEvent) : Type 0 where
  pub act : act_of told ≡ other
  pub answer : tells_answer told ≡ false
  pub ends : of_told ends_queries false told ≡ false
  pub seen : (unseen : Option (List TestInstanceId)) → having_seen unseen told ≡ unseen

-- the request of a cause opens no round
pub no_round : (above : Bool) (request : Request) → opens_round (Some request) ≡ false
    → opens_round (if above then Some request else None) ≡ false
no_round true request is = is
no_round false request is = refl

-- a deed that tells such an event, opens no round, and is noted, though it neither begins nor ends a run
pub noted : (now : ℕ) (d : DispatcherView) (deed : Deed) → deed.begins ≡ false → deed.ends ≡ false → deed.over ≡ false
    → deed.stops ≡ false → IsPlain deed.told → opens_round deed.request ≡ false → is_noted deed ≡ true
    → having_seen d.rerun deed.after ≡ d.rerun
    → with_seen now d deed
    ≡ record d {
      causes = causes_after now d.rules d.causes deed;
      tally = with_cause deed.cause (having_told (having_told d.tally deed.told) deed.after);
      latest = now;
    }
noted now d deed b e o stops plain request is sees =
    rw (is, b, e, o, stops, plain.act, plain.answer, plain.ends, request, plain.seen d.rerun, sees) refl

-- neither a signal, nor a refused event, nor the time
record IsOther (cause : Option CancelReason) : Type 0 where
  no_signal : is_by_signal cause ≡ false
  no_report : is_by_report cause ≡ false
  no_time : is_by_time cause ≡ false

-- a cause of none of these, which opens no round
record IsCalm (cause : Cause) : Type 0 where
  is_other : IsOther (Some cause.reason)
  no_round : opens_round (Some cause.request) ≡ false

-- a deed that isn't a begin, tells such an event, and whose cause is none of these, leaves what cancels the run
causes-kept : (now : ℕ) (rules : CancelRules) (c : Causes) (deed : Deed) → deed.begins ≡ false → deed.stops ≡ false
    → IsPlain deed.told → IsOther deed.cause → causes_after now rules c deed ≡ c
causes-kept now rules c deed b stops plain is =
    rw (b, stops, plain.act, is.no_signal, is.no_report, is.no_time)
    (ap (λ n. record c { signals = n }) (omega arith))

-- the delivery of a message that is no cause
pub delivered : (now : ℕ) (d : DispatcherView) (told : Option ReporterEvent) → IsPlain told
    → with_seen now d (record nothing_done { taken = true; told = told })
    ≡ record d { tally = having_told d.tally told; latest = now }
delivered now d told plain =
    noted now d (record nothing_done { taken = true; told = told }) refl refl refl refl plain refl refl refl
    ∙ ap
    (λ c. record d { causes = c; tally = with_cause None (having_told d.tally told); latest = now })
    (causes-kept now d.rules d.causes (record nothing_done { taken = true; told = told }) refl refl plain
    (record { no_signal = refl; no_report = refl; no_time = refl }))
    ∙ ap (λ t. record d { tally = t; latest = now }) (with_cause-none (having_told d.tally told))

-- the delivery of a message that is another cause
delivered_as : (now : ℕ) (d : DispatcherView) (told : Option ReporterEvent) (cause : Cause)
    → IsPlain told → IsCalm cause
    → with_seen now d (caused (moment_by now d.watch) (having_told d.tally told) (Some cause)
    (record nothing_done { taken = true; told = told }))
    ≡ record d { tally = with_cause (Some cause.reason) (having_told d.tally told); latest = now }
delivered_as now d told cause plain is =
    let t = having_told d.tally told in
    let deed = caused (moment_by now d.watch) t (Some cause) (record nothing_done { taken = true; told = told }) in
    noted now d deed refl refl refl refl plain
    (no_round (is_above t.stats.cancel_reason cause.reason) cause.request is.no_round) refl
    (cancel_sees (moment_by now d.watch) d.rerun (cancelled_for cause.reason t)
    (is_above t.stats.cancel_reason cause.reason) cause.reason)
    ∙ ap
    (λ c. record d { causes = c; tally = with_cause (Some cause.reason) (having_told t deed.after); latest = now })
    (causes-kept now d.rules d.causes deed refl refl plain is.is_other)
    ∙ ap (λ u. record d { tally = with_cause (Some cause.reason) u; latest = now })
    (cancel_counts (moment_by now d.watch) t (cancelled_for cause.reason t)
    (is_above t.stats.cancel_reason cause.reason)
    cause.reason)

-- too many failures are another cause
mode_is : (terminate : TerminateMode) → IsCalm (too_many_failed terminate)
mode_is Wait = record { is_other = record { no_signal = refl; no_report = refl; no_time = refl }; no_round = refl }
mode_is Immediate = record { is_other = record { no_signal = refl; no_report = refl; no_time = refl }; no_round = refl }

failure_is : (most : MaxFail) (stats : RunStats)
    → IfSome (failure_cause most stats) IsCalm
failure_is All stats = tt
failure_is (Count most terminate) stats =
    elim (nat_le most (failed_count stats))
    as (λ b. IfSome (if b then Some (too_many_failed terminate) else None) IsCalm)
    [ true ↦ mode_is terminate | false ↦ tt ]

-- a failed script is another cause
script_is : (ended : ExecutionResult) → IfSome (script_cause ended) IsCalm
script_is ended =
    elim (is_success ended)
    as (λ b. IfSome (if b then None else Some script_failed) IsCalm) [
      | true ↦ tt
      | false ↦ record {
        is_other = record {
          no_signal = refl;
          no_report = refl;
          no_time =
              refl;
        };
        no_round = refl;
      }
    ]

-- the delivery of a message that tells this, and may be another cause
heeded_as : (now : ℕ) (d : DispatcherView) (told : Option ReporterEvent) (cause : Option Cause)
    → IsPlain told → IfSome cause IsCalm
    → with_seen now d (caused (moment_by now d.watch) (having_told d.tally told) cause
    (record nothing_done { taken = true; told = told }))
    ≡ record d {
      tally = with_cause (option_map (λ cause. cause.reason) cause) (having_told d.tally told);
      latest = now;
    }
heeded_as now d told None plain is =
    delivered now d told plain
    ∙ ap (λ t. record d { tally = t; latest = now }) (sym (with_cause-none (having_told d.tally told)))
heeded_as now d told (Some cause) plain is = delivered_as now d told cause plain is

-- its event, then that of the cause
events_as : (now : ℕ) (d : DispatcherView) (t : Tally) (told : Option ReporterEvent) (cause : Option Cause)
    → option_to_list told ++ option_to_list (caused (moment_by now d.watch) t cause nothing_done).after
    ≡ deed_events (caused (moment_by now d.watch) t cause (record nothing_done { taken = true; told = told }))
events_as now d t told None = refl
events_as now d t told (Some cause) = refl

request_as : (now : ℕ) (d : DispatcherView) (t : Tally) (told : Option ReporterEvent) (cause : Option Cause)
    → (caused (moment_by now d.watch) t cause nothing_done).request
    ≡ (caused (moment_by now d.watch) t cause (record nothing_done { taken = true; told = told })).request
request_as now d t told None = refl
request_as now d t told (Some cause) = refl

asked_as : (now : ℕ) (d : DispatcherView) (t : Tally) (told : Option ReporterEvent) (cause : Option Cause)
    → Path (Option Ask) None (caused (moment_by now d.watch) t cause
    (record nothing_done { taken = true; told = told })).asked
asked_as now d t told None = refl
asked_as now d t told (Some cause) = refl

-- what a call gives and leaves that heeded what it told, is what its deed does
heeded : (now : ℕ) (d new : DispatcherView) (told : Option ReporterEvent) (cause : Option Cause)
    (fx : DispatchEffects) → IsPlain told → IfSome cause IsCalm
    → fx ≡ record {
      events =
          option_to_list told ++ option_to_list (caused (moment_by now d.watch) (having_told d.tally told)
          cause nothing_done).after;
      request = (caused (moment_by now d.watch) (having_told d.tally told) cause nothing_done).request;
      asked = None;
      go = None;
    }
    → new ≡ record d {
      tally = with_cause (option_map (λ cause. cause.reason) cause) (having_told d.tally told);
      latest = now;
    }
    → Acts now d (caused (moment_by now d.watch) (having_told d.tally told) cause
    (record nothing_done { taken = true; told = told }))
    None new fx
heeded now d new told cause fx plain is gives leaves =
    let t = having_told d.tally told in
    record {
      told = ap (λ (fx : DispatchEffects). fx.events) gives ∙ events_as now d t told cause;
      request = ap (λ (fx : DispatchEffects). fx.request) gives ∙ request_as now d t told cause;
      asked = ap (λ (fx : DispatchEffects). fx.asked) gives ∙ asked_as now d t told cause;
      go = ap (λ (fx : DispatchEffects). fx.go) gives;
      after = leaves ∙ sym (heeded_as now d told cause plain is);
    }

-- the same of an answer, by the events that were told, the counts after them and the cause
heeded_answers : {E : Type 0} (now : ℕ) (d new : DispatcherView) (told : Option ReporterEvent) (heard : Option Cause)
    (t : Tally) (cause : Option Cause) (answer : Result DispatchEffects E) (events : List ReporterEvent)
    → IsPlain told → IfSome heard IsCalm
    → t ≡ having_told d.tally told → events ≡ option_to_list told → cause ≡ heard
    → IfOk answer (λ fx. fx ≡ record {
      events = events ++ option_to_list (caused (moment_by now d.watch) t cause nothing_done).after;
      request = (caused (moment_by now d.watch) t cause nothing_done).request;
      asked = None;
      go = None;
    })
    → OnOk answer (new ≡ record d {
      tally = with_cause (option_map (λ cause. cause.reason) cause) t;
      latest = now;
    })
    → IfOk answer (Acts now d
    (caused (moment_by now d.watch) (having_told d.tally told) heard
    (record nothing_done { taken = true; told = told })) None new)
heeded_answers now d new told heard t cause (Ok fx) events plain is counts tells why gives leaves =
    let all = having_told d.tally told in
    let gives_all : fx ≡ record {
      events = option_to_list told ++ option_to_list (caused (moment_by now d.watch) all heard nothing_done).after;
      request = (caused (moment_by now d.watch) all heard nothing_done).request;
      asked = None;
      go = None;
    } = rw (tells, counts, why) at gives in
    let leaves_all : new ≡ record d {
      tally = with_cause (option_map (λ cause. cause.reason) heard) all;
      latest = now;
    } = rw (counts, why) at leaves in
    heeded now d new told heard fx plain is gives_all leaves_all
heeded_answers now d new told heard t cause (Err error) events plain is counts tells why gives leaves = tt

-- the delivery of a finish, which may be the last failure
pub finish_answers : {E : Type 0} (now : ℕ) (d new : DispatcherView) (finish : TestFinish) (t : Tally)
    (cause : Option Cause) (answer : Result DispatchEffects E) (events : List ReporterEvent)
    → t ≡ tally_by now d (Finish finish) → events ≡ event (moment_by now d.watch) (finished_event finish t) ∷ []
    → cause ≡ failure_cause d.rules.max_fail t.stats
    → IfOk answer (λ fx. fx ≡ record {
      events = events ++ option_to_list (caused (moment_by now d.watch) t cause nothing_done).after;
      request = (caused (moment_by now d.watch) t cause nothing_done).request;
      asked = None;
      go = None;
    })
    → OnOk answer (new ≡ record d {
      tally = with_cause (option_map (λ cause. cause.reason) cause) t;
      latest = now;
    })
    → IfOk answer (Acts now d (delivers now d (Finish finish) nothing_done) None new)
finish_answers now d new finish t cause answer events counts tells why gives leaves =
    let all = tally_by now d (Finish finish) in
    let tells_all : events ≡ event (moment_by now d.watch) (finished_event finish all) ∷ [] = rw counts at tells in
    let why_all : cause ≡ failure_cause d.rules.max_fail all.stats = rw counts at why in
    heeded_answers now d new (told_by now d (Finish finish)) (failure_cause d.rules.max_fail all.stats) t cause answer
    events (record { act = refl; answer = refl; ends = refl; seen = λ unseen. refl })
    (failure_is d.rules.max_fail all.stats) counts tells_all why_all gives leaves

-- the delivery of a script's finish, which may be a failure
pub script_answers : {E : Type 0} (now : ℕ) (d new : DispatcherView) (finish : ScriptFinish) (t : Tally)
    (cause : Option Cause) (answer : Result DispatchEffects E) (events : List ReporterEvent)
    → t ≡ tally_by now d (ScriptFinished finish)
    → events ≡ event (moment_by now d.watch) (SetupScriptFinished finish) ∷ []
    → cause ≡ script_cause finish.status.result
    → IfOk answer (λ fx. fx ≡ record {
      events = events ++ option_to_list (caused (moment_by now d.watch) t cause nothing_done).after;
      request = (caused (moment_by now d.watch) t cause nothing_done).request;
      asked = None;
      go = None;
    })
    → OnOk answer (new ≡ record d {
      tally = with_cause (option_map (λ cause. cause.reason) cause) t;
      latest = now;
    })
    → IfOk answer (Acts now d (delivers now d (ScriptFinished finish) nothing_done) None new)
script_answers now d new finish t cause answer events counts tells why gives leaves =
    heeded_answers now d new (told_by now d (ScriptFinished finish)) (script_cause finish.status.result) t cause answer
    events (record { act = refl; answer = refl; ends = refl; seen = λ unseen. refl }) (script_is finish.status.result)
    counts tells why gives leaves
