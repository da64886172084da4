-- A script that failed is a cause, so that an event tells that the run is cancelled.
use Rattle.std.proofs.Common.{◌≡◌, ◌⊎◌, inl, inr, ◌||◌, List, [], ◌∷◌, ◌++◌, Bool, true, false, not, if◌then◌else◌}
use Rattle.std.proofs.Common.{option_and_then, Option, Some}
use Rattle.std.proofs.Common.{None, is_some, option_map, option_to_list, refl, ap, sym, subst, ◌∙◌}
use Rattle.std.specs.Prelude.{IfSome}
use Rattle.std.specs.Cmp.{second_so}
use Rattle.std.specs.List.{list_any}
use Rattle.std.proofs.lemmas.List.Folds.{list_any-append}
use Rattle.run_events.specs.Result.{is_success}
use Rattle.run_events.specs.declared.cancel.CancelReason.{CancelReason}
use Rattle.run_events.specs.declared.events.ReporterEvent.{ReporterEvent}
use Rattle.run_events.specs.declared.events.ReporterEvent.TheVariants.{Tick, Test}
use Rattle.run_events.specs.declared.events.TestEventKind.{TestEventKind}
use Rattle.run_events.specs.declared.events.TestEventKind.TheVariants.{RunBeginCancel, RunBeginKill, RunPaused}
use Rattle.run_events.specs.declared.events.TestEventKind.TheVariants.{RunStarted, RunFinished, StressSubRunStarted}
use Rattle.run_events.specs.declared.events.TestEventKind.TheVariants.{StressSubRunFinished}
use Rattle.run_events.specs.declared.events.TestEventKind.TheVariants.{RunContinued, InfoStarted, InfoFinished}
use Rattle.run_events.specs.declared.events.TestEventKind.TheVariants.{InfoResponse as InfoAnswer, InputEnter}
use Rattle.run_events.specs.Hearing.{heard_key}
use Rattle.run_events.specs.declared.message.Message.{Message}
use Rattle.run_events.specs.declared.message.Message.TheVariants.{ScriptStart, ScriptSlow, ScriptFinish, Start, Slow}
use Rattle.run_events.specs.declared.message.Message.TheVariants.{AttemptFailed, Retry, Skip, Finish}
use Rattle.run_events.specs.declared.result.ExecutionResult.{ExecutionResult}
use Rattle.run_events.specs.declared.settings.Settings.{Settings}
use Rattle.run_events.specs.declared.turn.Turn.{Turn}
use Rattle.run_model.specs.declared.dispatcher_view.CancelRules.{CancelRules}
use Rattle.run_model.specs.declared.dispatcher_view.Tally.{Tally}
use Rattle.run_model.specs.declared.entry.Entry.{Entry}
use Rattle.run_model.specs.declared.happening.Happening.{Happening}
use Rattle.run_model.specs.Admission.{Newcomer, newcomer}
use Rattle.run_model.specs.Board.{Board, Deed, board}
use Rattle.run_model.specs.Cancel.{cause_of, caused, script_cause, script_failed}
use Rattle.run_model.specs.Dispatch.{Moment, event, go_of, heard_by, may_go, moment_by, told_of}
use Rattle.run_model.specs.Journal.{IsLegalBackward, history}
use Rattle.run_model.specs.Turns.{admission, answer_to, deed_on, delivered_as, delivery, done_by, enabled, event_of}
use Rattle.run_model.specs.Turns.{happening, index_of, live_in, oldest_of, starting, takes_turn, tally_with}
use Rattle.run_model.specs.Turns.{turn_of_unit}
use Rattle.run_model.specs.Words.{is_over, reason, sub_run, told}
use Rattle.run_laws.proofs.board.ByTurn.{by_turn}
use Rattle.run_laws.proofs.told.Asides.{IsAside, IsAsideEvent, IsAsideKind, answer_aside, by_signal, inform_aside}
use Rattle.run_laws.proofs.told.Asides.{key_aside, tick_aside}
use Rattle.run_laws.proofs.told.Cancels.{IsAfter, IsAfterKind}
use Rattle.run_laws_calls.specs.Stops.{tells_cancel}
use Rattle.run_laws_calls.specs.Success.{fails_script, fails_script_in}
use Rattle.run_laws.specs.Cancels.{reason_told, rises}
use Rattle.run_laws_calls.specs.Stops.{AreCausesTold}
use Rattle.run_laws_calls.proofs.OwnLemmas.{SaysReason}
use Rattle.run_laws.proofs.told.CauseLemmas.{told_is}
use Rattle.run_laws_calls.proofs.ToldLemmas.{Tells, causes_told, rises_in, tells}
use Rattle.run_laws.proofs.board.Kept.{IsBeforeRuns, IsOfRun, from_base, holds, where_joins}
use Rattle.run_laws.proofs.told.Bounds.{IsBound, IsBoundKind, begin_cases, end_cases}
use Rattle.run_laws.proofs.board.Order.{either_false}

-- what is told fails no script, or is told with a cause
abbrev IsCausing : Option CancelReason → Option ReporterEvent → Type 0
IsCausing cause o = IfSome o (λ e. fails_script e ≡ true → is_some cause ≡ true)

when : (now : Moment) (cause : Option CancelReason) (go : Bool) (kind : TestEventKind) → fails_script_in kind ≡ false
    → IsCausing cause (option_map (event now) (if go then Some kind else None))
when now cause true kind passes = λ fails. let never : false ≡ true = sym passes ∙ fails in cc
when now cause false kind passes = tt

script_causes : (now : Moment) (t : Tally) (result : ExecutionResult) (d : Deed) → not (is_success result) ≡ true
    → is_some (caused now t (script_cause result) d).cause ≡ true
script_causes now t result d fails = by_success (is_success result) fails
  where
    by_success : (b : Bool) → not b ≡ true
        → is_some (caused now t (if b then None else Some script_failed) d).cause ≡ true
    by_success true fails = cc
    by_success false fails = refl

message_causes : (now : Moment) (rules : CancelRules) (t u : Tally) (m : Message) (d : Deed)
    → IsCausing (caused now u (cause_of rules u m) d).cause (option_map (event now) (told_of t m))
message_causes now rules t u (ScriptStart start) d = when now _ (may_go t) _ refl
message_causes now rules t u (ScriptSlow slow) d = λ fails. cc
message_causes now rules t u (ScriptFinish finish) d = λ fails. script_causes now u finish.status.result d fails
message_causes now rules t u (Start start) d = when now _ (may_go t) _ refl
message_causes now rules t u (Slow slow) d = λ fails. cc
message_causes now rules t u (AttemptFailed failure) d = λ fails. cc
message_causes now rules t u (Retry retry) d = when now _ (may_go t) _ refl
message_causes now rules t u (Skip skip) d = λ fails. cc
message_causes now rules t u (Finish finish) d = λ fails. cc

delivery_causes : (b : Board) (q : List Message) → IsCausing (delivery b q).cause (delivery b q).told
delivery_causes b [] = tt
delivery_causes b (m ∷ rest) =
    let u : Tally = tally_with b (event_of b m) in
    let d : Deed = delivered_as b m (answer_to b (starting m) (go_of b.dispatcher.tally m)) in
    subst (IsCausing (delivery b (m ∷ rest)).cause)
    (sym (told_is (moment_by b.clock b.dispatcher.watch) u (cause_of b.dispatcher.rules u m) d))
    (message_causes (moment_by b.clock b.dispatcher.watch) b.dispatcher.rules b.dispatcher.tally u m d)

admission_causes : (o : Option Newcomer) → IsCausing (admission o).cause (admission o).told
admission_causes None = tt
admission_causes (Some new) = tt

aside_causes : (d : Deed) → IsAside d → IsCausing d.cause d.told
aside_causes d aside = by_told d.told aside.told
  where
    by_kind : (kind : TestEventKind) → IsAsideKind kind → fails_script_in kind ≡ false
    by_kind (RunPaused event) h = refl
    by_kind (RunContinued event) h = refl
    by_kind (InfoStarted event) h = refl
    by_kind (InfoAnswer event) h = refl
    by_kind (InfoFinished missing) h = refl
    by_kind (InputEnter event) h = refl
    by_kind kind h = absurd h

    by_told : (o : Option ReporterEvent) → IfSome o IsAsideEvent → IsCausing d.cause o
    by_told None h = tt
    by_told (Some Tick) h = λ fails. cc
    by_told (Some (Test event)) h = λ fails. let never : false ≡ true = sym (by_kind event.kind h) ∙ fails in cc

-- what is told where a sub-run begins or ends fails none
bound_causes : (cause : Option CancelReason) (o : Option ReporterEvent) → IsBound o → IsCausing cause o
bound_causes cause None h = tt
bound_causes cause (Some Tick) h = absurd h
bound_causes cause (Some (Test event)) h = by_kind event.kind h
  where
    by_kind : (kind : TestEventKind) → IsBoundKind kind → fails_script_in kind ≡ true → is_some cause ≡ true
    by_kind (RunStarted e) h fails = cc
    by_kind (StressSubRunStarted e) h fails = cc
    by_kind (StressSubRunFinished e) h fails = cc
    by_kind (RunFinished e) h fails = cc
    by_kind kind h fails = absurd h

causes : (p : Settings) (past : List Happening) (turn : Turn) → enabled p past turn ≡ true
    → IsCausing (deed_on p (board p past) turn).cause (deed_on p (board p past) turn).told
causes p past turn en =
    by_turn (λ turn named. takes_turn p b turn named ≡ true
    → IsCausing (done_by p b turn named).cause (done_by p b turn named).told)
    (record {
      begin = λ en. begin_cases (λ d. IsCausing d.cause d.told) (λ told after own later. bound_causes None told own)
          b.clock b.dispatcher;
      admit = λ en. admission_causes (newcomer p (index_of b.dispatcher) b.units);
      deliver = λ en. delivery_causes b b.queue;
      named = λ turn k to other en. tt;
      clock = λ ns en. tt;
      signal = λ signal en. by_signal (λ d. IsCausing d.cause d.told) b.clock (live_in b.units) b.dispatcher signal
          (heard_by b.dispatcher.rules.hearing signal) tt aside_causes;
      global_due = λ en. tt;
      report_cancel = λ en. tt;
      end = λ en. end_cases (λ d. IsCausing d.cause d.told) (λ told after over own later. bound_causes None told own)
          b.clock b.dispatcher;
      key = λ key en. aside_causes _ (key_aside b.clock (live_in b.units) b.dispatcher
          (heard_key b.dispatcher.rules.hearing.input key));
      tick = λ en. aside_causes _ tick_aside;
      stop_wait_due = λ en. tt;
      answer = λ en. aside_causes _ (answer_aside b (oldest_of b.answers));
      info_due = λ en. aside_causes _ (inform_aside b.clock b.dispatcher);
    })
    turn (second_so (not (is_over past)) (takes_turn p b turn (turn_of_unit turn)) en)
  where
    b : Board
    b = board p past

-- what is told after that fails none
cancel_passes : (o : Option ReporterEvent) → IsAfter o → list_any fails_script (option_to_list o) ≡ false
cancel_passes None h = refl
cancel_passes (Some Tick) h = absurd h
cancel_passes (Some (Test e)) h = rw (by_kind e.kind h) refl
  where
    by_kind : (kind : TestEventKind) → IsAfterKind kind → fails_script_in kind ≡ false
    by_kind (RunBeginCancel e) h = refl
    by_kind (RunBeginKill e) h = refl
    by_kind (StressSubRunStarted e) h = refl
    by_kind (RunFinished e) h = refl
    by_kind kind h = absurd h

-- where no cause came, what is told fails none
own_passes : (cause : Option CancelReason) (o : Option ReporterEvent) → IsCausing cause o → is_some cause ≡ false
    → list_any fails_script (option_to_list o) ≡ false
own_passes cause None causing none = refl
own_passes cause (Some e) causing none = by_fail (fails_script e) refl
  where
    by_fail : (b : Bool) → fails_script e ≡ b → (b || false) ≡ false
    by_fail false is = refl
    by_fail true is = let never : false ≡ true = sym none ∙ causing is in cc

no_cause : (before cause : Option CancelReason) → is_some before ≡ false → rises before cause ≡ false
    → is_some cause ≡ false
no_cause None None none flat = refl
no_cause None (Some c) none flat = cc
no_cause (Some b) cause none flat = cc

apart : (f : ReporterEvent → Bool) (xs ys : List ReporterEvent) → list_any f (xs ++ ys) ≡ false
    → (list_any f xs ≡ false) × (list_any f ys ≡ false)
apart f xs ys none = either_false (list_any f xs) (list_any f ys) (sym (list_any-append f xs ys) ∙ none)

pub together : (f : ReporterEvent → Bool) (xs ys : List ReporterEvent) → list_any f xs ≡ false → list_any f ys ≡ false
    → list_any f (xs ++ ys) ≡ false
together f xs ys first second =
    list_any-append f xs ys ∙ ap (λ b. b || list_any f ys) first ∙ second

-- so no script is told to fail where no event tells that the run is cancelled
abbrev pub PassesScripts : List Happening → Type 0
PassesScripts run = list_any tells_cancel (told run) ≡ false → list_any fails_script (told run) ≡ false

passes_more : (p : Settings) (x : Happening) (run : List Happening) → SaysReason x.after → IsAfter x.after
    → is_some (option_and_then reason_told x.after) ≡ rises (reason run) x.cause → IsCausing x.cause x.told
    → AreCausesTold run → PassesScripts run → PassesScripts (x ∷ run)
passes_more p x run says after exactly causing told_so passes calm =
    let own : List ReporterEvent = option_to_list x.told in
    let later : List ReporterEvent = option_to_list x.after in
    let parts = apart tells_cancel (told run) (own ++ later) calm in
    let calm_later : list_any tells_cancel later ≡ false = (apart tells_cancel own later parts.1).1 in
    let none : is_some (reason run) ≡ false = told_so.any ∙ parts.0 in
    let flat : rises (reason run) x.cause ≡ false = sym exactly ∙ sym says ∙ calm_later in
    together fails_script (told run) (own ++ later) (passes parts.0)
    (together fails_script own later
    (own_passes x.cause x.told causing (no_cause (reason run) x.cause none flat)) (cancel_passes x.after after))

pub no_script_fails : (p : Settings) (backward : List Entry) → IsLegalBackward p backward
    → PassesScripts (sub_run (history p backward))
no_script_fails p [] legal = λ calm. refl
no_script_fails p (e ∷ before) legal =
    by_run (where_joins p past e (holds p before legal.2) legal.0) (no_script_fails p before legal.2)
  where
    past : List Happening
    past = history p before

    x : Happening
    x = happening p past e

    t : Tells p (sub_run past) x
    t = tells p e before legal

    by_run : IsOfRun p past e ⊎ IsBeforeRuns p past e → PassesScripts (sub_run past)
        → PassesScripts (sub_run (x ∷ past))
    by_run (inl of) h =
        subst PassesScripts (sym of.joins)
        (passes_more p x of.base t.says t.after (rises_in p past e of t.caused) (causes p past e.turn legal.0)
        (from_base AreCausesTold p past e of (causes_told p [] tt) (causes_told p before legal.2))
        (from_base PassesScripts p past e of (λ calm. refl) h))
    by_run (inr none) h = subst PassesScripts (sym none.still) (λ calm. refl)
