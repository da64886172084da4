-- Which keys can come, and what each does.
use Rattle.std.proofs.Common.{◌≡◌, inl, inr, ℕ, ◌&&◌, ◌==◌, ◌++◌, List, [], ◌∷◌, Bool, true, false, not, Option}
use Rattle.std.proofs.Common.{if◌then◌else◌, Some, None, is_some, option_map, reverse, refl, ap, sym, subst, ◌∙◌}
use Rattle.std.specs.Cmp.{first_so, second_so}
use Rattle.std.proofs.lemmas.List.{reverse-append}
use Rattle.run_events.specs.Hearing.{heard_key, pressed}
use Rattle.run_events.specs.declared.events.ReporterEvent.{ReporterEvent}
use Rattle.run_events.specs.declared.events.ReporterEvent.TheVariants.{Test, Tick}
use Rattle.run_events.specs.declared.events.TestEventKind.{TestEventKind}
use Rattle.run_events.specs.declared.events.TestEventKind.TheVariants.{RunStarted, RunFinished, StressSubRunStarted}
use Rattle.run_events.specs.declared.events.TestEventKind.TheVariants.{StressSubRunFinished, SetupScriptStarted}
use Rattle.run_events.specs.declared.events.TestEventKind.TheVariants.{RunPaused, RunContinued}
use Rattle.run_events.specs.declared.info.InfoResponse.{InfoResponse}
use Rattle.run_events.specs.declared.input.InputEvent.{InputEvent}
use Rattle.run_events.specs.declared.input.InputEvent.TheVariants as inputs
use Rattle.run_events.specs.declared.input.InputHandlerKind.{InputHandlerKind}
use Rattle.run_events.specs.declared.input.InputHandlerKind.TheVariants.{Standard, Noop}
use Rattle.run_events.specs.declared.input.Key.{Key}
use Rattle.run_events.specs.declared.input.KeyCode.{KeyCode}
use Rattle.run_events.specs.declared.input.KeyCode.TheVariants.{Char, Enter}
use Rattle.run_events.specs.declared.message.Message.{Message}
use Rattle.run_events.specs.declared.message.Message.TheVariants.{ScriptStart, Start, Retry}
use Rattle.run_events.specs.declared.request.Request.{Request}
use Rattle.run_events.specs.declared.request.Request.TheVariants.{Stop, Continue, GetInfo}
use Rattle.run_events.specs.declared.settings.Settings.{Settings}
use Rattle.run_events.specs.declared.signal.Heard.{Heard}
use Rattle.run_events.specs.declared.signal.Heard.TheVariants.{Shutdown, JobControl, Info}
use Rattle.run_events.specs.declared.signal.Signal.{Signal as SignalKind}
use Rattle.run_events.specs.declared.signal.Signal.TheVariants.{Tstp}
use Rattle.run_events.specs.declared.turn.Turn.{Turn}
use Rattle.run_events.specs.declared.turn.Turn.TheVariants.{Admit, Answer, Begin, Deliver, End, Key as Pressed, Signal}
use Rattle.run_model.specs.declared.dispatcher_view.DispatcherView.{DispatcherView}
use Rattle.run_model.specs.declared.dispatcher_view.Tally.{Tally}
use Rattle.run_model.specs.declared.entry.Entry.{Entry}
use Rattle.run_model.specs.declared.happening.Happening.{Happening}
use Rattle.run_model.specs.Admission.{Newcomer, newcomer}
use Rattle.run_model.specs.Board.{Board, Deed, board, dispatcher_of, said}
use Rattle.run_model.specs.Cancel.{Cause, cause_of, caused}
use Rattle.run_model.specs.Dispatch.{Moment, event, go_of, heard_by, is_halted, may_go, moment_by, retried_event}
use Rattle.run_model.specs.Dispatch.{started_event, told_of, with_start}
use Rattle.run_model.specs.Journal.{past_of, IsLegal, IsLegalBackward}
use Rattle.run_model.specs.Rounds.{answers_waiting, of_told}
use Rattle.run_model.specs.Turns.{admission, answer_to, answered_by, deed_on, delivered_as, delivery, enabled, event_of}
use Rattle.run_model.specs.Turns.{happening, index_of, job_deed, job_event, key_deed, live_in, nothing_done, oldest_of}
use Rattle.run_model.specs.Turns.{signal_deed, starting, tally_with, tells}
use Rattle.run_model.specs.Words.{clock, queue, sub_run, units}
use Rattle.run_laws.proofs.told.Bounds.{IsBound, IsBoundKind, begin_cases, end_cases}
use Rattle.run_laws_cancel.specs.Enabled.{is_free}
use Rattle.run_laws_cancel.specs.Keys.{ComesAsKnown, DoesAsItsKey, IsKnown, TellsAlone, asks_in, enter, enters_in}
use Rattle.run_laws_cancel.specs.Keys.{letter_t}
use Rattle.run_laws.proofs.board.UnitDeeds.{same_unit}
use Rattle.run_laws_cancel.proofs.RoundTurns.{keys_so}

-- a key that is heard is one of those
pressed_known : (code : KeyCode) (modified : Bool) → is_some (pressed code modified) ≡ true
    → IsKnown (record { code = code; modified = modified; press = true })
pressed_known Enter modified some = inr (modified, refl)
pressed_known (Char c) modified some = by_char (c == 116) modified refl some
  where
    by_char : (b modified : Bool) → (c == 116) ≡ b
        → is_some (if b && not modified then Some inputs.Info else None) ≡ true
        → IsKnown (record { code = Char c; modified = modified; press = true })
    by_char true false is some =
        inl (ap (λ n. record { code = Char n; modified = false; press = true }) (sym (same_unit c 116 is)))
    by_char true true is some = cc
    by_char false modified is some = cc

heard_known : (kind : InputHandlerKind) (code : KeyCode) (modified press : Bool)
    → is_some (heard_key kind (record { code = code; modified = modified; press = press })) ≡ true
    → (kind ≡ Standard) × IsKnown (record { code = code; modified = modified; press = press })
heard_known Standard code modified true some = (refl, pressed_known code modified some)
heard_known Standard code modified false some = cc
heard_known Noop code modified press some = cc

known_heard : (kind : InputHandlerKind) (key : Key) → kind ≡ Standard → IsKnown key
    → is_some (heard_key kind key) ≡ true
known_heard kind key standard (inl is) = rw (standard, is) refl
known_heard kind key standard (inr (modified, is)) = rw (standard, is) refl

pub comes : (p : Settings) (past : List Happening) (key : Key) → ComesAsKnown p past key
comes p past key = record {
  only = λ en.
      let both : (is_free past && is_some (heard_key p.plan.hearing.input key)) ≡ true =
      sym (keys_so p past key) ∙ en in
      let heard = heard_known p.plan.hearing.input key.code key.modified key.press
      (second_so (is_free past) _ both) in
      (first_so (is_free past) (is_some (heard_key p.plan.hearing.input key)) both, heard.0, heard.1);
  each = λ free standard known.
      keys_so p past key ∙ rw (free, known_heard p.plan.hearing.input key standard known) refl;
}

-- an event doesn't tell that enter was pressed
abbrev IsOther : Option ReporterEvent → Type 0
IsOther told = of_told enters_in false told ≡ false

if_going : (now : Moment) (go : Bool) (kind : TestEventKind) → enters_in kind ≡ false
    → IsOther (option_map (event now) (if go then Some kind else None))
if_going now true kind is = is
if_going now false kind is = refl

message_other : (now : Moment) (t : Tally) (m : Message) → IsOther (option_map (event now) (told_of t m))
message_other now t (ScriptStart start) = if_going now (may_go t) (SetupScriptStarted start) refl
message_other now t (Start start) = if_going now (may_go t) (started_event start (with_start t)) refl
message_other now t (Retry retry) = if_going now (may_go t) (retried_event retry t) refl
message_other now t m = refl

caused_other : (now : Moment) (t : Tally) (o : Option Cause) (d : Deed) → IsOther d.told
    → IsOther (caused now t o d).told
caused_other now t None d is = is
caused_other now t (Some cause) d is = is

delivery_other : (b : Board) (q : List Message) → IsOther (delivery b q).told
delivery_other b [] = refl
delivery_other b (m ∷ rest) =
    let now : Moment = moment_by b.clock b.dispatcher.watch in
    caused_other now (tally_with b (event_of b m)) (cause_of b.dispatcher.rules (tally_with b (event_of b m)) m)
    (delivered_as b m (answer_to b (starting m) (go_of b.dispatcher.tally m)))
    (message_other now b.dispatcher.tally m)

admission_other : (o : Option Newcomer) → IsOther (admission o).told
admission_other None = refl
admission_other (Some new) = refl

answer_other : (b : Board) (o : Option InfoResponse) → IsOther (answered_by b o).told
answer_other b None = refl
answer_other b (Some response) = refl

job_other : (now : ℕ) (d : DispatcherView) (signal : SignalKind) → IsOther (job_deed now d signal).told
job_other now d Tstp = by_pause (is_halted d)
  where
    by_pause : (b : Bool) → IsOther (if b then nothing_done
        else record (tells now d (RunPaused (job_event d.tally))) { request = Some (Stop d.rounds.count) }).told
    by_pause true = refl
    by_pause false = refl
job_other now d signal = by_pause (is_halted d)
  where
    by_pause : (b : Bool) → IsOther (if b
        then record (tells now d (RunContinued (job_event d.tally))) { request = Some Continue }
        else nothing_done).told
    by_pause true = refl
    by_pause false = refl

signal_other : (now live : ℕ) (d : DispatcherView) (signal : SignalKind) (heard : Option Heard)
    → IsOther (signal_deed now live d signal heard).told
signal_other now live d signal (Some Shutdown) = refl
signal_other now live d signal (Some JobControl) = job_other now d signal
signal_other now live d signal (Some Info) = refl
signal_other now live d signal None = refl

bound_other : (o : Option ReporterEvent) → IsBound o → IsOther o
bound_other None h = refl
bound_other (Some Tick) h = absurd h
bound_other (Some (Test event)) h = by_kind event.kind h
  where
    by_kind : (kind : TestEventKind) → IsBoundKind kind → enters_in kind ≡ false
    by_kind (RunStarted s) h = refl
    by_kind (StressSubRunStarted s) h = refl
    by_kind (StressSubRunFinished s) h = refl
    by_kind (RunFinished s) h = refl
    by_kind kind h = absurd h

-- what a key does, by what it is heard as
alone : (now : ℕ) (e : Entry) (told : Option ReporterEvent) (request : Option Request)
    → TellsAlone (said now e (record nothing_done { told = told; request = request }))
alone now e told request = record {
  part = refl;
  sent = refl;
  info = refl;
  taken = refl;
  after = refl;
  asked = refl;
  cause = refl;
  stops = refl;
  begins = refl;
  ends = refl;
  over = refl;
}

key_alone : (now live : ℕ) (d : DispatcherView) (e : Entry) (o : Option InputEvent)
    → TellsAlone (said now e (key_deed now live d o))
key_alone now live d e (Some inputs.Enter) = alone now e (key_deed now live d (Some inputs.Enter)).told None
key_alone now live d e (Some inputs.Info) =
    alone now e (key_deed now live d (Some inputs.Info)).told (Some (GetInfo d.rounds.count))
key_alone now live d e None = alone now e None None

-- a deed asks what the units are doing, in a round of this number; or it tells that enter was pressed
abbrev Queries : ℕ → Deed → Type 0
Queries round d = (of_told asks_in false d.told ≡ true) × (d.request ≡ Some (GetInfo round))

abbrev IsEntered : Deed → Type 0
IsEntered d = (of_told enters_in false d.told ≡ true) × (d.request ≡ None)

letter_queries : (now live : ℕ) (d : DispatcherView) (kind : InputHandlerKind) → kind ≡ Standard
    → Queries d.rounds.count (key_deed now live d (heard_key kind letter_t))
letter_queries now live d Standard is = (refl, refl)
letter_queries now live d Noop is = cc

enter_entered : (now live : ℕ) (d : DispatcherView) (modified : Bool) (kind : InputHandlerKind) → kind ≡ Standard
    → IsEntered (key_deed now live d (heard_key kind (enter modified)))
enter_entered now live d modified Standard is = (refl, refl)
enter_entered now live d modified Noop is = cc

-- only enter tells that it was pressed
abbrev IsOnly : Turn → Option ReporterEvent → Type 0
IsOnly turn told = of_told enters_in false told ≡ true → (modified : Bool) × (turn ≡ Pressed (enter modified))

others : (turn : Turn) (told : Option ReporterEvent) → IsOther told → IsOnly turn told
others turn told is some = let off : false ≡ true = sym is ∙ some in cc

key_only : (now live : ℕ) (d : DispatcherView) (kind : InputHandlerKind) (key : Key) → kind ≡ Standard → IsKnown key
    → IsOnly (Pressed key) (key_deed now live d (heard_key kind key)).told
key_only now live d kind key standard (inl is) =
    rw (is, standard) (others (Pressed letter_t) (key_deed now live d (Some inputs.Info)).told refl)
key_only now live d kind key standard (inr (modified, is)) = λ some. (modified, ap Pressed is)

deed_only : (p : Settings) (past : List Happening) (turn : Turn) → enabled p past turn ≡ true
    → IsOnly turn (deed_on p (board p past) turn).told
deed_only p past Begin en = begin_cases (λ d. IsOnly Begin d.told)
    (λ told after own later. others Begin told (bound_other told own)) (clock past) (dispatcher_of p past)
deed_only p past End en = end_cases (λ d. IsOnly End d.told)
    (λ told after over own later. others End told (bound_other told own)) (clock past) (dispatcher_of p past)
deed_only p past Admit en =
    others Admit (deed_on p (board p past) Admit).told
    (admission_other (newcomer p (index_of (dispatcher_of p past)) (units p (sub_run past))))
deed_only p past Deliver en =
    others Deliver (deed_on p (board p past) Deliver).told (delivery_other (board p past) (queue (sub_run past)))
deed_only p past (Signal signal) en =
    others (Signal signal) (deed_on p (board p past) (Signal signal)).told
    (signal_other (clock past) (live_in (units p (sub_run past))) (dispatcher_of p past) signal
    (heard_by p.plan.hearing signal))
deed_only p past (Pressed key) en =
    let known = (comes p past key).only en in
    key_only (clock past) (live_in (units p (sub_run past))) (dispatcher_of p past) p.plan.hearing.input key
    known.1 known.2
deed_only p past Answer en =
    others Answer (deed_on p (board p past) Answer).told
    (answer_other (board p past) (oldest_of (answers_waiting (sub_run past))))
deed_only p past turn en = others turn (deed_on p (board p past) turn).told refl

-- so each enabled turn does what its key asks for
pub does_as_key : (p : Settings) (past : List Happening) (e : Entry) → enabled p past e.turn ≡ true
    → DoesAsItsKey (sub_run past) (happening p past e)
does_as_key p past e en = record {
  query = λ is. subst (λ turn. Queries d.rounds.count (deed_on p (board p past) turn)) (sym is)
      (letter_queries (clock past) live d p.plan.hearing.input (hears letter_t is));
  entered = λ modified is. subst (λ turn. IsEntered (deed_on p (board p past) turn)) (sym is)
      (enter_entered (clock past) live d modified p.plan.hearing.input (hears (enter modified) is));
  no_more = λ key is. subst (λ turn. TellsAlone (said (clock past) e (deed_on p (board p past) turn))) (sym is)
      (key_alone (clock past) live d e (heard_key p.plan.hearing.input key));
  only = deed_only p past e.turn en;
}
  where
    d : DispatcherView
    d = dispatcher_of p past

    live : ℕ
    live = live_in (units p (sub_run past))

    hears : (key : Key) → e.turn ≡ Pressed key → p.plan.hearing.input ≡ Standard
    hears key is = ((comes p past key).only (subst (λ turn. enabled p past turn ≡ true) is en)).1

pub keys_do : (p : Settings) (journal : List Entry) (e : Entry) → IsLegal p (journal ++ e ∷ [])
    → DoesAsItsKey (sub_run (past_of p journal)) (happening p (past_of p journal) e)
keys_do p journal e legal =
    let backward : IsLegalBackward p (e ∷ reverse journal) =
    subst (IsLegalBackward p) (reverse-append journal (e ∷ [])) legal in
    does_as_key p (past_of p journal) e backward.0
