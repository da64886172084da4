-- When a sub-run can begin, a message be delivered, and the clock move.
use Rattle.std.proofs.Common.{◌≡◌, ◌⊎◌, inl, inr, ℕ, zero, suc, ◌+◌, nat_lt, ◌&&◌, ◌||◌, not, List, [], ◌∷◌, length}
use Rattle.std.proofs.Common.{drop}
use Rattle.std.proofs.Common.{Bool, true, false, Option, Some, None, if◌then◌else◌, option_to_list, is_some, cond}
use Rattle.std.proofs.Common.{refl, ap, sym, subst, ◌∙◌, arith}
use Rattle.std.proofs.lemmas.List.{length-append}
use Rattle.std.proofs.lemmas.List.Sums.{sum_by-cons}
use Rattle.run_events.specs.declared.settings.Settings.{Settings}
use Rattle.run_events.specs.declared.turn.Turn.{Turn}
use Rattle.run_events.specs.declared.turn.Turn.TheVariants.{Begin, Clock, Deliver, End, Admit, Answer, Key, Signal}
use Rattle.run_model.specs.declared.entry.Entry.{Entry}
use Rattle.run_model.specs.declared.happening.Happening.{Happening}
use Rattle.run_model.specs.Turns.{enabled, admission, answer_to, answered_by, deed_on, delivered_as, delivery}
use Rattle.run_model.specs.Turns.{event_of, job_deed, job_event, key_deed, live_in, nothing_done, oldest_of}
use Rattle.run_model.specs.Turns.{signal_deed, starting, tally_with, tells, index_of, happening, is_empty, enabled_on}
use Rattle.run_model.specs.Words.{is_over, ns_of, sub_run, clock, is_on, joined_run, sent, delivered}
use Rattle.run_laws_cancel.specs.Enabled.{is_free}
use Rattle.run_laws_cancel.specs.RunTurns.{begins_sub_run, is_end, is_delivery, is_begun, messages_in, deliveries_in}
use Rattle.run_laws_cancel.specs.RunTurns.{time_in}
use Rattle.run_events.specs.Hearing.{heard_key}
use Rattle.run_events.specs.declared.info.InfoResponse.{InfoResponse}
use Rattle.run_events.specs.declared.input.InputEvent.{InputEvent}
use Rattle.run_events.specs.declared.events.TestEventKind.TheVariants.{RunPaused, RunContinued}
use Rattle.run_events.specs.declared.message.Message.{Message}
use Rattle.run_events.specs.declared.request.Request.TheVariants.{Stop, Continue}
use Rattle.run_events.specs.declared.signal.Heard.{Heard}
use Rattle.run_events.specs.declared.signal.Heard.TheVariants.{Shutdown, JobControl, Info}
use Rattle.run_events.specs.declared.signal.Signal.{Signal as SignalKind}
use Rattle.run_events.specs.declared.signal.Signal.TheVariants.{Tstp}
use Rattle.run_model.specs.Admission.{Newcomer, newcomer}
use Rattle.run_model.specs.Board.{Board, Deed, board}
use Rattle.run_model.specs.Cancel.{Cause, cause_of, caused}
use Rattle.run_model.specs.Dispatch.{Moment, is_main, go_of, heard_by, is_halted, moment_by}
use Rattle.run_model.specs.declared.dispatcher_view.DispatcherView.{DispatcherView}
use Rattle.run_model.specs.declared.dispatcher_view.Tally.{Tally}
use Rattle.run_laws.proofs.told.Bounds.{begin_cases, end_cases}
use Rattle.run_events.specs.declared.input.InputEvent.TheVariants as inputs
use Rattle.std.proofs.Common.{is_none}
use Rattle.run_model.specs.Journal.{history, IsLegalBackward}
use Rattle.run_model.specs.Rounds.{open_round}
use Rattle.run_laws.proofs.board.Kept.{holds, IsOfRun, IsBeforeRuns, where_joins, from_base}
use Rattle.std.specs.Prelude.{◌^◌}

-- a deed begins a sub-run exactly where its turn is a begin, and ends one exactly where that is an end
pub record IsMarked (turn : Turn) (d : Deed) : Type 0 where
  pub begins : d.begins ≡ begins_sub_run turn
  pub ends : d.ends ≡ is_end turn

apart : (turn : Turn) (d : Deed) → begins_sub_run turn ≡ false → is_end turn ≡ false → d.begins ≡ false → d.ends ≡ false
    → IsMarked turn d
apart turn d a b begins ends = record { begins = begins ∙ sym a; ends = ends ∙ sym b }

abbrev IsPlain : Deed → Type 0
IsPlain d = (d.begins ≡ false) × (d.ends ≡ false)

caused_plain : (now : Moment) (t : Tally) (o : Option Cause) (d : Deed) → IsPlain d → IsPlain (caused now t o d)
caused_plain now t None d h = h
caused_plain now t (Some cause) d h = h

delivery_plain : (b : Board) (q : List Message) → IsPlain (delivery b q)
delivery_plain b [] = (refl, refl)
delivery_plain b (m ∷ rest) =
    caused_plain (moment_by b.clock b.dispatcher.watch) (tally_with b (event_of b m))
    (cause_of b.dispatcher.rules (tally_with b (event_of b m)) m)
    (delivered_as b m (answer_to b (starting m) (go_of b.dispatcher.tally m))) (refl, refl)

admission_plain : (o : Option Newcomer) → IsPlain (admission o)
admission_plain None = (refl, refl)
admission_plain (Some new) = (refl, refl)

job_plain : (now : ℕ) (d : DispatcherView) (signal : SignalKind) → IsPlain (job_deed now d signal)
job_plain now d Tstp = by_pause (is_halted d)
  where
    by_pause : (b : Bool) → IsPlain (if b
        then nothing_done
        else record (tells now d (RunPaused (job_event d.tally))) { request = Some (Stop d.rounds.count) })
    by_pause true = (refl, refl)
    by_pause false = (refl, refl)
job_plain now d signal = by_pause (is_halted d)
  where
    by_pause : (b : Bool) → IsPlain (if b
        then record (tells now d (RunContinued (job_event d.tally))) { request = Some Continue }
        else nothing_done)
    by_pause true = (refl, refl)
    by_pause false = (refl, refl)

signal_plain : (now live : ℕ) (d : DispatcherView) (signal : SignalKind) (heard : Option Heard)
    → IsPlain (signal_deed now live d signal heard)
signal_plain now live d signal (Some Shutdown) = (refl, refl)
signal_plain now live d signal (Some JobControl) = job_plain now d signal
signal_plain now live d signal (Some Info) = (refl, refl)
signal_plain now live d signal None = (refl, refl)

key_plain : (now live : ℕ) (d : DispatcherView) (key : Option InputEvent) → IsPlain (key_deed now live d key)
key_plain now live d (Some inputs.Enter) = (refl, refl)
key_plain now live d (Some inputs.Info) = (refl, refl)
key_plain now live d None = (refl, refl)

answer_plain : (b : Board) (o : Option InfoResponse) → IsPlain (answered_by b o)
answer_plain b None = (refl, refl)
answer_plain b (Some response) = (refl, refl)

plain : (turn : Turn) (d : Deed) → begins_sub_run turn ≡ false → is_end turn ≡ false → IsPlain d → IsMarked turn d
plain turn d a b h = apart turn d a b h.0 h.1

pub marked : (p : Settings) (b : Board) (turn : Turn) → IsMarked turn (deed_on p b turn)
marked p b Begin =
    begin_cases (λ d. IsMarked Begin d) (λ told after own later. record { begins = refl; ends = refl }) b.clock
    b.dispatcher
marked p b End =
    end_cases (λ d. IsMarked End d) (λ told after over own later. record { begins = refl; ends = refl }) b.clock
    b.dispatcher
marked p b Admit = plain Admit _ refl refl (admission_plain (newcomer p (index_of b.dispatcher) b.units))
marked p b Deliver = plain Deliver _ refl refl (delivery_plain b b.queue)
marked p b (Signal signal) = plain (Signal signal) _ refl refl
    (signal_plain b.clock (live_in b.units) b.dispatcher signal (heard_by b.dispatcher.rules.hearing signal))
marked p b (Key key) = plain (Key key) _ refl refl
    (key_plain b.clock (live_in b.units) b.dispatcher (heard_key b.dispatcher.rules.hearing.input key))
marked p b Answer = plain Answer _ refl refl (answer_plain b (oldest_of b.answers))
marked p b turn = record { begins = refl; ends = refl }

-- a sub-run is on where the latest begin or end is a begin
on_whole : (past : List Happening) → is_on (sub_run past) ≡ is_on past
on_whole [] = refl
on_whole (x ∷ past) = by_begin x.begins refl (on_whole past)
  where
    by_begin : (b : Bool) → x.begins ≡ b → is_on (sub_run past) ≡ is_on past
        → is_on (if b then x ∷ [] else joined_run x (sub_run past)) ≡ (not x.ends && (b || is_on past))
    by_begin true is was = rw is refl
    by_begin false is was = by_run (sub_run past) was
      where
        off : (a : Bool) → false ≡ (a && false)
        off true = refl
        off false = refl

        by_run : (run : List Happening) → is_on run ≡ is_on past
            → is_on (joined_run x run) ≡ (not x.ends && is_on past)
        by_run [] same = rw (sym same) (off (not x.ends))
        by_run (y ∷ run) same = rw is (ap (λ b. not x.ends && b) same)

begun_is : (p : Settings) (backward : List Entry) → is_on (history p backward) ≡ is_begun (history p backward)
begun_is p [] = refl
begun_is p (e ∷ before) =
    let m = marked p (board p (history p before)) e.turn in
    rw (m.begins, m.ends) (by_turn e.turn (is_on (history p before)) (is_begun (history p before)) (begun_is p before))
  where
    by_turn : (turn : Turn) (a b : Bool) → a ≡ b
        → (not (is_end turn) && (begins_sub_run turn || a)) ≡ (begins_sub_run turn || (not (is_end turn) && b))
    by_turn Begin a b is = refl
    by_turn turn a b is = ap (λ b. not (is_end turn) && b) is

-- begins
pub begins_between : (p : Settings) (backward : List Entry)
    → enabled p (history p backward) Begin
    ≡ (not (is_over (history p backward)) && not (is_begun (history p backward)))
begins_between p backward =
    group (is_over past) (is_on (sub_run past))
    ∙ ap (λ b. not (is_over past) && not b) (on_whole past ∙ begun_is p backward)
  where
    past : List Happening
    past = history p backward

    group : (o a : Bool) → (not o && (not a && not o)) ≡ (not o && not a)
    group true a = refl
    group false true = refl
    group false false = refl

-- deliveries: as many messages were taken as turns are deliveries, and as many sent as turns sent one
sent_is : (run : List Happening) → length (sent run) ≡ messages_in run
sent_is [] = refl
sent_is (x ∷ run) =
    length-append (sent run) (option_to_list x.sent)
    ∙ by_sent x.sent (length (sent run)) (messages_in run) (sent_is run)
    ∙ sym (sum_by-cons (λ (x : Happening). cond (is_some x.sent) 1 0) x run)
  where
    by_sent : (o : Option Message) (a b : ℕ) → a ≡ b → a + length (option_to_list o) ≡ cond (is_some o) 1 0 + b
    by_sent None a b is = omega (arith, is)
    by_sent (Some m) a b is = omega (arith, is)

caused_taken : (now : Moment) (t : Tally) (o : Option Cause) (d : Deed) → (caused now t o d).taken ≡ d.taken
caused_taken now t None d = refl
caused_taken now t (Some cause) d = refl

taken_delivery : (b : Board) (q : List Message) → not (is_empty q) ≡ true → (delivery b q).taken ≡ true
taken_delivery b [] some = cc
taken_delivery b (m ∷ rest) some =
    caused_taken (moment_by b.clock b.dispatcher.watch) (tally_with b (event_of b m))
    (cause_of b.dispatcher.rules (tally_with b (event_of b m)) m)
    (delivered_as b m (answer_to b (starting m) (go_of b.dispatcher.tally m)))

taken_job : (now : ℕ) (d : DispatcherView) (signal : SignalKind) → (job_deed now d signal).taken ≡ false
taken_job now d Tstp = by_pause (is_halted d)
  where
    by_pause : (b : Bool) → (if b
        then nothing_done
        else record (tells now d (RunPaused (job_event d.tally))) { request = Some (Stop d.rounds.count) }).taken
        ≡ false
    by_pause true = refl
    by_pause false = refl
taken_job now d signal = by_pause (is_halted d)
  where
    by_pause : (b : Bool) → (if b
        then record (tells now d (RunContinued (job_event d.tally))) { request = Some Continue }
        else nothing_done).taken
        ≡ false
    by_pause true = refl
    by_pause false = refl

taken_signal : (now live : ℕ) (d : DispatcherView) (signal : SignalKind) (heard : Option Heard)
    → (signal_deed now live d signal heard).taken ≡ false
taken_signal now live d signal (Some Shutdown) = refl
taken_signal now live d signal (Some JobControl) = taken_job now d signal
taken_signal now live d signal (Some Info) = refl
taken_signal now live d signal None = refl

taken_key : (now live : ℕ) (d : DispatcherView) (key : Option InputEvent) → (key_deed now live d key).taken ≡ false
taken_key now live d (Some inputs.Enter) = refl
taken_key now live d (Some inputs.Info) = refl
taken_key now live d None = refl

taken_admission : (o : Option Newcomer) → (admission o).taken ≡ false
taken_admission None = refl
taken_admission (Some new) = refl

taken_answer : (b : Board) (o : Option InfoResponse) → (answered_by b o).taken ≡ false
taken_answer b None = refl
taken_answer b (Some response) = refl

third : (a b c : Bool) → (a && (b && c)) ≡ true → c ≡ true
third true true c is = is
third true false c is = cc
third false b c is = cc

taken_is : (p : Settings) (b : Board) (turn : Turn) → enabled_on p b turn ≡ true
    → (deed_on p b turn).taken ≡ is_delivery turn
taken_is p b Deliver en =
    taken_delivery b b.queue (third (not b.dispatcher.over) (is_main b.dispatcher) (not (is_empty b.queue)) en)
taken_is p b Begin en = begin_cases (λ d. d.taken ≡ false) (λ told after own later. refl) b.clock b.dispatcher
taken_is p b End en = end_cases (λ d. d.taken ≡ false) (λ told after over own later. refl) b.clock b.dispatcher
taken_is p b Admit en = taken_admission (newcomer p (index_of b.dispatcher) b.units)
taken_is p b (Signal signal) en =
    taken_signal b.clock (live_in b.units) b.dispatcher signal (heard_by b.dispatcher.rules.hearing signal)
taken_is p b (Key key) en =
    taken_key b.clock (live_in b.units) b.dispatcher (heard_key b.dispatcher.rules.hearing.input key)
taken_is p b Answer en = taken_answer b (oldest_of b.answers)
taken_is p b turn en = refl

abbrev IsCounted : List Happening → Type 0
IsCounted run = delivered run ≡ deliveries_in run

counted-cons : (x : Happening) (run : List Happening) → x.taken ≡ is_delivery x.turn → IsCounted run
    → IsCounted (x ∷ run)
counted-cons x run is was =
    by_turn (is_delivery x.turn) is (delivered run) (deliveries_in run) was
    ∙ sym (sum_by-cons (λ (x : Happening). cond (is_delivery x.turn) 1 0) x run)
  where
    by_turn : (b : Bool) → x.taken ≡ b → (m n : ℕ) → m ≡ n → m + (if x.taken then 1 else 0) ≡ cond b 1 0 + n
    by_turn true is m n same = rw is (omega (arith, same))
    by_turn false is m n same = rw is (omega (arith, same))

counted_all : (p : Settings) (backward : List Entry) → IsLegalBackward p backward
    → IsCounted (sub_run (history p backward))
counted_all p [] legal = refl
counted_all p (e ∷ before) legal =
    by_run (counted_all p before legal.2) (where_joins p past e (holds p before legal.2) legal.0)
  where
    past : List Happening
    past = history p before

    by_run : IsCounted (sub_run past) → IsOfRun p past e ⊎ IsBeforeRuns p past e
        → IsCounted (sub_run (happening p past e ∷ past))
    by_run was (inl of) = subst IsCounted (sym of.joins)
        (counted-cons (happening p past e) of.base (taken_is p (board p past) e.turn legal.0)
        (from_base IsCounted p past e of refl was))
    by_run was (inr before) = subst IsCounted (sym before.still) refl

left : (n : ℕ) (xs : List Message) → not (is_empty (drop n xs)) ≡ nat_lt n (length xs)
left zero [] = refl
left zero (x ∷ xs) = grind arith
left (suc n) [] = grind arith
left (suc n) (x ∷ xs) = left n xs ∙ grind arith

pub deliveries_free : (p : Settings) (backward : List Entry) → IsLegalBackward p backward
    → enabled p (history p backward) Deliver
    ≡ (is_free (history p backward)
    && nat_lt (deliveries_in (sub_run (history p backward))) (messages_in (sub_run (history p backward))))
deliveries_free p backward legal =
    ap (λ b. not (is_over past) && ((is_on run && is_none (open_round run)) && b))
    (left (delivered run) (sent run)
    ∙ ap (λ n. nat_lt n (length (sent run))) (counted_all p backward legal)
    ∙ ap (λ n. nat_lt (deliveries_in run) n) (sent_is run))
    ∙ free (not (is_over past)) (is_on run) (is_none (open_round run)) (nat_lt (deliveries_in run) (messages_in run))
  where
    past : List Happening
    past = history p backward

    run : List Happening
    run = sub_run past

    free : (a b m f : Bool) → (a && ((b && m) && f)) ≡ (((a && b) && m) && f)
    free true true m f = refl
    free true false m f = refl
    free false b m f = refl

-- the clock
time_is : (past : List Happening) → clock past ≡ time_in past
time_is [] = refl
time_is (x ∷ past) =
    by_sum (clock past) (time_in past) (ns_of x.turn) (time_is past)
    ∙ sym (sum_by-cons (λ (x : Happening). ns_of x.turn) x past)
  where
    by_sum : (a b n : ℕ) → a ≡ b → a + n ≡ n + b
    by_sum a b n is = omega (arith, is)

pub clock_fits : (p : Settings) (past : List Happening) (ns : ℕ) → enabled p past (Clock ns)
    ≡ (not (is_over past) && nat_lt (time_in past + ns) 18446744073709551616)
clock_fits p past ns = ap (λ n. not (is_over past) && nat_lt (n + ns) (2 ^ 64)) (time_is past)
