-- The global timer and the report of a refused event, by the turns of the newest sub-run.
use Rattle.std.proofs.Common.{◌≡◌, ◌⊎◌, add-zero, is_none, inl, inr, ℕ, ◌+◌, List, [], ◌∷◌, nat_lt, cond, Bool, true}
use Rattle.std.proofs.Common.{false}
use Rattle.std.proofs.Common.{not, ◌&&◌, ◌||◌, if◌then◌else◌, Option, None, refl, ap, sym, subst, ◌∙◌}
use Rattle.std.proofs.lemmas.List.Sums.{sum_by-cons}
use Rattle.run_capture.proofs.Facts.{or_false}
use Rattle.run_commands.specs.declared.interceptor.Interceptor.{Interceptor}
use Rattle.run_commands.specs.declared.interceptor.Interceptor.TheVariants as under
use Rattle.run_commands.specs.Interceptor.{disables_timeouts}
use Rattle.run_events.specs.declared.settings.Settings.{Settings}
use Rattle.run_events.specs.declared.signal.Signal.{Signal as SignalKind}
use Rattle.run_events.specs.declared.signal.Signal.TheVariants.{Int, Hup, Term, Quit, Tstp, Cont, Usr1}
use Rattle.run_events.specs.declared.signal.SignalHandlerKind.{SignalHandlerKind}
use Rattle.run_events.specs.declared.signal.SignalHandlerKind.TheVariants as handlers
use Rattle.run_events.specs.Hearing.{heard_signal}
use Rattle.run_events.specs.declared.turn.Turn.{Turn}
use Rattle.run_events.specs.declared.turn.Turn.TheVariants.{Clock, GlobalDue, ReportCancel, Signal, StopWaitDue}
use Rattle.run_model.specs.declared.entry.Entry.{Entry}
use Rattle.run_model.specs.declared.happening.Happening.{Happening}
use Rattle.run_model.specs.Board.{Board, Deed, board}
use Rattle.run_model.specs.Journal.{history, IsLegalBackward}
use Rattle.run_model.specs.Turns.{deed_on, enabled, happening}
use Rattle.run_clock.specs.Sleep.{fires_now}
use Rattle.run_model.specs.Dispatch.{takes_signal}
use Rattle.run_model.specs.Rounds.{global_act, open_round, timer_after}
use Rattle.run_model.specs.Words.{is_by_signal, signals_heard, clock, global_timer, is_by_report, is_by_time}
use Rattle.run_model.specs.Words.{is_on, is_over, ns_of, sub_run, time_limit, was_refused, was_reported}
use Rattle.run_laws.specs.Cancels.{cause_by}
use Rattle.run_laws.proofs.told.CauseLemmas.{cause_is}
use Rattle.run_laws.proofs.board.DeedFits.{Does}
use Rattle.run_laws.proofs.board.Kept.{HoldsAfter, does_after, holds, IsOfRun, IsBeforeRuns, where_joins}
use Rattle.run_laws_cancel.specs.Enabled.{continues, is_free, is_global_due, is_heard_besides, is_report_cancel}
use Rattle.run_laws_cancel.specs.Enabled.{is_shutdown, is_stop_wait_due}
use Rattle.run_laws_cancel.specs.Enabled.{is_stopped, limit_under, reaches, shutdowns_before, shuts_run_down}
use Rattle.run_laws_cancel.specs.Enabled.{time_unstopped, was_any}
use Rattle.run_laws_cancel.proofs.CauseTurns.{report_is, signal_is, time_is}
use Rattle.run_laws_cancel.proofs.RunnerLemmas.{stops_is}
use Rattle.run_laws_cancel.proofs.TimerLemmas.{Counts, IsStill, counts_fires, counts_on, counts_set}
use Rattle.run_laws.proofs.board.OnBoard.{frame_of}
use Rattle.run_laws.proofs.board.Kept.{from_base, some_base}

-- as many causes of a sub-run are signals as turns shut it down, after one more
counts_so : (p : Settings) (x : Happening) (run : List Happening) → is_by_signal x.cause ≡ is_shutdown p x.turn
    → signals_heard run ≡ shutdowns_before p run → signals_heard (x ∷ run) ≡ shutdowns_before p (x ∷ run)
counts_so p x run is was =
    sum_by-cons (λ (x : Happening). cond (is_by_signal x.cause) 1 0) x run
    ∙ ap (λ b. cond b 1 0 + signals_heard run) is ∙ ap (λ n. cond (is_shutdown p x.turn) 1 0 + n) was
    ∙ sym (sum_by-cons (λ (x : Happening). cond (is_shutdown p x.turn) 1 0) x run)

-- no sub-run begins as the global timer is due
begins_apart : (p : Settings) (b : Board) (turn : Turn) → (deed_on p b turn).begins ≡ true → is_global_due turn ≡ false
begins_apart p b GlobalDue begins = cc
begins_apart p b turn begins = refl

-- a sub-run begins with no turn of the clock, nor one that stops the runner
begins_quiet : (p : Settings) (b : Board) (turn : Turn) → (deed_on p b turn).begins ≡ true
    → (ns_of turn ≡ 0) × ((deed_on p b turn).stops ≡ false)
begins_quiet p b (Clock ns) begins = cc
begins_quiet p b StopWaitDue begins = cc
begins_quiet p b turn begins = (refl, stops_is p b turn)

-- and a turn of the clock does nothing but that
clock_still : (p : Settings) (b : Board) (turn : Turn)
    → IsStill (ns_of turn) (deed_on p b turn).stops (deed_on p b turn).told
clock_still p b (Clock ns) = inr (refl, refl)
clock_still p b turn = inl refl

-- the global timer of a sub-run that has begun counts
IsSet : Settings → ℕ → List Happening → Type 0
IsSet p now run =
    Counts (was_any is_global_due run) (time_limit p) now (time_unstopped run) (is_stopped run) (global_timer p run)

record IsTimed (p : Settings) (now : ℕ) (run : List Happening) : Type 0 where
  reported : was_reported run ≡ was_any is_report_cancel run
  heard : signals_heard run ≡ shutdowns_before p run
  set : (run ≡ []) ⊎ IsSet p now run

timed_none : (p : Settings) (now : ℕ) → IsTimed p now []
timed_none p now = record { reported = refl; heard = refl; set = inl refl }

-- after one more turn of the sub-run
record IsNext (p : Settings) (now : ℕ) (run : List Happening) (x : Happening) : Type 0 where
  at : x.moment ≡ now
  time : is_by_time x.cause ≡ is_global_due x.turn
  report : is_by_report x.cause ≡ is_report_cancel x.turn
  signal : is_by_signal x.cause ≡ is_shutdown p x.turn
  first : x.begins ≡ true → run ≡ []
  apart : x.begins ≡ true → is_global_due x.turn ≡ false
  begins : x.begins ≡ true → (ns_of x.turn ≡ 0) × (x.stops ≡ false)
  still : IsStill (ns_of x.turn) x.stops x.told
  stops : x.stops ≡ is_stop_wait_due x.turn
  some : x.begins ≡ false → run ≡ [] → ⊥

set-cons : (p : Settings) (now : ℕ) (run : List Happening) (x : Happening) → IsNext p now run x
    → (run ≡ []) ⊎ IsSet p now run → IsSet p (now + ns_of x.turn) (x ∷ run)
unfolding IsSet
set-cons p now run x h set = by_begin x.begins refl set
  where
    -- one that was due before, or isn't, and this turn is its own or another
    by_due : (own was : Bool) → Counts was (time_limit p) now (time_unstopped run) (is_stopped run) (global_timer p run)
        → Counts (own || was) (time_limit p) (now + ns_of x.turn) (time_unstopped (x ∷ run)) (is_stopped (x ∷ run))
        (if own then None else timer_after now (global_act x.stops x.told) (global_timer p run))
    by_due true was set = refl
    by_due false was set =
        subst (λ stops. Counts was (time_limit p) (now + ns_of x.turn) (time_unstopped (x ∷ run))
        (stops || (not (continues x.told) && is_stopped run))
        (timer_after now (global_act x.stops x.told) (global_timer p run))) h.stops
        (counts_on was (time_limit p) now (time_unstopped run) (ns_of x.turn) (is_stopped run) x.stops x.told
        (global_timer p run) h.still set)

    running : (b : Bool) → (not b && false) ≡ false
    running true = refl
    running false = refl

    by_begin : (b : Bool) → x.begins ≡ b → (run ≡ []) ⊎ IsSet p now run → IsSet p (now + ns_of x.turn) (x ∷ run)
    by_begin true is set =
        let none : run ≡ [] = h.first is in
        let quiet = h.begins is in
        let due : is_global_due x.turn ≡ false = h.apart is in
        rw (none, is, h.at, due, quiet.0, sym h.stops ∙ quiet.1, add-zero now, running (continues x.told))
        (counts_set (time_limit p) now)
    by_begin false is (inl none) = absurd (h.some is none)
    by_begin false is (inr set) =
        rw (is, h.time, h.at) (by_due (is_global_due x.turn) (was_any is_global_due run) set)

timed-cons : (p : Settings) (now : ℕ) (run : List Happening) (x : Happening) → IsNext p now run x → IsTimed p now run
    → IsTimed p (now + ns_of x.turn) (x ∷ run)
timed-cons p now run x h was = record {
  reported = ap (λ b. b || was_reported run) h.report ∙ ap (λ b. is_report_cancel x.turn || b) was.reported;
  heard = counts_so p x run h.signal was.heard;
  set = inr (set-cons p now run x h was.set);
}

-- it fires where its limit is reached
set_fires : (p : Settings) (now : ℕ) (run : List Happening) → IsSet p now run → fires_now now (global_timer p run)
    ≡ (not (is_stopped run) && (reaches (time_limit p) (time_unstopped run) && not (was_any is_global_due run)))
unfolding IsSet
set_fires p now run set =
    counts_fires (was_any is_global_due run) (time_limit p) now (time_unstopped run) (is_stopped run)
    (global_timer p run) set

-- so after each enabled turn, and after every legal journal
timed_after : (p : Settings) (past : List Happening) (e : Entry) → HoldsAfter p past → enabled p past e.turn ≡ true
    → IsTimed p (clock past) (sub_run past)
    → IsTimed p (clock (happening p past e ∷ past)) (sub_run (happening p past e ∷ past))
timed_after p past e h en was = by_run (where_joins p past e h en)
  where
    d : Deed
    d = deed_on p (board p past) e.turn

    cause : d.cause ≡ cause_by p (sub_run past) e.turn d.told
    cause = cause_is p past e.turn

    quiet : d.begins ≡ true → d.cause ≡ None
    quiet is = ((does_after p past e h en).marks.begins is).1.cause

    by_run : IsOfRun p past e ⊎ IsBeforeRuns p past e
        → IsTimed p (clock (happening p past e ∷ past)) (sub_run (happening p past e ∷ past))
    by_run (inl of) = subst (IsTimed p (clock past + ns_of e.turn)) (sym of.joins)
        (timed-cons p (clock past) of.base (happening p past e) (record {
          at = refl;
          time = ap is_by_time cause ∙ time_is p (sub_run past) e.turn d.told;
          report = ap is_by_report cause ∙ report_is p (sub_run past) e.turn d.told;
          signal = ap is_by_signal cause ∙ signal_is p (sub_run past) e.turn d.told;
          first = λ is. (of.does.marks.begins is).0;
          apart = begins_apart p (board p past) e.turn;
          begins = begins_quiet p (board p past) e.turn;
          still = clock_still p (board p past) e.turn;
          stops = stops_is p (board p past) e.turn;
          some = some_base p past e of;
        }) (from_base (IsTimed p (clock past)) p past e of (timed_none p (clock past)) was))
    by_run (inr before) = subst (IsTimed p (clock past + ns_of e.turn)) (sym before.still)
        (timed_none p (clock past + ns_of e.turn))

timed : (p : Settings) (backward : List Entry) → IsLegalBackward p backward
    → IsTimed p (clock (history p backward)) (sub_run (history p backward))
timed p [] legal = timed_none p 0
timed p (e ∷ before) legal =
    timed_after p (history p before) e (holds p before legal.2) legal.0 (timed p before legal.2)

-- the limit is the plan's
limit_is : (p : Settings) → time_limit p ≡ limit_under p.interceptor p.plan.global_timeout
limit_is p = by_kind p.interceptor
  where
    by_kind : (i : Interceptor) → (if disables_timeouts i then None else p.plan.global_timeout)
        ≡ limit_under i p.plan.global_timeout
    by_kind under.None = refl
    by_kind (under.Debugger words) = refl
    by_kind (under.Tracer words) = refl

-- so each turn is enabled as said, where the sub-run is free
free : (a b m f : Bool) → (a && ((b && m) && f)) ≡ (((a && b) && m) && f)
free true true m f = refl
free true false m f = refl
free false b m f = refl

regroup : (a b c d : Bool) → (a && (b && (c && d))) ≡ (a && b && c && d)
regroup true true c d = refl
regroup true false c d = refl
regroup false b c d = refl

pub counted : (p : Settings) (backward : List Entry) → IsLegalBackward p backward
    → enabled p (history p backward) GlobalDue
    ≡ (is_free (history p backward) && not (is_stopped (sub_run (history p backward)))
    && reaches (limit_under p.interceptor p.plan.global_timeout) (time_unstopped (sub_run (history p backward)))
    && not (was_any is_global_due (sub_run (history p backward))))
counted p backward legal = by_set (timed p backward legal).set ∙ regroup (is_free past) _ _ _
  where
    past : List Happening
    past = history p backward

    run : List Happening
    run = sub_run past

    fires : Option ℕ → Bool
    fires limit = not (is_stopped run) && (reaches limit (time_unstopped run) && not (was_any is_global_due run))

    off : (a b m f g : Bool) → b ≡ false → (a && ((b && m) && f)) ≡ (((a && b) && m) && g)
    off true true m f g none = cc
    off true false m f g none = refl
    off false b m f g none = refl

    by_set : (run ≡ []) ⊎ IsSet p (clock past) run
        → (not (is_over past)
        && ((is_on run && is_none (open_round (sub_run past))) && fires_now (clock past) (global_timer p run)))
        ≡ (is_free past && fires (limit_under p.interceptor p.plan.global_timeout))
    by_set (inl none) =
        off (not (is_over past)) (is_on run) (is_none (open_round (sub_run past)))
        (fires_now (clock past) (global_timer p run))
        (fires (limit_under p.interceptor p.plan.global_timeout)) (ap is_on none)
    by_set (inr set) =
        ap (λ b. not (is_over past) && ((is_on run && is_none (open_round (sub_run past))) && b))
        (set_fires p (clock past) run set ∙ ap fires (limit_is p))
        ∙ free (not (is_over past)) (is_on run) (is_none (open_round (sub_run past)))
        (fires (limit_under p.interceptor p.plan.global_timeout))

pub reported : (p : Settings) (backward : List Entry) → IsLegalBackward p backward
    → enabled p (history p backward) ReportCancel
    ≡ (is_free (history p backward) && was_refused (history p backward)
    && not (was_any is_report_cancel (sub_run (history p backward))))
reported p backward legal =
    ap (λ b. not (is_over past) && (is_on run && is_none (open_round (sub_run past)) && was_refused past && not b))
    (timed p backward legal).reported
    ∙ group (not (is_over past)) (is_on run) (is_none (open_round (sub_run past))) (was_refused past)
    (not (was_any is_report_cancel run))
  where
    past : List Happening
    past = history p backward

    run : List Happening
    run = sub_run past

    group : (a b m r n : Bool) → (a && (b && m && r && n)) ≡ (a && b && m && r && n)
    group true b m r n = refl
    group false b m r n = refl

-- and so is a signal
takes_so : (kind : SignalHandlerKind) (info : Bool) (signal : SignalKind) (n : ℕ)
    → takes_signal n (heard_signal kind info signal)
    ≡ ((shuts_run_down kind info signal && nat_lt n 2) || is_heard_besides kind info signal)
takes_so handlers.Standard info Int n = sym (or_false (nat_lt n 2))
takes_so handlers.Standard info Hup n = sym (or_false (nat_lt n 2))
takes_so handlers.Standard info Term n = sym (or_false (nat_lt n 2))
takes_so handlers.Standard true Quit n = refl
takes_so handlers.Standard false Quit n = sym (or_false (nat_lt n 2))
takes_so handlers.Standard info Tstp n = refl
takes_so handlers.Standard info Cont n = refl
takes_so handlers.Standard info Usr1 n = refl
takes_so handlers.DebuggerMode info Int n = refl
takes_so handlers.DebuggerMode info Hup n = sym (or_false (nat_lt n 2))
takes_so handlers.DebuggerMode info Term n = sym (or_false (nat_lt n 2))
takes_so handlers.DebuggerMode info Quit n = refl
takes_so handlers.DebuggerMode info Tstp n = refl
takes_so handlers.DebuggerMode info Cont n = refl
takes_so handlers.DebuggerMode info Usr1 n = refl
takes_so handlers.Noop info signal n = refl

pub heard_twice : (p : Settings) (backward : List Entry) (signal : SignalKind) → IsLegalBackward p backward
    → enabled p (history p backward) (Signal signal)
    ≡ (is_free (history p backward)
    && ((shuts_run_down p.plan.hearing.signals p.plan.hearing.quit_is_info signal
    && nat_lt (shutdowns_before p (sub_run (history p backward))) 2)
    || is_heard_besides p.plan.hearing.signals p.plan.hearing.quit_is_info signal))
heard_twice p backward signal legal =
    ap (λ b. not (is_over past) && ((is_on run && is_none (open_round (sub_run past))) && b))
    (takes_so p.plan.hearing.signals p.plan.hearing.quit_is_info signal (signals_heard run) ∙ ap taken heard)
    ∙ free (not (is_over past)) (is_on run) (is_none (open_round (sub_run past))) (taken (shutdowns_before p run))
  where
    past : List Happening
    past = history p backward

    run : List Happening
    run = sub_run past

    heard : signals_heard run ≡ shutdowns_before p run
    heard = (timed p backward legal).heard

    taken : ℕ → Bool
    taken n = (shuts_run_down p.plan.hearing.signals p.plan.hearing.quit_is_info signal && nat_lt n 2)
        || is_heard_besides p.plan.hearing.signals p.plan.hearing.quit_is_info signal
