-- How long a sub-run of a stress run is told to have taken.
use Rattle.std.proofs.Common.{◌≡◌, ℕ, ◌+◌, ◌-◌, ◌≤◌, ◌&&◌, ◌||◌, not, List, [], ◌∷◌, Bool, true, false, Option, Some}
use Rattle.std.proofs.Common.{None, if◌then◌else◌}
use Rattle.std.proofs.Common.{is_some, unwrap_or, reverse, IfSome, refl, ap, sym, subst, ◌∙◌, arith}
use Rattle.run_laws_cancel.specs.SubRunTime.{SubRunsAreTimed, is_stopped_since, sub_elapsed_told, time_since_end}
use Rattle.run_laws_cancel.proofs.RunnerLemmas.{stops_is}
use Rattle.run_laws_cancel.proofs.RunTurnLemmas.{marked}
use Rattle.run_laws_cancel.proofs.TimerLemmas.{act_is}
use Rattle.run_events.specs.declared.settings.Settings.{Settings}
use Rattle.run_model.specs.declared.entry.Entry.{Entry}
use Rattle.run_model.specs.declared.happening.Happening.{Happening}
use Rattle.run_model.specs.Journal.{past_of, history}
use Rattle.run_model.specs.Turns.{happening, deed_on, ends_as}
use Rattle.run_model.specs.Words.{ns_of, clock}
use Rattle.run_laws_cancel.specs.Enabled.{continues, is_stop_wait_due}
use Rattle.run_laws_cancel.specs.RunTurns.{is_end}
use Rattle.run_clock.specs.Counted.{Act, pause, resume, other, is_paused_after}
use Rattle.run_model.specs.Rounds.{global_act, watch_after}
use Rattle.run_events.specs.declared.turn.Turn.{Turn}
use Rattle.run_events.specs.declared.turn.Turn.TheVariants.{Clock}
use Rattle.run_model.specs.Board.{board, dispatcher_of}
use Rattle.run_clock.specs.Stopwatch.{Watch, started_at, active_by}
use Rattle.run_model.specs.Pauses.{watch_closed}
use Rattle.run_commands.specs.declared.stress_count.StressCondition.{StressCondition}
use Rattle.run_model.specs.SubRuns.{sub_run_watch}

-- a stopwatch at a moment: its pauses lie between its start and then, one is open or not, and it shows this
record Shows (watch : Watch) (now : ℕ) (stopped : Bool) (active : ℕ) : Type 0 where
  from : watch.start + watch.paused ≤ unwrap_or watch.opened now
  until : unwrap_or watch.opened now ≤ now
  paused : is_some watch.opened ≡ stopped
  shown : active_by watch now ≡ active

shows_started : (now : ℕ) → Shows (started_at now) now false 0
shows_started now = record { from = omega arith; until = omega arith; paused = refl; shown = omega arith }

-- after an act, and the time until the next moment
shows_after : (act : Act) (watch : Watch) (now ns active : ℕ) (stopped : Bool) → Shows watch now stopped active
    → Shows (watch_after now act watch) (now + ns) (is_paused_after act stopped)
    (active + (if is_paused_after act stopped then 0 else ns))
shows_after pause watch now ns active stopped h =
    let from : watch.start + watch.paused ≤ unwrap_or watch.opened now = h.from in
    let until : unwrap_or watch.opened now ≤ now = h.until in
    let shown : unwrap_or watch.opened now - watch.start - watch.paused ≡ active = h.shown in
    record { from = from; until = omega arith; paused = refl; shown = omega arith }
shows_after resume watch now ns active stopped h = by_pause watch.opened refl h.from h.until h.shown
  where
    by_pause : (opened : Option ℕ) → watch.opened ≡ opened
        → watch.start + watch.paused ≤ unwrap_or opened now → unwrap_or opened now ≤ now
        → unwrap_or opened now - watch.start - watch.paused ≡ active
        → Shows (watch_closed now opened watch) (now + ns) false (active + ns)
    by_pause None is from until shown = record {
      from = rw is (omega arith);
      until = rw is (omega arith);
      paused = ap is_some is;
      shown = rw is (omega arith);
    }
    by_pause (Some opened) is from until shown =
        record { from = omega arith; until = omega arith; paused = refl; shown = omega arith }
shows_after other watch now ns active stopped h = by_pause watch.opened refl h.paused h.from h.until h.shown
  where
    by_pause : (opened : Option ℕ) → watch.opened ≡ opened → is_some opened ≡ stopped
        → watch.start + watch.paused ≤ unwrap_or opened now → unwrap_or opened now ≤ now
        → unwrap_or opened now - watch.start - watch.paused ≡ active
        → Shows watch (now + ns) stopped (active + (if stopped then 0 else ns))
    by_pause None is paused from until shown = record {
      from = rw is (omega arith);
      until = rw is (omega arith);
      paused = ap is_some is ∙ paused;
      shown = rw (is, sym paused) (omega arith);
    }
    by_pause (Some opened) is paused from until shown = record {
      from = rw is from;
      until = rw is (omega arith);
      paused = ap is_some is ∙ paused;
      shown = rw (is, sym paused) (omega arith);
    }

-- so the stopwatch of a sub-run, after each turn
abbrev IsTimed : List Happening → ℕ → Type 0
IsTimed past now = Shows (sub_run_watch past) now (is_stopped_since past) (time_since_end past)

timed-cons : (x : Happening) (past : List Happening) (now : ℕ) → x.moment ≡ now → x.ends ≡ is_end x.turn
    → x.stops ≡ is_stop_wait_due x.turn → (is_end x.turn ≡ true → ns_of x.turn ≡ 0) → IsTimed past now
    → IsTimed (x ∷ past) (now + ns_of x.turn)
timed-cons x past now at ends stops still was = by_end (is_end x.turn) refl
  where
    act : (x.stops || (not (continues x.told) && is_stopped_since past))
        ≡ (is_stop_wait_due x.turn || (not (continues x.told) && is_stopped_since past))
    act = ap (λ b. b || (not (continues x.told) && is_stopped_since past)) stops

    by_end : (b : Bool) → is_end x.turn ≡ b
        → Shows
        (if x.ends then started_at x.moment else watch_after x.moment (global_act x.stops x.told) (sub_run_watch past))
        (now + ns_of x.turn)
        (not (is_end x.turn) && (is_stop_wait_due x.turn || (not (continues x.told) && is_stopped_since past)))
        (if is_end x.turn then 0
        else time_since_end past
        + (if not (is_end x.turn) && (is_stop_wait_due x.turn || (not (continues x.told) && is_stopped_since past))
        then 0 else ns_of x.turn))
    by_end true is =
        let same : now + ns_of x.turn ≡ now = let none : ns_of x.turn ≡ 0 = still is in omega (arith, none) in
        rw (ends, is, at, same) (shows_started now)
    by_end false is =
        rw (ends, is, at, sym act, sym (act_is x.stops x.told (is_stopped_since past)))
        (shows_after (global_act x.stops x.told) (sub_run_watch past) now (ns_of x.turn) (time_since_end past)
        (is_stopped_since past) was)

end_still : (turn : Turn) → is_end turn ≡ true → ns_of turn ≡ 0
end_still (Clock ns) is = cc
end_still turn is = refl

timed : (p : Settings) (backward : List Entry) → IsTimed (history p backward) (clock (history p backward))
timed p [] = shows_started 0
timed p (e ∷ before) =
    timed-cons (happening p (history p before) e) (history p before) (clock (history p before)) refl
    (marked p (board p (history p before)) e.turn).ends (stops_is p (board p (history p before)) e.turn)
    (end_still e.turn) (timed p before)

pub sub_timed : SubRunsAreTimed
sub_timed p journal e legal is =
    subst (λ turn. IfSome (sub_elapsed_told (deed_on p (board p past) turn).told) (λ time. time ≡ time_since_end past))
    (sym is) (by_stress p.stress)
  where
    past : List Happening
    past = past_of p journal

    by_stress : (o : Option StressCondition)
        → IfSome (sub_elapsed_told (ends_as (clock past) (dispatcher_of p past) o).told)
        (λ time. time ≡ time_since_end past)
    by_stress None = tt
    by_stress (Some condition) = (timed p (reverse journal)).shown
