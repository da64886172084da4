-- The run's stopwatch shows how far the turns moved the clock while the run wasn't paused.
use Rattle.std.proofs.Common.{◌≡◌, ℕ, ◌+◌, ◌-◌, ◌≤◌, List, [], ◌∷◌, Bool, true, false, if◌then◌else◌, Option, Some}
use Rattle.std.proofs.Common.{None, is_some, unwrap_or, refl, ap, sym, ◌∙◌, arith}
use Rattle.run_clock.specs.Counted.{Act, pause, resume, other, counted_time, is_paused_after}
use Rattle.run_clock.specs.Stopwatch.{Watch, active_by}
use Rattle.run_events.specs.declared.settings.Settings.{Settings}
use Rattle.run_model.specs.declared.entry.Entry.{Entry}
use Rattle.run_model.specs.declared.happening.Happening.{Happening}
use Rattle.run_model.specs.Journal.{history}
use Rattle.run_model.specs.Rounds.{act_of, run_marks, run_watch, watch_after}
use Rattle.run_model.specs.Turns.{happening}
use Rattle.run_model.specs.Words.{clock, elapsed, is_run_paused, ns_of}
use Rattle.run_laws_rounds.specs.Elapsed.{HasActiveTime, unpaused}
use Rattle.run_model.specs.Pauses.{watch_closed}

-- a stopwatch at a moment: its pauses lie between its start and then, one is open or not, and it shows this
record Shows (watch : Watch) (now : ℕ) (stopped : Bool) (active : ℕ) : Type 0 where
  from : watch.start + watch.paused ≤ unwrap_or watch.opened now
  until : unwrap_or watch.opened now ≤ now
  paused : is_some watch.opened ≡ stopped
  shown : active_by watch now ≡ active

-- after an act, and the time until the next moment
shows_after : (act : Act) (watch : Watch) (now ns active : ℕ) (stopped : Bool) → Shows watch now stopped active
    → Shows (watch_after now act watch) (now + ns) (is_paused_after act stopped)
    (active + (if is_paused_after act stopped then 0 else ns))
shows_after pause watch now ns active stopped h =
    let from : watch.start + watch.paused ≤ unwrap_or watch.opened now = h.from in
    let until : unwrap_or watch.opened now ≤ now = h.until in
    let shown : unwrap_or watch.opened now - watch.start - watch.paused ≡ active = h.shown in
    record { from = from; until = omega arith; paused = refl; shown = omega arith }
shows_after resume watch now ns active stopped h = by_pause watch.opened refl h.from h.until h.shown
  where
    by_pause : (opened : Option ℕ) → watch.opened ≡ opened
        → watch.start + watch.paused ≤ unwrap_or opened now → unwrap_or opened now ≤ now
        → unwrap_or opened now - watch.start - watch.paused ≡ active
        → Shows (watch_closed now opened watch) (now + ns) false (active + ns)
    by_pause None is from until shown = record {
      from = rw is (omega arith);
      until = rw is (omega arith);
      paused = ap is_some is;
      shown = rw is (omega arith);
    }
    by_pause (Some opened) is from until shown =
        record { from = omega arith; until = omega arith; paused = refl; shown = omega arith }
shows_after other watch now ns active stopped h = by_pause watch.opened refl h.paused h.from h.until h.shown
  where
    by_pause : (opened : Option ℕ) → watch.opened ≡ opened → is_some opened ≡ stopped
        → watch.start + watch.paused ≤ unwrap_or opened now → unwrap_or opened now ≤ now
        → unwrap_or opened now - watch.start - watch.paused ≡ active
        → Shows watch (now + ns) stopped (active + (if stopped then 0 else ns))
    by_pause None is paused from until shown = record {
      from = rw is (omega arith);
      until = rw is (omega arith);
      paused = ap is_some is ∙ paused;
      shown = rw (is, sym paused) (omega arith);
    }
    by_pause (Some opened) is paused from until shown = record {
      from = rw is from;
      until = rw is (omega arith);
      paused = ap is_some is ∙ paused;
      shown = rw (is, sym paused) (omega arith);
    }

watched : (p : Settings) (backward : List Entry)
    → Shows (run_watch (history p backward)) (clock (history p backward)) (is_run_paused (history p backward))
    (unpaused (history p backward))
watched p [] = record { from = omega arith; until = omega arith; paused = refl; shown = refl }
watched p (e ∷ before) =
    shows_after (act_of x.told) (run_watch past) (clock past) (ns_of x.turn) (unpaused past) (is_run_paused past)
    (watched p before)
  where
    past : List Happening
    past = history p before

    x : Happening
    x = happening p past e

-- the counted time is that sum too
counted : (p : Settings) (backward : List Entry) → elapsed (history p backward) ≡ unpaused (history p backward)
counted p [] = refl
counted p (e ∷ before) = by_pause (is_run_paused (history p (e ∷ before))) (counted p before)
  where
    past : List Happening
    past = history p before

    ns : ℕ
    ns = ns_of (happening p past e).turn

    by_pause : (b : Bool) → elapsed past ≡ unpaused past
        → counted_time 0 (run_marks past) (clock past) + (if b then 0 else clock past + ns - clock past)
        ≡ unpaused past + (if b then 0 else ns)
    by_pause true same = ap (λ n. n + 0) same
    by_pause false same = omega arith

pub timed : (p : Settings) (backward : List Entry) → HasActiveTime p (history p backward)
timed p backward = record {
  elapsed = counted p backward;
  shown = (watched p backward).shown;
  paused = (watched p backward).paused;
}
