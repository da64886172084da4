-- The run's stopwatch times its pauses, so its active time is the counted time.
use Rattle.std.proofs.Common.{◌≡◌, ℕ, ◌+◌, List, [], ◌∷◌, refl, arith}
use Rattle.run_clock.specs.Counted.{Act, pause, resume, other, mark_of, IsInOrder}
use Rattle.run_clock.specs.Stopwatch.{Watch, active_by, Times}
use Rattle.run_clock.proofs.CountedLemmas.{idle_mark_needs_no_call}
use Rattle.run_events.specs.declared.settings.Settings.{Settings}
use Rattle.run_model.specs.declared.entry.Entry.{Entry}
use Rattle.run_model.specs.declared.happening.Happening.{Happening}
use Rattle.run_model.specs.Words.{clock, elapsed, ns_of}
use Rattle.run_model.specs.Rounds.{act_of, run_marks, run_watch, watch_after}
use Rattle.run_model.specs.Journal.{history}
use Rattle.run_model.specs.Turns.{happening}
use Rattle.run_model.proofs.PauseLemmas.{IsSoundBy, sound_later, sound_paused, sound_resumed, sound_started}
use Rattle.run_model.proofs.PauseLemmas.{times_paused, times_resumed, times_started}

-- the stopwatch of a run times its pauses by now
record IsRunTimed (past : List Happening) : Type 0 where
  times : Times 0 (run_marks past) (run_watch past)
  order : IsInOrder 0 (run_marks past) (clock past)
  sound : IsSoundBy (run_watch past) (clock past)

-- after one more act at a moment it does
times_after : (act : Act) (past : List Happening) → IsRunTimed past
    → Times 0 (mark_of act (clock past) ∷ run_marks past) (watch_after (clock past) act (run_watch past))
times_after pause past h = times_paused 0 (run_marks past) (run_watch past) (clock past) h.times h.order
times_after resume past h = times_resumed 0 (run_marks past) (run_watch past) (clock past) h.times h.sound h.order
times_after other past h =
    idle_mark_needs_no_call.stopwatch 0 (mark_of other (clock past)) (run_marks past) (run_watch past) refl h.times

sound_after : (act : Act) (watch : Watch) (now : ℕ) → IsSoundBy watch now → IsSoundBy (watch_after now act watch) now
sound_after pause watch now h = sound_paused watch now h
sound_after resume watch now h = sound_resumed watch now h
sound_after other watch now h = h

run_timed : (p : Settings) (backward : List Entry) → IsRunTimed (history p backward)
run_timed p [] = record { times = times_started 0; order = omega arith; sound = sound_started 0 }
run_timed p (e ∷ before) =
    let past : List Happening = history p before in
    let act : Act = act_of (happening p past e).told in
    let h : IsRunTimed past = run_timed p before in
    record {
      times = times_after act past h;
      order = (omega arith, h.order);
      sound = sound_later (watch_after (clock past) act (run_watch past)) (clock past) (clock past + ns_of e.turn)
          (omega arith) (sound_after act (run_watch past) (clock past) h.sound);
    }

-- so its active time is the counted time
pub active_is : (p : Settings) (backward : List Entry)
    → active_by (run_watch (history p backward)) (clock (history p backward)) ≡ elapsed (history p backward)
active_is p backward =
    let h : IsRunTimed (history p backward) = run_timed p backward in
    h.times.active_is (clock (history p backward)) h.order
