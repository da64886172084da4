-- A unit at the attempt that its pieces say, after a row of a timer that is due.
use Rattle.std.proofs.Common.{◌≡◌, ℕ, ◌+◌, ◌==◌, ◌≤◌, List, [], ◌∷◌, length, Bool, true, false, ◌||◌, if◌then◌else◌}
use Rattle.std.proofs.Common.{None, refl, ap, subst, ◌∙◌}
use Rattle.run_capture.specs.Captured.{is_done}
use Rattle.run_model.specs.declared.phase.Phase.{Phase}
use Rattle.run_model.specs.declared.phase.Phase.TheVariants.{Running, Grace, KillWait, Leak}
use Rattle.run_model.specs.declared.unit_turn.UnitTurn.TheVariants.{Due}
use Rattle.run_model.specs.declared.unit_view.UnitView.{UnitView}
use Rattle.run_model.specs.Slow.{one_more, is_out_of_time}
use Rattle.run_clock.specs.Sleep.{fires_now}
use Rattle.run_model.specs.Ending.{exited}
use Rattle.run_model.specs.Requests.{killed}
use Rattle.run_model.specs.Unit.{slow_row, slow_again, in_grace, out_of_time}
use Rattle.run_model.specs.Story.{OwnTurn, Attempt, cut, any_is}
use Rattle.run_model.specs.Timing.{ends_wait, starts_child, slow_count, pause_at}
use Rattle.run_model.specs.Attempts.{env_in, start_of}
use Rattle.run_laws.proofs.units.CaptureLemmas.{taken}
use Rattle.run_laws.proofs.units.StandingLemmas.{count_kept, count_killed, count_slow}
use Rattle.run_laws.proofs.units.TimerLemmas.{HasTimer, ends_time, timer_killed}
use Rattle.run_laws.proofs.units.SlowLemmas.{IsSlow, in_time, timer_again, timer_grace, timer_kill_wait}
use Rattle.run_laws.proofs.units.WatchLemmas.{IsTimed, timed_still}
use Rattle.run_laws.proofs.units.PieceLemmas.{IsAt, at_due}
use Rattle.run_laws.proofs.units.GoingLemmas.{IsGoing, going_more}
use Rattle.run_laws.proofs.units.MadeLemmas.{GoesOn, IsMade}
use Rattle.run_laws.proofs.units.RowLemmas.{made_more, began, exited_made}

-- the wait for its streams is over
pub leaked_made : (now : ℕ) (u : UnitView) (piece : List OwnTurn) (earlier : List Attempt)
    → u.latest ≡ now → u.attempt ≡ length earlier + 1 → GoesOn u.terms Leak true u.exit u piece earlier
    → IsMade u.terms (exited now u.exit true u.capture u) (cut (taken now Due None ∷ piece) [] ∷ earlier)
leaked_made now u piece earlier latest a (on, ss) =
    exited_made now u.exit true u.capture Due u piece earlier it on.not_ended refl
    (leaks u.terms.skips_leak_detection (is_done u.capture)) latest
    (subst (λ later. IsTimed u.terms u.timers.stopwatch later piece) latest on.watch) a ss
  where
    leaks : (skips done : Bool) → (skips || done || true) ≡ true
    leaks true done = refl
    leaks false true = refl
    leaks false false = refl

    count : slow_count u.terms.slow (taken now Due None ∷ piece) ≡ u.timers.slow_count
    count = count_kept u.terms.slow (taken now Due None) piece on.is_at.wait_over ∙ on.is_at.counted

    it : IsAt u.terms u.timers.stopwatch.start true u.exit true u.timers.slow_count u.capture
        (taken now Due None ∷ piece)
    it =
        at_due u.terms u.timers.stopwatch.start true u.exit u.timers.slow_count u.timers.slow_count u.capture now piece
        on.is_at count

-- its time to end by itself is over, by this turn
pub killed_made : (t : OwnTurn) (u : UnitView) (piece : List OwnTurn) (earlier : List Attempt)
    → u.attempt ≡ length earlier + 1 → GoesOn u.terms Grace false None u piece earlier
    → ends_wait t.turn ≡ false → env_in t.turn ≡ None → starts_child t.turn ≡ false → pause_at t.moment t.request ≡ []
    → ends_time u.terms.slow t ≡ true
    → IsAt u.terms u.timers.stopwatch.start false None false u.timers.slow_count u.capture (t ∷ piece)
    → IsMade u.terms (killed u).next (cut (t ∷ piece) [] ∷ earlier)
killed_made t u piece earlier a (on, ss) ends quiet starts goes_on over it =
    made_more (killed u).next Running t piece earlier refl a
    (began u.terms u.timers.stopwatch.start false None false u.timers.slow_count u.capture (t ∷ piece) it) (
      going_more u.terms Running false None (killed u).next t piece it on.not_ended quiet refl
          (λ still. timed_still u.terms u.timers.stopwatch u.latest t piece still goes_on on.watch) on.pauses
          (timer_killed u.terms u.timers (killed u).next.timers u.latest t piece refl
          on.is_at.wait_over on.timer.stage ends
          starts goes_on over),
      ss,
    )

-- since its timer was due
pub killed_due : (now : ℕ) (u : UnitView) (piece : List OwnTurn) (earlier : List Attempt)
    → u.attempt ≡ length earlier + 1 → GoesOn u.terms Grace false None u piece earlier
    → IsMade u.terms (killed u).next (cut (taken now Due None ∷ piece) [] ∷ earlier)
killed_due now u piece earlier a (on, ss) =
    killed_made (taken now Due None) u piece earlier a (on, ss) refl refl refl refl refl
    (at_due u.terms u.timers.stopwatch.start false None u.timers.slow_count u.timers.slow_count
    u.capture now piece on.is_at
    (count_killed u.terms.slow (taken now Due None) piece on.timer.stage.1 ∙ on.is_at.counted))

-- it is slow
pub slow_made : (now : ℕ) (u : UnitView) (piece : List OwnTurn) (earlier : List Attempt)
    → u.phase ≡ Running → now ≤ u.latest → fires_now now u.timers.slow ≡ true → u.attempt ≡ length earlier + 1
    → GoesOn u.terms Running false None u piece earlier
    → IsMade u.terms (slow_row now (one_more u.timers.slow_count) u).next
    (cut (taken now Due None ∷ piece) [] ∷ earlier)
slow_made now u piece earlier ph le due a (on, ss) =
    by_out (is_out_of_time u.terms.slow n) (u.terms.slow.grace == 0) refl refl
  where
    n : ℕ
    n = one_more u.timers.slow_count

    t : OwnTurn
    t = taken now Due None

    waited : any_is ends_wait piece ≡ false
    waited = on.is_at.wait_over

    is : IsSlow u.terms piece
    is = record {
      waited = waited;
      child = on.timer.stage.0;
      grace = on.timer.stage.1;
      in_time = in_time u.terms u.timers now u.latest piece waited on.timer due;
    }

    it : IsAt u.terms u.timers.stopwatch.start false None false n u.capture (t ∷ piece)
    it =
        at_due u.terms u.timers.stopwatch.start false None u.timers.slow_count n u.capture now piece on.is_at
        (count_slow u.terms.slow now piece waited is.grace is.in_time ∙ ap one_more on.is_at.counted)

    start : u.timers.stopwatch.start ≡ start_of (t ∷ piece)
    start = began u.terms u.timers.stopwatch.start false None false n u.capture (t ∷ piece) it

    next : (b : Bool) → is_out_of_time u.terms.slow n ≡ b
        → is_out_of_time u.terms.slow (one_more (slow_count u.terms.slow piece)) ≡ b
    next b e = ap (λ k. is_out_of_time u.terms.slow (one_more k)) on.is_at.counted ∙ e

    goes : (ph : Phase) (v : UnitView) → v.timers.stopwatch ≡ u.timers.stopwatch → v.timers.slow_count ≡ n
        → v.capture ≡ u.capture → v.latest ≡ u.latest → HasTimer u.terms ph v.timers v.latest (t ∷ piece)
        → IsGoing u.terms ph false None v (t ∷ piece)
    goes ph v watch count capture latest timer =
        going_more u.terms ph false None v t piece (rw (watch, count, capture) it) on.not_ended refl refl
        (λ still. rw (watch, latest) (timed_still u.terms u.timers.stopwatch u.latest t piece still
        refl on.watch)) on.pauses
        timer

    by_out : (o g : Bool) → is_out_of_time u.terms.slow n ≡ o → (u.terms.slow.grace == 0) ≡ g
        → IsMade u.terms (if o then (if g then out_of_time n u else in_grace now n u) else slow_again now n u).next
        (cut (t ∷ piece) [] ∷ earlier)
    by_out true true e g =
        made_more (out_of_time n u).next KillWait t piece earlier refl a start (
          goes KillWait (out_of_time n u).next refl refl refl refl
              (timer_kill_wait u.terms (out_of_time n u).next.timers now u.latest piece is (next true e) g),
          ss,
        )
    by_out true false e g =
        made_more (in_grace now n u).next Grace t piece earlier refl a start (
          goes Grace (in_grace now n u).next refl refl refl refl
              (timer_grace u.terms (in_grace now n u).next.timers now u.latest piece le refl refl is
              (next true e) g),
          ss,
        )
    by_out false g e eg =
        made_more (slow_again now n u).next Running t piece earlier ph a start (
          goes Running (slow_again now n u).next refl refl refl refl
              (timer_again u.terms (slow_again now n u).next.timers now u.latest piece le refl is (next false e)),
          ss,
        )
