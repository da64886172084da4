-- The laws of counted time.
use Rattle.std.proofs.Common.{ℕ, ◌≡◌, ◌+◌, ◌-◌, ◌≤◌, true, false, List, [], ◌∷◌, arith, sym, ap, ◌∙◌}
use Rattle.std.specs.Prelude.{if◌then◌else◌}
use Rattle.run_clock.specs.Counted.{Mark, is_paused, IsInOrder, counted_time, paused_time}
use Rattle.run_clock.specs.Laws.{TimeAddsUp, PassingTimeCounts, SameMomentCountsNothing, IdleMarkCountsNothing}
use Rattle.run_clock.specs.Laws.{IdleMarkNeedsNoCall}

-- no history in order ends before its start
pub begun : (start : ℕ) (past : List Mark) (now : ℕ) → IsInOrder start past now → start ≤ now
begun start [] now order = order
begun start (mark ∷ past) now order =
    let here : mark.moment ≤ now = order.0 in
    let before : start ≤ mark.moment = begun start past mark.moment order.1 in
    omega arith

-- counted and paused time add up
pub time_adds_up : TimeAddsUp
time_adds_up start [] now order = omega arith
time_adds_up start (mark ∷ past) now order =
    let before : counted_time start past mark.moment + paused_time start past mark.moment ≡ mark.moment - start
    = time_adds_up start past mark.moment order.1 in
    let here : mark.moment ≤ now = order.0 in
    let since : start ≤ mark.moment = begun start past mark.moment order.1 in
    elim (is_paused (mark ∷ past)) as (λ p.
    (counted_time start past mark.moment + (if p then 0 else now - mark.moment))
    + (paused_time start past mark.moment + (if p then now - mark.moment else 0)) ≡ now - start)
    [ true ↦ omega arith | false ↦ omega arith ]

-- time that passes counts where no pause is open
pub passing_time_counts : PassingTimeCounts
passing_time_counts start [] now passed order = omega arith
passing_time_counts start (mark ∷ past) now passed order =
    let here : mark.moment ≤ now = order.0 in
    elim (is_paused (mark ∷ past)) as (λ p.
    counted_time start past mark.moment + (if p then 0 else now + passed - mark.moment)
    ≡ counted_time start past mark.moment + (if p then 0 else now - mark.moment) + (if p then 0 else passed))
    [ true ↦ omega arith | false ↦ omega arith ]

-- what is counted at a later moment
pub counted_time-later : (start : ℕ) (past : List Mark) (now later : ℕ) → IsInOrder start past now → now ≤ later
    → counted_time start past later ≡ counted_time start past now + (if is_paused past then 0 else later - now)
counted_time-later start past now later order le =
    let sum : now + (later - now) ≡ later = omega arith in
    rw sum at (passing_time_counts start past now (later - now) order)

-- a mark that changes nothing of the pause counts nothing
pub idle_mark_counts_nothing : IdleMarkCountsNothing
idle_mark_counts_nothing start mark past now same order =
    rw same (sym (counted_time-later start past mark.moment now order.1 order.0))

-- a pause and a resume at one moment count nothing
pub same_moment_counts_nothing : SameMomentCountsNothing
same_moment_counts_nothing = record {
  running = λ start past moment now none order.
      let later : counted_time start past now ≡ counted_time start past moment + (now - moment)
      = rw none at (counted_time-later start past moment now order.1 order.0) in
      omega arith;
  paused = λ start past moment now some order.
      let later : counted_time start past now ≡ counted_time start past moment + 0
      = rw some at (counted_time-later start past moment now order.1 order.0) in
      omega arith;
}

-- a history in order is in order at a later moment
pub later_order : (start : ℕ) (past : List Mark) (now later : ℕ) → IsInOrder start past now → now ≤ later
    → IsInOrder start past later
later_order start [] now later order le = omega arith
later_order start (mark ∷ past) now later order le =
    let here : mark.moment ≤ now = order.0 in
    (omega arith, order.1)

-- a mark that changes nothing of the pause needs no call
pub idle_mark_needs_no_call : IdleMarkNeedsNoCall
idle_mark_needs_no_call = record {
  stopwatch = λ start mark past watch same times. record {
    start_is = times.start_is;
    paused_is = times.paused_is ∙ sym same;
    active_is = λ now order.
        times.active_is now (later_order start past mark.moment now order.1 order.0)
        ∙ sym (idle_mark_counts_nothing start mark past now same order);
  };
  sleep = λ mark timer sleep same keeps. record {
    duration_is = keeps.duration_is;
    paused_is = keeps.paused_is ∙ sym same;
    remaining_is = λ now order.
        keeps.remaining_is now (later_order timer.set timer.past mark.moment now order.1 order.0)
        ∙ ap (λ counted. timer.duration - counted)
        (sym (idle_mark_counts_nothing timer.set mark timer.past now same order));
  };
}
