-- A unit after its attempt: it decides what comes, waits for the delay before the next, or is left.
use Rattle.std.proofs.Common.{◌≡◌, ℕ, ◌+◌, ◌-◌, ◌≤◌, List, [], ◌∷◌, ◌++◌, length, Bool, true, false, not, ◌&&◌}
use Rattle.std.proofs.Common.{if◌then◌else◌, Some, None, unwrap_or, nat_le, refl, ap, sym, subst, ◌∙◌, arith}
use Rattle.std.specs.Option.{option_or}
use Rattle.run_clock.specs.Counted.{Mark, Timer, pause, resume, mark_of, marked}
use Rattle.run_clock.specs.Sleep.{set_at}
use Rattle.run_events.specs.Result.{is_success}
use Rattle.run_events.specs.declared.request.Request.TheVariants.{Stop, Continue}
use Rattle.run_events.specs.declared.result.ExecuteStatus.{ExecuteStatus}
use Rattle.run_events.specs.declared.retry_policy.RetryPolicy.{RetryPolicy}
use Rattle.run_model.specs.declared.phase.Phase.TheVariants.{Delay, RetrySent, Over}
use Rattle.run_model.specs.declared.unit_turn.UnitTurn.TheVariants.{Answered, Take, Decide}
use Rattle.run_model.specs.declared.unit_view.Timers.{Timers}
use Rattle.run_model.specs.declared.unit_view.UnitView.{UnitView}
use Rattle.run_model.specs.Pauses.{all_paused, all_resumed}
use Rattle.run_model.specs.Backoff.{retry_count, delay_by}
use Rattle.run_model.specs.Ending.{last_status}
use Rattle.run_model.specs.Retries.{has_passed, has_retry, next_delay, delayed, decided, decide_row, retried, left}
use Rattle.run_model.specs.Story.{OwnTurn, Attempt, cut, decides, first_said}
use Rattle.run_model.specs.Timing.{pause_at, pauses_in}
use Rattle.run_model.specs.Attempts.{moment_if, word_in, drawn_word, decided_at, delay_after, ended_statuses, start_of}
use Rattle.run_model.specs.Attempts.{is_retried, ends_delay, delay_timer}
use Rattle.run_laws.proofs.units.CaptureLemmas.{taken}
use Rattle.run_laws.proofs.units.TimerLemmas.{KeepsSome, IsSetBy, keeps_stop, keeps_continue, set_by_marked}
use Rattle.run_model.proofs.PauseLemmas.{keeps_set}
use Rattle.run_laws.proofs.units.WatchLemmas.{resumed_start}
use Rattle.run_laws.proofs.units.PieceLemmas.{quiet_said}
use Rattle.run_laws.proofs.units.GoingLemmas.{IsPast, next_status, ended_statuses-past}
use Rattle.run_laws.proofs.units.MadeLemmas.{IsDelayed, IsAwaited, IsMade}
use Rattle.run_laws.proofs.units.RowLemmas.{made_at}
use Rattle.run_laws.proofs.units.AccountRows.{last-append}

-- whether it is tried again is what its last attempt says
pub retry_as : (u : UnitView) (piece : List OwnTurn) (earlier : List Attempt) → u.attempt ≡ length earlier + 1
    → IsPast u.terms u piece earlier → has_retry u ≡ is_retried u.terms (length earlier + 1) piece
retry_as u piece earlier a (ends, ss) =
    ap (λ o. not (has_passed o) && nat_le u.attempt (retry_count u.terms.retries))
    (ap last_status (ss ∙ ended_statuses-past u.terms piece earlier ends)
    ∙ last-append (ended_statuses u.terms earlier) (next_status u.terms piece earlier))
    ∙ ap (λ n. not (is_success (next_status u.terms piece earlier).result) && nat_le n (retry_count u.terms.retries)) a

-- it decides what comes after its attempt
pub decide_made : (now word : ℕ) (u : UnitView) (piece : List OwnTurn) (earlier : List Attempt)
    → now ≤ u.latest → u.attempt ≡ length earlier + 1 → u.timers.stopwatch.start ≡ start_of piece
    → IsPast u.terms u piece earlier
    → IsMade u.terms (decide_row now word u).next (cut piece (taken now (Decide word) None ∷ []) ∷ earlier)
decide_made now word u piece earlier le a start past = by_retry (has_retry u) (sym (retry_as u piece earlier a past))
  where
    d : OwnTurn
    d = taken now (Decide word) None

    before : u.attempt - 1 ≡ length earlier
    before = omega arith

    delay : next_delay word u ≡ delay_after u.terms.retries (cut piece (d ∷ []) ∷ earlier)
    delay = ap (λ n. delay_by u.terms.retries n word) before

    by_retry : (b : Bool) → is_retried u.terms (length earlier + 1) piece ≡ b
        → IsMade u.terms (if b then delayed now (next_delay word u) u else decided u).next
        (cut piece (d ∷ []) ∷ earlier)
    by_retry true e =
        made_at (delayed now (next_delay word u) u).next Delay (cut piece (d ∷ [])) earlier refl a start (
          (past, e, delay),
          refl,
          subst (λ n. KeepsSome (Some (record { set = now; duration = n; past = [] }))
              (Some (set_at now (next_delay word u))))
              delay (set_at now (next_delay word u), (refl, keeps_set now (next_delay word u))),
          le,
        )
    by_retry false e =
        made_at (decided u).next Over (cut piece (d ∷ [])) earlier refl a start (past, rw e refl)

-- a turn after that decides nothing
word_kept : (t : OwnTurn) (after : List OwnTurn) → word_in t.turn ≡ None → drawn_word (t ∷ after) ≡ drawn_word after
word_kept t after none =
    ap (λ o. unwrap_or (option_or (first_said (λ t. word_in t.turn) after) o) 0) none
    ∙ ap (λ o. unwrap_or o 0) (quiet_said (first_said (λ t. word_in t.turn) after))

pub decided_kept : (t : OwnTurn) (after : List OwnTurn) → decides t.turn ≡ false → decided_at (t ∷ after) ≡
    decided_at after
decided_kept t after none =
    ap (λ b. unwrap_or (option_or (first_said (moment_if decides) after) (if b then Some t.moment else None)) 0) none
    ∙ ap (λ o. unwrap_or o 0) (quiet_said (first_said (moment_if decides) after))

pub delay_kept : (retries : RetryPolicy) (t : OwnTurn) (piece after : List OwnTurn) (earlier : List Attempt)
    → word_in t.turn ≡ None
    → delay_after retries (cut piece (t ∷ after) ∷ earlier) ≡ delay_after retries (cut piece after ∷ earlier)
delay_kept retries t piece after earlier none =
    ap (λ word. delay_by retries (length earlier) word) (word_kept t after none)

-- its delay is over with such a turn
pub retried_made : (t : OwnTurn) (u : UnitView) (piece : List OwnTurn) (d : OwnTurn) (after : List OwnTurn)
    (earlier : List Attempt)
    → u.attempt ≡ length earlier + 1 → u.timers.stopwatch.start ≡ start_of piece
    → IsDelayed u.terms u piece (d ∷ after) earlier → word_in t.turn ≡ None → ends_delay t ≡ true
    → IsMade u.terms (retried u).next (cut piece (t ∷ d ∷ after) ∷ earlier)
retried_made t u piece d after earlier a start ((past, again, delay), not_over, wait, set) none ends =
    made_at (retried u).next RetrySent (cut piece (t ∷ d ∷ after)) earlier refl a start
    ((past, again, delay ∙ sym (delay_kept u.terms.retries t piece (d ∷ after) earlier none)), rw ends refl)

-- the timer of a delay after one more turn, by what that marks
pub delay_marked : (retries : RetryPolicy) (t : OwnTurn) (piece : List OwnTurn) (d : OwnTurn) (after : List OwnTurn)
    (earlier : List Attempt) (marks : List Mark) → word_in t.turn ≡ None → decides t.turn ≡ false
    → pause_at t.moment t.request ≡ marks
    → delay_timer retries (t ∷ d ∷ after) (cut piece (t ∷ d ∷ after) ∷ earlier)
    ≡ record (delay_timer retries (d ∷ after) (cut piece (d ∷ after) ∷ earlier))
    { past = marks ++ pauses_in (d ∷ after) }
delay_marked retries t piece d after earlier marks none quiet is =
    ap (λ m. record {
      set = m;
      duration = delay_after retries (cut piece (t ∷ d ∷ after) ∷ earlier);
      past = pauses_in (t ∷ d ∷ after);
    }) (decided_kept t (d ∷ after) quiet)
    ∙ ap (λ n. record {
      set = decided_at (d ∷ after);
      duration = n;
      past = pauses_in (t ∷ d ∷ after);
    }) (delay_kept retries t piece (d ∷ after) earlier none)
    ∙ ap (λ marks. record {
      set = decided_at (d ∷ after);
      duration = delay_after retries (cut piece (d ∷ after) ∷ earlier);
      past = marks ++ pauses_in (d ∷ after);
    }) is

-- it goes on with these timers, which keep that
delay_made : (t : OwnTurn) (u : UnitView) (timers : Timers) (piece : List OwnTurn) (d : OwnTurn) (after : List OwnTurn)
    (earlier : List Attempt) (marks : List Mark)
    → u.phase ≡ Delay → u.attempt ≡ length earlier + 1 → timers.stopwatch.start ≡ start_of piece
    → IsDelayed u.terms u piece (d ∷ after) earlier → word_in t.turn ≡ None → decides t.turn ≡ false
    → ends_delay t ≡ false → pause_at t.moment t.request ≡ marks
    → KeepsSome (Some (record (delay_timer u.terms.retries (d ∷ after) (cut piece (d ∷ after) ∷ earlier)) {
      past = marks ++ pauses_in (d ∷ after);
    })) timers.wait
    → IsSetBy u.latest (Some (record (delay_timer u.terms.retries (d ∷ after) (cut piece (d ∷ after) ∷ earlier)) {
      past = marks ++ pauses_in (d ∷ after);
    }))
    → IsMade u.terms (record u { timers = timers }) (cut piece (t ∷ d ∷ after) ∷ earlier)
delay_made t u timers piece d after earlier marks is a start
    ((past, again, delay), not_over, wait, set) none quiet goes marked
    keeps by =
    made_at (record u { timers = timers }) Delay (cut piece (t ∷ d ∷ after)) earlier is a start (
      (past, again, delay ∙ sym (delay_kept u.terms.retries t piece (d ∷ after) earlier none)),
      rw goes not_over,
      subst (λ timer. KeepsSome (Some timer) timers.wait)
          (sym (delay_marked u.terms.retries t piece d after earlier marks none quiet marked)) keeps,
      subst (λ timer. IsSetBy u.latest (Some timer))
          (sym (delay_marked u.terms.retries t piece d after earlier marks none quiet marked)) by,
    )

-- or passes on
pub waiting_made : (t : OwnTurn) (u : UnitView) (piece : List OwnTurn) (d : OwnTurn) (after : List OwnTurn)
    (earlier : List Attempt)
    → u.phase ≡ Delay → u.attempt ≡ length earlier + 1 → u.timers.stopwatch.start ≡ start_of piece
    → IsDelayed u.terms u piece (d ∷ after) earlier → word_in t.turn ≡ None → decides t.turn ≡ false
    → ends_delay t ≡ false → pause_at t.moment t.request ≡ [] → IsMade u.terms u (cut piece (t ∷ d ∷ after) ∷ earlier)
waiting_made t u piece d after earlier is a start (again, not_over, wait, set) none quiet goes goes_on =
    delay_made t u u.timers piece d after earlier [] is a start (again, not_over, wait, set) none
    quiet goes goes_on wait set

-- or is paused, or resumed
pub delay_stopped : (now round : ℕ) (u : UnitView) (piece : List OwnTurn) (d : OwnTurn) (after : List OwnTurn)
    (earlier : List Attempt)
    → u.phase ≡ Delay → u.latest ≡ now → u.attempt ≡ length earlier + 1 → u.timers.stopwatch.start ≡ start_of piece
    → IsDelayed u.terms u piece (d ∷ after) earlier
    → IsMade u.terms (record u { timers = all_paused now u.timers })
    (cut piece (taken now Take (Some (Stop round)) ∷ d ∷ after) ∷ earlier)
delay_stopped now round u piece d after earlier is latest a start (again, not_over, wait, set) =
    let timer : Timer = delay_timer u.terms.retries (d ∷ after) (cut piece (d ∷ after) ∷ earlier) in
    let by : IsSetBy now (Some timer) = subst (λ later. IsSetBy later (Some timer)) latest set in
    delay_made (taken now Take (Some (Stop round))) u (all_paused now u.timers) piece d after earlier
    (mark_of pause now ∷ [])
    is a start (again, not_over, wait, set) refl refl refl refl
    (keeps_stop now (Some timer) u.timers.wait by wait)
    (subst (λ later. IsSetBy later (Some (marked pause now timer))) (sym latest)
    (set_by_marked now pause (Some timer) by))

pub delay_continued : (now : ℕ) (u : UnitView) (piece : List OwnTurn) (d : OwnTurn) (after : List OwnTurn)
    (earlier : List Attempt)
    → u.phase ≡ Delay → u.latest ≡ now → u.attempt ≡ length earlier + 1 → u.timers.stopwatch.start ≡ start_of piece
    → IsDelayed u.terms u piece (d ∷ after) earlier
    → IsMade u.terms (record u { timers = all_resumed now u.timers })
    (cut piece (taken now Take (Some Continue) ∷ d ∷ after) ∷ earlier)
delay_continued now u piece d after earlier is latest a start (again, not_over, wait, set) =
    let timer : Timer = delay_timer u.terms.retries (d ∷ after) (cut piece (d ∷ after) ∷ earlier) in
    let by : IsSetBy now (Some timer) = subst (λ later. IsSetBy later (Some timer)) latest set in
    delay_made (taken now Take (Some Continue)) u (all_resumed now u.timers) piece d after earlier
    (mark_of resume now ∷ [])
    is a (resumed_start u.timers.stopwatch now ∙ start) (again, not_over, wait, set) refl refl refl refl
    (keeps_continue now (Some timer) u.timers.wait by wait)
    (subst (λ later. IsSetBy later (Some (marked resume now timer))) (sym latest)
    (set_by_marked now resume (Some timer) by))

-- it is left, and not let go for its next attempt
pub left_made : (now : ℕ) (u : UnitView) (piece : List OwnTurn) (d : OwnTurn) (after : List OwnTurn)
    (earlier : List Attempt)
    → u.attempt ≡ length earlier + 1 → u.timers.stopwatch.start ≡ start_of piece
    → IsAwaited u.terms u piece (d ∷ after) earlier
    → IsMade u.terms (left u).next (cut piece (taken now (Answered false) None ∷ d ∷ after) ∷ earlier)
left_made now u piece d after earlier a start ((past, again, delay), over) =
    made_at (left u).next Over (cut piece (taken now (Answered false) None ∷ d ∷ after)) earlier refl a start
    (past, rw (again, over) refl)
