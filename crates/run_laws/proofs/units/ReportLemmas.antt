-- The signals and slow reports of a unit's own turn.
use Rattle.std.proofs.Common.{◌≡◌, ℕ, ◌+◌, ◌≤◌, ◌==◌, List, [], ◌∷◌, length, Bool, true, false, if◌then◌else◌, None}
use Rattle.std.proofs.Common.{option_to_list, refl, ap, sym, subst, ◌∙◌, arith}
use Rattle.run_model.specs.declared.phase.Phase.{Phase}
use Rattle.run_model.specs.declared.phase.Phase.TheVariants.{StartSent, Starting, Running, Grace, KillWait, Leak}
use Rattle.run_model.specs.declared.phase.Phase.TheVariants.{EnvWait, Deciding, Delay, RetrySent}
use Rattle.run_model.specs.declared.unit_turn.UnitTurn.{UnitTurn}
use Rattle.run_model.specs.declared.unit_turn.UnitTurn.TheVariants.{Answered, Started, StartFailed, Exit, WaitFailed}
use Rattle.run_model.specs.declared.unit_turn.UnitTurn.TheVariants.{Piece, StreamEnd, ReadError, Env, Due, Take, Decide}
use Rattle.run_model.specs.declared.unit_view.AttemptTerms.{AttemptTerms}
use Rattle.run_model.specs.declared.unit_view.ScriptRole.{ScriptRole}
use Rattle.run_model.specs.declared.unit_view.UnitRole.{UnitRole}
use Rattle.run_model.specs.declared.unit_view.UnitRole.TheVariants as roles
use Rattle.run_model.specs.declared.unit_view.UnitView.{UnitView}
use Rattle.run_model.specs.Environment.{number_of, number, start_ask}
use Rattle.run_model.specs.Slow.{one_more, is_out_of_time, slow_time}
use Rattle.run_model.specs.Ending.{last_status}
use Rattle.run_model.specs.Retries.{next_delay, has_retry, delayed, decided, decide_row, retried, left}
use Rattle.run_model.specs.Unit.{at_moment, row, row_at, takes, takes_at, slow_row, slow_again, in_grace, out_of_time}
use Rattle.run_model.specs.Unit.{begun_row, at_next, slow_report, slow_message}
use Rattle.run_model.specs.Story.{OwnTurn, Attempt, cut, request_of, any_is, pieces}
use Rattle.run_model.specs.Timing.{ends_wait, slow_count, has_timed_out}
use Rattle.run_model.specs.Attempts.{attempt_in}
use Rattle.run_laws.specs.Reports.{report_with, reports_waiting}
use Rattle.run_laws.proofs.units.CaptureLemmas.{taken}
use Rattle.run_laws.proofs.units.StandingLemmas.{is_in_grace, count_slow}
use Rattle.run_laws.proofs.units.WatchLemmas.{timed_open}
use Rattle.run_laws.proofs.units.SlowLemmas.{in_time}
use Rattle.run_laws.proofs.units.MadeLemmas.{HasPieces, IsMade, later_pieces}
use Rattle.run_laws.proofs.units.OpenRows.{is_open}
use Rattle.run_laws.proofs.units.Rows.{takes_moment}
use Rattle.run_laws.proofs.units.AccountRows.{IsTriedOnce}
use Rattle.run_laws.proofs.units.SaidLemmas.{IsSaid, failure_silent, finish_silent, retry_silent, said_after}
use Rattle.run_laws.proofs.units.AccountRows.{same_number}
use Rattle.run_laws.proofs.units.SaidLemmas.{said_apart, said_more, said_still}
use Rattle.run_laws.proofs.units.TakeLemmas.{said_killed, take_said_delay, take_said_grace, take_said_leak}
use Rattle.run_laws.proofs.units.TakeLemmas.{take_said_running}

-- a report that it was slow so often: a script is at its first attempt
abbrev IsFirstTry : UnitView → Type 0
IsFirstTry u = (r : ScriptRole) → u.role ≡ roles.Script r → u.attempt ≡ 1

slow_waits : (n : ℕ) (u : UnitView) → IsFirstTry u
    → reports_waiting (number u) (slow_report n u.role u ∷ [])
    ≡ record {
      attempt = u.attempt;
      elapsed = slow_time u.terms.slow n;
      terminates =
          is_out_of_time u.terms.slow n;
    } ∷ []
slow_waits n u first = by_role u.role refl
  where
    by_role : (role : UnitRole) → u.role ≡ role → reports_waiting (number_of role) (slow_report n role u ∷ [])
        ≡ record {
          attempt = u.attempt;
          elapsed = slow_time u.terms.slow n;
          terminates =
              is_out_of_time u.terms.slow n;
        } ∷ []
    by_role (roles.Test t) is = rw (same_number t.test.unit) refl
    by_role (roles.Script r) is = rw (same_number r.script.unit, first r is) refl

-- it is slow
said_slow : (now : ℕ) (u : UnitView) (piece : List OwnTurn) (earlier : List Attempt)
    → any_is ends_wait piece ≡ false → is_in_grace u.terms.slow piece ≡ false
    → has_timed_out u.terms.slow piece ≡ false
    → slow_count u.terms.slow piece ≡ u.timers.slow_count → u.attempt ≡ length earlier + 1 → IsFirstTry u
    → IsSaid u.terms (number u) (taken now Due None) (cut piece [] ∷ earlier)
    (slow_row now (one_more u.timers.slow_count) u)
said_slow now u piece earlier waited grace out counted at first =
    by_out (is_out_of_time u.terms.slow n) (u.terms.slow.grace == 0) refl refl
  where
    n : ℕ
    n = one_more u.timers.slow_count

    count : slow_count u.terms.slow (taken now Due None ∷ piece) ≡ n
    count = count_slow u.terms.slow now piece waited grace out ∙ ap one_more counted

    -- its report, where it is given time to end by same_number
    report : (u.terms.slow.grace == 0) ≡ false
        → option_to_list (report_with u.terms.slow (length earlier + 1) (taken now Due None) piece)
        ≡ reports_waiting (number u) (option_to_list (slow_message n u))
    report g =
        rw (waited, grace, out, count, g) (ap (λ a. record {
          attempt = a;
          elapsed = slow_time u.terms.slow n;
          terminates = is_out_of_time u.terms.slow n;
        } ∷ []) (sym at) ∙ sym (slow_waits n u first))

    by_out : (o g : Bool) → is_out_of_time u.terms.slow n ≡ o → (u.terms.slow.grace == 0) ≡ g
        → IsSaid u.terms (number u) (taken now Due None) (cut piece [] ∷ earlier)
        (if o then (if g then out_of_time n u else in_grace now n u) else slow_again now n u)
    by_out true true e g =
        said_more u.terms (number u) (taken now Due None) piece earlier (out_of_time n u) refl refl
        (rw (waited, grace, out, counted, e, g, same_number (number u)) refl) (rw (waited, grace, out, g) refl)
    by_out true false e g =
        said_more u.terms (number u) (taken now Due None) piece earlier (in_grace now n u) refl refl
        (rw (waited, grace, out, counted, e, g, same_number (number u)) refl) (report g)
    by_out false true e g =
        said_more u.terms (number u) (taken now Due None) piece earlier (slow_again now n u) refl refl
        (rw (waited, grace, out, counted, e) refl) (rw (waited, grace, out, g) refl)
    by_out false false e g =
        said_more u.terms (number u) (taken now Due None) piece earlier (slow_again now n u) refl refl
        (rw (waited, grace, out, counted, e) refl) (report g)

-- a start is no signal, and neither is one of a further attempt
start_said : (now : ℕ) (u : UnitView) (ps : List Attempt)
    → IsSaid u.terms (number u) (taken now (Answered true) None) ps (begun_row now u)
unfolding start_ask
start_said now u ps = record {
  asks = refl;
  sends = refl;
}

-- it decides what comes after its attempt
decide_said : (now word : ℕ) (u : UnitView) (piece : List OwnTurn) (earlier : List Attempt)
    → IsSaid u.terms (number u) (taken now (Decide word) None) (cut piece [] ∷ earlier) (decide_row now word u)
decide_said now word u piece earlier = by_retry (has_retry u)
  where
    by_retry : (b : Bool)
        → IsSaid u.terms (number u) (taken now (Decide word) None) (cut piece [] ∷ earlier)
        (if b then delayed now (next_delay word u) u else decided u)
    by_retry true = said_apart _ _ _ _ (delayed now (next_delay word u) u) refl refl refl
        (failure_silent (number u) (next_delay word u) u.role (last_status u.statuses))
    by_retry false = said_apart _ _ _ _ (decided u) refl refl refl (finish_silent (number u) u.role u)

-- each row of a unit that takes its turn
row_said : (now : ℕ) (ph : Phase) (turn : UnitTurn) (u : UnitView) (ps : List Attempt)
    → takes_at now ph u turn ≡ true → (is_open ph ≡ true → IsFirstTry u) → u.attempt ≡ attempt_in ps
    → HasPieces u.terms ph u ps
    → IsSaid u.terms (number u) (taken now turn (request_of turn u.line)) ps (row_at now ph turn u)
row_said now StartSent (Answered true) u [] en first a h = start_said now u []
row_said now StartSent (Answered false) u [] en first a h = record { asks = refl; sends = refl }
row_said now Starting (Started pid) u (cut piece [] ∷ earlier) en first a h =
    said_still _ _ _ piece earlier _ refl refl refl refl refl refl refl
row_said now Starting (StartFailed error) u (cut piece [] ∷ earlier) en first a h =
    said_still _ _ _ piece earlier _ refl refl refl refl refl refl refl
row_said now Running Due u (cut piece [] ∷ earlier) en first a (on, ss) =
    said_slow now u piece earlier on.is_at.wait_over on.timer.stage.1
    (in_time u.terms u.timers now u.latest piece on.is_at.wait_over on.timer en) on.is_at.counted a (first refl)
row_said now Running Take u (cut piece [] ∷ earlier) en first a (on, ss) =
    take_said_running now u.line u piece earlier on.is_at.wait_over on.timer.stage.1
    (timed_open u.terms u.timers.stopwatch u.latest piece on.watch on.pauses)
row_said now Running (Exit exit) u (cut piece [] ∷ earlier) en first a h =
    said_still _ _ _ piece earlier _ refl refl refl refl refl refl refl
row_said now Running (WaitFailed error) u (cut piece [] ∷ earlier) en first a h =
    said_still _ _ _ piece earlier _ refl refl refl refl refl refl refl
row_said now Running (Piece stream bytes) u (cut piece [] ∷ earlier) en first a h =
    said_still _ _ _ piece earlier _ refl refl refl refl refl refl refl
row_said now Running (StreamEnd stream) u (cut piece [] ∷ earlier) en first a h =
    said_still _ _ _ piece earlier _ refl refl refl refl refl refl refl
row_said now Running (ReadError stream error) u (cut piece [] ∷ earlier) en first a h =
    said_still _ _ _ piece earlier _ refl refl refl refl refl refl refl
row_said now Grace Due u (cut piece [] ∷ earlier) en first a (on, ss) =
    said_killed (taken now Due None) u piece earlier on.is_at.wait_over on.timer.stage.1 refl refl refl
row_said now Grace Take u (cut piece [] ∷ earlier) en first a (on, ss) =
    take_said_grace now u.line u piece earlier on.is_at.wait_over on.timer.stage.1
row_said now Grace (Exit exit) u (cut piece [] ∷ earlier) en first a h =
    said_still _ _ _ piece earlier _ refl refl refl refl refl refl refl
row_said now Grace (WaitFailed error) u (cut piece [] ∷ earlier) en first a h =
    said_still _ _ _ piece earlier _ refl refl refl refl refl refl refl
row_said now Grace (Piece stream bytes) u (cut piece [] ∷ earlier) en first a h =
    said_still _ _ _ piece earlier _ refl refl refl refl refl refl refl
row_said now Grace (StreamEnd stream) u (cut piece [] ∷ earlier) en first a h =
    said_still _ _ _ piece earlier _ refl refl refl refl refl refl refl
row_said now Grace (ReadError stream error) u (cut piece [] ∷ earlier) en first a h =
    said_still _ _ _ piece earlier _ refl refl refl refl refl refl refl
row_said now KillWait (Exit exit) u (cut piece [] ∷ earlier) en first a h =
    said_still _ _ _ piece earlier _ refl refl refl refl refl refl refl
row_said now KillWait (WaitFailed error) u (cut piece [] ∷ earlier) en first a h =
    said_still _ _ _ piece earlier _ refl refl refl refl refl refl refl
row_said now Leak Due u (cut piece [] ∷ earlier) en first a (on, ss) =
    said_after _ _ _ piece earlier _ on.is_at.wait_over refl refl refl refl
row_said now Leak Take u (cut piece [] ∷ earlier) en first a (on, ss) =
    take_said_leak now u.line u piece earlier on.is_at.wait_over
row_said now Leak (Piece stream bytes) u (cut piece [] ∷ earlier) en first a h =
    said_still _ _ _ piece earlier _ refl refl refl refl refl refl refl
row_said now Leak (StreamEnd stream) u (cut piece [] ∷ earlier) en first a h =
    said_still _ _ _ piece earlier _ refl refl refl refl refl refl refl
row_said now Leak (ReadError stream error) u (cut piece [] ∷ earlier) en first a h =
    said_still _ _ _ piece earlier _ refl refl refl refl refl refl refl
row_said now EnvWait (Env input) u (cut piece [] ∷ earlier) en first a (on, ss) =
    said_after _ _ _ piece earlier _ on.is_at.wait_over refl refl refl refl
row_said now Deciding (Decide word) u (cut piece [] ∷ earlier) en first a h = decide_said now word u piece earlier
row_said now Delay Due u (cut piece (d ∷ after) ∷ earlier) en first a h =
    said_apart _ _ _ _ (retried u) refl refl refl (retry_silent (number u) u.role u)
row_said now Delay Take u (cut piece (d ∷ after) ∷ earlier) en first a h =
    take_said_delay now u.line u piece d after earlier
row_said now RetrySent (Answered true) u (cut piece (d ∷ after) ∷ earlier) en first a h =
    start_said now (at_next u) (cut piece (d ∷ after) ∷ earlier)
row_said now RetrySent (Answered false) u (cut piece (d ∷ after) ∷ earlier) en first a h =
    said_apart _ _ _ _ (left u) refl refl refl refl
row_said now ph turn u ps en first a h = first_of (cc, grind arith)

-- so what a unit's own turn asks and sends is what it says
pub own_said : (terms : AttemptTerms) (now : ℕ) (turn : UnitTurn) (u : UnitView) (story : List OwnTurn)
    → takes now u turn ≡ true → u.latest ≤ now → IsTriedOnce u → IsMade terms u (pieces story)
    → IsSaid terms (number u) (record { moment = now; turn = turn; request = request_of turn u.line })
    (pieces story) (row now turn u)
own_said terms now turn u story en le once made =
    subst (λ (terms : AttemptTerms). IsSaid terms (number u) t (pieces story) (row now turn u)) made.terms
    (row_said now u.phase turn (at_moment now u) (pieces story) (takes_moment now u.phase u turn en)
    (λ on r role. (once r role).attempt on) made.attempt
    (later_pieces u.terms now u.phase u (pieces story) le
    (subst (λ terms. HasPieces terms u.phase u (pieces story)) (sym made.terms) made.has)))
  where
    t : OwnTurn
    t = taken now turn (request_of turn u.line)
