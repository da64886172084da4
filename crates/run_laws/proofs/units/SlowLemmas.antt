-- The timer of an attempt that is slow, as its unit keeps it and as its turns say.
use Rattle.std.proofs.Common.{◌≡◌, ℕ, ◌≤◌, List, [], ◌∷◌, Bool, true, false, ◌==◌, Some, None, refl, ap}
use Rattle.std.proofs.Common.{sym, subst, ◌∙◌}
use Rattle.run_clock.specs.Sleep.{set_at, fires_now}
use Rattle.run_model.specs.declared.phase.Phase.TheVariants.{Running, Grace, KillWait}
use Rattle.run_model.specs.declared.unit_turn.UnitTurn.TheVariants.{Due}
use Rattle.run_model.specs.declared.unit_view.Timers.{Timers}
use Rattle.run_model.specs.declared.unit_view.AttemptTerms.{AttemptTerms}
use Rattle.run_model.specs.Slow.{one_more, is_out_of_time}
use Rattle.run_model.specs.Unit.{slow_timer_at}
use Rattle.run_model.specs.Story.{OwnTurn, any_is}
use Rattle.run_model.specs.Timing.{ends_wait, starts_child, slow_count, has_timed_out, slow_timer, timer_of}
use Rattle.run_model.proofs.PauseLemmas.{keeps_set}
use Rattle.run_laws.proofs.units.CaptureLemmas.{taken}
use Rattle.run_laws.proofs.units.StandingLemmas.{is_in_grace, grace_next, slow_timer_by, count_slow}
use Rattle.run_laws.proofs.units.TimerLemmas.{HasTimer, timer_known, timer_of-runs, timer_of-grace, KeepsSome, IsSetBy}
use Rattle.run_laws.proofs.units.TimerLemmas.{set_now, set_now_by, set_now_sleeps}

-- where its timer is due while its child runs, it has not run out of time
pub in_time : (terms : AttemptTerms) (t : Timers) (now latest : ℕ) (piece : List OwnTurn)
    → any_is ends_wait piece ≡ false → HasTimer terms Running t latest piece → fires_now now t.slow ≡ true
    → has_timed_out terms.slow piece ≡ false
in_time terms t now latest piece waited h due = by_out (has_timed_out terms.slow piece) refl
  where
    by_out : (b : Bool) → has_timed_out terms.slow piece ≡ b → has_timed_out terms.slow piece ≡ false
    by_out false e = e
    by_out true e =
        let over : timer_of terms piece ≡ None
        = timer_of-runs terms piece waited h.stage.1 ∙ slow_timer_by terms piece true e in
        let none : t.slow ≡ None = subst (λ timer. KeepsSome timer t.slow) over h.waits_for in
        let never : false ≡ true = rw none at due in
        cc

-- an attempt whose child runs, that has not run out of time, and whose timer is due
pub record IsSlow (terms : AttemptTerms) (piece : List OwnTurn) : Type 0 where
  pub waited : any_is ends_wait piece ≡ false
  pub child : any_is starts_child piece ≡ true
  pub grace : is_in_grace terms.slow piece ≡ false
  pub in_time : has_timed_out terms.slow piece ≡ false

-- whether it has run out of time with that
out_next : (terms : AttemptTerms) (now : ℕ) (piece : List OwnTurn) (out : Bool) → IsSlow terms piece
    → is_out_of_time terms.slow (one_more (slow_count terms.slow piece)) ≡ out
    → has_timed_out terms.slow (taken now Due None ∷ piece) ≡ out
out_next terms now piece out is next =
    ap (is_out_of_time terms.slow) (count_slow terms.slow now piece is.waited is.grace is.in_time) ∙ next

-- it goes on, and is timed again
pub timer_again : (terms : AttemptTerms) (after : Timers) (now latest : ℕ) (piece : List OwnTurn)
    → now ≤ latest → after.slow ≡ slow_timer_at now terms → IsSlow terms piece
    → is_out_of_time terms.slow (one_more (slow_count terms.slow piece)) ≡ false
    → HasTimer terms Running after latest (taken now Due None ∷ piece)
timer_again terms after now latest piece le slow is next =
    timer_known terms Running after latest (t ∷ piece) (set_now terms now)
    (timer_of-runs terms (t ∷ piece) is.waited runs
    ∙ slow_timer_by terms (t ∷ piece) false (out_next terms now piece false is next)
    ∙ rw (is.waited, is.grace, is.in_time, is.child) refl) (set_now_by terms now latest le)
    (subst (KeepsSome (set_now terms now)) (sym slow) (set_now_sleeps terms now)) (is.child, runs)
  where
    t : OwnTurn
    t = taken now Due None

    runs : is_in_grace terms.slow (t ∷ piece) ≡ false
    runs = grace_next terms.slow t piece is.waited ∙ rw (is.grace, is.in_time, next) refl

-- it has run out of time, and is given some to end by itself
pub timer_grace : (terms : AttemptTerms) (after : Timers) (now latest : ℕ) (piece : List OwnTurn)
    → now ≤ latest → after.wait ≡ Some (set_at now terms.slow.grace) → after.slow ≡ None → IsSlow terms piece
    → is_out_of_time terms.slow (one_more (slow_count terms.slow piece)) ≡ true → (terms.slow.grace == 0) ≡ false
    → HasTimer terms Grace after latest (taken now Due None ∷ piece)
timer_grace terms after now latest piece le wait slow is next some =
    timer_known terms Grace after latest (t ∷ piece)
    (Some (record { set = now; duration = terms.slow.grace; past = [] }))
    (timer_of-grace terms (t ∷ piece) is.waited given
    ∙ rw (is.waited, is.grace, is.in_time, next, some) refl) le
    (set_at now terms.slow.grace, (wait, keeps_set now terms.slow.grace))
    (is.child, given, subst (λ timer. KeepsSome timer after.slow) (sym none) slow, subst (IsSetBy latest) (sym none) tt)
  where
    t : OwnTurn
    t = taken now Due None

    given : is_in_grace terms.slow (t ∷ piece) ≡ true
    given = grace_next terms.slow t piece is.waited ∙ rw (is.grace, is.in_time, next, some) refl

    none : slow_timer terms (t ∷ piece) ≡ None
    none = slow_timer_by terms (t ∷ piece) true (out_next terms now piece true is next)

-- it has run out of time, and is killed at once
pub timer_kill_wait : (terms : AttemptTerms) (after : Timers) (now latest : ℕ) (piece : List OwnTurn)
    → IsSlow terms piece
    → is_out_of_time terms.slow (one_more (slow_count terms.slow piece)) ≡ true → (terms.slow.grace == 0) ≡ true
    → HasTimer terms KillWait after latest (taken now Due None ∷ piece)
timer_kill_wait terms after now latest piece is next none =
    timer_known terms KillWait after latest (t ∷ piece) None
    (timer_of-runs terms (t ∷ piece) is.waited runs
    ∙ slow_timer_by terms (t ∷ piece) true (out_next terms now piece true is next)) tt refl tt
  where
    t : OwnTurn
    t = taken now Due None

    runs : is_in_grace terms.slow (t ∷ piece) ≡ false
    runs = grace_next terms.slow t piece is.waited ∙ rw (is.grace, is.in_time, next, none) refl
