-- The timer of an attempt that is paused, or goes on.
use Rattle.std.proofs.Common.{◌≡◌, List, [], ◌∷◌, Bool, true, false, None, option_map, refl, ap, sym, subst, ◌∙◌}
use Rattle.run_clock.specs.Counted.{Act, pause, resume, mark_of, marked}
use Rattle.run_model.specs.declared.phase.Phase.{Phase}
use Rattle.run_model.specs.declared.phase.Phase.TheVariants.{Starting, Running, Grace}
use Rattle.run_model.specs.declared.unit_view.Timers.{Timers}
use Rattle.run_model.specs.declared.unit_view.AttemptTerms.{AttemptTerms}
use Rattle.run_model.specs.Pauses.{sleep_paused, sleep_resumed, all_paused, all_resumed}
use Rattle.run_model.specs.Story.{OwnTurn, any_is}
use Rattle.run_model.specs.Timing.{ends_wait, starts_child, is_due_turn, signal_of, slow_timer, timer_of, pause_at}
use Rattle.run_laws.proofs.units.StandingLemmas.{is_in_grace, count_still, unheeded, grace_still, slow_timer-marked}
use Rattle.run_laws.proofs.units.TimerLemmas.{HasTimer, IsAtStage, IsSetBy, KeepsSome, keeps_continue, keeps_stop}
use Rattle.run_laws.proofs.units.TimerLemmas.{set_by_marked, timer_of-grace, timer_of-runs, waits}

-- a turn that takes a stop or a continue marks the timer of its attempt
pub timer_of-marked : (terms : AttemptTerms) (act : Act) (t : OwnTurn) (piece : List OwnTurn)
    → is_due_turn t.turn ≡ false → ends_wait t.turn ≡ false → starts_child t.turn ≡ false
    → pause_at t.moment t.request ≡ mark_of act t.moment ∷ [] → signal_of terms.slow t.request ≡ None
    → timer_of terms (t ∷ piece) ≡ option_map (marked act t.moment) (timer_of terms piece)
timer_of-marked terms act t piece due ends starts marks none =
    by_case (any_is ends_wait piece) (is_in_grace terms.slow piece) refl refl
  where
    waits_still : {b : Bool} → any_is ends_wait piece ≡ b → any_is ends_wait (t ∷ piece) ≡ b
    waits_still e = rw ends e

    grace : is_in_grace terms.slow (t ∷ piece) ≡ is_in_grace terms.slow piece
    grace = grace_still terms.slow t piece due (unheeded terms.slow t piece none)

    by_case : (w g : Bool) → any_is ends_wait piece ≡ w → is_in_grace terms.slow piece ≡ g
        → timer_of terms (t ∷ piece) ≡ option_map (marked act t.moment) (timer_of terms piece)
    by_case true g e f = rw (ends, e, marks) refl
    by_case false true e f =
        timer_of-grace terms (t ∷ piece) (waits_still e) (grace ∙ f)
        ∙ rw (e, f, due, marks) refl
        ∙ ap (option_map (marked act t.moment)) (sym (timer_of-grace terms piece e f))
    by_case false false e f =
        timer_of-runs terms (t ∷ piece) (waits_still e) (grace ∙ f)
        ∙ slow_timer-marked terms act t piece due starts marks
        ∙ ap (option_map (marked act t.moment)) (sym (timer_of-runs terms piece e f))

-- its stage after such a turn
stage_stopped : (terms : AttemptTerms) (ph : Phase) (timers : Timers) (t : OwnTurn) (piece : List OwnTurn)
    → is_due_turn t.turn ≡ false → starts_child t.turn ≡ false
    → pause_at t.moment t.request ≡ mark_of pause t.moment ∷ []
    → signal_of terms.slow t.request ≡ None → IsAtStage terms ph timers t.moment piece
    → IsAtStage terms ph (all_paused t.moment timers) t.moment (t ∷ piece)
stage_stopped terms Starting timers t piece due starts marks none (count, grace) = (
  count_still terms.slow t piece due ∙ count,
  grace_still terms.slow t piece due
      (unheeded terms.slow t piece none) ∙ grace,
)
stage_stopped terms Running timers t piece due starts marks none (child, grace) =
    (rw starts child, grace_still terms.slow t piece due (unheeded terms.slow t piece none) ∙ grace)
stage_stopped terms Grace timers t piece due starts marks none (child, grace, slow, set) = (
  rw starts child,
  grace_still terms.slow t piece due (unheeded terms.slow t piece none) ∙ grace,
  subst (λ timer. KeepsSome timer (option_map (sleep_paused t.moment) timers.slow))
      (sym (slow_timer-marked terms pause t piece due starts marks))
      (keeps_stop t.moment (slow_timer terms piece) timers.slow set slow),
  subst (IsSetBy t.moment) (sym (slow_timer-marked terms pause t piece due starts marks))
      (set_by_marked t.moment pause (slow_timer terms piece) set),
)
stage_stopped terms ph timers t piece due starts marks none h = tt

stage_continued : (terms : AttemptTerms) (ph : Phase) (timers : Timers) (t : OwnTurn) (piece : List OwnTurn)
    → is_due_turn t.turn ≡ false → starts_child t.turn ≡ false
    → pause_at t.moment t.request ≡ mark_of resume t.moment ∷ []
    → signal_of terms.slow t.request ≡ None → IsAtStage terms ph timers t.moment piece
    → IsAtStage terms ph (all_resumed t.moment timers) t.moment (t ∷ piece)
stage_continued terms Starting timers t piece due starts marks none (count, grace) = (
  count_still terms.slow t piece due ∙ count,
  grace_still terms.slow t piece due
      (unheeded terms.slow t piece none) ∙ grace,
)
stage_continued terms Running timers t piece due starts marks none (child, grace) =
    (rw starts child, grace_still terms.slow t piece due (unheeded terms.slow t piece none) ∙ grace)
stage_continued terms Grace timers t piece due starts marks none (child, grace, slow, set) = (
  rw starts child,
  grace_still terms.slow t piece due (unheeded terms.slow t piece none) ∙ grace,
  subst (λ timer. KeepsSome timer (option_map (sleep_resumed t.moment) timers.slow))
      (sym (slow_timer-marked terms resume t piece due starts marks))
      (keeps_continue t.moment (slow_timer terms piece) timers.slow set slow),
  subst (IsSetBy t.moment) (sym (slow_timer-marked terms resume t piece due starts marks))
      (set_by_marked t.moment resume (slow_timer terms piece) set),
)
stage_continued terms ph timers t piece due starts marks none h = tt

-- the timers of a unit that takes a stop, and of one that takes a continue
pub timer_stopped : (terms : AttemptTerms) (ph : Phase) (timers : Timers) (t : OwnTurn) (piece : List OwnTurn)
    → is_due_turn t.turn ≡ false → ends_wait t.turn ≡ false → starts_child t.turn ≡ false
    → pause_at t.moment t.request ≡ mark_of pause t.moment ∷ [] → signal_of terms.slow t.request ≡ None
    → waits ph (all_paused t.moment timers) ≡ option_map (sleep_paused t.moment) (waits ph timers)
    → HasTimer terms ph timers t.moment piece → HasTimer terms ph (all_paused t.moment timers) t.moment (t ∷ piece)
timer_stopped terms ph timers t piece due ends starts marks none waits_is h = record {
  set_by = subst (IsSetBy t.moment) (sym is) (set_by_marked t.moment pause (timer_of terms piece) h.set_by);
  waits_for =
      subst (λ timer. KeepsSome timer (waits ph (all_paused t.moment timers))) (sym is)
      (subst (KeepsSome (option_map (marked pause t.moment) (timer_of terms piece))) (sym waits_is)
      (keeps_stop t.moment (timer_of terms piece) (waits ph timers) h.set_by h.waits_for));
  stage = stage_stopped terms ph timers t piece due starts marks none h.stage;
}
  where
    is : timer_of terms (t ∷ piece) ≡ option_map (marked pause t.moment) (timer_of terms piece)
    is = timer_of-marked terms pause t piece due ends starts marks none

pub timer_continued : (terms : AttemptTerms) (ph : Phase) (timers : Timers) (t : OwnTurn) (piece : List OwnTurn)
    → is_due_turn t.turn ≡ false → ends_wait t.turn ≡ false → starts_child t.turn ≡ false
    → pause_at t.moment t.request ≡ mark_of resume t.moment ∷ [] → signal_of terms.slow t.request ≡ None
    → waits ph (all_resumed t.moment timers) ≡ option_map (sleep_resumed t.moment) (waits ph timers)
    → HasTimer terms ph timers t.moment piece → HasTimer terms ph (all_resumed t.moment timers) t.moment (t ∷ piece)
timer_continued terms ph timers t piece due ends starts marks none waits_is h = record {
  set_by = subst (IsSetBy t.moment) (sym is) (set_by_marked t.moment resume (timer_of terms piece) h.set_by);
  waits_for =
      subst (λ timer. KeepsSome timer (waits ph (all_resumed t.moment timers))) (sym is)
      (subst (KeepsSome (option_map (marked resume t.moment) (timer_of terms piece))) (sym waits_is)
      (keeps_continue t.moment (timer_of terms piece) (waits ph timers) h.set_by h.waits_for));
  stage = stage_continued terms ph timers t piece due starts marks none h.stage;
}
  where
    is : timer_of terms (t ∷ piece) ≡ option_map (marked resume t.moment) (timer_of terms piece)
    is = timer_of-marked terms resume t piece due ends starts marks none
