-- How an attempt stands after one more turn: how often it was slow, and whether its child is given time to end.
use Rattle.std.proofs.Common.{◌≡◌, ◌||◌, ℕ, List, [], ◌∷◌, Bool, true, false, not, ◌&&◌, if◌then◌else◌, Option, Some}
use Rattle.std.proofs.Common.{None, option_map, is_some, refl, ap, ◌∙◌, arith}
use Rattle.run_clock.specs.Counted.{Timer, Act, mark_of, marked}
use Rattle.run_events.specs.declared.plan.SlowTimeout.{SlowTimeout}
use Rattle.run_model.specs.declared.unit_turn.UnitTurn.TheVariants.{Due}
use Rattle.run_model.specs.declared.unit_view.AttemptTerms.{AttemptTerms}
use Rattle.run_model.specs.Slow.{one_more, ends_after, is_out_of_time}
use Rattle.run_model.specs.Story.{OwnTurn, any_is}
use Rattle.run_model.specs.Timing.{ends_wait, starts_child, is_due_turn, signal_of, gives_time, Standing, standing}
use Rattle.run_model.specs.Timing.{standing_after, slow_count, has_timed_out, sets_slow, timer_since, slow_timer}
use Rattle.run_model.specs.Timing.{pause_at}
use Rattle.run_laws.proofs.units.CaptureLemmas.{taken}

-- whether its child is given time to end by itself
abbrev pub is_in_grace : SlowTimeout → List OwnTurn → Bool
is_in_grace slow piece = (standing slow piece).in_grace

-- whether a turn that isn't due changes that by the request that it takes
abbrev pub is_heeded : SlowTimeout → OwnTurn → List OwnTurn → Bool
is_heeded slow t piece =
    not (any_is ends_wait piece)
    && (if is_in_grace slow piece then is_some (signal_of slow t.request) else gives_time (signal_of slow t.request))

-- a turn whose request is none to end its child doesn't
pub unheeded : (slow : SlowTimeout) (t : OwnTurn) (piece : List OwnTurn) → signal_of slow t.request ≡ None
    → is_heeded slow t piece ≡ false
unheeded slow t piece none = rw none (by_case (any_is ends_wait piece) (is_in_grace slow piece))
  where
    by_case : (w g : Bool) → (not w && (if g then false else false)) ≡ false
    by_case true g = refl
    by_case false true = refl
    by_case false false = refl

-- neither does any turn once its child has ended
pub unheeded_after : (slow : SlowTimeout) (t : OwnTurn) (piece : List OwnTurn) → any_is ends_wait piece ≡ true
    → is_heeded slow t piece ≡ false
unheeded_after slow t piece waited = rw waited refl

-- an attempt that was never slow has not run out of time
pub never_slow : (slow : SlowTimeout) → is_out_of_time slow 0 ≡ false
never_slow slow = by_most slow.terminate_after
  where
    by_most : (most : Option ℕ) → ends_after most 0 ≡ false
    by_most None = refl
    by_most (Some most) = grind arith

-- how an attempt stands after one more turn, where its child is waited for before that, and as before where it isn't
pub standing_next : (slow : SlowTimeout) (t : OwnTurn) (piece : List OwnTurn) → any_is ends_wait piece ≡ false
    → standing slow (t ∷ piece) ≡ standing_after slow (standing slow piece) t
standing_next slow t piece waited =
    ap (λ w. if w then standing slow piece else standing_after slow (standing slow piece) t) waited

standing_kept : (slow : SlowTimeout) (t : OwnTurn) (piece : List OwnTurn) → any_is ends_wait piece ≡ true
    → standing slow (t ∷ piece) ≡ standing slow piece
standing_kept slow t piece waited =
    ap (λ w. if w then standing slow piece else standing_after slow (standing slow piece) t) waited

pub count_next : (slow : SlowTimeout) (t : OwnTurn) (piece : List OwnTurn) → any_is ends_wait piece ≡ false
    → slow_count slow (t ∷ piece) ≡ (standing_after slow (standing slow piece) t).slow_count
count_next slow t piece waited = ap (λ (s : Standing). s.slow_count) (standing_next slow t piece waited)

pub count_kept : (slow : SlowTimeout) (t : OwnTurn) (piece : List OwnTurn) → any_is ends_wait piece ≡ true
    → slow_count slow (t ∷ piece) ≡ slow_count slow piece
count_kept slow t piece waited = ap (λ (s : Standing). s.slow_count) (standing_kept slow t piece waited)

pub grace_next : (slow : SlowTimeout) (t : OwnTurn) (piece : List OwnTurn) → any_is ends_wait piece ≡ false
    → is_in_grace slow (t ∷ piece) ≡ (standing_after slow (standing slow piece) t).in_grace
grace_next slow t piece waited = ap (λ (s : Standing). s.in_grace) (standing_next slow t piece waited)

-- a turn that isn't due says nothing of how often it was slow
pub count_still : (slow : SlowTimeout) (t : OwnTurn) (piece : List OwnTurn) → is_due_turn t.turn ≡ false
    → slow_count slow (t ∷ piece) ≡ slow_count slow piece
count_still slow t piece due = by_wait (any_is ends_wait piece) refl
  where
    by_wait : (w : Bool) → any_is ends_wait piece ≡ w → slow_count slow (t ∷ piece) ≡ slow_count slow piece
    by_wait true e = count_kept slow t piece e
    by_wait false e = count_next slow t piece e ∙ rw due refl

-- and nothing of the time that its child is given, unless its request is heeded
pub grace_still : (slow : SlowTimeout) (t : OwnTurn) (piece : List OwnTurn) → is_due_turn t.turn ≡ false
    → is_heeded slow t piece ≡ false → is_in_grace slow (t ∷ piece) ≡ is_in_grace slow piece
grace_still slow t piece due heeds = by_case (any_is ends_wait piece) (is_in_grace slow piece) refl refl
  where
    by_case : (w g : Bool) → any_is ends_wait piece ≡ w → is_in_grace slow piece ≡ g
        → is_in_grace slow (t ∷ piece) ≡ is_in_grace slow piece
    by_case true g e f = ap (λ (s : Standing). s.in_grace) (standing_kept slow t piece e)
    by_case false true e f =
        let none : is_some (signal_of slow t.request) ≡ false = rw (e, f) at heeds in
        grace_next slow t piece e ∙ rw (f, due, none) refl
    by_case false false e f =
        let none : gives_time (signal_of slow t.request) ≡ false = rw (e, f) at heeds in
        grace_next slow t piece e ∙ rw (f, due, none) refl

-- the timer until an attempt is slow, where it is known whether it has run out of time
abbrev slow_timer_if : AttemptTerms → List OwnTurn → Bool → Option Timer
slow_timer_if terms piece out =
    if out || terms.disables_timeouts then None
    else if any_is starts_child piece then Some (timer_since (sets_slow terms.slow) terms.slow.period piece)
    else None

pub slow_timer_by : (terms : AttemptTerms) (piece : List OwnTurn) (out : Bool) → has_timed_out terms.slow piece ≡ out
    → slow_timer terms piece ≡ slow_timer_if terms piece out
slow_timer_by terms piece out e = ap (slow_timer_if terms piece) e

-- a turn that isn't due, and takes no stop and no continue, says nothing of it, unless its child starts
pub slow_timer-still : (terms : AttemptTerms) (t : OwnTurn) (piece : List OwnTurn) → is_due_turn t.turn ≡ false
    → starts_child t.turn ≡ false → pause_at t.moment t.request ≡ []
    → slow_timer terms (t ∷ piece) ≡ slow_timer terms piece
slow_timer-still terms t piece due starts goes_on =
    slow_timer_by terms (t ∷ piece) (has_timed_out terms.slow piece)
    (ap (is_out_of_time terms.slow) (count_still terms.slow t piece due))
    ∙ by_wait (any_is ends_wait piece) refl
  where
    by_wait : (w : Bool) → any_is ends_wait piece ≡ w
        → slow_timer_if terms (t ∷ piece) (has_timed_out terms.slow piece) ≡ slow_timer terms piece
    by_wait true e = rw (e, starts, goes_on) refl
    by_wait false e = rw (e, due, starts, goes_on) refl

-- one that takes a stop or a continue marks it
marked_either : (mark : Timer → Timer) (none started : Bool) (timer : Timer)
    → (if none then None else if started then Some (mark timer) else None)
    ≡ option_map mark (if none then None else if started then Some timer else None)
marked_either mark true started timer = refl
marked_either mark false true timer = refl
marked_either mark false false timer = refl

pub slow_timer-marked : (terms : AttemptTerms) (act : Act) (t : OwnTurn) (piece : List OwnTurn)
    → is_due_turn t.turn ≡ false → starts_child t.turn ≡ false
    → pause_at t.moment t.request ≡ mark_of act t.moment ∷ []
    → slow_timer terms (t ∷ piece) ≡ option_map (marked act t.moment) (slow_timer terms piece)
slow_timer-marked terms act t piece due starts marks =
    slow_timer_by terms (t ∷ piece) (has_timed_out terms.slow piece)
    (ap (is_out_of_time terms.slow) (count_still terms.slow t piece due))
    ∙ by_wait (any_is ends_wait piece) refl
    ∙ marked_either (marked act t.moment) (has_timed_out terms.slow piece || terms.disables_timeouts)
    (any_is starts_child piece) (timer_since (sets_slow terms.slow) terms.slow.period piece)
  where
    by_wait : (w : Bool) → any_is ends_wait piece ≡ w
        → slow_timer_if terms (t ∷ piece) (has_timed_out terms.slow piece)
        ≡ (if has_timed_out terms.slow piece || terms.disables_timeouts then None
        else if any_is starts_child piece
        then Some (marked act t.moment (timer_since (sets_slow terms.slow) terms.slow.period piece))
        else None)
    by_wait true e = rw (e, starts, marks) refl
    by_wait false e = rw (e, due, starts, marks) refl

-- within the time that its child is given it isn't slow once more
pub count_killed : (slow : SlowTimeout) (t : OwnTurn) (piece : List OwnTurn) → is_in_grace slow piece ≡ true
    → slow_count slow (t ∷ piece) ≡ slow_count slow piece
count_killed slow t piece grace = by_case (any_is ends_wait piece) (is_due_turn t.turn) refl refl
  where
    by_case : (w d : Bool) → any_is ends_wait piece ≡ w → is_due_turn t.turn ≡ d
        → slow_count slow (t ∷ piece) ≡ slow_count slow piece
    by_case true d e f = count_kept slow t piece e
    by_case false true e f = count_next slow t piece e ∙ rw (f, grace) refl
    by_case false false e f = count_next slow t piece e ∙ rw f refl

-- and the timer until it is slow stays as it was
pub slow_timer-killed : (terms : AttemptTerms) (t : OwnTurn) (piece : List OwnTurn)
    → is_in_grace terms.slow piece ≡ true
    → any_is ends_wait piece ≡ false → starts_child t.turn ≡ false → pause_at t.moment t.request ≡ []
    → slow_timer terms (t ∷ piece) ≡ slow_timer terms piece
slow_timer-killed terms t piece grace waited starts goes_on =
    slow_timer_by terms (t ∷ piece) (has_timed_out terms.slow piece)
    (ap (is_out_of_time terms.slow) (count_killed terms.slow t piece grace))
    ∙ by_due (is_due_turn t.turn) refl
  where
    by_due : (d : Bool) → is_due_turn t.turn ≡ d
        → slow_timer_if terms (t ∷ piece) (has_timed_out terms.slow piece) ≡ slow_timer terms piece
    by_due true e = rw (waited, e, starts, grace, goes_on) refl
    by_due false e = rw (waited, e, starts, goes_on) refl

-- where its timer is due, and it has not run out of time, it is slow once more
pub count_slow : (slow : SlowTimeout) (now : ℕ) (piece : List OwnTurn) → any_is ends_wait piece ≡ false
    → is_in_grace slow piece ≡ false → has_timed_out slow piece ≡ false
    → slow_count slow (taken now Due None ∷ piece) ≡ one_more (slow_count slow piece)
count_slow slow now piece waited grace out =
    count_next slow (taken now Due None) piece waited ∙ rw (grace, out) refl
