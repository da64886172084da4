-- Whatever was forgotten of a board, the same turn comes next.
use Rattle.std.proofs.Common.{◌≡◌, ℕ, Bool, true, false, Option, Some, None, option_map, option_and_then, get_or}
use Rattle.std.proofs.Common.{refl, ap, sym, ◌∙◌, inl, inr}
use Rattle.std.specs.Option.{option_or}
use Rattle.std.proofs.lemmas.List.Quantifiers.{position-Some}
use Rattle.run_events.specs.declared.settings.Settings.{Settings}
use Rattle.run_events.specs.declared.turn.Turn.{Turn}
use Rattle.run_events.specs.declared.turn.Turn.TheVariants.{Exit}
use Rattle.run_model.specs.declared.unit_view.UnitView.{UnitView}
use Rattle.run_model.specs.Admission.{is_done}
use Rattle.run_model.specs.Board.{Board, unit_in}
use Rattle.run_state.specs.Settle.{settling}
use Rattle.run_engine.specs.Forgotten.{IsForgotten, MayForget}
use Rattle.run_engine.proofs.ForgottenLemmas.{kept_same, last_is}
use Rattle.run_engine.proofs.ForgottenTurns.{first_same}
use Rattle.run_generate.specs.Turns.{exit_at, exit_turn, first_with, has_child, turn_after, unit_has}
use Rattle.run_generate.specs.declared.child.Child.{Child}
use Rattle.run_generate.specs.declared.child.Child.TheVariants as children
use Rattle.run_generate.specs.declared.child.Last.{Last}
use Rattle.run_generate.specs.declared.child.Last.TheVariants as lasts
use Rattle.run_generate.proofs.FirstLemmas.{position_same}

-- a unit that is over has no child
over_has_none : (child : Child) (u : Option UnitView) → is_done u ≡ true → unit_has child u ≡ false
over_has_none child None over = refl
over_has_none children.Asked (Some u) over = ap (has_child children.Asked) (last_is u.phase over)
over_has_none children.Runs (Some u) over = ap (has_child children.Runs) (last_is u.phase over)

has_kept : (p : Settings) (k : ℕ) (child : Child) (u v : Option UnitView) → MayForget p k u v
    → unit_has child v ≡ unit_has child u
has_kept p k child = kept_same p k (unit_has child) false (λ u over line. over_has_none child u over)

first_kept : (p : Settings) (b c : Board) (child : Child) → IsForgotten p b c → first_with child c ≡ first_with child b
first_kept p b c child h =
    position_same (unit_has child) b.units c.units None refl
    (λ k. has_kept p k child (get_or b.units k None) (get_or c.units k None) (h.units.each k))

unit_kept : (p : Settings) (k : ℕ) (child : Child) (u v : Option UnitView) → unit_has child u ≡ true
    → MayForget p k u v → v ≡ u
unit_kept p k child u v has (inl same) = same
unit_kept p k child u v has (inr over) =
    let never : false ≡ true = sym (over_has_none child u over.over) ∙ has in cc

exit_kept : (p : Settings) (b c : Board) → IsForgotten p b c → exit_turn c ≡ exit_turn b
exit_kept p b c h =
    ap (option_and_then (exit_in c)) (first_kept p b c children.Runs h) ∙ by_first (first_with children.Runs b) refl
  where
    exit_in : Board → ℕ → Option Turn
    exit_in x k = option_map (λ (u : UnitView). Exit k (exit_at k u.attempt)) (unit_in x k)

    by_first : (first : Option ℕ) → first_with children.Runs b ≡ first
        → option_and_then (exit_in c) first ≡ option_and_then (exit_in b) first
    by_first None e = refl
    by_first (Some k) e =
        ap (option_map (λ (u : UnitView). Exit k (exit_at k u.attempt)))
        (unit_kept p k children.Runs (unit_in b k) (unit_in c k)
        (position-Some (unit_has children.Runs) b.units k None e).1 (h.units.each k))

pub turn_kept : (p : Settings) (b c : Board) (last : Last) → IsForgotten p b c
    → turn_after p c last ≡ turn_after p b last
turn_kept p b c lasts.Time h = rw (first_kept p b c children.Runs h) refl
turn_kept p b c lasts.Stream h = exit_kept p b c h
turn_kept p b c lasts.Other h =
    rw (first_same p b c (settling p 0) h, first_kept p b c children.Asked h, first_kept p b c children.Runs h) refl
