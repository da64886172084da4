-- In a generated run that isn't over a turn always comes, and it is enabled.
use Rattle.std.proofs.Common.{◌≡◌, ℕ, ◌+◌, ◌^◌, ◌<◌, ◌&&◌, not}
use Rattle.std.proofs.Common.{true, false, Option, Some, None, nat_lt, option_map}
use Rattle.std.proofs.Common.{option_and_then, refl, ap, ◌∙◌, subst, arith}
use Rattle.std.specs.Option.{option_or}
use Rattle.std.proofs.lemmas.Bool.Decides.{nat_tests}
use Rattle.run_capture.specs.declared.test_output.Stream.TheVariants as streams
use Rattle.run_events.specs.declared.settings.Settings.{Settings}
use Rattle.run_events.specs.declared.turn.Turn.{Turn}
use Rattle.run_events.specs.declared.turn.Turn.TheVariants as turns
use Rattle.run_model.specs.Board.{Board, unit_in}
use Rattle.run_model.specs.Turns.{enabled_on, unit_takes}
use Rattle.run_model.specs.Unit.{hears, takes_at}
use Rattle.run_model.specs.declared.phase.Phase.{Phase}
use Rattle.run_model.specs.declared.phase.Phase.TheVariants.{Running}
use Rattle.run_model.specs.declared.unit_turn.UnitTurn.{UnitTurn}
use Rattle.run_model.specs.declared.unit_turn.UnitTurn.TheVariants as own
use Rattle.run_model.specs.declared.unit_view.UnitView.{UnitView}
use Rattle.run_state.specs.Settle.{first_enabled, settling}
use Rattle.run_generate.specs.Turns.{exit_at}
use Rattle.run_laws_generate.proofs.Children.{found, runs_in, starts_in}
use Rattle.run_laws_generate.proofs.Goes.{IsAt, all_settled, first_is}
use Rattle.run_laws_generate.proofs.Moves.{IsCalm}
use Rattle.run_laws_generate.proofs.Stuck.{never_stuck, stuck}
use Rattle.run_laws_generate.proofs.Steps.{IsKnown}
use Rattle.run_laws_generate.proofs.Next.{Stage, at_rest, after_tick, after_end, is_asked, is_running, first_in}
use Rattle.run_laws_generate.proofs.Next.{made_by, next_by}
use Rattle.run_laws_generate.proofs.Weights.{IsEasy, StandsIn}

-- the next turn, which is enabled
pub record Comes (p : Settings) (b : Board) (last : Stage) : Type 0 where
  pub turn : Turn
  pub is : next_by p b last ≡ Some turn
  pub en : enabled_on p b turn ≡ true

-- a unit's turn is enabled where the unit takes it
takes_own : (b : Board) (k : ℕ) (u : UnitView) (to : UnitTurn) → b.dispatcher.over ≡ false → unit_in b k ≡ Some u
    → takes_at b.clock u.phase u to ≡ true
    → (not b.dispatcher.over && unit_takes b.clock (unit_in b k) to) ≡ true
takes_own b k u to going is takes =
    ap (λ over. not over && unit_takes b.clock (unit_in b k) to) going
    ∙ (ap (λ o. unit_takes b.clock o to) is ∙ takes)

-- a child that runs has its output ended
stream_comes : (now : ℕ) (ph : Phase) (u : UnitView) → ph ≡ Running → StandsIn now false ph u
    → takes_at now ph u (own.StreamEnd streams.Combined) ≡ true
stream_comes now Running u runs stands = ap (λ c. hears c (own.StreamEnd streams.Combined)) stands.0
stream_comes now ph u runs stands = cc

-- so a turn comes
pub comes : (p : Settings) (b : Board) (last : Stage) (current : Option ℕ) → IsKnown p b → IsCalm current b
    → b.clock < 60000000000 → IsAt last current b → b.dispatcher.over ≡ false → Comes p b last
comes p b after_tick current known calm early at going =
    let k : ℕ = at.1.0 in
    let child = found is_running b k at.1.1 in
    let calm_now : IsCalm None b = subst (λ c. IsCalm c b) at.0 calm in
    let easy : IsEasy b.clock false child.unit = calm_now.easy k child.unit child.is in
    record {
      turn = turns.StreamEnd k streams.Combined;
      is = ap (option_map (λ k. turns.StreamEnd k streams.Combined)) at.1.1;
      en = takes_own b k child.unit (own.StreamEnd streams.Combined) going child.is
          (stream_comes b.clock child.unit.phase child.unit (runs_in child.unit.phase child.stands) easy.stands);
    }
comes p b after_end current known calm early at going =
    let k : ℕ = at.0 in
    let child = found is_running b k at.1.1 in
    record {
      turn = turns.Exit k (exit_at k child.unit.attempt);
      is = ap (option_and_then (λ k. option_map (λ (u : UnitView). turns.Exit k (exit_at k u.attempt)) (unit_in b k)))
          at.1.1
          ∙ ap (option_map (λ (u : UnitView). turns.Exit k (exit_at k u.attempt))) child.is;
      en = takes_own b k child.unit (own.Exit (exit_at k child.unit.attempt)) going child.is
          (ap (λ ph. takes_at b.clock ph child.unit (own.Exit (exit_at k child.unit.attempt)))
          (runs_in child.unit.phase child.stands));
    }
comes p b at_rest current known calm early at going = by_first (first_enabled p b (settling p 0)) refl
  where
    calm_now : IsCalm None b
    calm_now = subst (λ c. IsCalm c b) at calm

    moves : (now : ℕ) → now < 60000000000 → nat_lt (now + 1000000) (2 ^ 64) ≡ true
    moves now early = grind (arith, nat_tests)

    made : (o r : Option ℕ) → first_in is_asked b ≡ o → first_in is_running b ≡ r
        → first_enabled p b (settling p 0) ≡ None → Comes p b at_rest
    made (Some k) r asked runs none =
        let child = found is_asked b k asked in
        record {
          turn = turns.Started k (k + 1);
          is = ap (λ o. option_or o (made_by b)) none
              ∙ ap (λ o. option_or (option_map (λ k. turns.Started k (k + 1)) o)
              (option_map (λ k. turns.Clock 1000000) (first_in is_running b))) asked;
          en = takes_own b k child.unit (own.Started (k + 1)) going child.is
              (ap (λ ph. takes_at b.clock ph child.unit (own.Started (k + 1)))
              (starts_in child.unit.phase child.stands));
        }
    made None (Some k) asked runs none = record {
      turn = turns.Clock 1000000;
      is = ap (λ o. option_or o (made_by b)) none
          ∙ ap (λ o. option_or (option_map (λ k. turns.Started k (k + 1)) o)
          (option_map (λ k. turns.Clock 1000000) (first_in is_running b))) asked
          ∙ ap (option_map (λ k. turns.Clock 1000000)) runs;
      en = ap (λ over. not over && nat_lt (b.clock + 1000000) (2 ^ 64)) going ∙ moves b.clock early;
    }
    made None None asked runs none = absurd (never_stuck p b known calm_now going (stuck p b none) asked runs)

    by_first : (o : Option Turn) → first_enabled p b (settling p 0) ≡ o → Comes p b at_rest
    by_first (Some t) first = record {
      turn = t;
      is = ap (λ o. option_or o (made_by b)) first;
      en = (first_is p b (settling p 0) t (all_settled p 0) first).en;
    }
    by_first None none = made (first_in is_asked b) (first_in is_running b) refl refl none
