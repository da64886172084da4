-- The turn that a run takes by itself is enabled.
use Rattle.std.proofs.Common.{◌≡◌, ◌≤◌, ◌<◌, ◌^◌, ℕ, List, [], ◌∷◌, Bool, true, false, Some, refl, ap, sym, subst}
use Rattle.std.proofs.Common.{arith}
use Rattle.run_events.specs.declared.settings.Settings.{Settings}
use Rattle.run_events.specs.declared.turn.Turn.{Turn}
use Rattle.run_model.specs.Board.{Board, board}
use Rattle.run_model.specs.Turns.{enabled, enabled_on}
use Rattle.run_state.specs.Held.{Held, held}
use Rattle.run_state.specs.Settle.{settling, first_enabled}
use Rattle.run_engine.specs.World.{World, history_of}
use Rattle.run_engine.specs.Settling.{first_settled}

-- the first enabled turn is enabled
pub found_is : (p : Settings) (b : Board) (ts : List Turn) (t : Turn) → first_enabled p b ts ≡ Some t
    → enabled_on p b t ≡ true
found_is p b [] t e = cc
found_is p b (u ∷ ts) t e = at (enabled_on p b u) refl (found_is p b ts t)
  where
    at : (on : Bool) → enabled_on p b u ≡ on → (first_enabled p b ts ≡ Some t → enabled_on p b t ≡ true)
        → enabled_on p b t ≡ true
    at true on later =
        let is : Some u ≡ Some t = rw on at e in
        let same : u ≡ t = cc in
        subst (λ t. enabled_on p b t ≡ true) same on
    at false on later = later (rw on at e)

-- the first on the board of a state
pub settled_on : (p q : Settings) (h : Held) (b : Board) (word : ℕ) → q ≡ p → h ≡ held p b
    → first_enabled q h.board (settling q word) ≡ first_enabled p b (settling p word)
settled_on p q h b word same st =
    subst (λ q. first_enabled q h.board (settling q word) ≡ first_enabled p b (settling p word)) (sym same)
    (ap (λ (h : Held). first_enabled p h.board (settling p word)) st)

-- the turn that a run takes by itself is enabled in it
pub first_is_enabled : (w : World) (word : ℕ) (t : Turn) → first_settled w word ≡ Some t
    → enabled w.settings (history_of w) t ≡ true
first_is_enabled w word t first =
    found_is w.settings (board w.settings (history_of w)) (settling w.settings word) t first

-- a journal that has no room is full
pub full_at : (count turns : ℕ) → count ≡ turns → 4294967295 ≤ count → turns < 2 ^ 32 → turns ≡ 4294967295
full_at count turns same low high = omega (arith, same, low, high)
