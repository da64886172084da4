-- The first turn that is enabled of those that a run takes by itself.
use Rattle.std.proofs.Common.{◌≡◌, ℕ, ◌+◌, ◌<◌, ◌≤◌, List, [], ◌∷◌, ◌++◌, map, length, Bool, true, false}
use Rattle.std.proofs.Common.{suc, zero, Some, None, refl, ap, sym, subst, ◌∙◌, arith}
use Rattle.std.specs.List.{range_with_len}
use Rattle.run_events.specs.declared.settings.Settings.{Settings}
use Rattle.run_events.specs.declared.turn.Turn.{Turn}
use Rattle.run_model.specs.declared.unit_turn.UnitTurn.{UnitTurn}
use Rattle.run_model.specs.Admission.{units_in}
use Rattle.run_model.specs.Board.{Board, unit_in}
use Rattle.run_model.specs.Turns.{enabled_on, turn_of_unit, unit_takes}
use Rattle.run_state.specs.Settle.{of_each, first_enabled, IsFirstTaker, NoneTakes}

-- one that is enabled comes first, and one that isn't is passed over
enabled_first : (p : Settings) (b : Board) (t : Turn) (ts : List Turn) → enabled_on p b t ≡ true
    → first_enabled p b (t ∷ ts) ≡ Some t
enabled_first p b t ts e = rw e refl

passed : (p : Settings) (b : Board) (t : Turn) (ts : List Turn) → enabled_on p b t ≡ false
    → first_enabled p b (t ∷ ts) ≡ first_enabled p b ts
passed p b t ts e = rw e refl

-- none of the units from a number on has its turn enabled
skips : (p : Settings) (b : Board) (f : ℕ → Turn) (i n : ℕ) (rest : List Turn)
    → ((k : ℕ) → i ≤ k → k < i + n → enabled_on p b (f k) ≡ false)
    → first_enabled p b (map f (range_with_len i n) ++ rest) ≡ first_enabled p b rest
skips p b f i zero rest none = refl
skips p b f i (suc n) rest none =
    passed p b (f i) (map f (range_with_len (i + 1) n) ++ rest) (none i (omega arith) (omega arith))
    ∙ skips p b f (i + 1) n rest (λ k from below. none k (omega arith) (omega arith))

-- the first unit, from a number on, that has its turn enabled
finds : (p : Settings) (b : Board) (f : ℕ → Turn) (i n : ℕ) (rest : List Turn) (unit ahead : ℕ)
    → unit ≡ i + ahead → unit < i + n → enabled_on p b (f unit) ≡ true
    → ((k : ℕ) → i ≤ k → k < unit → enabled_on p b (f k) ≡ false)
    → first_enabled p b (map f (range_with_len i n) ++ rest) ≡ Some (f unit)
finds p b f i zero rest unit ahead at below on before = absurd (omega arith)
finds p b f i (suc n) rest unit zero at below on before =
    let same : i ≡ unit = omega arith in
    enabled_first p b (f i) (map f (range_with_len (i + 1) n) ++ rest)
    (subst (λ k. enabled_on p b (f k) ≡ true) (sym same) on) ∙ ap (λ k. Some (f k)) same
finds p b f i (suc n) rest unit (suc ahead) at below on before =
    passed p b (f i) (map f (range_with_len (i + 1) n) ++ rest) (before i (omega arith) (omega arith))
    ∙ finds p b f (i + 1) n rest unit ahead (omega arith) (omega arith) on
    (λ k from less. before k (omega arith) less)

-- a unit's turn is enabled where the unit takes it, in a run that isn't over
named-takes : (p : Settings) (b : Board) (t : Turn) (k : ℕ) (turn : UnitTurn) (takes : Bool)
    → b.dispatcher.over ≡ false → turn_of_unit t ≡ Some (k, turn) → unit_takes b.clock (unit_in b k) turn ≡ takes
    → enabled_on p b t ≡ takes
named-takes p b t k turn takes going named is = rw going (rw named is)

pub unit_first : (p : Settings) (b : Board) (f : ℕ → Turn) (turn : UnitTurn) (rest : List Turn) (unit : ℕ)
    → ((k : ℕ) → turn_of_unit (f k) ≡ Some (k, turn)) → b.dispatcher.over ≡ false → length b.units ≡ units_in p
    → IsFirstTaker b turn unit → first_enabled p b (of_each p f ++ rest) ≡ Some (f unit)
unit_first p b f turn rest unit names going whole first =
    finds p b f 0 (units_in p) rest unit unit (omega arith) (omega (arith, first.within, whole))
    (named-takes p b (f unit) unit turn true going (names unit) first.takes)
    (λ k from less. named-takes p b (f k) k turn false going (names k) (first.before k less))

pub unit_none : (p : Settings) (b : Board) (f : ℕ → Turn) (turn : UnitTurn) (rest : List Turn)
    → ((k : ℕ) → turn_of_unit (f k) ≡ Some (k, turn)) → b.dispatcher.over ≡ false → length b.units ≡ units_in p
    → NoneTakes b turn (length b.units) → first_enabled p b (of_each p f ++ rest) ≡ first_enabled p b rest
unit_none p b f turn rest names going whole none =
    skips p b f 0 (units_in p) rest
    (λ k from less. named-takes p b (f k) k turn false going (names k) (none k (omega (arith, whole))))

-- in a run that is over no turn is enabled
pub over_none : (p : Settings) (b : Board) (ts : List Turn) → b.dispatcher.over ≡ true
    → first_enabled p b ts ≡ None
over_none p b [] over = refl
over_none p b (t ∷ ts) over = passed p b t ts (rw over refl) ∙ over_none p b ts over
