-- The first units that take the turns that come by themselves, found in one pass over the working units.
use Rattle.std.proofs.Common.{◌≡◌, ℕ, ◌+◌, ◌<◌, length, get_or, Bool, true, false, Option, Some, None, refl, arith}
use Rattle.std.proofs.Common.{IfSome, IsNone, sym, subst}
use Rattle.run_model.specs.declared.unit_turn.UnitTurn.{UnitTurn}
use Rattle.run_model.specs.Board.{Board, unit_in}
use Rattle.run_model.specs.Turns.{unit_takes}
use Rattle.run_state.specs.Counted.{working_in}
use Rattle.run_state.specs.Settle.{IsFirstTaker, IsFirstOf, NoneTakes, first_of}
use Rattle.run_state.proofs.WorkingLemmas.{first_working, next_too, none_working}

-- none of the first working units, so many, takes a turn
abbrev pub NoneBy : Board → UnitTurn → ℕ → Type 0
NoneBy b turn n = (j : ℕ) → j < n → unit_takes b.clock (unit_in b (get_or (working_in b.units) j 0)) turn ≡ false

-- the first unit that takes a turn, none where none of the first working ones, so many, does
pub record IsFirstBy (b : Board) (turn : UnitTurn) (n : ℕ) (first : Option ℕ) : Type 0 where
  pub some : IfSome first (IsFirstTaker b turn)
  pub none : IsNone first → NoneBy b turn n

-- one more working unit takes no turn
pub none_more : (b : Board) (turn : UnitTurn) (n unit : ℕ) → unit ≡ get_or (working_in b.units) n 0
    → unit_takes b.clock (unit_in b unit) turn ≡ false → NoneBy b turn n → NoneBy b turn (n + 1)
none_more b turn n unit here takes none =
    next_too (λ j. unit_takes b.clock (unit_in b (get_or (working_in b.units) j 0)) turn ≡ false) n none
    (subst (λ (k : ℕ). unit_takes b.clock (unit_in b k) turn ≡ false) here takes)

-- the first one, after one more
pub first_more : (b : Board) (turn : UnitTurn) (n unit : ℕ) (takes : Bool) (first : Option ℕ)
    → n < length (working_in b.units) → unit ≡ get_or (working_in b.units) n 0
    → unit_takes b.clock (unit_in b unit) turn ≡ takes → IsFirstBy b turn n first
    → IsFirstBy b turn (n + 1) (first_of first unit takes)
first_more b turn n unit takes (Some u) inside here is by = record { some = by.some; none = λ e. cc }
first_more b turn n unit true None inside here is by = record {
  some = first_working b turn n unit inside (sym here) (by.none refl) is;
  none = λ e. cc;
}
first_more b turn n unit false None inside here is by = record {
  some = by.some;
  none = λ e. none_more b turn n unit here is (by.none refl);
}

-- where none of the working units takes a turn, none does
pub none_all : (b : Board) (turn : UnitTurn) (n : ℕ) → n ≡ length (working_in b.units) → NoneBy b turn n
    → NoneTakes b turn (length b.units)
none_all b turn n all none =
    none_working b turn (length b.units) (λ j below. none j (omega (arith, below, all)))

-- the first one, where it is that of all working units
pub first_all : (b : Board) (turn : UnitTurn) (n : ℕ) (first : Option ℕ) → n ≡ length (working_in b.units)
    → IsFirstBy b turn n first → IsFirstOf b turn first
first_all b turn n first all by = (by.some, λ e. none_all b turn n all (by.none e))

-- before the first working unit none takes a turn
pub first_none : (b : Board) (turn : UnitTurn) → IsFirstBy b turn 0 None
first_none b turn = record { some = tt; none = λ e j below. absurd (omega arith) }
