-- A generated run on its way: its board is calm, and its turns so far and those to come are few.
use Rattle.std.proofs.Common.{◌≡◌, ℕ, suc, ◌+◌, ◌*◌, ◌<◌, ◌≤◌, List, [], ◌∷◌, length}
use Rattle.std.proofs.Common.{Option, Some, None, refl, ap, sym, ◌∙◌, subst}
use Rattle.std.proofs.Common.{arith}
use Rattle.std.specs.Prelude.{⊤}
use Rattle.run_events.specs.declared.settings.Settings.{Settings}
use Rattle.run_events.specs.declared.turn.Turn.{Turn}
use Rattle.run_events.specs.declared.turn.Turn.TheVariants as turns
use Rattle.run_model.specs.Admission.{units_in}
use Rattle.run_model.specs.Board.{Board, answered, board, step, unit_in}
use Rattle.run_model.specs.Journal.{history, IsLegalBackward}
use Rattle.run_model.specs.Turns.{deed_on}
use Rattle.run_model.specs.Words.{ns_of, units}
use Rattle.run_model.specs.declared.entry.Entry.{Entry}
use Rattle.run_laws.proofs.board.Boards.{board-steps}
use Rattle.run_laws.proofs.board.Kept.{holds}
use Rattle.run_laws.proofs.board.OnBoard.{unit_in-is, units-length}
use Rattle.run_laws_generate.proofs.Goes.{Goes, IsAt, cost_of, goes, ticks_of}
use Rattle.run_laws_generate.proofs.Known.{IsPlainPlan, known}
use Rattle.run_laws_generate.proofs.Moves.{IsCalm, load}
use Rattle.run_laws_generate.proofs.Next.{Stage, at_rest, after_tick, after_end, stage_of, next_by}
use Rattle.run_laws_generate.proofs.Sums.{sum-none, sum_of}

-- what the last turn of a journal was, whose newest entry stands first
abbrev pub last_back : List Entry → Stage
last_back [] = at_rest
last_back (e ∷ before) = stage_of (Some e.turn)

-- the board after a journal whose newest entry stands first
abbrev pub board_back : Settings → List Entry → Board
board_back p backward = board p (history p backward)

-- each of its turns is the next one
abbrev pub IsGeneratedBack : Settings → List Entry → Type 0
IsGeneratedBack p [] = ⊤
IsGeneratedBack p (e ∷ before) =
    (next_by p (board_back p before) (last_back before) ≡ Some e.turn) × IsGeneratedBack p before

-- how many turns of the clock, and other ones, there were, and how many may come
pub record HasRun (p : Settings) (backward : List Entry) : Type 0 where
  pub current : Option ℕ
  pub calm : IsCalm current (board_back p backward)
  pub at : IsAt (last_back backward) current (board_back p backward)
  pub ticks : ℕ
  pub others : ℕ
  pub whole : length backward ≡ others + ticks
  pub clock : (board_back p backward).clock ≡ 1000000 * ticks
  pub few : load (last_back backward) (board_back p backward) + others + 20 * ticks ≤ 55 * units_in p + 24

-- the clock is within a minute
pub early : (p : Settings) (backward : List Entry) → units_in p ≤ 20000 → HasRun p backward
    → (board_back p backward).clock < 60000000000
early p backward most ran =
    sums (board_back p backward).clock ran.ticks ran.others (load (last_back backward) (board_back p backward))
    (units_in p) most ran.clock ran.few
  where
    sums : (c t o l n : ℕ) → n ≤ 20000 → c ≡ 1000000 * t → l + o + 20 * t ≤ 55 * n + 24 → c < 60000000000
    sums c t o l n most is few = omega arith

-- before the first turn
start : (p : Settings) → IsPlainPlan p → HasRun p []
start p is = record {
  current = None;
  calm = record {
    quiet = record {
      asks = refl;
      opened = refl;
      global = refl;
      single = is.single;
      all = is.all;
      unlimited = is.unlimited;
    };
    easy = λ k u at. let never : None ≡ Some u = sym (none k) ∙ at in cc;
    before = λ off going k. none k;
  };
  at = refl;
  ticks = 0;
  others = 0;
  whole = refl;
  clock = refl;
  few = sums (sum_of (units p [])) (length (units p [])) (units_in p) (sum-none (units p []) none) (units-length p []);
}
  where
    none : (k : ℕ) → unit_in (board_back p []) k ≡ None
    none k = unit_in-is p 0 [] k (holds p [] tt)

    sums : (s m n : ℕ) → s ≡ 54 * m → m ≡ n → s + 0 + (m + 3) + 21 + 0 + 20 * 0 ≤ 55 * n + 24
    sums s m n sum same = omega arith

-- a turn that isn't the clock's
others_of : Turn → ℕ
others_of (turns.Clock ns) = 0
others_of turn = 1

-- a turn is one of the clock or another one, and counts as its cost
record IsCounted (turn : Turn) : Type 0 where
  one : others_of turn + ticks_of turn ≡ 1
  cost : others_of turn + 20 * ticks_of turn ≡ cost_of turn

-- each turn is so
counted : (turn : Turn) → IsCounted turn
unfolding others_of
counted (turns.Clock ns) = record { one = refl; cost = refl }
counted turn = record { one = refl; cost = refl }

-- after one more turn
more : (p : Settings) (e : Entry) (before : List Entry) → IsLegalBackward p (e ∷ before) → HasRun p before
    → Goes p (last_back before) e.turn (board_back p before)
    → HasRun p (e ∷ before)
more p e before legal ran it =
    let next : board_back p (e ∷ before) ≡ answered (step (board_back p before) e.turn
    (deed_on p (board_back p before) e.turn)) e.refused =
    board-steps p before e legal.2 legal.0 in
    let count = counted e.turn in
    record {
      current = it.current;
      calm = subst (IsCalm it.current) (sym next)
          (record { quiet = it.eases.calm.quiet; easy = it.eases.calm.easy; before = it.eases.calm.before });
      at = subst (IsAt (stage_of (Some e.turn)) it.current) (sym next)
          (still (stage_of (Some e.turn)) it.current it.at);
      ticks = ran.ticks + ticks_of e.turn;
      others = ran.others + others_of e.turn;
      whole = longer (length before) ran.others ran.ticks (others_of e.turn) (ticks_of e.turn) ran.whole count.one;
      clock = ap (λ (b : Board). b.clock) next
          ∙ passes (board_back p before).clock ran.ticks (ns_of e.turn) (ticks_of e.turn) ran.clock it.time;
      few = sums (load (stage_of (Some e.turn)) (board_back p (e ∷ before))) (load (stage_of (Some e.turn)) after)
          (load (last_back before) (board_back p before)) ran.others ran.ticks (others_of e.turn) (ticks_of e.turn)
          (cost_of e.turn) (55 * units_in p + 24) (ap (load (stage_of (Some e.turn))) next) it.eases.less count.cost
          ran.few;
    }
  where
    after : Board
    after = step (board_back p before) e.turn (deed_on p (board_back p before) e.turn)

    still : (last : Stage) (current : Option ℕ) → IsAt last current after → IsAt last current (answered after e.refused)
    still at_rest current at = at
    still after_tick current at = at
    still after_end current at = at

    longer : (n o t x y : ℕ) → n ≡ o + t → x + y ≡ 1 → suc n ≡ (o + x) + (t + y)
    longer n o t x y same one = omega arith

    passes : (c t ns y : ℕ) → c ≡ 1000000 * t → ns ≡ 1000000 * y → c + ns ≡ 1000000 * (t + y)
    passes c t ns y was is = omega arith

    sums : (x l m o t a b c n : ℕ) → x ≡ l → l + c ≤ m → a + 20 * b ≡ c → m + o + 20 * t ≤ n
        → x + (o + a) + 20 * (t + b) ≤ n
    sums x l m o t a b c n same less cost few = omega arith

-- so each generated run is on its way
pub has_run : (p : Settings) (backward : List Entry) → IsPlainPlan p → units_in p ≤ 20000
    → IsLegalBackward p backward → IsGeneratedBack p backward → HasRun p backward
has_run p [] is most legal generated = start p is
has_run p (e ∷ before) is most legal generated =
    let ran : HasRun p before = has_run p before is most legal.2 generated.1 in
    more p e before legal ran
    (goes p (board_back p before) (last_back before) ran.current e.turn (known p before is legal.2) ran.calm
    (early p before most ran) ran.at generated.0 legal.0)
