-- What holds of the board of a generated run, how many turns may still come, and what a deed does to both.
use Rattle.std.proofs.Common.{◌≡◌, ◌≢◌, ℕ, ◌+◌, ◌<◌, ◌≤◌, ◌==◌, List, ◌++◌, length, get_or, set}
use Rattle.std.proofs.Common.{drop, Bool, true, false, Option, Some, None, if◌then◌else◌, option_map, option_to_list}
use Rattle.std.proofs.Common.{refl, ap}
use Rattle.std.proofs.Common.{sym, ◌∙◌, subst, arith, length-append, get_or-set_other}
use Rattle.std.proofs.Math.ListN.{length-set}
use Rattle.std.proofs.lemmas.Grind.{get_or-set_at}
use Rattle.run_clock.specs.Counted.{other}
use Rattle.run_events.specs.declared.ask.Ask.{Ask}
use Rattle.run_events.specs.declared.events.ReporterEvent.{ReporterEvent}
use Rattle.run_events.specs.declared.info.InfoResponse.{InfoResponse}
use Rattle.run_events.specs.declared.message.Message.{Message}
use Rattle.run_events.specs.declared.turn.Turn.{Turn}
use Rattle.run_model.specs.Board.{Board, Deed, anew, moved, step, unit_in, units_after}
use Rattle.run_model.specs.Environment.{number}
use Rattle.run_model.specs.Rounds.{act_of}
use Rattle.run_model.specs.Row.{Row}
use Rattle.run_model.specs.Turns.{nothing_done}
use Rattle.run_model.specs.Unit.{row}
use Rattle.run_model.specs.Words.{ns_of}
use Rattle.run_model.specs.declared.happening.UnitPart.{UnitPart}
use Rattle.run_model.specs.declared.happening.UnitPart.TheVariants.{Joins, Acts}
use Rattle.run_model.specs.declared.unit_turn.UnitTurn.{UnitTurn}
use Rattle.run_model.specs.declared.unit_view.UnitView.{UnitView}
use Rattle.run_laws_generate.proofs.Quiet.{IsQuiet, quiet_after}
use Rattle.run_laws_generate.proofs.Sums.{easy_later, sum_of, sum-set}
use Rattle.run_laws_generate.proofs.Next.{Stage, at_rest, after_tick, after_end}
use Rattle.run_laws_generate.proofs.Weights.{IsEasy, Lessens, weight}
use Rattle.run_laws.proofs.board.Boards.{length-units_after}

-- whether a unit is the one whose child's stream has ended, if there is one
abbrev pub is_current : Option ℕ → ℕ → Bool
is_current None k = false
is_current (Some j) k = j == k

-- what holds of the board of a generated run: before it begins no unit was admitted
pub record IsCalm (current : Option ℕ) (b : Board) : Type 0 where
  pub quiet : IsQuiet b.dispatcher
  pub easy : (k : ℕ) (u : UnitView) → unit_in b k ≡ Some u → IsEasy b.clock (is_current current k) u
  pub before : b.dispatcher.on ≡ false → b.dispatcher.over ≡ false → (k : ℕ) → unit_in b k ≡ None

-- how many turns may come that are no unit's, of a run that is over, on, and was cancelled by a refused event, or not
abbrev pub ahead : Bool → Bool → Bool → ℕ → ℕ
ahead true on reported n = 0
ahead false true true n = 1
ahead false true false n = n + 2
ahead false false reported n = n + 3

-- what a turn of the clock has ahead of it: the clock's counts as twenty
abbrev pub pace : Stage → ℕ
pace at_rest = 21
pace after_tick = 1
pace after_end = 0

-- the same on a board
abbrev pub ahead_on : Board → ℕ
ahead_on b = ahead b.dispatcher.over b.dispatcher.on b.dispatcher.causes.reported (length b.units)

-- how many turns may come, of units, messages and the run itself
abbrev pub load : Stage → Board → ℕ
load last b = sum_of b.units + length b.queue + ahead_on b + pace last

-- the board stays calm, and so many turns fewer may come
pub record Eases (last after : Stage) (cost : ℕ) (current : Option ℕ) (old new : Board) : Type 0 where
  pub calm : IsCalm current new
  pub less : load after new + cost ≤ load last old
  pub whole : length new.units ≡ length old.units

-- where the clock moves with a deed
pub step_eases : (last after : Stage) (cost : ℕ) (current : Option ℕ) (b : Board) (turn : Turn) (d : Deed)
    → Eases last after cost current b (moved b d) → Eases last after cost current b (step b turn d)
step_eases last after cost current b turn d it = record {
  calm = record {
    quiet = it.calm.quiet;
    easy = λ k u is. easy_later (moved b d).clock (b.clock + ns_of turn) (is_current current k) u
        (later (moved b d).clock b.clock (ns_of turn) (clock_same d.begins)) (it.calm.easy k u is);
    before = it.calm.before;
  };
  less = it.less;
  whole = it.whole;
}
  where
    clock_same : (begins : Bool) → (if begins then anew b else b).clock ≡ b.clock
    clock_same true = refl
    clock_same false = refl

    later : (a c n : ℕ) → a ≡ c → a ≤ c + n
    later a c n same = omega arith

-- a deed that is no begin, no end and no cause
abbrev pub plain_deed : Option UnitPart → Option Message → List (ℕ × InfoResponse) → Bool → Option ReporterEvent
    → Option Ask → Deed
plain_deed part sent info taken told asked = record nothing_done {
  part = part;
  sent = sent;
  info = info;
  taken = taken;
  told = told;
  asked = asked;
}

-- such a deed leaves the board calm and lessens what may come, where its part and its message do
pub plain_eases : (last after : Stage) (cost : ℕ) (was current : Option ℕ) (b : Board) (part : Option UnitPart)
    (sent : Option Message) (info : List (ℕ × InfoResponse)) (taken : Bool) (told : Option ReporterEvent)
    (asked : Option Ask)
    → IsCalm was b → act_of told ≡ other
    → ((k : ℕ) (u : UnitView) → get_or (units_after b.clock part b.units) k None ≡ Some u
    → IsEasy b.clock (is_current current k) u)
    → (b.dispatcher.on ≡ false → b.dispatcher.over ≡ false → (k : ℕ)
    → get_or (units_after b.clock part b.units) k None ≡ None)
    → sum_of (units_after b.clock part b.units) + length (option_to_list sent)
    + length (drop (if taken then 1 else 0) b.queue) + pace after + cost
    ≤ sum_of b.units + length b.queue + pace last
    → Eases last after cost current b (moved b (plain_deed part sent info taken told asked))
plain_eases last after cost was current b part sent info taken told asked calm act easy before less = record {
  calm = record { quiet = quiet_after b.clock b.dispatcher d calm.quiet act refl; easy = easy; before = before };
  less = sums (sum_of (units_after b.clock part b.units)) (length (option_to_list sent))
      (length (drop (if taken then 1 else 0) b.queue)) (ahead_on (moved b d)) (ahead_on b) (pace after) cost
      (sum_of b.units) (length b.queue) (pace last)
      (length (drop (if taken then 1 else 0) b.queue ++ option_to_list sent))
      (length-append (drop (if taken then 1 else 0) b.queue) (option_to_list sent))
      (ap (ahead b.dispatcher.over b.dispatcher.on b.dispatcher.causes.reported) (length-units_after b.clock part
      b.units))
      less;
  whole = length-units_after b.clock part b.units;
}
  where
    d : Deed
    d = plain_deed part sent info taken told asked

    sums : (a s q x y e c m n l all : ℕ) → all ≡ q + s → x ≡ y → a + s + q + e + c ≤ m + n + l
        → a + all + x + e + c ≤ m + n + y + l
    sums a s q x y e c m n l all joined same le = omega arith

-- the units with another one at a place
pub easy-set : (now : ℕ) (was current : Option ℕ) (us : List (Option UnitView)) (k : ℕ) (v : UnitView) → k < length us
    → ((j : ℕ) (u : UnitView) → get_or us j None ≡ Some u → IsEasy now (is_current was j) u)
    → ((j : ℕ) → (k == j) ≡ false → is_current current j ≡ is_current was j)
    → IsEasy now (is_current current k) v
    → (j : ℕ) (u : UnitView) → get_or (set us k (Some v)) j None ≡ Some u → IsEasy now (is_current current j) u
easy-set now was current us k v below easy apart here j u is = by_place (k == j) refl
  where
    by_place : (b : Bool) → (k == j) ≡ b → IsEasy now (is_current current j) u
    by_place true e =
        let at : j ≡ k = grind arith in
        let same : Some v ≡ Some u = sym (get_or-set_at us k j (Some v) None at (omega arith)) ∙ is in
        let it : v ≡ u = cc in
        subst (λ j. IsEasy now (is_current current j) u) (sym at) (subst (IsEasy now (is_current current k)) it here)
    by_place false e =
        let other : j ≢ k = grind arith in
        subst (λ c. IsEasy now c u) (sym (apart j e))
        (easy j u (sym (get_or-set_other us k j (Some v) None other) ∙ is))

-- a turn of a unit
pub unit_eases : (last after : Stage) (cost by : ℕ) (was current : Option ℕ) (b : Board) (k : ℕ) (u : UnitView)
    (turn : UnitTurn) (taken : Bool) (told : Option ReporterEvent)
    → IsCalm was b → unit_in b k ≡ Some u → k < length b.units → act_of told ≡ other
    → Lessens b.clock (is_current current k) u.phase u by (row b.clock turn u)
    → ((j : ℕ) → (k == j) ≡ false → is_current current j ≡ is_current was j)
    → length (drop (if taken then 1 else 0) b.queue) + pace after + cost ≤ length b.queue + pace last + by
    → Eases last after cost current b (moved b (plain_deed (Some (Acts k turn)) (row b.clock turn u).sent
    (row b.clock turn u).info taken told (row b.clock turn u).asked))
unit_eases last after cost by was current b k u turn taken told calm is below act lessens apart less =
    plain_eases last after cost was current b (Some (Acts k turn)) r.sent r.info taken told r.asked calm act
    (λ j v at. easy-set b.clock was current b.units k r.next below calm.easy apart lessens.easy j v
    (sym (ap (λ us. get_or us j None) placed) ∙ at))
    (λ off going. let never : None ≡ Some u = sym (calm.before off going k) ∙ is in cc)
    (sums (sum_of (set b.units k (Some r.next))) (sum_of (units_after b.clock (Some (Acts k turn)) b.units))
    (weight (Some r.next)) (weight (get_or b.units k None)) (weight (Some u)) (sum_of b.units)
    (length (option_to_list r.sent)) (length (drop (if taken then 1 else 0) b.queue)) (pace after) cost
    (length b.queue) (pace last) by
    (ap sum_of placed) (ap weight is) (sum-set b.units k (Some r.next) below) lessens.less less)
  where
    r : Row
    r = row b.clock turn u

    placed : units_after b.clock (Some (Acts k turn)) b.units ≡ set b.units k (Some r.next)
    placed = ap (λ o. set b.units k (option_map (λ v. (row b.clock turn v).next) o)) is

    sums : (x y w g v s m q e c n l by : ℕ) → y ≡ x → g ≡ v → x + g ≡ s + w → w + m + by ≤ v
        → q + e + c ≤ n + l + by → y + m + q + e + c ≤ s + n + l
    sums x y w g v s m q e c n l by same was set less rest = omega arith
