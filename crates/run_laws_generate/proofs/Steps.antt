-- What each turn of a generated run does to its board: it stays calm, and fewer turns may come.
use Rattle.std.proofs.Common.{◌≡◌, ◌⊎◌, ℕ, zero, suc, ◌+◌, ◌<◌, ◌≤◌, ◌==◌, ◌&&◌, not, List, [], ◌∷◌}
use Rattle.std.proofs.Common.{length, get_or, drop, Bool, true, false, Option, Some, None}
use Rattle.std.proofs.Common.{refl, sym, subst, arith}
use Rattle.std.proofs.Common.{length-drop}
use Rattle.std.specs.Prelude.{⊤}
use Rattle.run_capture.proofs.Facts.{not_true}
use Rattle.run_events.specs.declared.message.Message.{Message}
use Rattle.run_events.specs.declared.message.Message.TheVariants as messages
use Rattle.run_events.specs.declared.settings.Settings.{Settings}
use Rattle.run_events.specs.declared.turn.Turn.TheVariants as turns
use Rattle.run_model.specs.Admission.{Newcomer, newcomer, units_in}
use Rattle.run_model.specs.Board.{Board, moved, step, unit_in}
use Rattle.run_model.specs.Environment.{number}
use Rattle.run_model.specs.Turns.{deed_on, enabled_on, index_of}
use Rattle.run_model.specs.Turns.{taken_deed, unit_takes}
use Rattle.run_model.specs.Unit.{row}
use Rattle.run_model.specs.declared.phase.Phase.{Phase}
use Rattle.run_model.specs.declared.phase.Phase.TheVariants.{StartSent, RetrySent, Over}
use Rattle.run_model.specs.declared.unit_turn.UnitTurn.{UnitTurn}
use Rattle.run_model.specs.declared.unit_turn.UnitTurn.TheVariants as own
use Rattle.run_model.specs.declared.unit_view.UnitView.{UnitView}
use Rattle.run_laws_generate.proofs.Moves.{Eases, IsCalm, ahead, is_current, pace}
use Rattle.run_laws_generate.proofs.Moves.{step_eases, unit_eases}
use Rattle.run_laws_generate.proofs.Rows.{decide_lessens, due_lessens, take_lessens}
use Rattle.run_laws_generate.proofs.Next.{Stage, at_rest}
use Rattle.run_laws_generate.proofs.Weights.{IsEasy, IsPlain, Lessens}

-- a message of a script that ends
abbrev pub IsOfTest : Message → Type 0
IsOfTest (messages.ScriptFinish finish) = ⊥
IsOfTest m = ⊤

-- whether a unit waits for the delivery of its start or of a retry
abbrev pub is_sent : Phase → Bool
is_sent StartSent = true
is_sent RetrySent = true
is_sent ph = false

-- a unit that is admitted
pub record IsFresh (b : Board) (u : UnitView) : Type 0 where
  pub below : number u < length b.units
  pub absent : unit_in b (number u) ≡ None
  pub attempt : u.attempt ≡ 1
  pub line : u.line ≡ []
  pub plain : IsPlain u.terms
  pub phase : (u.phase ≡ StartSent) ⊎ (u.phase ≡ Over)

-- what a generated plan makes of the units and messages on a board
pub record IsKnown (p : Settings) (b : Board) : Type 0 where
  pub plain : (k : ℕ) (u : UnitView) → unit_in b k ≡ Some u → IsPlain u.terms
  pub news : (new : Newcomer) → newcomer p (index_of b.dispatcher) b.units ≡ Some new → IsFresh b new.unit
  pub kinds : (m : Message) (rest : List Message) → b.queue ≡ m ∷ rest → IsOfTest m
  -- where no message waits, no unit waits for the delivery of one
  pub waits : b.queue ≡ [] → (k : ℕ) (u : UnitView) → unit_in b k ≡ Some u → is_sent u.phase ≡ false
  -- where it is on and all units that were admitted are over, one more can be, if there is one
  pub admits : b.dispatcher.on ≡ true → ((k : ℕ) (u : UnitView) → unit_in b k ≡ Some u → u.phase ≡ Over)
      → (k : ℕ) → k < length b.units → unit_in b k ≡ None → enabled_on p b turns.Admit ≡ true
  pub whole : length b.units ≡ units_in p

-- of two tests that both pass, the first does
pub both-left : (a b : Bool) → (a && b) ≡ true → a ≡ true
both-left true b e = refl
both-left false b e = cc

-- and the second
pub both-right : (a b : Bool) → (a && b) ≡ true → b ≡ true
both-right true b e = e
both-right false b e = cc

-- a unit that stands in a list has a place in it
pub within_list : {X : Type 0} (xs : List (Option X)) (k : ℕ) (x : X) → get_or xs k None ≡ Some x → k < length xs
within_list [] k x is = cc
within_list (y ∷ xs) zero x is = omega arith
within_list (y ∷ xs) (suc k) x is = let rest = within_list xs k x is in omega arith

-- nothing is dropped
pub same_drop : {X : Type 0} (xs : List X) → length (drop 0 xs) ≡ length xs
same_drop xs = omega (arith, length-drop 0 xs)

-- how many turns that are no unit's may come
pub ahead-off : (over on reported : Bool) (n : ℕ) → over ≡ false → on ≡ false → ahead over on reported n ≡ n + 3
ahead-off true on reported n going off = cc
ahead-off false true reported n going off = cc
ahead-off false false reported n going off = refl

-- one at least comes of a run that is on
pub ahead-some : (over on reported : Bool) (n : ℕ) → over ≡ false → on ≡ true → 1 ≤ ahead over on reported n
ahead-some true on reported n going begun = cc
ahead-some false false reported n going begun = cc
ahead-some false true true n going begun = omega arith
ahead-some false true false n going begun = omega arith

-- of one that is on, and was not cancelled by a refused event
pub ahead-begun : (over on reported : Bool) (n : ℕ) → over ≡ false → on ≡ true → reported ≡ false
    → ahead over on reported n ≡ n + 2
ahead-begun true on reported n going begun fresh = cc
ahead-begun false false reported n going begun fresh = cc
ahead-begun false true true n going begun fresh = cc
ahead-begun false true false n going begun fresh = refl

-- and of one that was
pub ahead-told : (over on : Bool) (n : ℕ) → over ≡ false → on ≡ true → ahead over on true n ≡ 1
ahead-told true on n going begun = cc
ahead-told false false n going begun = cc
ahead-told false true n going begun = refl

-- a unit's own turn
pub acts_eases : (last after : Stage) (cost by : ℕ) (was current : Option ℕ) (b : Board) (k : ℕ) (u : UnitView)
    (to : UnitTurn) → IsCalm was b → unit_in b k ≡ Some u
    → Lessens b.clock (is_current current k) u.phase u by (row b.clock to u)
    → ((j : ℕ) → (k == j) ≡ false → is_current current j ≡ is_current was j) → pace after + cost ≤ pace last + by
    → Eases last after cost current b (moved b (taken_deed b.clock k to (unit_in b k)))
acts_eases last after cost by was current b k u to calm is lessens apart less =
    subst (λ o. Eases last after cost current b (moved b (taken_deed b.clock k to o))) (sym is)
    (unit_eases last after cost by was current b k u to false None calm is (within_list b.units k u is) refl lessens
    apart
    (sums (length (drop 0 b.queue)) (length b.queue) (pace after) cost (pace last) by (same_drop b.queue) less))
  where
    sums : (x q e c l by : ℕ) → x ≡ q → e + c ≤ l + by → x + e + c ≤ q + l + by
    sums x q e c l by same le = omega arith

-- a unit takes a request
pub take_eases : (p : Settings) (b : Board) (k : ℕ) → IsCalm None b → enabled_on p b (turns.Take k) ≡ true
    → Eases at_rest at_rest 1 None b (step b (turns.Take k) (deed_on p b (turns.Take k)))
take_eases p b k calm en =
    step_eases at_rest at_rest 1 None b (turns.Take k) (deed_on p b (turns.Take k))
    (by_unit (unit_in b k) refl (both-right (not b.dispatcher.over) (unit_takes b.clock (unit_in b k) own.Take) en))
  where
    by_unit : (o : Option UnitView) → unit_in b k ≡ o → unit_takes b.clock o own.Take ≡ true
        → Eases at_rest at_rest 1 None b (moved b (taken_deed b.clock k own.Take (unit_in b k)))
    by_unit None is takes = cc
    by_unit (Some u) is takes =
        let easy : IsEasy b.clock false u = calm.easy k u is in
        acts_eases at_rest at_rest 1 1 None None b k u own.Take calm is
        (take_lessens b.clock u.phase u takes easy.stands refl easy.line) (λ j e. refl) (omega arith)

-- a unit decides
pub decide_eases : (p : Settings) (b : Board) (k word : ℕ) → IsKnown p b → IsCalm None b
    → enabled_on p b (turns.Decide k word) ≡ true
    → Eases at_rest at_rest 1 None b (step b (turns.Decide k word) (deed_on p b (turns.Decide k word)))
decide_eases p b k word known calm en =
    step_eases at_rest at_rest 1 None b (turns.Decide k word) (deed_on p b (turns.Decide k word))
    (by_unit (unit_in b k) refl
    (both-right (not b.dispatcher.over) (unit_takes b.clock (unit_in b k) (own.Decide word)) en))
  where
    by_unit : (o : Option UnitView) → unit_in b k ≡ o → unit_takes b.clock o (own.Decide word) ≡ true
        → Eases at_rest at_rest 1 None b (moved b (taken_deed b.clock k (own.Decide word) (unit_in b k)))
    by_unit None is takes = cc
    by_unit (Some u) is takes =
        let easy : IsEasy b.clock false u = calm.easy k u is in
        acts_eases at_rest at_rest 1 1 None None b k u (own.Decide word) calm is
        (decide_lessens b.clock word false u.phase u takes easy.line (known.plain k u is)) (λ j e. refl) (omega arith)

-- a delay of a unit is over
pub due_eases : (p : Settings) (b : Board) (k : ℕ) → b.clock < 60000000000 → IsCalm None b
    → enabled_on p b (turns.UnitDue k) ≡ true
    → Eases at_rest at_rest 1 None b (step b (turns.UnitDue k) (deed_on p b (turns.UnitDue k)))
due_eases p b k early calm en =
    step_eases at_rest at_rest 1 None b (turns.UnitDue k) (deed_on p b (turns.UnitDue k))
    (by_unit (unit_in b k) refl (both-right (not b.dispatcher.over) (unit_takes b.clock (unit_in b k) own.Due) en))
  where
    by_unit : (o : Option UnitView) → unit_in b k ≡ o → unit_takes b.clock o own.Due ≡ true
        → Eases at_rest at_rest 1 None b (moved b (taken_deed b.clock k own.Due (unit_in b k)))
    by_unit None is takes = cc
    by_unit (Some u) is takes =
        let easy : IsEasy b.clock false u = calm.easy k u is in
        acts_eases at_rest at_rest 1 1 None None b k u own.Due calm is
        (due_lessens b.clock u.phase u early takes easy.stands easy.line) (λ j e. refl) (omega arith)
