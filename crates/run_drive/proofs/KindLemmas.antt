-- Kinds of turns.
use Rattle.std.proofs.Common.{◌≡◌, ℕ, List, [], ◌∷◌, Bool, true, false, cond, ◌&&◌, ◌||◌, refl, sym, subst}
use Rattle.std.specs.List.{All}
use Rattle.std.proofs.Math.Bool.{or-true}
use Rattle.std.proofs.lemmas.List.Elements.{All-head, All-tail}
use Rattle.run_events.specs.declared.turn.Turn.{Turn}
use Rattle.run_events.specs.declared.turn.Turn.TheVariants as turns
use Rattle.run_shared.specs.declared.shared.Receipt.{Receipt}
use Rattle.run_shared.specs.Settled.{is_settled_turn}
use Rattle.run_drive.specs.declared.spawner.Begun.{Begun}
use Rattle.run_drive.specs.declared.spawner.Begun.TheVariants.{Started, Refused}
use Rattle.run_drive.specs.declared.spawner.Said.{Said}
use Rattle.run_drive.specs.declared.spawner.Said.TheVariants.{Piece, End, ReadError, Exit, WaitFailed, Env}
use Rattle.run_drive.specs.Heard.{begun_turn, said_turn}
use Rattle.run_drive.specs.Driven.{is_child_turn, is_clock_turn, OfWorker, OfTicker, child_turns}
use Rattle.run_drive.specs.Added.{IsSettled}

-- no turn is both of a child and settled
apart : (t : Turn) → (is_settled_turn t && is_child_turn t) ≡ false
apart turns.Begin = refl
apart turns.Admit = refl
apart turns.Deliver = refl
apart (turns.Started unit pid) = refl
apart (turns.StartFailed unit error) = refl
apart (turns.Exit unit exit) = refl
apart (turns.WaitFailed unit error) = refl
apart (turns.Piece unit stream bytes) = refl
apart (turns.StreamEnd unit stream) = refl
apart (turns.ReadError unit stream error) = refl
apart (turns.Env unit input) = refl
apart (turns.Decide unit word) = refl
apart (turns.UnitDue unit) = refl
apart turns.GlobalDue = refl
apart turns.StopWaitDue = refl
apart turns.InfoDue = refl
apart turns.Answer = refl
apart (turns.Take unit) = refl
apart (turns.Clock ns) = refl
apart (turns.Signal signal) = refl
apart (turns.Key key) = refl
apart turns.Tick = refl
apart turns.ReportCancel = refl
apart turns.End = refl

not_child : (t : Turn) → is_settled_turn t ≡ true → is_child_turn t ≡ false
not_child t settled = subst (λ (b : Bool). (b && is_child_turn t) ≡ false) settled (apart t)

-- settled turns tell nothing of children
pub settled_quiet : (rs : List Receipt) → All IsSettled rs → child_turns rs ≡ []
settled_quiet [] each = refl
settled_quiet (r ∷ rs) each =
    subst (λ (b : Bool). cond b (r.turn ∷ child_turns rs) (child_turns rs) ≡ [])
    (sym (not_child r.turn (All-head IsSettled r rs each))) (settled_quiet rs (All-tail IsSettled r rs each))

-- what is said of a child is a turn of a child
pub said_child : (unit : ℕ) (said : Said) → is_child_turn (said_turn unit said) ≡ true
said_child unit (Piece stream bytes) = refl
said_child unit (End stream) = refl
said_child unit (ReadError stream error) = refl
said_child unit (Exit exit) = refl
said_child unit (WaitFailed error) = refl
said_child unit (Env input) = refl

pub begun_child : (unit : ℕ) (begun : Begun) → is_child_turn (begun_turn unit begun) ≡ true
begun_child unit (Started pid) = refl
begun_child unit (Refused error) = refl

-- who takes a turn that is settled, or of his kind
or_settled : (own : Turn → Bool) (t : Turn) → is_settled_turn t ≡ true → (own t || is_settled_turn t) ≡ true
or_settled own t settled = subst (λ (b : Bool). (own t || b) ≡ true) (sym settled) (or-true (own t))

pub settled_of_ticker : (r : Receipt) → IsSettled r → OfTicker r
settled_of_ticker r settled = or_settled is_clock_turn r.turn settled

pub settled_of_worker : (r : Receipt) → IsSettled r → OfWorker r
settled_of_worker r settled = or_settled is_child_turn r.turn settled

pub child_of_worker : (r : Receipt) → is_child_turn r.turn ≡ true → OfWorker r
child_of_worker r child = subst (λ (b : Bool). (b || is_settled_turn r.turn) ≡ true) (sym child) refl

pub step_of_ticker : (ns : ℕ) (r : Receipt) → r.turn ≡ turns.Clock ns → OfTicker r
step_of_ticker ns r same = subst (λ (t : Turn). (is_clock_turn t || is_settled_turn t) ≡ true) (sym same) refl

-- the receipt of a turn of a child tells that turn
pub child_first : (r : Receipt) (rest : List Receipt) → is_child_turn r.turn ≡ true
    → child_turns (r ∷ rest) ≡ r.turn ∷ child_turns rest
child_first r rest child =
    subst (λ (b : Bool). cond b (r.turn ∷ child_turns rest) (child_turns rest) ≡ r.turn ∷ child_turns rest)
    (sym child) refl
