-- Orders of a run: what it means that each thing asked was handed on once, and what is wrong with them.
use Rattle.std.specs.Prelude.{ℕ, ◌≡◌, ◌≢◌, ◌+◌, ◌<◌, ◌≤◌, ◌==◌, List, ◌++◌, map, Bool, true, false, if◌then◌else◌}
use Rattle.std.specs.Prelude.{Option, Some, None, slice_get, slice_index_or, count_by}
use Rattle.std.specs.Option.{IsSome}
use Rattle.std.specs.List.{All, Contains}
use Rattle.run_events.specs.declared.ask.Ask.{Ask}
use Rattle.run_events.specs.declared.ask.Ask.TheVariants as asks
use Rattle.run_events.specs.declared.ask.SignalAsk.{SignalAsk}
use Rattle.run_model.specs.Words.{times}
use Rattle.run_shared.specs.declared.orders.Errand.{Errand}
use Rattle.run_shared.specs.declared.orders.Errand.TheVariants as errands
use Rattle.run_shared.specs.declared.orders.Order.{Order}
use Rattle.run_shared.specs.declared.orders.Halt.{Halt}
use Rattle.run_shared.specs.declared.order_check.OrderFault.{OrderFault}
use Rattle.run_shared.specs.declared.order_check.OrderFault.TheVariants.{Unasked, Repeated, Lost, OutOfMemory}
use Rattle.run_shared.specs.Receipts.{Marks}

-- what an ask wants handed on: a signal or the stop of the program; a start is claimed instead
abbrev pub errand_of : Ask → Option Errand
errand_of (asks.Start start) = None
errand_of (asks.Signal ask) = Some (errands.Signal ask)
errand_of asks.StopSelf = Some errands.Stop

-- the same of the ask at a place
abbrev pub errand_in : Option (ℕ × Ask) → Option Errand
errand_in None = None
errand_in (Some asked) = errand_of asked.1

abbrev pub errand_at : List (ℕ × Ask) → ℕ → Option Errand
errand_at asked place = errand_in (slice_get asked place)

-- the signal for a unit, where the errand is one
abbrev pub signal_to : ℕ → Option Errand → Option SignalAsk
signal_to unit None = None
signal_to unit (Some errands.Stop) = None
signal_to unit (Some (errands.Signal ask)) = if ask.unit == unit then Some ask else None

-- the first signal for a unit among what was asked from a place on
pub record IsNextOrder (asked : List (ℕ × Ask)) (unit from : ℕ) (order : Order) : Type 0 where
  pub asked_there : errand_at asked order.place ≡ Some (errands.Signal order.ask)
  pub to_unit : order.ask.unit ≡ unit
  pub later : from ≤ order.place
  pub first : (k : ℕ) → from ≤ k → k < order.place → signal_to unit (errand_at asked k) ≡ None

-- no signal for a unit was asked from a place on
abbrev pub HasNoOrder : List (ℕ × Ask) → ℕ → ℕ → Type 0
HasNoOrder asked unit from = (k : ℕ) → from ≤ k → signal_to unit (errand_at asked k) ≡ None

-- the place of the first stop of the program among what was asked from a place on
pub record IsNextHalt (asked : List (ℕ × Ask)) (from place : ℕ) : Type 0 where
  pub asked_there : errand_at asked place ≡ Some errands.Stop
  pub later : from ≤ place
  pub first : (k : ℕ) → from ≤ k → k < place → errand_at asked k ≢ Some errands.Stop

-- no stop of the program was asked from a place on
abbrev pub HasNoHalt : List (ℕ × Ask) → ℕ → Type 0
HasNoHalt asked from = (k : ℕ) → from ≤ k → errand_at asked k ≢ Some errands.Stop

-- whether an ask is a signal, and how many of what was asked are
abbrev pub is_signal : Ask → Bool
is_signal (asks.Start start) = false
is_signal (asks.Signal ask) = true
is_signal asks.StopSelf = false

abbrev pub signal_count : List (ℕ × Ask) → ℕ
signal_count asked = count_by (λ (a : ℕ × Ask). is_signal a.1) asked

-- what orders and halts hand on, each with its place
abbrev pub ordered : List Order → List (ℕ × Errand)
ordered os = map (λ (o : Order). (o.place, errands.Signal o.ask)) os

abbrev pub halted : List Halt → List (ℕ × Errand)
halted hs = map (λ (h : Halt). (h.place, errands.Stop)) hs

-- the places of what was handed on
abbrev pub errand_places : List (ℕ × Errand) → List ℕ
errand_places xs = map (λ (x : ℕ × Errand). x.0) xs

-- what was handed on was asked at its place
abbrev pub WasAsked : List (ℕ × Ask) → ℕ × Errand → Type 0
WasAsked asked x = errand_at asked x.0 ≡ Some x.1

-- each signal and each stop that was asked was handed on exactly once, and nothing else was
pub record Delivers (asked : List (ℕ × Ask)) (xs : List (ℕ × Errand)) : Type 0 where
  pub each : All (WasAsked asked) xs
  pub apart : (k : ℕ) → times k (errand_places xs) ≤ 1
  pub once : (k : ℕ) → IsSome (errand_at asked k) → times k (errand_places xs) ≡ 1

-- something was handed on under a place at which it wasn't asked
abbrev pub IsUnasked : List (ℕ × Ask) → List (ℕ × Errand) → ℕ → Type 0
IsUnasked asked xs place = (e : Errand) × Contains xs (place, e) × (errand_at asked place ≢ Some e)

-- what is wrong with what was handed on
abbrev pub IsOrderFault : List (ℕ × Ask) → List (ℕ × Errand) → OrderFault → Type 0
IsOrderFault asked xs (Unasked place) = IsUnasked asked xs place
IsOrderFault asked xs (Repeated place) = 2 ≤ times place (errand_places xs)
IsOrderFault asked xs (Lost place) = IsSome (errand_at asked place) × (times place (errand_places xs) ≡ 0)
IsOrderFault asked xs OutOfMemory = Unit {0}

-- the same so far, where these places were looked at before
abbrev pub IsFaultAfter : List (ℕ × Ask) → List ℕ → List (ℕ × Errand) → OrderFault → Type 0
IsFaultAfter asked before xs (Unasked place) = IsUnasked asked xs place
IsFaultAfter asked before xs (Repeated place) = 2 ≤ times place (before ++ errand_places xs)
IsFaultAfter asked before xs (Lost place) = ⊥
IsFaultAfter asked before xs OutOfMemory = ⊥

-- after any places that the flags say
abbrev pub HasFaultAfter : List (ℕ × Ask) → List Bool → List (ℕ × Errand) → OrderFault → Type 0
HasFaultAfter asked seen xs e = (ns : List ℕ) → Marks seen ns → IsFaultAfter asked ns xs e

-- all of this was asked, and its places were flagged
pub record Flags (asked : List (ℕ × Ask)) (seen now : List Bool) (xs : List (ℕ × Errand)) : Type 0 where
  pub each : All (WasAsked asked) xs
  pub marked : (ns : List ℕ) → Marks seen ns → Marks now (ns ++ errand_places xs)

-- no flag stands at a place at which something was asked
abbrev pub IsUnflagged : List (ℕ × Ask) → List Bool → ℕ → Type 0
IsUnflagged asked seen k = IsSome (errand_at asked k) × (slice_index_or seen k false ≡ false)
