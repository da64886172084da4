-- The first place at which a list can't be continued to one that keeps a law.
use Rattle.std.specs.Prelude.{ℕ, ◌≡◌, ◌<◌, ◌≤◌, List, [], ◌∷◌, ◌++◌, length, take, Option, Some, None, Bool, true}
use Rattle.std.specs.Prelude.{option_map, option_and_then, if◌then◌else◌, suc}
use Rattle.std.specs.Option.{option_map_or}

-- some events can be continued to a list that keeps a law
abbrev pub CanGoOn : {E : Type 0} → (List E → Type 0) → List E → Type 0
CanGoOn {E} Keeps events = (more : List E) × Keeps (events ++ more)

-- a list stops keeping a law at a place: the events before it can be continued to a list that keeps the law, and not
-- with the one there; where all can be continued, the place is their number, and they don't keep the law as they are
pub record FailsAt {E : Type 0} (Keeps : List E → Type 0) (events : List E) (place : ℕ) : Type 0 where
  pub within : place ≤ length events
  pub before : CanGoOn Keeps (take place events)
  pub here : place < length events → ¬ (CanGoOn Keeps (take (suc place) events))
  pub missing : ¬ (Keeps events)

-- a machine: how it takes an event, where it does, and where it may end
pub record Machine (S E : Type 0) : Type 0 where
  pub takes : S → E → Option S
  pub is_done : S → Bool

-- its state after some events, where it takes each
abbrev pub state_after : {S E : Type 0} → Machine S E → S → List E → Option S
state_after m s [] = Some s
state_after m s (e ∷ events) = option_and_then (λ t. state_after m t events) (m.takes s e)

-- it takes these events from a state, and may end
abbrev pub Accepts : {S E : Type 0} → Machine S E → S → List E → Type 0
Accepts {S} {E} m s events = (t : S) × ((state_after m s events ≡ Some t) × (m.is_done t ≡ true))

-- the place of the first event that it doesn't take; their number where it takes all and may not end; none where it may
abbrev pub first_stop : {S E : Type 0} → Machine S E → S → List E → Option ℕ
first_stop m s [] = if m.is_done s then None else Some 0
first_stop m s (e ∷ events) = option_map_or (λ t. option_map suc (first_stop m t events)) (m.takes s e) (Some 0)

-- from each state that holds it can be continued to an end, and what holds is kept
pub record Completes {S E : Type 0} (m : Machine S E) (Holds : S → Type 0) : Type 0 where
  pub more : (s : S) → Holds s → (events : List E) × Accepts m s events
  pub kept : (s : S) (e : E) (t : S) → Holds s → m.takes s e ≡ Some t → Holds t

-- what a stop means
abbrev pub IsStopOf : {S E : Type 0} → Machine S E → S → List E → Option ℕ → Type 0
IsStopOf m s events None = Accepts m s events
IsStopOf m s events (Some place) = FailsAt (Accepts m s) events place
