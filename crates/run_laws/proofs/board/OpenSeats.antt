-- The seats of the tests at each moment while the messages that wait are told.
use Rattle.std.proofs.Common.{◌≡◌, ℕ, zero, suc, ◌==◌, List, [], ◌∷◌, ◌++◌, take, drop, Bool, true, false}
use Rattle.std.proofs.Common.{if◌then◌else◌, Some, refl}
use Rattle.run_events.specs.declared.message.Message.{Message}
use Rattle.run_events.specs.declared.message.Message.TheVariants.{Start, Finish}
use Rattle.run_admission.specs.declared.seat.Seat.{Seat}
use Rattle.run_admission.specs.declared.seat.Seat.TheVariants.{Gone}
use Rattle.run_admission.proofs.FewerLemmas.{IsBelow}
use Rattle.run_laws.specs.Limits.{seat_in}

-- the seats after a message was told: a start opens one, in its slots, and a finish closes it
abbrev pub opened : Message → (ℕ → Seat) → ℕ → Seat
opened (Start start) seat k = if start.test.unit == k then seat_in (Some start.slot) else seat k
opened (Finish finish) seat k = if finish.test.unit == k then Gone else seat k
opened _ seat k = seat k

-- the seats after all of these messages were told
abbrev pub at_last : (ℕ → Seat) → List Message → ℕ → Seat
at_last seat [] = seat
at_last seat (m ∷ ms) = at_last (opened m seat) ms

-- a property holds of the seats before these messages are told, and after each of them
abbrev pub Along : ((ℕ → Seat) → Type 0) → (ℕ → Seat) → List Message → Type 0
Along P seat [] = P seat
Along P seat (m ∷ ms) = P seat × Along P (opened m seat) ms

-- each seat of one function is below that of another
abbrev pub AreLower : (ℕ → Seat) → (ℕ → Seat) → Type 0
AreLower seat other = (k : ℕ) → IsBelow (seat k) (other k)

-- a property that lower seats have where higher ones do
abbrev pub IsOfFewer : ((ℕ → Seat) → Type 0) → Type 0
IsOfFewer P = (seat other : ℕ → Seat) → AreLower seat other → P other → P seat

-- what holds along the messages holds of the seats before them
pub along-now : (P : (ℕ → Seat) → Type 0) (seat : ℕ → Seat) (ms : List Message) → Along P seat ms → P seat
along-now P seat [] h = h
along-now P seat (m ∷ ms) h = h.0

-- seats that are the same are lower
pub same_lower : (seat other : ℕ → Seat) → ((k : ℕ) → seat k ≡ other k) → AreLower seat other
same_lower seat other same k used = same k

-- lower seats are lower after a message was told
opened-lower : (m : Message) (seat other : ℕ → Seat) → AreLower seat other → AreLower (opened m seat) (opened m other)
opened-lower (Start start) seat other h k = by_unit (start.test.unit == k)
  where
    by_unit : (b : Bool)
        → IsBelow (if b then seat_in (Some start.slot) else seat k) (if b then seat_in (Some start.slot) else other k)
    by_unit true used = refl
    by_unit false used = h k used
opened-lower (Finish finish) seat other h k = by_unit (finish.test.unit == k)
  where
    by_unit : (b : Bool) → IsBelow (if b then Gone else seat k) (if b then Gone else other k)
    by_unit true used = refl
    by_unit false used = h k used
opened-lower m seat other h k = h k

-- lower seats are lower after all messages were told
pub at_last-lower : (ms : List Message) (seat other : ℕ → Seat) → AreLower seat other
    → AreLower (at_last seat ms) (at_last other ms)
at_last-lower [] seat other h = h
at_last-lower (m ∷ ms) seat other h = at_last-lower ms (opened m seat) (opened m other) (opened-lower m seat other h)

-- what fewer keep holds along the messages from lower seats, where it does from higher ones
pub along-lower : (P : (ℕ → Seat) → Type 0) → IsOfFewer P → (ms : List Message) (seat other : ℕ → Seat)
    → AreLower seat other → Along P other ms → Along P seat ms
along-lower P fewer [] seat other h along = fewer seat other h along
along-lower P fewer (m ∷ ms) seat other h along =
    let next : AreLower (opened m seat) (opened m other) = opened-lower m seat other h in
    (fewer seat other h along.0, along-lower P fewer ms (opened m seat) (opened m other) next along.1)

-- what holds along the messages, and after one more, holds along all of them
pub along-append : (P : (ℕ → Seat) → Type 0) (ms : List Message) (seat : ℕ → Seat) (m : Message) → Along P seat ms
    → P (opened m (at_last seat ms)) → Along P seat (ms ++ m ∷ [])
along-append P [] seat m along more = (along, more)
along-append P (n ∷ ms) seat m along more = (along.0, along-append P ms (opened n seat) m along.1 more)

-- the seats after two lists of messages are those after the second, from those after the first
pub at_last-append : (ms ns : List Message) (seat : ℕ → Seat) → at_last seat (ms ++ ns) ≡ at_last (at_last seat ms) ns
at_last-append [] ns seat = refl
at_last-append (m ∷ ms) ns seat = at_last-append ms ns (opened m seat)

-- what holds along the messages holds along the later ones, from the seats after the first ones
pub along-drop : (P : (ℕ → Seat) → Type 0) (n : ℕ) (ms : List Message) (seat : ℕ → Seat) → Along P seat ms
    → Along P (at_last seat (take n ms)) (drop n ms)
along-drop P zero ms seat along = along
along-drop P (suc n) [] seat along = along
along-drop P (suc n) (m ∷ ms) seat along = along-drop P n ms (opened m seat) along.1

-- the seats after all messages are those after the later ones, from the seats after the first ones
pub at_last-drop : (n : ℕ) (ms : List Message) (seat : ℕ → Seat)
    → at_last (at_last seat (take n ms)) (drop n ms) ≡ at_last seat ms
at_last-drop zero ms seat = refl
at_last-drop (suc n) [] seat = refl
at_last-drop (suc n) (m ∷ ms) seat = at_last-drop n ms (opened m seat)
