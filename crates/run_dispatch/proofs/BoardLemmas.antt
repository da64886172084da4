-- The deeds of the dispatcher's calls, and those of a board's turns.
use Rattle.std.proofs.Common.{◌≡◌, refl, Option, Some, None}
use Rattle.run_events.specs.declared.message.Message.{Message}
use Rattle.run_events.specs.declared.turn.Turn.{Turn}
use Rattle.run_model.specs.Board.{Board, Deed, deed_events, dispatched}
use Rattle.run_model.specs.Cancel.{Cause, cause_of, caused}
use Rattle.run_model.specs.Dispatch.{moment_by, is_third}
use Rattle.run_model.specs.Turns.{delivered_as, delivers, delivery_of, event_of, tally_with, is_third_signal}
use Rattle.run_model.specs.Turns.{nothing_done}

-- a delivery tells, asks and leaves the same whatever its unit does
with_told : (b : Board) (m : Message) (answer : Deed) (cause : Option Cause)
    → deed_events (caused (moment_by b.clock b.dispatcher.watch) (tally_with b (event_of b m)) cause
    (delivered_as b m answer))
    ≡ deed_events (caused (moment_by b.clock b.dispatcher.watch) (tally_with b (event_of b m)) cause
    (delivered_as b m nothing_done))
with_told b m answer None = refl
with_told b m answer (Some cause) = refl

pub delivery-told : (b : Board) (m : Message) (answer : Deed)
    → deed_events (delivery_of b m answer) ≡ deed_events (delivers b.clock b.dispatcher m nothing_done)
delivery-told b m answer = with_told b m answer (cause_of b.dispatcher.rules (tally_with b (event_of b m)) m)

with_request : (b : Board) (m : Message) (answer : Deed) (cause : Option Cause)
    → (caused (moment_by b.clock b.dispatcher.watch) (tally_with b (event_of b m)) cause
    (delivered_as b m answer)).request
    ≡ (caused (moment_by b.clock b.dispatcher.watch) (tally_with b (event_of b m)) cause
    (delivered_as b m nothing_done)).request
with_request b m answer None = refl
with_request b m answer (Some cause) = refl

pub delivery-request : (b : Board) (m : Message) (answer : Deed)
    → (delivery_of b m answer).request ≡ (delivers b.clock b.dispatcher m nothing_done).request
delivery-request b m answer = with_request b m answer (cause_of b.dispatcher.rules (tally_with b (event_of b m)) m)

with_dispatched : (b : Board) (m : Message) (answer : Deed) (cause : Option Cause)
    → dispatched b.clock b.dispatcher (caused (moment_by b.clock b.dispatcher.watch) (tally_with b (event_of b m)) cause
    (delivered_as b m answer))
    ≡ dispatched b.clock b.dispatcher
    (caused (moment_by b.clock b.dispatcher.watch) (tally_with b (event_of b m)) cause (delivered_as b m nothing_done))
with_dispatched b m answer None = refl
with_dispatched b m answer (Some cause) = refl

pub delivery-dispatched : (b : Board) (m : Message) (answer : Deed)
    → dispatched b.clock b.dispatcher (delivery_of b m answer)
    ≡ dispatched b.clock b.dispatcher (delivers b.clock b.dispatcher m nothing_done)
delivery-dispatched b m answer =
    with_dispatched b m answer (cause_of b.dispatcher.rules (tally_with b (event_of b m)) m)

-- a third signal on a board is one of its dispatcher
pub third-is : (b : Board) (turn : Turn) → is_third b.dispatcher turn ≡ is_third_signal b turn
third-is b turn = refl
