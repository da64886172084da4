-- The store of an input.
use Rattle.std.proofs.Common.{◌≡◌, ℕ, inr, List, ◌∷◌, Option, Some, sym, subst}
use Rattle.std.proofs.lemmas.Option.{same_Some}
use Rattle.run_events.specs.declared.plan.Plan.{Plan}
use Rattle.run_events.specs.declared.turn.Turn.{Turn}
use Rattle.run_input.specs.declared.plan_line.RunnerKeys.{RunnerKeys}
use Rattle.run_input.specs.Lines.{lines_of}
use Rattle.run_input.specs.Input.{IsInput}
use Rattle.run_store.specs.Stores.{store_text, whole, IsReading}
use Rattle.run_store.proofs.WayLemmas.{one_reading}
use Rattle.run_store_io.specs.Recorded.{IsRecordOf, HasRecordedPart, IsRecordError, RecordedStoresAreRead}
use Rattle.run_store_io.specs.declared.error.StoreError.{StoreError}
use Rattle.run_store_io.specs.declared.error.StoreError.TheVariants as errors
use Rattle.run_store_io.specs.declared.recording.RecordError.TheVariants.{Store}

-- an input says these turns, after this line
pub record_of : (bytes line : List ℕ) (others : List (List ℕ)) (keys : RunnerKeys) (plan : Plan)
    (turns given : List Turn) → given ≡ turns → lines_of bytes ≡ line ∷ others
    → IsInput (lines_of bytes) keys plan turns → IsRecordOf bytes line given
record_of bytes line others keys plan turns given same first says = record {
  keys = keys;
  plan = plan;
  others = others;
  first = first;
  says = subst (IsInput (lines_of bytes) keys plan) (sym same) says;
}

-- what a sink took of the store of an input says why it isn't recorded
pub record_error : (bytes : List ℕ) (before after : Option (List ℕ)) (e : StoreError)
    → HasRecordedPart bytes before after e → IsRecordError bytes before after (Store e)
record_error bytes before after errors.Write h = h
record_error bytes before after errors.Closed h = h
record_error bytes before after errors.Read h = h
record_error bytes before after errors.TooLong h = h
record_error bytes before after (errors.Bad place) h = h
record_error bytes before after errors.NoPlan h = h
record_error bytes before after errors.OutOfMemory h = inr h

-- what was recorded is read so, and in no other way
pub recorded_read : RecordedStoresAreRead
recorded_read bytes store h =
    let is : store ≡ store_text h.line h.turns = same_Some store (store_text h.line h.turns) h.took in
    let text : IsReading store (whole h.line h.turns) = record { storable = h.storable; is = is } in
    (h.line, h.turns, h.said, text, λ r k. one_reading store (whole h.line h.turns) r text k)
