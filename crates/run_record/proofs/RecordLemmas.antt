-- The record of a run.
use Rattle.std.proofs.Common.{◌≡◌, ℕ, List, Option, Bool, true, false, refl, sym, subst, inr, true≢false}
use Rattle.run_capture.specs.declared.sink.Sink.{Ghosts as OfSink}
use Rattle.run_capture.specs.Faults.{RoseExactlyIf}
use Rattle.run_events.specs.declared.turn.Turn.{Turn}
use Rattle.run_store.specs.Stores.{store_text}
use Rattle.run_store_io.specs.Taken.{TakesPart, is_write_error}
use Rattle.run_store_io.specs.Written.{IsFinishError, IsStoreError}
use Rattle.run_store_io.specs.declared.error.StoreError.{StoreError}
use Rattle.run_store_io.specs.declared.error.StoreError.TheVariants as errors
use Rattle.run_record.specs.Recorded.{IsRunRecord, record_text}
use Rattle.run_record.specs.Kept.{outcome_for, writing_since}

-- a store that isn't closed isn't ended where the sink fails
pub end_is_write : (closed : Bool) (e : StoreError) → closed ≡ false → IsFinishError closed e → e ≡ errors.Write
end_is_write closed e is h = subst (λ (b : Bool). IsFinishError b e) is h

-- the record of a run that is over is the whole store
pub whole_text : (over : Bool) (line : List ℕ) (turns : List Turn) → over ≡ true
    → store_text line turns ≡ record_text over line turns
whole_text true line turns h = refl
whole_text false line turns h = absurd (true≢false (sym h))

-- a store that wasn't written is the record of a run for the same reason
pub shut_record : {F : Type 0} (s : OfSink F) (taken : Option (List ℕ)) (faults : ℕ) (after : F) (over : Bool)
    (line : List ℕ) (turns : List Turn) (e : StoreError) → IsStoreError line turns e
    → TakesPart taken (s.taken after) (store_text line turns)
    → RoseExactlyIf (is_write_error e) faults (s.faults after)
    → IsRunRecord over line turns (writing_since s taken faults after) (outcome_for e)
shut_record s taken faults after over line turns errors.Write why took fault = (took, fault.1)
shut_record s taken faults after over line turns errors.Closed why took fault = absurd why
shut_record s taken faults after over line turns errors.Read why took fault = absurd why
shut_record s taken faults after over line turns errors.TooLong why took fault = (why, took, fault)
shut_record s taken faults after over line turns (errors.Bad place) why took fault = absurd why
shut_record s taken faults after over line turns errors.NoPlan why took fault = absurd why
shut_record s taken faults after over line turns errors.OutOfMemory why took fault = (inr took, fault)
