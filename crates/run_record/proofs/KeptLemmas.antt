-- A record in the making that was given up.
use Rattle.std.proofs.Common.{◌≡◌, ℕ, List, [], ◌∷◌, ◌++◌, length, take, Option, Some, None}
use Rattle.std.proofs.Common.{Bool, true, Result, Ok, Err, sym, subst, arith, append_assoc}
use Rattle.std.proofs.Common.{length-append}
use Rattle.std.proofs.lemmas.List.{append-nil}
use Rattle.std.proofs.Math.Seq.{take-append_seam, get_or-append_seam}
use Rattle.run_capture.specs.declared.sink.Sink.{Ghosts as OfSink}
use Rattle.run_capture.specs.Faults.{RoseExactlyIf}
use Rattle.run_events.specs.declared.turn.Turn.{Turn}
use Rattle.run_store.specs.Stores.{store_text}
use Rattle.run_store_io.specs.Taken.{TakesPart, turns_tried, HasRoom, is_turn_error, is_write_error}
use Rattle.run_store_io.specs.Written.{IsShut, IsStoreError}
use Rattle.run_store_io.specs.declared.error.StoreError.{StoreError}
use Rattle.run_store_io.specs.declared.error.StoreError.TheVariants as errors
use Rattle.run_store_io.specs.declared.writer.StoreWriter.{StoreWriter}
use Rattle.run_store_io.proofs.StoreLemmas.{refused_at}
use Rattle.run_record.specs.Recorded.{IsRunRecord}
use Rattle.run_record.specs.Kept.{IsUnderway, outcome_for, writing_since}
use Rattle.run_record.specs.declared.outcome.RecordOutcome.{RecordOutcome}
use Rattle.run_record.proofs.RecordLemmas.{shut_record}

module _ {F : Type 0} (s : OfSink F) (taken : Option (List ℕ)) (faults : ℕ) (line : List ℕ) where
  -- a store is given up where a turn is refused
  pub refused : (turns : List Turn) (t : Turn) (e : StoreError) (w v : StoreWriter F)
      → IsUnderway s taken faults line (Ok w) turns None → is_turn_error e ≡ true → ¬ (e ≡ errors.Closed)
      → (e ≡ errors.TooLong → ¬ HasRoom (length turns) t) → IsShut s taken line (turns_tried e turns t) v
      → RoseExactlyIf (is_write_error e) (s.faults w.sink) (s.faults v.sink)
      → IsUnderway s taken faults line (Ok v) (turns ++ t ∷ []) (Some (outcome_for e))
  refused turns t e w v (stands, same) known unclosed long shut fault = λ over more.
      let rose = subst (λ (n : ℕ). RoseExactlyIf (is_write_error e) n (s.faults v.sink)) same fault in
      let first : take (length turns) (turns ++ t ∷ more) ≡ turns = take-append_seam turns (t ∷ more) in
      let at : IsStoreError line (turns ++ t ∷ more) e
      × TakesPart taken (s.taken v.sink) (store_text line (turns ++ t ∷ more)) =
      refused_at s taken line (turns ++ t ∷ more) (length turns) t e v
      (omega (arith, length-append turns (t ∷ more)))
      (sym (get_or-append_seam turns t more t)) known unclosed
      (λ is. subst (λ (ts : List Turn). ¬ HasRoom (length ts) t) (sym first) (long is))
      (subst (λ (ts : List Turn). IsShut s taken line (turns_tried e ts t) v) (sym first) shut) in
      subst (λ (ts : List Turn). IsRunRecord over line ts (writing_since s taken faults v.sink) (outcome_for e))
      (sym (append_assoc turns (t ∷ []) more))
      (shut_record s taken faults v.sink over line (turns ++ t ∷ more) e at.0 at.1 rose)

  -- one that was given up stays so when it is told of a further turn
  pub given_up_later : (begun : Result (StoreWriter F) (RecordOutcome × F)) (turns : List Turn) (t : Turn)
      (end : RecordOutcome) → IsUnderway s taken faults line begun turns (Some end)
      → IsUnderway s taken faults line begun (turns ++ t ∷ []) (Some end)
  given_up_later (Ok w) turns t end kept = λ over more.
      subst (λ (ts : List Turn). IsRunRecord over line ts (writing_since s taken faults w.sink) end)
      (sym (append_assoc turns (t ∷ []) more)) (kept over (t ∷ more))
  given_up_later (Err e) turns t end kept = kept

  -- and is the record of a run that took just its turns
  pub given_up_here : (turns : List Turn) (w : StoreWriter F) (end : RecordOutcome) (over : Bool)
      → IsUnderway s taken faults line (Ok w) turns (Some end)
      → IsRunRecord over line turns (writing_since s taken faults w.sink) end
  given_up_here turns w end over kept =
      subst (λ (ts : List Turn). IsRunRecord over line ts (writing_since s taken faults w.sink) end)
      (append-nil turns) (kept over [])
