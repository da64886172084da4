-- The records after a plan line, one after another.
use Rattle.std.proofs.Common.{◌≡◌, ◌∙◌, ℕ, zero, suc, ◌+◌, ◌<◌, ◌≤◌, ◌^◌, ◌==◌, ◌&&◌, ◌||◌, ◌⊎◌, inl, inr, List, []}
use Rattle.std.proofs.Common.{◌∷◌, ◌++◌, nat_lt}
use Rattle.std.proofs.Common.{length, Some, None, Bool, true, false, refl, sym, ap, subst, arith, append_assoc}
use Rattle.std.proofs.Common.{append-nil, length-append, bytes_eq, not, eqb-true, Result, Ok, Err}
use Rattle.std.proofs.lemmas.Slice.Eq.{bytes_eq-Decides}
use Rattle.std.specs.Int.{w32, to_be_bytes}
use Rattle.run_events.specs.declared.turn.Turn.{Turn}
use Rattle.run_input.specs.Input.{turn_line_of}
use Rattle.run_output.specs.Turns.{turn_text}
use Rattle.run_store.specs.Records.{most_bytes, framed, payload_in, is_bad}
use Rattle.run_store.specs.Stores.{turn_records, end_record, IsStoredTurn, AreStored, after_turns, is_turn_payload}
use Rattle.run_store.proofs.WayLemmas.{kind_of, stored_more, records_more}
use Rattle.run_store_io.specs.Found.{IsRecord}
use Rattle.run_store_io.specs.Steps.{IsBadStep, IsStep, IsTurnStep, IsEndStep, HasTurns, AreRecords}
use Rattle.run_store_io.specs.declared.error.StoreError.{StoreError}
use Rattle.run_store_io.specs.declared.error.StoreError.TheVariants as errors
use Rattle.run_store_io.specs.declared.records.Step.{Step}
use Rattle.run_store_io.specs.declared.records.Step.TheVariants as steps
use Rattle.run_store_io.proofs.FoundLemmas.{not_long, wrong_bad}

-- a turn's record is awaited only where one more turn may stand
few_more : (n : ℕ) → (after_turns n).kinds 2 ≡ true → n + 1 < 2 ^ 32
few_more n may = elim (kind_of n 2 true refl may) [ inl h ↦ h.1 | inr e ↦ cc e ]

-- a turn's record, by its payload, is a step
pub turn_steps : (n : ℕ) (rest payload after : List ℕ) (r : Result Step StoreError)
    → IsRecord (after_turns n) rest 2 payload after → IsTurnStep n payload after r → IsStep n rest r
turn_steps n rest payload after (Ok (steps.Turn t left)) h k =
    let short : length (turn_text t) ≤ most_bytes =
    subst (λ (p : List ℕ). length p ≤ most_bytes) (sym k.0.1) (not_long (after_turns n) rest 2 payload after h) in (
      (ap turn_line_of k.0.1 ∙ k.0.0, short),
      few_more n h.may,
      h.split ∙ ap (λ (p : List ℕ). framed 2 p ++ after) (sym k.0.1)
          ∙ ap (λ (l : List ℕ). framed 2 (turn_text t) ++ l) (sym k.1),
    )
turn_steps n rest payload after (Ok steps.Cut) h k = absurd k
turn_steps n rest payload after (Ok steps.End) h k = absurd k
turn_steps n rest payload after (Err (errors.Bad place)) h k =
    inl (k.0, wrong_bad (after_turns n) rest 2 payload after h k.1)
turn_steps n rest payload after (Err errors.OutOfMemory) h k = tt
turn_steps n rest payload after (Err errors.Write) h k = absurd k
turn_steps n rest payload after (Err errors.Closed) h k = absurd k
turn_steps n rest payload after (Err errors.Read) h k = absurd k
turn_steps n rest payload after (Err errors.TooLong) h k = absurd k
turn_steps n rest payload after (Err errors.NoPlan) h k = absurd k

-- a list that isn't empty has a first byte
some_byte : (bytes : List ℕ) → 0 < length bytes → (byte : ℕ) × (more : List ℕ) × (bytes ≡ byte ∷ more)
some_byte [] h = absurd (omega arith)
some_byte (b ∷ bytes) h = (b, bytes, refl)

-- the last record, by its payload, is a step
pub end_steps : (n : ℕ) (rest payload after : List ℕ) (r : Result Step StoreError)
    → IsRecord (after_turns n) rest 3 payload after → IsEndStep n payload after r → IsStep n rest r
end_steps n rest payload after (Ok steps.End) h k =
    h.split ∙ ap (λ (l : List ℕ). framed 3 payload ++ l) k.1 ∙ append-nil (framed 3 payload)
    ∙ ap (framed 3) k.0
end_steps n rest payload after (Ok (steps.Turn t left)) h k = absurd k
end_steps n rest payload after (Ok steps.Cut) h k = absurd k
end_steps n rest payload after (Err (errors.Bad place)) h (inl k) =
    inl (k.0, wrong_bad (after_turns n) rest 3 payload after h k.1)
end_steps n rest payload after (Err (errors.Bad place)) h (inr k) =
    let some = some_byte after k.2 in
    inr (
      k.0,
      some.0,
      some.1,
      h.split ∙ ap (λ (l : List ℕ). framed 3 payload ++ l) some.2
          ∙ ap (λ (p : List ℕ). framed 3 p ++ some.0 ∷ some.1) k.1,
    )
end_steps n rest payload after (Err errors.OutOfMemory) h k = absurd k
end_steps n rest payload after (Err errors.Write) h k = absurd k
end_steps n rest payload after (Err errors.Closed) h k = absurd k
end_steps n rest payload after (Err errors.Read) h k = absurd k
end_steps n rest payload after (Err errors.TooLong) h k = absurd k
end_steps n rest payload after (Err errors.NoPlan) h k = absurd k

-- a record that may stand after turns and is no turn's is the last
pub is_last : (n kind : ℕ) → (after_turns n).kinds kind ≡ true → (kind == 2) ≡ false → kind ≡ 3
is_last n kind may e = elim (kind_of n kind false e
    (ap (λ (b : Bool). (b && nat_lt (n + 1) (2 ^ 32)) || kind == 3) (sym e) ∙ may)) [
      | inl h ↦ absurd (two h.0 e)
      | inr h ↦ h
    ]
  where
    two : kind ≡ 2 → (kind == 2) ≡ false → ⊥
    two is e = cc (sym (ap (λ (m : ℕ). m == 2) is) ∙ e)

-- bytes that aren't said to differ are the same
pub same_of : (p q : List ℕ) (b : Bool) → b ≡ not (bytes_eq p q) → b ≡ false → p ≡ q
same_of p q b is same = (bytes_eq-Decides p q).0 (so (bytes_eq p q) (sym is ∙ same))
  where
    so : (c : Bool) → not c ≡ false → c ≡ true
    so true e = refl
    so false e = cc e

-- bytes that are said to be none are none
pub none_of : (xs : List ℕ) (b : Bool) → b ≡ (length xs == 0) → b ≡ true → xs ≡ []
none_of [] b is empty = refl
none_of (x ∷ xs) b is empty =
    let zero_long : length (x ∷ xs) ≡ 0 = eqb-true (length (x ∷ xs)) 0 (sym is ∙ empty) in absurd (omega arith)

-- no turn was read
pub no_turns : (records : List ℕ) → HasTurns records [] records
no_turns records = record { stored = tt; few = omega arith; split = refl }

-- one more turn was read
pub one_more : (records rest after : List ℕ) (turns : List Turn) (t : Turn) (n : ℕ) → HasTurns records turns rest
    → n ≡ length turns → IsStoredTurn t × (n + 1 < 2 ^ 32) × (rest ≡ framed 2 (turn_text t) ++ after)
    → HasTurns records (turns ++ t ∷ []) after
one_more records rest after turns t n h e k = record {
  stored = stored_more turns t h.stored k.0;
  few = omega (arith, k.1, e, length-append turns (t ∷ []));
  split = h.split ∙ ap (λ (l : List ℕ). turn_records turns ++ l) k.2 ∙ sym (records_more turns t after);
}

-- bytes after a record are fewer
pub framed_shorter : (kind : ℕ) (payload after bytes : List ℕ) → bytes ≡ framed kind payload ++ after
    → length after < length bytes
framed_shorter kind payload after bytes split =
    let long : length bytes ≡ length (framed kind payload ++ after) = ap length split in
    omega (arith, long, length-append payload after)

-- the rest gets shorter
pub shorter_after : (n : ℕ) (rest after : List ℕ) (t : Turn)
    → IsStoredTurn t × (n + 1 < 2 ^ 32) × (rest ≡ framed 2 (turn_text t) ++ after) → length after < length rest
shorter_after n rest after t k = framed_shorter 2 (turn_text t) after rest k.2

-- what stops a reader of records is so of all of them
pub stopped : (records rest : List ℕ) (turns : List Turn) (e : StoreError) → HasTurns records turns rest
    → IsStep (length turns) rest (Err e) → AreRecords records (Err e)
stopped records rest turns (errors.Bad place) h k = (turns, rest, h, k)
stopped records rest turns errors.OutOfMemory h k = tt
stopped records rest turns errors.Write h k = absurd k
stopped records rest turns errors.Closed h k = absurd k
stopped records rest turns errors.Read h k = absurd k
stopped records rest turns errors.TooLong h k = absurd k
stopped records rest turns errors.NoPlan h k = absurd k

-- records that stop at the last one
pub closed_at : (records rest : List ℕ) (turns : List Turn) → HasTurns records turns rest
    → rest ≡ end_record (length turns) → HasTurns records turns (end_record (length turns))
closed_at records rest turns h e = subst (HasTurns records turns) e h
