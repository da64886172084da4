-- What a sink took of a store, whole or in part.
use Rattle.std.proofs.Common.{◌≡◌, ◌∙◌, ℕ, ◌+◌, ◌<◌, ◌≤◌, ◌^◌, List, [], ◌∷◌, ◌++◌, length, take, drop, Option, Some}
use Rattle.std.proofs.Common.{None}
use Rattle.std.proofs.Common.{true, false, refl, sym, ap, subst, arith, append_assoc, append-nil, length-append}
use Rattle.std.proofs.Common.{option_map}
use Rattle.std.proofs.Common.{Result, Ok, Err, OnErr, OnOk}
use Rattle.std.proofs.lemmas.List.{take-append-drop, length-drop}
use Rattle.std.specs.Int.{w32, to_be_bytes}
use Rattle.run_capture.specs.declared.sink.Sink.{Ghosts as OfSink}
use Rattle.run_capture.specs.Bytes.{Takes}
use Rattle.run_capture.proofs.BytesLemmas.{takes_both}
use Rattle.run_events.specs.declared.turn.Turn.{Turn}
use Rattle.run_output.specs.Turns.{turn_text}
use Rattle.run_turn_laws.specs.TurnLines.{IsTurn}
use Rattle.run_turn_laws.proofs.TurnLemmas.{lines_read}
use Rattle.run_store.specs.Records.{most_bytes, framed}
use Rattle.run_store.specs.Stores.{header, front, end_record, store_text, IsStoredTurn, IsStorable}
use Rattle.run_store.proofs.WayLemmas.{stored_more, front_more}
use Rattle.run_store_io.specs.Taken.{TakesPart, TakesUpTo, IsTurnWritten, turns_tried, HasRoom}
use Rattle.run_store_io.specs.Written.{IsOpen, IsShut}
use Rattle.run_store_io.specs.declared.error.StoreError.{StoreError}
use Rattle.run_store_io.specs.declared.error.StoreError.TheVariants as errors
use Rattle.run_store_io.specs.declared.writer.StoreWriter.{StoreWriter}

-- a fact holds of each refusal
pub on_err : {T E : Type 0} (r : Result T E) (P : Type 0) → P → OnErr r P
on_err (Ok x) P h = tt
on_err (Err e) P h = h

-- and so does what follows from what holds of one
pub on_err_then : {T E : Type 0} (r : Result T E) (P Q : Type 0) → (P → Q) → OnErr r P → OnErr r Q
on_err_then (Ok x) P Q f h = tt
on_err_then (Err e) P Q f h = f h

-- what follows from what holds of a success
pub on_ok_then : {T E : Type 0} (r : Result T E) (P Q : Type 0) → (P → Q) → OnOk r P → OnOk r Q
on_ok_then (Ok x) P Q f h = f h
on_ok_then (Err e) P Q f h = tt

-- a sink that took the first of these bytes took a part
pub part_take : (before after : Option (List ℕ)) (n : ℕ) (bytes : List ℕ) → n < length bytes
    → Takes before after (take n bytes) → TakesPart before after bytes
part_take before after n bytes below h =
    (take n bytes, drop n bytes, omega (arith, length-drop n bytes), sym (take-append-drop n bytes), h)

-- a part of some bytes is one of more bytes
pub part_of_first : (before after : Option (List ℕ)) (first later : List ℕ) → TakesPart before after first
    → TakesPart before after (first ++ later)
part_of_first before after first later (part, left, some, is, h) = (
  part,
  left ++ later,
  omega (arith, length-append left later),
  ap (λ (bytes : List ℕ). bytes ++ later) is ∙ append_assoc part left later,
  h,
)

-- some bytes, and then a part of others
pub part_after : (before between after : Option (List ℕ)) (first later : List ℕ) → Takes before between first
    → TakesPart between after later → TakesPart before after (first ++ later)
part_after before between after first later one (part, left, some, is, h) = (
  first ++ part,
  left,
  some,
  ap (λ (bytes : List ℕ). first ++ bytes) is ∙ sym (append_assoc first part left),
  takes_both before between after first part one h,
)

-- a part, and not all
pub up_to : (before after : Option (List ℕ)) (bytes : List ℕ) → TakesPart before after bytes
    → TakesUpTo before after bytes
up_to before after bytes (part, left, some, is, h) = (part, left, is, h)

-- the record of a turn whose line isn't too long, whole or in part, is one of a turn that a store can have
pub turn_took : (before after : Option (List ℕ)) (n : ℕ) (t : Turn) (line : List ℕ) → line ≡ turn_text t → IsTurn t
    → length line ≤ most_bytes → n + 1 < 2 ^ 32 → Takes before after (framed 2 line)
    → HasRoom n t × IsStoredTurn t × Takes before after (framed 2 (turn_text t))
turn_took before after n t line is fit short few took =
    let low : length (turn_text t) ≤ most_bytes = subst (λ (l : List ℕ). length l ≤ most_bytes) is short in
    ((low, few), (lines_read t fit, low), subst (λ (l : List ℕ). Takes before after (framed 2 l)) is took)

pub turn_part : (before after : Option (List ℕ)) (n : ℕ) (t : Turn) (line : List ℕ) → line ≡ turn_text t → IsTurn t
    → length line ≤ most_bytes → n + 1 < 2 ^ 32 → TakesPart before after (framed 2 line)
    → HasRoom n t × IsStoredTurn t × TakesPart before after (framed 2 (turn_text t))
turn_part before after n t line is fit short few part =
    let low : length (turn_text t) ≤ most_bytes = subst (λ (l : List ℕ). length l ≤ most_bytes) is short in
    ((low, few), (lines_read t fit, low), subst (λ (l : List ℕ). TakesPart before after (framed 2 l)) is part)

-- a plan line's front is the header and its record
pub front_none : (plan : List ℕ) → header ++ framed 1 plan ≡ front plan []
front_none plan = ap (λ (l : List ℕ). header ++ l) (sym (append-nil (framed 1 plan)))

-- the front of one turn more
front_one : (plan : List ℕ) (turns : List Turn) (t : Turn)
    → front plan turns ++ framed 2 (turn_text t) ≡ front plan (turns ++ t ∷ [])
front_one plan turns t =
    ap (λ (l : List ℕ). front plan turns ++ l) (sym (append-nil (framed 2 (turn_text t))))
    ∙ sym (front_more plan turns t []) ∙ append-nil (front plan (turns ++ t ∷ []))

-- a store that can have one turn more
storable_more : (plan : List ℕ) (turns : List Turn) (n : ℕ) (t : Turn) → IsStorable plan turns → n ≡ length turns
    → HasRoom n t → IsStoredTurn t → IsStorable plan (turns ++ t ∷ [])
storable_more plan turns n t h e room k = record {
  plan_line = h.plan_line;
  turn_lines = stored_more turns t h.turn_lines k;
  few = omega (arith, room.1, e, length-append turns (t ∷ []));
}

module _ {K : Type 0} (s : OfSink K) (start : Option (List ℕ)) (plan : List ℕ) (turns : List Turn) (t : Turn) where
  -- a writer that wrote a turn stays open
  pub still_open : (old new : StoreWriter K) → IsOpen s start plan turns old → HasRoom old.turns t → IsStoredTurn t
      → Takes (s.taken old.sink) (s.taken new.sink) (framed 2 (turn_text t)) → new.turns ≡ old.turns + 1
      → new.closed ≡ false → IsOpen s start plan (turns ++ t ∷ []) new
  still_open old new h room k took more unclosed = record {
    storable = storable_more plan turns old.turns t h.storable h.counted room k;
    took = subst (Takes start (s.taken new.sink)) (front_one plan turns t)
        (takes_both start (s.taken old.sink) (s.taken new.sink) (front plan turns) (framed 2 (turn_text t)) h.took
        took);
    counted = omega (arith, more, h.counted, length-append turns (t ∷ []));
    unclosed = unclosed;
  }

  -- a sink that took nothing more has taken a part of the store
  same_part : (old new : StoreWriter K) → IsOpen s start plan turns old → s.taken new.sink ≡ s.taken old.sink
      → TakesUpTo start (s.taken new.sink) (front plan turns)
  same_part old new h same = (front plan turns, [], sym (append-nil (front plan turns)), same ∙ h.took)

  -- a writer that refused a turn is shut
  pub now_shut : (old new : StoreWriter K) (e : StoreError) → IsOpen s start plan turns old
      → IsTurnWritten {T = Unit {0}} (s.taken old.sink) (s.taken new.sink) old.turns t (Err e) → new.closed ≡ true
      → IsShut s start plan (turns_tried e turns t) new
  now_shut old new errors.Write h k closed = record {
    storable = storable_more plan turns old.turns t h.storable h.counted k.0 k.1;
    took = up_to start (s.taken new.sink) (front plan (turns ++ t ∷ []))
        (subst (TakesPart start (s.taken new.sink)) (front_one plan turns t)
        (part_after start (s.taken old.sink) (s.taken new.sink) (front plan turns) (framed 2 (turn_text t)) h.took
        k.2));
    closed = closed;
  }
  now_shut old new errors.TooLong h k closed =
      record { storable = h.storable; took = same_part old new h k.1; closed = closed }
  now_shut old new errors.OutOfMemory h k closed =
      record { storable = h.storable; took = same_part old new h k; closed = closed }
  now_shut old new errors.Closed h k closed = absurd k
  now_shut old new errors.Read h k closed = absurd k
  now_shut old new (errors.Bad place) h k closed = absurd k
  now_shut old new errors.NoPlan h k closed = absurd k

module _ {K : Type 0} (s : OfSink K) (start : Option (List ℕ)) (plan : List ℕ) (turns : List Turn) where
  -- the payload of the last record
  last_payload : (w : StoreWriter K) (payload : List ℕ) → IsOpen s start plan turns w
      → payload ≡ to_be_bytes w32 w.turns → payload ≡ to_be_bytes w32 (length turns)
  last_payload w payload h is = is ∙ ap (λ (n : ℕ). to_be_bytes w32 n) h.counted

  -- a sink that took the last record has taken the store text
  pub end_took : (w : StoreWriter K) (after : Option (List ℕ)) (payload : List ℕ) → IsOpen s start plan turns w
      → payload ≡ to_be_bytes w32 w.turns → Takes (s.taken w.sink) after (framed 3 payload)
      → Takes start after (store_text plan turns)
  end_took w after payload h is took =
      takes_both start (s.taken w.sink) after (front plan turns) (end_record (length turns)) h.took
      (subst (λ (p : List ℕ). Takes (s.taken w.sink) after (framed 3 p)) (last_payload w payload h is) took)

  -- one that took a part of it has taken a part of the store text
  pub end_part : (w : StoreWriter K) (after : Option (List ℕ)) (payload : List ℕ) → IsOpen s start plan turns w
      → payload ≡ to_be_bytes w32 w.turns → TakesPart (s.taken w.sink) after (framed 3 payload)
      → TakesPart start after (store_text plan turns)
  end_part w after payload h is part =
      part_after start (s.taken w.sink) after (front plan turns) (end_record (length turns)) h.took
      (subst (λ (p : List ℕ). TakesPart (s.taken w.sink) after (framed 3 p)) (last_payload w payload h is) part)
