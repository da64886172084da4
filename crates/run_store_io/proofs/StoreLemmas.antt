-- A store that is written at once.
use Rattle.std.proofs.Common.{◌≡◌, ◌∙◌, ℕ, suc, ◌+◌, ◌<◌, ◌≤◌, ◌^◌, List, [], ◌∷◌, ◌++◌, length, take, drop, get_or}
use Rattle.std.proofs.Common.{Option, Bool, true, false, refl, sym, ap, subst, arith, append_assoc, length-append}
use Rattle.std.proofs.Common.{Result, Ok, Err, IfOk, IfErr, drop-cons, true≢false, add-one}
use Rattle.std.proofs.Math.Seq.{take-suc}
use Rattle.std.proofs.lemmas.List.{take-append-drop}
use Rattle.run_capture.specs.declared.sink.Sink.{Ghosts as OfSink}
use Rattle.run_capture.specs.Bytes.{Takes}
use Rattle.run_events.specs.declared.turn.Turn.{Turn}
use Rattle.run_output.specs.Turns.{turn_text}
use Rattle.run_store.specs.Records.{framed, most_bytes}
use Rattle.run_store.specs.Stores.{header, turn_records, front, end_record, store_text, AreStored, IsStoredTurn}
use Rattle.run_store.specs.Stores.{IsStorable}
use Rattle.run_store.proofs.ReadingLemmas.{front_then}
use Rattle.run_store_io.specs.Taken.{TakesPart, TakesUpTo, turns_tried, HasRoom, is_turn_error}
use Rattle.run_store_io.specs.Written.{IsOpen, IsShut, IsFinishError, IsStoreError}
use Rattle.run_store_io.specs.declared.error.StoreError.{StoreError}
use Rattle.run_store_io.specs.declared.error.StoreError.TheVariants as errors
use Rattle.run_store_io.specs.declared.writer.StoreWriter.{StoreWriter}

-- the turns before a place, the turn there, and those after it
pub split_at : (turns : List Turn) (i : ℕ) (t : Turn) → i < length turns → t ≡ get_or turns i t
    → turns ≡ take i turns ++ t ∷ drop (suc i) turns
split_at turns i t h is =
    sym (take-append-drop i turns)
    ∙ ap (λ (l : List Turn). take i turns ++ l)
    (drop-cons turns i t h ∙ ap (λ (u : Turn). u ∷ drop (suc i) turns) (sym is))

-- the turns before the next place
pub take_one : (turns : List Turn) (i : ℕ) (t : Turn) → i < length turns → t ≡ get_or turns i t
    → take i turns ++ t ∷ [] ≡ take (i + 1) turns
take_one turns i t h is =
    ap (λ (u : Turn). take i turns ++ u ∷ []) is ∙ sym (take-suc turns i t h)
    ∙ ap (λ (n : ℕ). take n turns) (sym (add-one i))

-- the records of turns, and then those of others
records_append : (xs ys : List Turn) (rest : List ℕ)
    → turn_records (xs ++ ys) ++ rest ≡ turn_records xs ++ (turn_records ys ++ rest)
records_append [] ys rest = refl
records_append (x ∷ xs) ys rest =
    append_assoc (framed 2 (turn_text x)) (turn_records (xs ++ ys)) rest
    ∙ ap (λ (l : List ℕ). framed 2 (turn_text x) ++ l) (records_append xs ys rest)
    ∙ sym (append_assoc (framed 2 (turn_text x)) (turn_records xs) (turn_records ys ++ rest))

-- a store text goes on after the records of its first turns
front_append : (plan : List ℕ) (xs ys : List Turn) (rest : List ℕ)
    → front plan (xs ++ ys) ++ rest ≡ front plan xs ++ (turn_records ys ++ rest)
front_append plan xs ys rest =
    front_then plan (xs ++ ys) rest
    ∙ ap (λ (l : List ℕ). header ++ (framed 1 plan ++ l)) (records_append xs ys rest)
    ∙ sym (front_then plan xs (turn_records ys ++ rest))

-- a part of what stands before the last record is a part of the store text
pub front_part : (start after : Option (List ℕ)) (plan : List ℕ) (turns tried later : List Turn)
    → turns ≡ tried ++ later → TakesUpTo start after (front plan tried) → TakesPart start after (store_text plan turns)
front_part start after plan turns tried later split (part, left, is, took) =
    let last : List ℕ = end_record (length turns) in
    let more : List ℕ = left ++ (turn_records later ++ last) in (
      part,
      more,
      omega (arith, length-append left (turn_records later ++ last), length-append (turn_records later) last),
      ap (λ (ts : List Turn). front plan ts ++ last) split ∙ front_append plan tried later last
          ∙ ap (λ (l : List ℕ). l ++ (turn_records later ++ last)) is
          ∙ append_assoc part left (turn_records later ++ last),
      took,
    )

-- the turns that were tried are the first of all
first_tried : (done more : List Turn) (t : Turn) (e : StoreError)
    → (later : List Turn) × (done ++ t ∷ more ≡ turns_tried e done t ++ later)
first_tried done more t errors.Write = (more, sym (append_assoc done (t ∷ []) more))
first_tried done more t errors.Closed = (t ∷ more, refl)
first_tried done more t errors.Read = (t ∷ more, refl)
first_tried done more t errors.TooLong = (t ∷ more, refl)
first_tried done more t (errors.Bad place) = (t ∷ more, refl)
first_tried done more t errors.NoPlan = (t ∷ more, refl)
first_tried done more t errors.OutOfMemory = (t ∷ more, refl)

-- a turn of those that a store can have
stored_there : (done more : List Turn) (t : Turn) → AreStored (done ++ t ∷ more) → IsStoredTurn t
stored_there [] more t h = h.0
stored_there (u ∷ done) more t h = stored_there done more t h.1

-- a store that can have these turns has room for each
room_there : (plan : List ℕ) (turns done more : List Turn) (t : Turn) → turns ≡ done ++ t ∷ more
    → IsStorable plan turns → HasRoom (length done) t
room_there plan turns done more t split h = (
  (stored_there done more t (subst AreStored split h.turn_lines)).1,
  omega (arith, h.few, ap length split, length-append done (t ∷ more)),
)

-- why one of some turns was refused is why their store isn't written
store_error : (plan : List ℕ) (turns done more : List Turn) (t : Turn) (e : StoreError) → turns ≡ done ++ t ∷ more
    → is_turn_error e ≡ true → ¬ (e ≡ errors.Closed)
    → (e ≡ errors.TooLong → ¬ HasRoom (length done) t) → IsStoreError plan turns e
store_error plan turns done more t errors.Write split known unclosed long = tt
store_error plan turns done more t errors.Closed split known unclosed long = absurd (unclosed refl)
store_error plan turns done more t errors.Read split known unclosed long = absurd (true≢false (sym known))
store_error plan turns done more t errors.TooLong split known unclosed long = λ h.
    long refl (room_there plan turns done more t split h)
store_error plan turns done more t (errors.Bad place) split known unclosed long = absurd (true≢false (sym known))
store_error plan turns done more t errors.NoPlan split known unclosed long = absurd (true≢false (sym known))
store_error plan turns done more t errors.OutOfMemory split known unclosed long = tt

module _ {K : Type 0} (s : OfSink K) (start : Option (List ℕ)) (plan : List ℕ) (turns : List Turn) where
  -- a turn that was refused leaves a part of the store text
  pub refused_at : (i : ℕ) (t : Turn) (e : StoreError) (w : StoreWriter K) → i < length turns
      → t ≡ get_or turns i t → is_turn_error e ≡ true → ¬ (e ≡ errors.Closed)
      → (e ≡ errors.TooLong → ¬ HasRoom (length (take i turns)) t)
      → IsShut s start plan (turns_tried e (take i turns) t) w
      → IsStoreError plan turns e × TakesPart start (s.taken w.sink) (store_text plan turns)
  refused_at i t e w h is known unclosed long shut =
      let split = split_at turns i t h is in
      let tried = first_tried (take i turns) (drop (suc i) turns) t e in (
        store_error plan turns (take i turns) (drop (suc i) turns) t e split known unclosed long,
        front_part start (s.taken w.sink) plan turns (turns_tried e (take i turns) t) tried.0 (split ∙ tried.1)
            shut.took,
      )

  -- why a store isn't ended
  pub end_error : (e : StoreError) (c : Bool) → c ≡ false → IsFinishError c e → IsStoreError plan turns e
  end_error e c is h =
      let write : e ≡ errors.Write = subst (λ (b : Bool). IsFinishError b e) is h in
      subst (IsStoreError plan turns) (sym write) tt

-- what follows from what holds of a success, and of a refusal
pub if_ok_then : {T E : Type 0} (r : Result T E) (P Q : T → Type 0) → ((x : T) → P x → Q x) → IfOk r P → IfOk r Q
if_ok_then (Ok x) P Q f h = f x h
if_ok_then (Err e) P Q f h = tt

pub if_err_then : {T E : Type 0} (r : Result T E) (P Q : E → Type 0) → ((e : E) → P e → Q e) → IfErr r P → IfErr r Q
if_err_then (Ok x) P Q f h = tt
if_err_then (Err e) P Q f h = f e h

-- a part of a front without turns is a part of the store text
pub begun_part : (before after : Option (List ℕ)) (plan : List ℕ) (turns : List Turn)
    → TakesPart before after (front plan []) → TakesPart before after (store_text plan turns)
begun_part before after plan turns (part, left, some, is, took) =
    let last : List ℕ = end_record (length turns) in (
      part,
      left ++ (turn_records turns ++ last),
      omega (arith, length-append left (turn_records turns ++ last)),
      front_append plan [] turns last ∙ ap (λ (l : List ℕ). l ++ (turn_records turns ++ last)) is
          ∙ append_assoc part left (turn_records turns ++ last),
      took,
    )
