-- Bytes are read as a store.
use Rattle.std.proofs.Common.{◌≡◌, ◌∙◌, ℕ, zero, suc, ◌+◌, ◌-◌, ◌<◌, ◌≤◌, ◌^◌, ◌==◌, ◌&&◌, ◌⊎◌, inl, inr, List, [], ◌∷◌}
use Rattle.std.proofs.Common.{◌++◌, length, take, drop, min, Option, Some, None, Bool, true, false, if◌then◌else◌}
use Rattle.std.proofs.Common.{refl, sym, ap}
use Rattle.std.proofs.Common.{subst, arith, append_assoc, bytes_eq, Result, Ok, Err, eqb-true, length-append}
use Rattle.std.proofs.lemmas.Bool.{cases_lt}
use Rattle.std.proofs.lemmas.List.{drop_all}
use Rattle.run_capture.specs.Bytes.{Gives, AtEnd}
use Rattle.run_capture.specs.Faults.{RoseExactlyIf}
use Rattle.run_capture.proofs.BytesLemmas.{take-drop_all}
use Rattle.run_events.specs.declared.turn.Turn.{Turn}
use Rattle.run_store.specs.Records.{framed, payload_in, is_bad}
use Rattle.run_store.specs.Stores.{header, turn_records, front, end_record, store_text, is_plan_payload, IsStorable}
use Rattle.run_store.specs.Stores.{at_first, after_turns, agrees, IsReadTo, whole, torn, bad, IsReading}
use Rattle.run_store.proofs.ReadingLemmas.{front_then}
use Rattle.run_store.proofs.WayLemmas.{headed}
use Rattle.run_store_io.specs.Found.{IsRecord}
use Rattle.run_store_io.specs.Steps.{IsBadStep, HasTurns, AreRecords}
use Rattle.run_store_io.specs.Reads.{most_stored, IsReadAs, IsReadAfter, IsReadHeaded, source_failed, ReadsStore}
use Rattle.run_store_io.specs.declared.error.StoreError.{StoreError}
use Rattle.run_store_io.specs.declared.error.StoreError.TheVariants as errors
use Rattle.run_store_io.specs.declared.stored.Stored.{Stored}

-- bytes agree with a text exactly where their fronts are the same
pub agrees_front : (bytes text : List ℕ) (n : ℕ) → n ≡ min (length bytes) (length text)
    → bytes_eq (take n bytes) (take n text) ≡ agrees bytes text
agrees_front [] text zero e = refl
agrees_front [] text (suc n) e = absurd (omega arith)
agrees_front (b ∷ bytes) [] zero e = refl
agrees_front (b ∷ bytes) [] (suc n) e = absurd (omega arith)
agrees_front (b ∷ bytes) (c ∷ text) zero e = absurd (omega arith)
agrees_front (b ∷ bytes) (c ∷ text) (suc n) e =
    ap (λ (x : Bool). b == c && x) (agrees_front bytes text n (omega arith))

-- what follows as much of a header as is there
pub drop_front : (bytes : List ℕ) (n : ℕ) → n ≡ min (length bytes) 8
    → take (length bytes - n) (drop n bytes) ≡ drop 8 bytes
drop_front bytes n e = take-drop_all n bytes ∙ (elim (cases_lt (length bytes) 8) [
  | inl low ↦ drop_all n bytes (omega arith) ∙ sym (drop_all 8 bytes (omega arith))
  | inr h ↦ let all : n ≡ 8 = omega arith in ap (λ (m : ℕ). drop m bytes) all
])

-- bytes whose plan line's record is there begin with the header and that record
pub plan_there : (all bytes plan records : List ℕ) (kind : ℕ) → agrees all header ≡ true → drop 8 all ≡ bytes
    → IsRecord at_first bytes kind plan records → all ≡ header ++ (framed 1 plan ++ records)
plan_there all bytes plan records kind e d h =
    let some : 0 < length (drop 8 all) = omega (arith, ap length (d ∙ h.split)) in
    headed all header e (long some)
    ∙ ap (λ (l : List ℕ). header ++ l)
    (d ∙ h.split ∙ ap (λ (m : ℕ). framed m plan ++ records) (eqb-true kind 1 h.may))
  where
    long : 0 < length (drop 8 all) → 8 ≤ length all
    long some = elim (cases_lt (length all) 8) [
      | inl low ↦
          let none : length (drop 8 all) ≡ 0 = ap length (drop_all 8 all (omega arith)) in absurd (omega arith)
      | inr h ↦ h
    ]

-- a plan line and turns that a store can have
storable_of : (plan records rest : List ℕ) (turns : List Turn) → is_plan_payload plan ≡ true
    → HasTurns records turns rest → IsStorable plan turns
storable_of plan records rest turns good h =
    record { plan_line = good; turn_lines = h.stored; few = h.few }

-- bytes are the front of the plan line and these turns, and the rest
split_of : (all plan records rest : List ℕ) (turns : List Turn) → all ≡ header ++ (framed 1 plan ++ records)
    → HasTurns records turns rest → all ≡ front plan turns ++ rest
split_of all plan records rest turns is h =
    is ∙ ap (λ (l : List ℕ). header ++ (framed 1 plan ++ l)) h.split ∙ sym (front_then plan turns rest)

-- records that are whole or torn make bytes that are
ok_read : (all plan records : List ℕ) (turns : List Turn) (w : Bool) → all ≡ header ++ (framed 1 plan ++ records)
    → is_plan_payload plan ≡ true → AreRecords records (Ok (turns, w))
    → IsReading all (if w then whole plan turns else torn plan turns)
ok_read all plan records turns true is good h = record {
  storable = storable_of plan records (end_record (length turns)) turns good h;
  is = split_of all plan records (end_record (length turns)) turns is h;
}
ok_read all plan records turns false is good h = record {
  rest = h.0;
  reaches = record {
    storable = storable_of plan records h.0 turns good h.1;
    split = split_of all plan records h.0 turns is h.1;
  };
  good = h.2;
  cut = h.3;
}

-- a bad record among those after a plan line is one of the bytes
step_read : (all plan records rest : List ℕ) (turns : List Turn) (place : ℕ)
    → all ≡ header ++ (framed 1 plan ++ records) → is_plan_payload plan ≡ true → HasTurns records turns rest
    → IsBadStep (length turns) rest place → IsReading all (bad place)
step_read all plan records rest turns place is good h (inl k) = inr (inl (record {
  plan = plan;
  turns = turns;
  rest = rest;
  reaches = record {
    storable = storable_of plan records rest turns good h;
    split = split_of all plan records rest turns is h;
  };
  broken = k.1;
  counted = k.0;
}))
step_read all plan records rest turns place is good h (inr k) = inr (inr (record {
  plan = plan;
  turns = turns;
  byte = k.1;
  more = k.2;
  storable = storable_of plan records rest turns good h;
  split = split_of all plan records rest turns is h ∙ ap (λ (l : List ℕ). front plan turns ++ l) k.3
      ∙ sym (append_assoc (front plan turns) (end_record (length turns)) (k.1 ∷ k.2));
  counted = k.0;
}))

-- what stops the records stops the bytes
err_read : (all plan records : List ℕ) (e : StoreError) → all ≡ header ++ (framed 1 plan ++ records)
    → is_plan_payload plan ≡ true → AreRecords records (Err e) → IsReadAs all (Err e)
err_read all plan records (errors.Bad place) is good (turns, rest, h, k) =
    step_read all plan records rest turns place is good h k
err_read all plan records errors.OutOfMemory is good h = tt
err_read all plan records errors.Write is good h = absurd h
err_read all plan records errors.Closed is good h = absurd h
err_read all plan records errors.Read is good h = absurd h
err_read all plan records errors.TooLong is good h = absurd h
err_read all plan records errors.NoPlan is good h = absurd h

-- bytes after a header whose first record is a plan line's are read as the records after it are
pub after_plan : (bytes plan records : List ℕ) (kind : ℕ) (r : Result Stored StoreError)
    → IsRecord at_first bytes kind plan records → is_plan_payload plan ≡ true → IsReadAfter plan records r
    → IsReadHeaded bytes r
after_plan bytes plan records kind (Ok s) h good k = λ all e d.
    let there : all ≡ header ++ (framed 1 s.plan ++ records) =
    plan_there all bytes plan records kind e d h
    ∙ ap (λ (p : List ℕ). header ++ (framed 1 p ++ records)) (sym k.0) in
    ok_read all s.plan records s.turns s.whole there (ap is_plan_payload k.0 ∙ good) k.1
after_plan bytes plan records kind (Err error) h good k = λ all e d.
    err_read all plan records error (plan_there all bytes plan records kind e d h) good k

-- what bytes that a source gave are read as is what the source is read as
pub gives_store : (before after : Option (List ℕ)) (bytes : List ℕ) (r : Result Stored StoreError)
    → Gives before after bytes → AtEnd after → length bytes ≤ most_stored → IsReadAs bytes r
    → ReadsStore before after r
gives_store before after bytes (Ok s) given end within h = (bytes, given, end, within, h)
gives_store before after bytes (Err (errors.Bad place)) given end within h = (bytes, given, end, within, h)
gives_store before after bytes (Err errors.NoPlan) given end within h = (bytes, given, end, within, h)
gives_store before after bytes (Err errors.OutOfMemory) given end within h = (bytes, given)
gives_store before after bytes (Err errors.Write) given end within h = absurd h
gives_store before after bytes (Err errors.Closed) given end within h = absurd h
gives_store before after bytes (Err errors.Read) given end within h = absurd h
gives_store before after bytes (Err errors.TooLong) given end within h = absurd h

-- bytes are read without a fault of the source
pub not_failed : (bytes : List ℕ) (r : Result Stored StoreError) (before now : ℕ) → IsReadAs bytes r → now ≡ before
    → RoseExactlyIf (source_failed r) before now
not_failed bytes (Ok s) before now h e = e
not_failed bytes (Err (errors.Bad place)) before now h e = e
not_failed bytes (Err errors.NoPlan) before now h e = e
not_failed bytes (Err errors.OutOfMemory) before now h e = e
not_failed bytes (Err errors.Write) before now h e = absurd h
not_failed bytes (Err errors.Closed) before now h e = absurd h
not_failed bytes (Err errors.Read) before now h e = absurd h
not_failed bytes (Err errors.TooLong) before now h e = absurd h
