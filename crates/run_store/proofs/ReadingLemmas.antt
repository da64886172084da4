-- Each reading of bytes is the one at which their records stop.
use Rattle.std.proofs.Common.{◌≡◌, ◌∙◌, ℕ, suc, ◌+◌, ◌<◌, ◌≤◌, ◌^◌, ◌==◌, ◌⊎◌, inl, inr, List, [], ◌∷◌, ◌++◌, length}
use Rattle.std.proofs.Common.{drop, Some, None, Option, Bool, true, false, if◌then◌else◌, refl, sym, ap, ap₂, arith}
use Rattle.std.proofs.Common.{append_assoc, append-nil, true≢false, bytes_eq, lt-ltb}
use Rattle.std.specs.Int.{w32, to_be_bytes}
use Rattle.std.specs.Option.{option_map_or}
use Rattle.std.proofs.lemmas.Slice.Eq.{bytes_eq-Decides}
use Rattle.std.proofs.lemmas.Bool.Decides.{nat_tests}
use Rattle.std.proofs.lemmas.Option.{same_Some}
use Rattle.run_events.specs.declared.turn.Turn.{Turn}
use Rattle.run_input.specs.Input.{turn_line_of}
use Rattle.run_output.specs.Turns.{turn_text}
use Rattle.run_store.specs.Records.{most_bytes, framed, payload_in, is_bad}
use Rattle.run_store.specs.Stores.{header, turn_records, front, end_record, is_plan_payload, is_turn_payload}
use Rattle.run_store.specs.Stores.{IsStoredTurn, AreStored, IsStorable, at_first, after_turns, agrees, IsWholeStore}
use Rattle.run_store.specs.Stores.{IsTorn, IsNoPlan, IsBadFirst, IsBadAfter, IsBadPast, StoreReading, whole, torn}
use Rattle.run_store.specs.Stores.{no_plan, bad, IsReading}
use Rattle.run_store.proofs.RecordLemmas.{framed_good, payload_in-framed, one_record}

-- how the records after a plan line stop
pub data Stop : Type 0 where
  broken : Stop
  cut : Stop
  closed : Stop
  passed : Stop

-- what a stop says
abbrev pub said_at : List ℕ → List Turn → Stop → StoreReading
said_at plan turns broken = bad (length turns + 1)
said_at plan turns cut = torn plan turns
said_at plan turns closed = whole plan turns
said_at plan turns passed = bad (length turns + 2)

-- the last record ends the bytes, or they go on
abbrev closed_or_passed : List ℕ → Stop
closed_or_passed [] = closed
closed_or_passed (b ∷ more) = passed

-- the stop at a record that is there: only the last one stops
abbrev stop_of : List ℕ → Option Stop
stop_of [] = None
stop_of (kind ∷ bytes) = if kind == 3 then Some (closed_or_passed (drop 8 bytes)) else None

-- the stop at the rest of bytes, if they stop there
abbrev pub stop_at : ℕ → List ℕ → Option Stop
stop_at n rest =
    if is_bad (after_turns n) rest then Some broken
    else option_map_or (λ payload. stop_of rest) (payload_in rest) (Some cut)

-- bytes stop at a bad record
pub stop_at-bad : (n : ℕ) (rest : List ℕ) → is_bad (after_turns n) rest ≡ true → stop_at n rest ≡ Some broken
stop_at-bad n rest e = rw e refl

-- bytes stop within a record that isn't bad
pub stop_at-cut : (n : ℕ) (rest : List ℕ) → is_bad (after_turns n) rest ≡ false → payload_in rest ≡ None
    → stop_at n rest ≡ Some cut
stop_at-cut n rest e none = rw (e, none) refl

-- bytes are equal to themselves
pub same_bytes : (bytes : List ℕ) → bytes_eq bytes bytes ≡ true
same_bytes bytes = (bytes_eq-Decides bytes bytes).1 refl

-- the last record isn't bad after its number of turns
pub end_good : (n : ℕ) (more : List ℕ) → is_bad (after_turns n) (end_record n ++ more) ≡ false
end_good n more =
    framed_good (after_turns n) 3 (to_be_bytes w32 n) more (omega arith) refl refl (same_bytes (to_be_bytes w32 n))

-- the payload of the last record is the number of turns
pub end_payload : (n : ℕ) (more : List ℕ) → payload_in (end_record n ++ more) ≡ Some (to_be_bytes w32 n)
end_payload n more = payload_in-framed 3 (to_be_bytes w32 n) more (omega arith)

-- bytes stop at the last record
pub stop_at-end : (n : ℕ) (more : List ℕ) → stop_at n (end_record n ++ more) ≡ Some (closed_or_passed more)
stop_at-end n more =
    let rest : List ℕ = end_record n ++ more in
    let right : (b : Bool) → b ≡ false → (o : Option (List ℕ)) → o ≡ Some (to_be_bytes w32 n)
    → (if b then Some broken else option_map_or (λ payload. stop_of rest) o (Some cut))
    ≡ Some (closed_or_passed more)
    = λ b is o e. rw (is, e) refl in
    right (is_bad (after_turns n) rest) (end_good n more) (payload_in rest) (end_payload n more)

-- the line of a stored turn is a right payload
pub turn_right : (t : Turn) → IsStoredTurn t → is_turn_payload (turn_text t) ≡ true
turn_right t h = rw (h.0) (same_bytes (turn_text t))

-- the record of a stored turn isn't bad
pub turn_good : (n : ℕ) (t : Turn) (more : List ℕ) → IsStoredTurn t → n + 1 < 2 ^ 32
    → is_bad (after_turns n) (framed 2 (turn_text t) ++ more) ≡ false
turn_good n t more h few =
    framed_good (after_turns n) 2 (turn_text t) more (omega (arith, h.1)) (rw (lt-ltb (n + 1) (2 ^ 32) few) refl)
    (grind (arith, nat_tests, h.1)) (turn_right t h)

-- bytes don't stop at the record of a stored turn
stop_at-turn : (n : ℕ) (t : Turn) (more : List ℕ) → IsStoredTurn t → n + 1 < 2 ^ 32
    → stop_at n (framed 2 (turn_text t) ++ more) ≡ None
stop_at-turn n t more h few =
    let rest : List ℕ = framed 2 (turn_text t) ++ more in
    let right : (b : Bool) → b ≡ false → (o : Option (List ℕ)) → o ≡ Some (turn_text t)
    → (if b then Some broken else option_map_or (λ payload. stop_of rest) o (Some cut)) ≡ None
    = λ b is o e. rw (is, e) refl in
    right (is_bad (after_turns n) rest) (turn_good n t more h few) (payload_in rest)
    (payload_in-framed 2 (turn_text t) more (omega (arith, h.1)))

-- ---- the turns before a stop are those of the bytes

-- a place at which bytes stop and don't stop is none
no_stop : {A : Type 0} (o : Option Stop) (a : Stop) → o ≡ None → o ≡ Some a → A
no_stop o a none e = cc (sym none ∙ e)

-- stored turns with the same line are the same
same_turn : (t u : Turn) → IsStoredTurn t → IsStoredTurn u → turn_text t ≡ turn_text u → t ≡ u
same_turn t u h k e = same_Some t u (sym h.0 ∙ ap turn_line_of e ∙ k.0)

-- the turns before a stop, and the rest after them, are those of the bytes
pub same_turns : (n : ℕ) (ts us : List Turn) (x y : List ℕ) (a b : Stop) → AreStored ts → AreStored us
    → n + length ts < 2 ^ 32 → n + length us < 2 ^ 32 → turn_records ts ++ x ≡ turn_records us ++ y
    → stop_at (n + length ts) x ≡ Some a → stop_at (n + length us) y ≡ Some b → (ts ≡ us) × (x ≡ y)
same_turns n [] [] x y a b h k few low e f g = (refl, e)
same_turns n [] (u ∷ us) x y a b h k few low e f g =
    let begins : x ≡ framed 2 (turn_text u) ++ (turn_records us ++ y) =
    e ∙ append_assoc (framed 2 (turn_text u)) (turn_records us) y in
    let none : n + 0 ≡ n = omega arith in
    no_stop (stop_at n x) a (ap (stop_at n) begins ∙ stop_at-turn n u (turn_records us ++ y) k.0 (omega (arith, low)))
    (ap (λ (m : ℕ). stop_at m x) (sym none) ∙ f)
same_turns n (t ∷ ts) [] x y a b h k few low e f g =
    let begins : y ≡ framed 2 (turn_text t) ++ (turn_records ts ++ x) =
    sym e ∙ append_assoc (framed 2 (turn_text t)) (turn_records ts) x in
    let none : n + 0 ≡ n = omega arith in
    no_stop (stop_at n y) b (ap (stop_at n) begins ∙ stop_at-turn n t (turn_records ts ++ x) h.0 (omega (arith, few)))
    (ap (λ (m : ℕ). stop_at m y) (sym none) ∙ g)
same_turns n (t ∷ ts) (u ∷ us) x y a b h k few low e f g =
    let begins : framed 2 (turn_text t) ++ (turn_records ts ++ x) ≡ framed 2 (turn_text u) ++ (turn_records us ++ y) =
    sym (append_assoc (framed 2 (turn_text t)) (turn_records ts) x) ∙ e
    ∙ append_assoc (framed 2 (turn_text u)) (turn_records us) y in
    let parts = one_record 2 2 (turn_text t) (turn_text u) (turn_records ts ++ x) (turn_records us ++ y)
    (omega (arith, h.0.1)) (omega (arith, k.0.1)) begins in
    let more : n + suc (length ts) ≡ n + 1 + length ts = omega arith in
    let less : n + suc (length us) ≡ n + 1 + length us = omega arith in
    let later = same_turns (n + 1) ts us x y a b h.1 k.1 (omega (arith, few)) (omega (arith, low)) parts.1
    (ap (λ (m : ℕ). stop_at m x) (sym more) ∙ f) (ap (λ (m : ℕ). stop_at m y) (sym less) ∙ g) in
    (ap₂ (λ (t : Turn) (ts : List Turn). t ∷ ts) (same_turn t u h.0 k.0 parts.0) later.0, later.1)

-- ---- readings that get past the plan line

-- a plan line that a store can have isn't too long
pub plan_short : (plan : List ℕ) → is_plan_payload plan ≡ true → length plan ≤ most_bytes
plan_short plan e = grind (arith, nat_tests, e)

-- bytes have this plan line, and stop after turns
pub record IsReached (bytes : List ℕ) (r : StoreReading) : Type 0 where
  pub plan : List ℕ
  pub turns : List Turn
  pub rest : List ℕ
  pub stop : Stop
  pub storable : IsStorable plan turns
  pub plan_few : length plan < 2 ^ 32
  pub split : bytes ≡ header ++ (framed 1 plan ++ (turn_records turns ++ rest))
  pub stops : stop_at (length turns) rest ≡ Some stop
  pub is : r ≡ said_at plan turns stop

-- what follows the front follows its records
pub front_then : (plan : List ℕ) (turns : List Turn) (rest : List ℕ)
    → front plan turns ++ rest ≡ header ++ (framed 1 plan ++ (turn_records turns ++ rest))
front_then plan turns rest =
    append_assoc header (framed 1 plan ++ turn_records turns) rest
    ∙ ap (λ (l : List ℕ). header ++ l) (append_assoc (framed 1 plan) (turn_records turns) rest)

-- bytes that stop after a front are read so
pub is_reached : (plan : List ℕ) (turns : List Turn) (rest bytes : List ℕ) (stop : Stop) (r : StoreReading)
    → IsStorable plan turns → bytes ≡ front plan turns ++ rest → stop_at (length turns) rest ≡ Some stop
    → r ≡ said_at plan turns stop → IsReached bytes r
is_reached plan turns rest bytes stop r h split stops is = record {
  plan = plan;
  turns = turns;
  rest = rest;
  stop = stop;
  storable = h;
  plan_few = omega (arith, plan_short plan h.plan_line);
  split = split ∙ front_then plan turns rest;
  stops = stops;
  is = is;
}

-- nothing after the last record adds nothing
end-nil : (n : ℕ) → end_record n ++ [] ≡ end_record n
end-nil n = append-nil (end_record n)

-- whole bytes stop at the last record
whole_reached : (bytes plan : List ℕ) (turns : List Turn) → IsWholeStore bytes plan turns
    → IsReached bytes (whole plan turns)
whole_reached bytes plan turns h =
    is_reached plan turns (end_record (length turns)) bytes closed _ h.storable h.is
    (ap (stop_at (length turns)) (sym (end-nil (length turns))) ∙ stop_at-end (length turns) []) refl

-- torn bytes stop within a record
torn_reached : (bytes plan : List ℕ) (turns : List Turn) → IsTorn bytes plan turns → IsReached bytes (torn plan turns)
torn_reached bytes plan turns h =
    is_reached plan turns h.rest bytes cut _ h.reaches.storable h.reaches.split
    (stop_at-cut (length turns) h.rest h.good h.cut) refl

-- bytes with a bad record stop there
after_reached : (bytes : List ℕ) (place : ℕ) → IsBadAfter bytes place → IsReached bytes (bad place)
after_reached bytes place h =
    is_reached h.plan h.turns h.rest bytes broken _ h.reaches.storable h.reaches.split
    (stop_at-bad (length h.turns) h.rest h.broken) (ap bad h.counted)

-- bytes that go on after the last record stop there
past_reached : (bytes : List ℕ) (place : ℕ) → IsBadPast bytes place → IsReached bytes (bad place)
past_reached bytes place h =
    let n : ℕ = length h.turns in
    is_reached h.plan h.turns (end_record n ++ h.byte ∷ h.more) bytes passed _ h.storable
    (h.split ∙ append_assoc (front h.plan h.turns) (end_record n) (h.byte ∷ h.more))
    (stop_at-end n (h.byte ∷ h.more)) (ap bad h.counted)

-- ---- readings that don't

-- the reading of the header and the first record, if bytes stop there
abbrev pub first_stop : Bool → Bool → Option (List ℕ) → Option StoreReading
first_stop false wrong payload = Some (bad 0)
first_stop true true payload = Some (bad 0)
first_stop true false None = Some no_plan
first_stop true false (Some plan) = None

-- the reading of bytes that stop before the first turn
abbrev pub stops_first : List ℕ → Option StoreReading
stops_first bytes = first_stop (agrees bytes header) (is_bad at_first (drop 8 bytes)) (payload_in (drop 8 bytes))

-- a bad front is such a reading
bad_first : (bytes : List ℕ) → IsBadFirst bytes → stops_first bytes ≡ Some (bad 0)
bad_first bytes (inl e) = rw e refl
bad_first bytes (inr e) = headed (agrees bytes header) (is_bad at_first (drop 8 bytes)) (payload_in (drop 8 bytes)) e
  where
    headed : (a b : Bool) (o : Option (List ℕ)) → b ≡ true → first_stop a b o ≡ Some (bad 0)
    headed false b o e = refl
    headed true true o e = refl
    headed true false o e = absurd (true≢false (sym e))

-- a front that is cut is such a reading
no_plan_first : (bytes : List ℕ) → IsNoPlan bytes → stops_first bytes ≡ Some no_plan
no_plan_first bytes h = rw (h.headed, h.good, h.cut) refl

-- bytes that have a plan line don't stop before the first turn
reached_first : (bytes : List ℕ) (r : StoreReading) → IsReached bytes r → stops_first bytes ≡ None
reached_first bytes r h =
    let rest : List ℕ = turn_records h.turns ++ h.rest in
    let short : length h.plan ≤ most_bytes = plan_short h.plan h.storable.plan_line in
    ap stops_first h.split
    ∙ ap₂ (λ (b : Bool) (o : Option (List ℕ)). first_stop true b o)
    (framed_good at_first 1 h.plan rest (omega (arith, short)) refl (grind (arith, nat_tests, short))
    h.storable.plan_line)
    (payload_in-framed 1 h.plan rest (omega (arith, short)))

-- a reading with a plan line gets past it
past_plan : (bytes : List ℕ) (r : StoreReading) → IsReached bytes r
    → (stops_first bytes ≡ Some r) ⊎ ((stops_first bytes ≡ None) × IsReached bytes r)
past_plan bytes r h = inr (reached_first bytes r h, h)

-- a reading stops at the front, or gets past the plan line
pub first_or_reached : (bytes : List ℕ) (r : StoreReading) → IsReading bytes r
    → (stops_first bytes ≡ Some r) ⊎ ((stops_first bytes ≡ None) × IsReached bytes r)
first_or_reached bytes (whole plan turns) h = past_plan bytes (whole plan turns) (whole_reached bytes plan turns h)
first_or_reached bytes (torn plan turns) h = past_plan bytes (torn plan turns) (torn_reached bytes plan turns h)
first_or_reached bytes no_plan h = inl (no_plan_first bytes h)
first_or_reached bytes (bad place) (inl (is, h)) = inl (bad_first bytes h ∙ ap (λ (n : ℕ). Some (bad n)) (sym is))
first_or_reached bytes (bad place) (inr (inl h)) = past_plan bytes (bad place) (after_reached bytes place h)
first_or_reached bytes (bad place) (inr (inr h)) = past_plan bytes (bad place) (past_reached bytes place h)
