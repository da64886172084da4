-- Any bytes are read in exactly one way, and no front part of a store text has a bad record.
use Rattle.std.proofs.Common.{◌≡◌, ◌∙◌, ℕ, zero, suc, ◌+◌, ◌<◌, ◌≤◌, ◌^◌, ◌==◌, ◌&&◌, ◌||◌, ◌⊎◌, inl, inr, List, []}
use Rattle.std.proofs.Common.{◌∷◌, ◌++◌, length, drop, Some, None, Option, Bool, true, false, nat_lt, refl, sym, ap}
use Rattle.std.proofs.Common.{ap₂, arith, subst, append_assoc, append-nil, true≢false, bytes_eq, ltb-true, eqb-true}
use Rattle.std.proofs.Common.{length-append}
use Rattle.std.specs.Int.{w32, to_be_bytes}
use Rattle.std.specs.Option.{option_map_or}
use Rattle.std.proofs.lemmas.Bool.{and_parts, cases_lt}
use Rattle.std.proofs.lemmas.Slice.Eq.{bytes_eq-Decides}
use Rattle.hex.specs.Hex.{IsBytes}
use Rattle.run_events.specs.declared.turn.Turn.{Turn}
use Rattle.run_input.specs.Input.{turn_line_of}
use Rattle.run_output.specs.Turns.{turn_text}
use Rattle.run_store.specs.Records.{most_bytes, framed, payload_in, is_bad}
use Rattle.run_store.specs.Stores.{header, turn_records, front, end_record, store_text, is_turn_payload, IsStoredTurn}
use Rattle.run_store.specs.Stores.{AreStored, IsStorable, at_first, after_turns, agrees, IsBad, StoreReading, whole}
use Rattle.run_store.specs.Stores.{torn, no_plan, bad, IsReading}
use Rattle.run_store.proofs.RecordLemmas.{one_record, bad_more, IsGood, good}
use Rattle.run_store.proofs.ReadingLemmas.{Stop, said_at, stop_at, same_turns, IsReached, front_then, first_or_reached}
use Rattle.run_store.proofs.ReadingLemmas.{stops_first}

-- ---- at most one reading

-- there is one reading in a `Some`
some_reading : (r s : StoreReading) → Some r ≡ Some s → r ≡ s
some_reading r s e = cc e

-- a reading that is there and isn't is none
not_both : {A : Type 0} (o : Option StoreReading) (r : StoreReading) → o ≡ Some r → o ≡ None → A
not_both o r e none = cc (sym none ∙ e)

-- there is one stop in a `Some`
some_stop : (a b : Stop) → Some a ≡ Some b → a ≡ b
some_stop a b e = cc e

-- bytes with a plan line have one reading
both_reached : (bytes : List ℕ) (r s : StoreReading) → IsReached bytes r → IsReached bytes s → s ≡ r
both_reached bytes r s h k =
    let x : List ℕ = turn_records h.turns ++ h.rest in
    let y : List ℕ = turn_records k.turns ++ k.rest in
    let records : framed 1 h.plan ++ x ≡ framed 1 k.plan ++ y = ap (drop 8) (sym h.split ∙ k.split) in
    let first = one_record 1 1 h.plan k.plan x y h.plan_few k.plan_few records in
    let one : 0 + length h.turns ≡ length h.turns = omega arith in
    let other : 0 + length k.turns ≡ length k.turns = omega arith in
    let later = same_turns 0 h.turns k.turns h.rest k.rest h.stop k.stop h.storable.turn_lines k.storable.turn_lines
    (omega (arith, h.storable.few)) (omega (arith, k.storable.few)) first.1
    (ap (λ (m : ℕ). stop_at m h.rest) one ∙ h.stops) (ap (λ (m : ℕ). stop_at m k.rest) other ∙ k.stops) in
    let stops : h.stop ≡ k.stop =
    some_stop h.stop k.stop (sym h.stops
    ∙ ap₂ (λ (ts : List Turn) (rest : List ℕ). stop_at (length ts) rest) later.0 later.1 ∙ k.stops) in
    k.is ∙ sym (ap₂ (λ (p : List ℕ) (ts : List Turn). said_at p ts k.stop) first.0 later.0)
    ∙ sym (ap (said_at h.plan h.turns) stops) ∙ sym h.is

-- bytes have at most one reading
pub one_reading : (bytes : List ℕ) (r s : StoreReading) → IsReading bytes r → IsReading bytes s → s ≡ r
one_reading bytes r s h k = elim (first_or_reached bytes r h) [
  | inl e ↦ elim (first_or_reached bytes s k) [
    | inl f ↦ some_reading s r (sym f ∙ e)
    | inr f ↦ not_both (stops_first bytes) r e f.0
  ]
  | inr e ↦ elim (first_or_reached bytes s k) [
    | inl f ↦ not_both (stops_first bytes) s f e.0
    | inr f ↦ both_reached bytes r s e.1 f.1
  ]
]

-- ---- at least one

-- bytes are read in some way
abbrev IsReadSome : List ℕ → Type 0
IsReadSome bytes = (r : StoreReading) × IsReading bytes r

-- what follows bytes in a list of bytes are bytes
pub bytes_after : (xs ys : List ℕ) → IsBytes (xs ++ ys) → IsBytes ys
bytes_after [] ys h = h
bytes_after (x ∷ xs) ys h = bytes_after xs ys (λ i. h (suc i))

-- stored turns with one more are stored
pub stored_more : (turns : List Turn) (t : Turn) → AreStored turns → IsStoredTurn t → AreStored (turns ++ t ∷ [])
stored_more [] t h k = (k, tt)
stored_more (u ∷ turns) t h k = (h.0, stored_more turns t h.1 k)

-- the record of one more turn follows those of the turns
pub records_more : (turns : List Turn) (t : Turn) (rest : List ℕ)
    → turn_records (turns ++ t ∷ []) ++ rest ≡ turn_records turns ++ (framed 2 (turn_text t) ++ rest)
records_more [] t rest = append_assoc (framed 2 (turn_text t)) [] rest
records_more (u ∷ turns) t rest =
    append_assoc (framed 2 (turn_text u)) (turn_records (turns ++ t ∷ [])) rest
    ∙ ap (λ (l : List ℕ). framed 2 (turn_text u) ++ l) (records_more turns t rest)
    ∙ sym (append_assoc (framed 2 (turn_text u)) (turn_records turns) (framed 2 (turn_text t) ++ rest))

-- the record of one more turn follows the front
pub front_more : (plan : List ℕ) (turns : List Turn) (t : Turn) (rest : List ℕ)
    → front plan (turns ++ t ∷ []) ++ rest ≡ front plan turns ++ (framed 2 (turn_text t) ++ rest)
front_more plan turns t rest =
    front_then plan (turns ++ t ∷ []) rest
    ∙ ap (λ (l : List ℕ). header ++ (framed 1 plan ++ l)) (records_more turns t rest)
    ∙ sym (front_then plan turns (framed 2 (turn_text t) ++ rest))

-- a right payload is the line of a turn
pub turn_of_payload : (payload : List ℕ) (o : Option Turn) → turn_line_of payload ≡ o
    → option_map_or (λ t. bytes_eq (turn_text t) payload) o false ≡ true
    → (t : Turn) × (turn_line_of payload ≡ Some t) × (turn_text t ≡ payload)
turn_of_payload payload None is e = absurd (true≢false (sym e))
turn_of_payload payload (Some t) is e = (t, is, (bytes_eq-Decides (turn_text t) payload).0 e)

-- which record it is that may stand after turns
pub kind_of : (n kind : ℕ) (b : Bool) → (kind == 2) ≡ b → ((b && nat_lt (n + 1) (2 ^ 32)) || kind == 3) ≡ true
    → ((kind ≡ 2) × (n + 1 < 2 ^ 32)) ⊎ (kind ≡ 3)
kind_of n kind true is e = room (nat_lt (n + 1) (2 ^ 32)) refl e
  where
    room : (c : Bool) → nat_lt (n + 1) (2 ^ 32) ≡ c → (c || kind == 3) ≡ true
        → ((kind ≡ 2) × (n + 1 < 2 ^ 32)) ⊎ (kind ≡ 3)
    room true few e = inl (eqb-true kind 2 is, ltb-true (n + 1) (2 ^ 32) few)
    room false few e = inr (eqb-true kind 3 e)
kind_of n kind false is e = inr (eqb-true kind 3 e)

-- a record has a byte
length-framed : (kind : ℕ) (payload rest : List ℕ) → length rest < length (framed kind payload ++ rest)
length-framed kind payload rest = omega (arith, length-append payload rest)

-- the rest after turns is read in some way, if it has fewer bytes than this
abbrev ReadsOn : ℕ → Type 0
ReadsOn room = (plan : List ℕ) (turns : List Turn) (rest : List ℕ) → length rest < room → IsStorable plan turns
    → IsBytes rest → IsReadSome (front plan turns ++ rest)

-- bytes that have the last record are whole, or go on after it
at_end : (plan : List ℕ) (turns : List Turn) (more : List ℕ) → IsStorable plan turns
    → IsReadSome (front plan turns ++ (end_record (length turns) ++ more))
at_end plan turns [] h = (
  whole plan turns,
  record {
    storable = h;
    is = ap (λ (l : List ℕ). front plan turns ++ l) (append-nil (end_record (length turns)));
  },
)
at_end plan turns (b ∷ more) h = (
  bad (length turns + 2),
  inr (inr (record {
    plan = plan;
    turns = turns;
    byte = b;
    more = more;
    storable = h;
    split = sym (append_assoc (front plan turns) (end_record (length turns)) (b ∷ more));
    counted = refl;
  })),
)

-- bytes stop at the rest after turns, or go on with a turn
judged : (room : ℕ) (plan : List ℕ) (turns : List Turn) (rest : List ℕ) (b : Bool) (o : Option (List ℕ))
    → ReadsOn room → length rest < suc room → IsStorable plan turns → IsBytes rest
    → is_bad (after_turns (length turns)) rest ≡ b → payload_in rest ≡ o → IsReadSome (front plan turns ++ rest)
judged room plan turns rest true o on low h fit is there = (
  bad (length turns + 1),
  inr (inl (record {
    plan = plan;
    turns = turns;
    rest = rest;
    reaches = record { storable = h; split = refl };
    broken = is;
    counted = refl;
  })),
)
judged room plan turns rest false None on low h fit is there = (
  torn plan turns,
  record {
    rest = rest;
    reaches = record { storable = h; split = refl };
    good = is;
    cut = there;
  },
)
judged room plan turns rest false (Some payload) on low h fit is there =
    let n : ℕ = length turns in
    let g : IsGood (after_turns n) rest payload = good (after_turns n) rest payload fit is there in
    elim (kind_of (length turns) g.kind (g.kind == 2) refl g.may) [
      | inl k ↦
          let right : is_turn_payload payload ≡ true =
          subst (λ (m : ℕ). (after_turns n).payloads m payload ≡ true) k.0 g.right in
          let t = turn_of_payload payload (turn_line_of payload) refl right in
          let stored : IsStoredTurn t.0 =
          (ap turn_line_of t.2 ∙ t.1, subst (λ (p : List ℕ). length p ≤ most_bytes) (sym t.2) g.short) in
          let split : rest ≡ framed 2 (turn_text t.0) ++ g.rest =
          g.split ∙ ap (λ (m : ℕ). framed m payload ++ g.rest) k.0
          ∙ ap (λ (p : List ℕ). framed 2 p ++ g.rest) (sym t.2) in
          let more : IsStorable plan (turns ++ t.0 ∷ []) = record {
            plan_line = h.plan_line;
            turn_lines = stored_more turns t.0 h.turn_lines stored;
            few = omega (arith, k.1, length-append turns (t.0 ∷ []));
          } in
          let shorter : length g.rest < room =
          omega (arith, low, length-framed g.kind payload g.rest, ap length g.split) in
          let fits : IsBytes g.rest = bytes_after (framed g.kind payload) g.rest (subst IsBytes g.split fit) in
          subst IsReadSome (front_more plan turns t.0 g.rest ∙ ap (λ (l : List ℕ). front plan turns ++ l) (sym split))
          (on plan (turns ++ t.0 ∷ []) g.rest shorter more fits)
      | inr k ↦
          let right : bytes_eq payload (to_be_bytes w32 n) ≡ true =
          subst (λ (m : ℕ). (after_turns n).payloads m payload ≡ true) k g.right in
          let same : payload ≡ to_be_bytes w32 n = (bytes_eq-Decides payload (to_be_bytes w32 n)).0 right in
          let split : rest ≡ end_record n ++ g.rest =
          g.split ∙ ap (λ (m : ℕ). framed m payload ++ g.rest) k ∙ ap (λ (p : List ℕ). framed 3 p ++ g.rest) same in
          subst IsReadSome (ap (λ (l : List ℕ). front plan turns ++ l) (sym split)) (at_end plan turns g.rest h)
    ]

-- the rest after turns is read in some way
read_on : (room : ℕ) → ReadsOn room
read_on zero plan turns rest low h fit = absurd (omega arith)
read_on (suc room) plan turns rest low h fit =
    judged room plan turns rest (is_bad (after_turns (length turns)) rest) (payload_in rest) (read_on room) low h fit
    refl refl

-- bytes that agree with a text no longer than they begin with it
pub headed : (bytes text : List ℕ) → agrees bytes text ≡ true → length text ≤ length bytes
    → bytes ≡ text ++ drop (length text) bytes
headed bytes [] e long = refl
headed [] (c ∷ text) e long = absurd (omega arith)
headed (b ∷ bytes) (c ∷ text) e long =
    let parts = and_parts (b == c) (agrees bytes text) e in
    ap₂ (λ (x : ℕ) (l : List ℕ). x ∷ l) (eqb-true b c parts.0) (headed bytes text parts.1 (omega (arith, long)))

-- too few bytes leave nothing
pub drop_none : (n : ℕ) (xs : List ℕ) → length xs < n → drop n xs ≡ []
drop_none zero xs h = absurd (omega arith)
drop_none (suc n) [] h = refl
drop_none (suc n) (x ∷ xs) h = drop_none n xs (omega arith)

-- bytes with a payload after the header have all of the header
long_enough : (bytes payload : List ℕ) → payload_in (drop 8 bytes) ≡ Some payload → 8 ≤ length bytes
long_enough bytes payload e = elim (cases_lt (length bytes) 8) [
  | inl low ↦ absurd_some (ap payload_in (sym (drop_none 8 bytes low)) ∙ e)
  | inr h ↦ h
]
  where
    absurd_some : {A : Type 0} → None ≡ Some payload → A
    absurd_some e = cc e

-- the first record is of kind 1
first_kind : (kind : ℕ) → (kind == 1) ≡ true → kind ≡ 1
first_kind kind e = eqb-true kind 1 e

-- bytes are read in some way, by whether they have the header, a bad record and a payload
begun : (bytes : List ℕ) (a b : Bool) (o : Option (List ℕ)) → IsBytes bytes → agrees bytes header ≡ a
    → is_bad at_first (drop 8 bytes) ≡ b → payload_in (drop 8 bytes) ≡ o → IsReadSome bytes
begun bytes false b o fit head is there = (bad 0, inl (refl, inl head))
begun bytes true true o fit head is there = (bad 0, inl (refl, inr is))
begun bytes true false None fit head is there = (no_plan, record { headed = head; good = is; cut = there })
begun bytes true false (Some plan) fit head is there =
    let all : bytes ≡ header ++ drop 8 bytes = headed bytes header head (long_enough bytes plan there) in
    let fits : IsBytes (drop 8 bytes) = bytes_after header (drop 8 bytes) (subst IsBytes all fit) in
    let g : IsGood at_first (drop 8 bytes) plan = good at_first (drop 8 bytes) plan fits is there in
    let split : bytes ≡ front plan [] ++ g.rest =
    all ∙ ap (λ (l : List ℕ). header ++ l) (g.split ∙ ap (λ (m : ℕ). framed m plan ++ g.rest) (first_kind g.kind g.may))
    ∙ sym (front_then plan [] g.rest) in
    let storable : IsStorable plan [] = record { plan_line = g.right; turn_lines = tt; few = omega arith } in
    subst IsReadSome (sym split)
    (read_on (suc (length g.rest)) plan [] g.rest (omega arith) storable
    (bytes_after (framed g.kind plan) g.rest (subst IsBytes g.split fits)))

-- any bytes are read in exactly one way
pub one_way : (bytes : List ℕ) → IsBytes bytes
    → (r : StoreReading) × IsReading bytes r × ((s : StoreReading) → IsReading bytes s → s ≡ r)
one_way bytes fit =
    let rest : List ℕ = drop 8 bytes in
    let found = begun bytes (agrees bytes header) (is_bad at_first rest) (payload_in rest) fit refl refl refl in
    (found.0, found.1, λ s k. one_reading bytes found.0 s found.1 k)

-- ---- what is bad stays bad

-- an `and` stays false if its second part does
differs : (x y later : Bool) → (y ≡ false → later ≡ false) → (x && y) ≡ false → (x && later) ≡ false
differs true y later f e = f e
differs false y later f e = refl

-- bytes that differ from a text differ from it, whatever follows
agrees_more : (bytes more text : List ℕ) → agrees bytes text ≡ false → agrees (bytes ++ more) text ≡ false
agrees_more [] more text e = absurd (true≢false e)
agrees_more (b ∷ bytes) more [] e = absurd (true≢false e)
agrees_more (b ∷ bytes) more (c ∷ text) e = differs (b == c) _ _ (agrees_more bytes more text) e

-- what follows enough bytes keeps what follows
drop_more_at : (n : ℕ) (bytes more : List ℕ) → n ≤ length bytes → drop n (bytes ++ more) ≡ drop n bytes ++ more
drop_more_at zero bytes more h = refl
drop_more_at (suc n) [] more h = absurd (omega arith)
drop_more_at (suc n) (b ∷ bytes) more h = drop_more_at n bytes more (omega arith)

-- a bad first record stays bad, whatever follows
first_more : (bytes more : List ℕ) → is_bad at_first (drop 8 bytes) ≡ true
    → is_bad at_first (drop 8 (bytes ++ more)) ≡ true
first_more bytes more e = elim (cases_lt (length bytes) 8) [
  | inl low ↦ absurd (true≢false (sym e ∙ ap (is_bad at_first) (drop_none 8 bytes low)))
  | inr h ↦ ap (is_bad at_first) (drop_more_at 8 bytes more h) ∙ bad_more at_first (drop 8 bytes) more e
]

-- bytes with a bad record have it, whatever follows
pub stays_bad : (bytes more : List ℕ) (place : ℕ) → IsBad bytes place → IsBad (bytes ++ more) place
stays_bad bytes more place (inl (is, inl e)) = inl (is, inl (agrees_more bytes more header e))
stays_bad bytes more place (inl (is, inr e)) = inl (is, inr (first_more bytes more e))
stays_bad bytes more place (inr (inl h)) = inr (inl (record {
  plan = h.plan;
  turns = h.turns;
  rest = h.rest ++ more;
  reaches = record {
    storable = h.reaches.storable;
    split = ap (λ (l : List ℕ). l ++ more) h.reaches.split ∙ append_assoc (front h.plan h.turns) h.rest more;
  };
  broken = bad_more (after_turns (length h.turns)) h.rest more h.broken;
  counted = h.counted;
}))
stays_bad bytes more place (inr (inr h)) = inr (inr (record {
  plan = h.plan;
  turns = h.turns;
  byte = h.byte;
  more = h.more ++ more;
  storable = h.storable;
  split = ap (λ (l : List ℕ). l ++ more) h.split ∙ append_assoc (store_text h.plan h.turns) (h.byte ∷ h.more) more;
  counted = h.counted;
}))

-- bad bytes aren't whole
not_whole : (place : ℕ) (plan : List ℕ) (turns : List Turn) → bad place ≡ whole plan turns → ⊥
not_whole place plan turns e = subst is_bad_reading e tt
  where
    is_bad_reading : StoreReading → Type 0
    is_bad_reading (bad place) = Unit {0}
    is_bad_reading (whole plan turns) = ⊥
    is_bad_reading (torn plan turns) = ⊥
    is_bad_reading no_plan = ⊥

-- no front part of a store text has a bad record
pub no_front : (plan : List ℕ) (turns : List Turn) (part more : List ℕ) (place : ℕ) → IsStorable plan turns
    → part ++ more ≡ store_text plan turns → ¬ IsBad part place
no_front plan turns part more place h e broken =
    let text : IsReading (part ++ more) (whole plan turns) = record { storable = h; is = e } in
    not_whole place plan turns
    (one_reading (part ++ more) (whole plan turns) (bad place) text (stays_bad part more place broken))
