-- A whole record is split off, whatever follows it; bytes that begin no record go on to begin none.
use Rattle.std.proofs.Common.{◌≡◌, ◌∙◌, ℕ, zero, suc, ◌<◌, ◌≤◌, ◌^◌, ◌||◌, List, [], ◌∷◌, ◌++◌, length, take, drop}
use Rattle.std.proofs.Common.{Some, None, Option, Bool, true, false, if◌then◌else◌, not, nat_lt, refl, sym, ap, ap₂}
use Rattle.std.proofs.Common.{arith, length-append, true≢false}
use Rattle.std.specs.Int.{w32, to_be_bytes, from_be_bytes}
use Rattle.std.specs.Option.{option_map_or}
use Rattle.std.proofs.lemmas.Bool.Decides.{nat_tests}
use Rattle.std.proofs.lemmas.Nat.{from_be_bytes-to_be_bytes_4, be_bytes_4}
use Rattle.hex.specs.Hex.{IsBytes}
use Rattle.std.proofs.lemmas.Option.{same_Some}
use Rattle.run_store.specs.Records.{most_bytes, framed, first_bytes, length_in, payload_in, Awaited, is_bad_length}
use Rattle.run_store.specs.Records.{is_bad_of, is_bad}

-- a number isn't below one that is at most it
pub enough : (n m : ℕ) → m ≤ n → nat_lt n m ≡ false
enough n m h = grind (arith, nat_tests, h)

-- as many bytes as the payload has are the payload
takes_all : (payload rest : List ℕ) → take (length payload) (payload ++ rest) ≡ payload
takes_all [] rest = refl
takes_all (b ∷ payload) rest = ap (λ (l : List ℕ). b ∷ l) (takes_all payload rest)

-- what follows the payload is the rest
drops_all : (payload rest : List ℕ) → drop (length payload) (payload ++ rest) ≡ rest
drops_all [] rest = refl
drops_all (b ∷ payload) rest = drops_all payload rest

-- the payload is there, whatever follows it
first_whole : (payload rest : List ℕ) → first_bytes (length payload) (payload ++ rest) ≡ Some payload
first_whole payload rest =
    let fits : length payload ≤ length (payload ++ rest) = omega (arith, length-append payload rest) in
    rw (enough (length (payload ++ rest)) (length payload) fits, takes_all payload rest) refl

-- a record says the length of its payload
pub length_in-framed : (kind : ℕ) (payload rest : List ℕ) → length payload < 2 ^ 32
    → length_in (framed kind payload ++ rest) ≡ Some (length payload)
length_in-framed kind payload rest small = ap Some (from_be_bytes-to_be_bytes_4 (length payload) small)

-- the payload of a record is there, whatever follows it
pub payload_in-framed : (kind : ℕ) (payload rest : List ℕ) → length payload < 2 ^ 32
    → payload_in (framed kind payload ++ rest) ≡ Some payload
payload_in-framed kind payload rest small =
    ap (λ (n : ℕ). first_bytes n (payload ++ rest)) (from_be_bytes-to_be_bytes_4 (length payload) small)
    ∙ first_whole payload rest

-- records that begin the same bytes have one payload, and the same follows them
pub one_record : (kind other : ℕ) (p q x y : List ℕ) → length p < 2 ^ 32 → length q < 2 ^ 32
    → framed kind p ++ x ≡ framed other q ++ y → (p ≡ q) × (x ≡ y)
one_record kind other p q x y small few e =
    let same : p ≡ q =
    same_Some p q (sym (payload_in-framed kind p x small) ∙ ap payload_in e ∙ payload_in-framed other q y few) in
    let rest : p ++ x ≡ q ++ y = ap (drop 5) e in (
      same,
      sym (drops_all p x) ∙ ap (drop (length p)) rest
          ∙ ap (λ (r : List ℕ). drop (length r) (q ++ y)) same ∙ drops_all q y,
    )

-- a record that may stand at a place is not bad there, whatever follows it
pub framed_good : (awaited : Awaited) (kind : ℕ) (payload rest : List ℕ) → length payload < 2 ^ 32
    → awaited.kinds kind ≡ true → is_bad_length kind (length payload) ≡ false → awaited.payloads kind payload ≡ true
    → is_bad awaited (framed kind payload ++ rest) ≡ false
framed_good awaited kind payload rest small may short right =
    ap₂ (is_bad_of awaited kind) (length_in-framed kind payload rest small) (payload_in-framed kind payload rest small)
    ∙ rw (may, short, right) refl

-- ---- what is there of a record stays there

-- bytes at the front stay, whatever follows
take_more : (n : ℕ) (xs ys : List ℕ) → n ≤ length xs → take n (xs ++ ys) ≡ take n xs
take_more zero xs ys h = refl
take_more (suc n) [] ys h = absurd (omega arith)
take_more (suc n) (x ∷ xs) ys h = ap (λ (l : List ℕ). x ∷ l) (take_more n xs ys (omega arith))

-- bytes that are there stay, whatever follows, by whether they are
first_more_at : (b : Bool) (n : ℕ) (xs ys p : List ℕ) → nat_lt (length xs) n ≡ b
    → (if b then None else Some (take n xs)) ≡ Some p → first_bytes n (xs ++ ys) ≡ Some p
first_more_at true n xs ys p is e = cc e
first_more_at false n xs ys p is e =
    let fits : n ≤ length xs = grind (arith, nat_tests, is) in
    rw (enough (length (xs ++ ys)) n (omega (arith, length-append xs ys)), take_more n xs ys fits) e

-- a length that is there stays, whatever follows
length_in-more : (a b : List ℕ) (n : ℕ) → length_in a ≡ Some n → length_in (a ++ b) ≡ Some n
length_in-more [] b n e = cc e
length_in-more (k ∷ []) b n e = cc e
length_in-more (k ∷ w ∷ []) b n e = cc e
length_in-more (k ∷ w ∷ x ∷ []) b n e = cc e
length_in-more (k ∷ w ∷ x ∷ y ∷ []) b n e = cc e
length_in-more (k ∷ w ∷ x ∷ y ∷ z ∷ a) b n e = e

-- a payload that is there stays, whatever follows
payload_in-more : (a b p : List ℕ) → payload_in a ≡ Some p → payload_in (a ++ b) ≡ Some p
payload_in-more [] b p e = cc e
payload_in-more (k ∷ []) b p e = cc e
payload_in-more (k ∷ w ∷ []) b p e = cc e
payload_in-more (k ∷ w ∷ x ∷ []) b p e = cc e
payload_in-more (k ∷ w ∷ x ∷ y ∷ []) b p e = cc e
payload_in-more (k ∷ w ∷ x ∷ y ∷ z ∷ a) b p e =
    let n : ℕ = from_be_bytes w32 (w ∷ x ∷ y ∷ z ∷ []) in
    first_more_at (nat_lt (length a) n) n a b p refl e

-- an `or` stays true if its second part does
or_more : (x y later : Bool) → (y ≡ true → later ≡ true) → (x || y) ≡ true → (x || later) ≡ true
or_more true y later f e = refl
or_more false y later f e = f e

-- an `or` stays true if its parts do
or_both : (x y u v : Bool) → (x ≡ true → u ≡ true) → (y ≡ true → v ≡ true) → (x || y) ≡ true → (u || v) ≡ true
or_both true y u v f g e = rw (f refl) refl
or_both false y true v f g e = refl
or_both false y false v f g e = g e

-- a test of a value that is there stays true, if the value stays
map_or_more : {X : Type 0} (f : X → Bool) (o later : Option X) → ((x : X) → o ≡ Some x → later ≡ Some x)
    → option_map_or f o false ≡ true → option_map_or f later false ≡ true
map_or_more f None later more e = absurd (true≢false (sym e))
map_or_more f (Some x) later more e = rw (more x refl) e

-- a bad record stays bad
pub bad_more : (awaited : Awaited) (a b : List ℕ) → is_bad awaited a ≡ true → is_bad awaited (a ++ b) ≡ true
bad_more awaited [] b e = absurd (true≢false (sym e))
bad_more awaited (kind ∷ a) b e =
    or_more (not (awaited.kinds kind)) _ _ (or_both _ _ _ _
    (map_or_more (is_bad_length kind) (length_in (kind ∷ a)) (length_in (kind ∷ (a ++ b)))
    (length_in-more (kind ∷ a) b))
    (map_or_more (λ (p : List ℕ). not (awaited.payloads kind p)) (payload_in (kind ∷ a)) (payload_in (kind ∷ (a ++ b)))
    (payload_in-more (kind ∷ a) b))) e

-- ---- what is there of a good record

-- a record that is there, may stand at its place, and is followed by the rest
pub record IsGood (awaited : Awaited) (bytes payload : List ℕ) : Type 0 where
  pub kind : ℕ
  pub rest : List ℕ
  pub split : bytes ≡ framed kind payload ++ rest
  pub may : awaited.kinds kind ≡ true
  pub right : awaited.payloads kind payload ≡ true
  pub short : length payload ≤ most_bytes

-- each part of an `or` that is false is false
no_or : (x y z : Bool) → (x || (y || z)) ≡ false → (x ≡ false) × (y ≡ false) × (z ≡ false)
no_or true y z e = absurd (true≢false e)
no_or false true z e = absurd (true≢false e)
no_or false false true e = absurd (true≢false e)
no_or false false false e = (refl, refl, refl)

-- what isn't not so is so
not_not : (b : Bool) → not b ≡ false → b ≡ true
not_not true e = refl
not_not false e = absurd (true≢false e)

-- the first part of an `or` that is false is false
first_no : (x y : Bool) → (x || y) ≡ false → x ≡ false
first_no true y e = absurd (true≢false e)
first_no false y e = refl

-- so many bytes at the front are so many
pub take_length : (n : ℕ) (xs : List ℕ) → n ≤ length xs → length (take n xs) ≡ n
take_length zero xs h = refl
take_length (suc n) [] h = absurd (omega arith)
take_length (suc n) (x ∷ xs) h = ap suc (take_length n xs (omega arith))

-- the front and what follows it are all
pub take_drop : (n : ℕ) (xs : List ℕ) → take n xs ++ drop n xs ≡ xs
take_drop zero xs = refl
take_drop (suc n) [] = refl
take_drop (suc n) (x ∷ xs) = ap (λ (l : List ℕ). x ∷ l) (take_drop n xs)

-- the payload that is there is a good record's, by whether its bytes are there
good_at : (b : Bool) (awaited : Awaited) (kind w x y z : ℕ) (bytes payload : List ℕ) → IsBytes (w ∷ x ∷ y ∷ z ∷ [])
    → nat_lt (length bytes) (from_be_bytes w32 (w ∷ x ∷ y ∷ z ∷ [])) ≡ b
    → (if b then None else Some (take (from_be_bytes w32 (w ∷ x ∷ y ∷ z ∷ [])) bytes)) ≡ Some payload
    → is_bad_of awaited kind (Some (from_be_bytes w32 (w ∷ x ∷ y ∷ z ∷ []))) (Some payload) ≡ false
    → IsGood awaited (kind ∷ w ∷ x ∷ y ∷ z ∷ bytes) payload
good_at true awaited kind w x y z bytes payload fit is e good = cc e
good_at false awaited kind w x y z bytes payload fit is e good =
    let n : ℕ = from_be_bytes w32 (w ∷ x ∷ y ∷ z ∷ []) in
    let there : n ≤ length bytes = grind (arith, nat_tests, is) in
    let same : take n bytes ≡ payload = same_Some (take n bytes) payload e in
    let said : length payload ≡ n = ap length (sym same) ∙ take_length n bytes there in
    let four : to_be_bytes w32 (length payload) ≡ w ∷ x ∷ y ∷ z ∷ [] =
    be_bytes_4 (w ∷ x ∷ y ∷ z ∷ []) (length payload) refl fit said in
    let parts = no_or (not (awaited.kinds kind)) (is_bad_length kind n) (not (awaited.payloads kind payload)) good in
    let low : nat_lt most_bytes n ≡ false = first_no (nat_lt most_bytes n) _ parts.1 in
    record {
      kind = kind;
      rest = drop n bytes;
      split = ap (λ (l : List ℕ). kind ∷ w ∷ x ∷ y ∷ z ∷ l)
          (sym (take_drop n bytes) ∙ ap (λ (l : List ℕ). l ++ drop n bytes) same)
          ∙ ap (λ (l : List ℕ). kind ∷ (l ++ (payload ++ drop n bytes))) (sym four);
      may = not_not (awaited.kinds kind) parts.0;
      right = not_not (awaited.payloads kind payload) parts.2;
      short = grind (arith, nat_tests, low, said);
    }

-- a payload that is there, in bytes that aren't bad, is a good record's
pub good : (awaited : Awaited) (bytes payload : List ℕ) → IsBytes bytes → is_bad awaited bytes ≡ false
    → payload_in bytes ≡ Some payload → IsGood awaited bytes payload
good awaited [] payload fit is e = cc e
good awaited (k ∷ []) payload fit is e = cc e
good awaited (k ∷ w ∷ []) payload fit is e = cc e
good awaited (k ∷ w ∷ x ∷ []) payload fit is e = cc e
good awaited (k ∷ w ∷ x ∷ y ∷ []) payload fit is e = cc e
good awaited (k ∷ w ∷ x ∷ y ∷ z ∷ bytes) payload fit is e =
    let n : ℕ = from_be_bytes w32 (w ∷ x ∷ y ∷ z ∷ []) in
    good_at (nat_lt (length bytes) n) awaited k w x y z bytes payload (bytes_of_length k w x y z bytes fit) refl e
    (ap (is_bad_of awaited k (Some n)) (sym e) ∙ is)
  where
    bytes_of_length : (k w x y z : ℕ) (bytes : List ℕ) → IsBytes (k ∷ w ∷ x ∷ y ∷ z ∷ bytes)
        → IsBytes (w ∷ x ∷ y ∷ z ∷ [])
    bytes_of_length k w x y z bytes fit zero = fit 1
    bytes_of_length k w x y z bytes fit (suc zero) = fit 2
    bytes_of_length k w x y z bytes fit (suc (suc zero)) = fit 3
    bytes_of_length k w x y z bytes fit (suc (suc (suc zero))) = fit 4
    bytes_of_length k w x y z bytes fit (suc (suc (suc (suc i)))) = omega arith
