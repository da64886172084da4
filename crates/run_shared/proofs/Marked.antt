-- Flags of receipts.
use Rattle.std.proofs.Common.{◌≡◌, ◌≢◌, ℕ, ◌+◌, ◌<◌, ◌≤◌, ◌==◌, List, [], ◌∷◌, ◌++◌, length, map, Bool, true, false}
use Rattle.std.proofs.Common.{refl, ap, sym}
use Rattle.std.proofs.Common.{◌∙◌, arith, rules, length-append, take, drop, get_or, set, cond, zero, suc, subst}
use Rattle.std.proofs.Common.{replicate}
use Rattle.std.proofs.lemmas.List.{take_more, take-append-drop, append_assoc, map-append, append-nil, take_all}
use Rattle.std.proofs.lemmas.List.{length-map}
use Rattle.std.proofs.lemmas.List.{get_or-set_same, get_or-set_other, length-set, get_or_past, get_or-replicate}
use Rattle.std.proofs.lemmas.List.{length-replicate}
use Rattle.std.proofs.lemmas.List.Sums.{sum_by-append, sum_by_push, sum_by-cons, sum_by-set, count_by-le-length}
use Rattle.std.proofs.lemmas.List.Folds.{sum_by-replicate}
use Rattle.std.proofs.lemmas.List.Elements.{All-append, Contains-append_left, Contains-append_right}
use Rattle.std.proofs.lemmas.Grind.{common_steps}
use Rattle.std.specs.List.{All, Contains, count_by}
use Rattle.run_model.specs.declared.entry.Entry.{Entry}
use Rattle.run_shared.specs.declared.shared.Receipt.{Receipt}
use Rattle.run_shared.specs.declared.closing.CloseKind.{CloseKind}
use Rattle.run_shared.specs.declared.closing.CloseKind.TheVariants.{OtherSettings, Mismatch, Repeated, OutOfMemory}
use Rattle.run_model.specs.Words.{times}
use Rattle.run_shared.specs.Receipts.{concatenated, receipt_numbers, bit, StandsIn, Marks, Looked, IsFault}
use Rattle.run_shared.specs.Receipts.{HasFault, Closes}

pub times_append : (k : ℕ) (xs ys : List ℕ) → times k (xs ++ ys) ≡ times k xs + times k ys
times_append k xs ys = sum_by-append (λ n. cond (n == k) 1 0) xs ys

-- one flag more
mark_each : (seen : List Bool) (ns : List ℕ) (n k : ℕ) → n < length seen → get_or seen n false ≡ false
    → times k ns ≡ bit (get_or seen k false) → times n ns ≡ bit (get_or seen n false)
    → times k (ns ++ n ∷ []) ≡ bit (get_or (set seen n true) k false)
mark_each seen ns n k below fresh each own =
    grind (arith, common_steps, sum_by_push, get_or-set_same, get_or-set_other)

pub marks_more : (seen : List Bool) (ns : List ℕ) (n : ℕ) → n < length seen → get_or seen n false ≡ false
    → Marks seen ns → Marks (set seen n true) (ns ++ n ∷ [])
marks_more seen ns n below fresh m = record {
  each = λ k. mark_each seen ns n k below fresh (m.each k) (m.each n);
  count = omega (arith, sum_by-set bit seen n true false below, ap bit fresh, m.count, length-append ns (n ∷ []));
}

-- a number whose flag is set comes twice with a receipt of it
pub seen_twice : (journal : List Entry) (seen : List Bool) (r : Receipt) (n : ℕ) → n ≡ r.number
    → get_or seen n false ≡ true → HasFault journal seen (r ∷ []) (Repeated n)
seen_twice journal seen r n same flagged = λ ns m. let h = m.each n in grind (arith, common_steps, sum_by_push)

-- a receipt that stands, and whose flag wasn't set
pub looked_one : (journal : List Entry) (seen : List Bool) (r : Receipt) → StandsIn journal r → r.number < length seen
    → get_or seen r.number false ≡ false → Looked journal seen (set seen r.number true) (r ∷ [])
looked_one journal seen r stands below fresh = record {
  stands = (search rules);
  marked = λ ns m. marks_more seen ns r.number below fresh m;
}

pub looked_none : (journal : List Entry) (seen : List Bool) → Looked journal seen seen []
looked_none journal seen = record { stands = (search rules); marked = λ ns m. rw append-nil m }

pub looked_more : (journal : List Entry) (seen now after : List Bool) (rs ss : List Receipt)
    → Looked journal seen now rs
    → Looked journal now after ss → Looked journal seen after (rs ++ ss)
looked_more journal seen now after rs ss a b = record {
  stands = All-append (StandsIn journal) rs ss a.stands b.stands;
  marked = λ ns m. rw (
    map-append (λ (r : Receipt). r.number) rs ss,
    ← append_assoc ns
        (receipt_numbers rs) (receipt_numbers ss),
  )
      (b.marked (ns ++ receipt_numbers rs) (a.marked ns m));
}

-- what is wrong after receipts that stand is wrong with all of them
numbers_three : (rs ss after : List Receipt)
    → receipt_numbers (rs ++ (ss ++ after)) ≡ receipt_numbers rs ++ (receipt_numbers ss ++ receipt_numbers after)
numbers_three rs ss after =
    map-append (λ (r : Receipt). r.number) rs (ss ++ after)
    ∙ ap (λ (ns : List ℕ). receipt_numbers rs ++ ns) (map-append (λ (r : Receipt). r.number) ss after)

pub repeated_after : (n : ℕ) (ns xs ys zs : List ℕ) → 2 ≤ times n ((ns ++ xs) ++ ys)
    → 2 ≤ times n (ns ++ (xs ++ (ys ++ zs)))
repeated_after n ns xs ys zs h = omega (
  arith,
  h,
  times_append n (ns ++ xs) ys,
  times_append n ns xs,
  times_append n ns (xs ++ (ys ++ zs)),
  times_append n xs (ys ++ zs),
  times_append n ys zs,
)

fault_later : (journal : List Entry) (ns : List ℕ) (rs ss after : List Receipt) (e : CloseKind)
    → IsFault journal (ns ++ receipt_numbers rs) ss e → IsFault journal ns (rs ++ (ss ++ after)) e
fault_later journal ns rs ss after (OtherSettings given kept) h = h
fault_later journal ns rs ss after (Mismatch number receipt found) h = (
  Contains-append_right rs (ss ++ after) _ (Contains-append_left ss after _ h.0),
  h.1,
  h.2,
)
fault_later journal ns rs ss after (Repeated n) h =
    rw (numbers_three rs ss after) (repeated_after n ns (receipt_numbers rs) (receipt_numbers ss)
    (receipt_numbers after) h)
fault_later journal ns rs ss after OutOfMemory h = h

pub fault_after : (journal : List Entry) (seen now : List Bool) (rs ss after : List Receipt) (e : CloseKind)
    → Looked journal seen now rs → HasFault journal now ss e → HasFault journal seen (rs ++ (ss ++ after)) e
fault_after journal seen now rs ss after e looked h =
    λ ns m. fault_later journal ns rs ss after e (h (ns ++ receipt_numbers rs) (looked.marked ns m))

-- a list is what comes before an item, the item and the rest
pub next_at : {X : Type 0} → (xs : List X) (i : ℕ) (x : X) → i < length xs → x ≡ get_or xs i x
    → take (i + 1) xs ≡ take i xs ++ x ∷ []
next_at xs i x below is = take_more xs i x below ∙ ap (λ y. take i xs ++ y ∷ []) (sym is)

pub cut_at : {X : Type 0} → (xs : List X) (i : ℕ) (x : X) → i < length xs → x ≡ get_or xs i x
    → xs ≡ take i xs ++ ((x ∷ []) ++ drop (i + 1) xs)
cut_at xs i x below is =
    sym (take-append-drop (i + 1) xs)
    ∙ ap (λ ys. ys ++ drop (i + 1) xs) (next_at xs i x below is)
    ∙ append_assoc (take i xs) (x ∷ []) (drop (i + 1) xs)

-- the same of lists that are concatenated
pub joined_append : {X : Type 0} → (xss yss : List (List X))
    → concatenated (xss ++ yss) ≡ concatenated xss ++ concatenated yss
joined_append [] yss = refl
joined_append (xs ∷ xss) yss =
    ap (λ ys. xs ++ ys) (joined_append xss yss) ∙ sym (append_assoc xs (concatenated xss) (concatenated yss))

pub next_joined : {X : Type 0} → (xss : List (List X)) (i : ℕ) (xs : List X) → i < length xss → xs ≡ get_or xss i xs
    → concatenated (take (i + 1) xss) ≡ concatenated (take i xss) ++ xs
next_joined xss i xs below is =
    ap concatenated (next_at xss i xs below is)
    ∙ joined_append (take i xss) (xs ∷ [])
    ∙ ap (λ ys. concatenated (take i xss) ++ ys) (append-nil xs)

pub cut_joined : {X : Type 0} → (xss : List (List X)) (i : ℕ) (xs : List X) → i < length xss → xs ≡ get_or xss i xs
    → concatenated xss ≡ concatenated (take i xss) ++ (xs ++ concatenated (drop (i + 1) xss))
cut_joined xss i xs below is =
    ap concatenated (cut_at xss i xs below is) ∙ joined_append (take i xss) ((xs ∷ []) ++ drop (i + 1) xss)

-- where all flags are set, each is
pub all_true : (seen : List Bool) (k : ℕ) → count_by (λ b. b) seen ≡ length seen → k < length seen
    → get_or seen k false ≡ true
all_true [] k all below = absurd (omega (arith, below))
all_true (true ∷ seen) zero all below = refl
all_true (false ∷ seen) k all below =
    let few = count_by-le-length (λ (b : Bool). b) seen in
    let first : count_by (λ (b : Bool). b) (false ∷ seen) ≡ 0 + count_by (λ (b : Bool). b) seen =
    sum_by-cons bit false seen in
    absurd (omega (arith, all, few, first))
all_true (true ∷ seen) (suc k) all below =
    let first : count_by (λ (b : Bool). b) (true ∷ seen) ≡ 1 + count_by (λ (b : Bool). b) seen =
    sum_by-cons bit true seen in
    all_true seen k (omega (arith, all, first)) (omega (arith, below))

-- nothing is flagged at first
pub marks_none : (n : ℕ) → Marks (replicate n false) []
marks_none n = record {
  each = λ k. grind (arith, common_steps, get_or-replicate, get_or_past, length-replicate);
  count = sum_by-replicate bit n false ∙ (omega arith);
}

once_each : (journal : List Entry) (now : List Bool) (rs : List Receipt) (k : ℕ) → length now ≡ length journal
    → Marks now (receipt_numbers rs) → length rs ≡ length journal → k < length journal
    → times k (receipt_numbers rs) ≡ 1
once_each journal now rs k len m as_many below =
    m.each k ∙ ap bit (all_true now k (m.count ∙ length-map rs (λ (r : Receipt). r.number) ∙ as_many ∙ sym len)
    (omega (arith, len, below)))

pub bit_small : (b : Bool) → bit b ≤ 1
bit_small true = omega arith
bit_small false = omega arith

pub closes_of : (journal : List Entry) (n : ℕ) (now : List Bool) (rs : List Receipt) → length now ≡ length journal
    → Looked journal (replicate n false) now rs → Closes journal rs
closes_of journal n now rs len looked =
    let m = looked.marked [] (marks_none n) in record {
      stands = looked.stands;
      apart = λ k. rw (m.each k) (bit_small (get_or now k false));
      once = λ as_many k below. once_each journal now rs k len m as_many below;
    }

pub fault_of : (journal : List Entry) (n : ℕ) (rs : List Receipt) (e : CloseKind)
    → HasFault journal (replicate n false) rs e → IsFault journal [] rs e
fault_of journal n rs e h = h [] (marks_none n)
