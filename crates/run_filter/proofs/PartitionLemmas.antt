-- Parts of partitions.
use Rattle.std.proofs.Common.{ℕ, ◌≡◌, ◌≢◌, ◌<◌, ◌≤◌, ◌+◌, ◌%◌, sym, ◌∙◌, refl, ap, append_assoc, Bool, true, false}
use Rattle.std.proofs.Common.{◌&&◌, List, Some, None, nat_eq, eq-eqb, arith, length, get_or, ◌∷◌}
use Rattle.std.proofs.Common.{◌++◌, [], count_by, add-zero, if◌then◌else◌, take, drop, position, ◌==◌, Err}
use Rattle.std.proofs.lemmas.Bool.Decides.{nat_tests}
use Rattle.std.proofs.lemmas.List.{drop_more, take_more}
use Rattle.std.proofs.lemmas.List.Sums.{count_by_more_yes, count_by_more_no}
use Rattle.run_filter.specs.declared.partition.PartitionKind.{PartitionKind}
use Rattle.run_filter.specs.declared.partition.PartitionKind.TheVariants.{Hash, Count, Slice}
use Rattle.run_filter.specs.declared.partition.PartitionError.TheVariants as errors
use Rattle.run_filter.specs.declared.partition.Candidate.{Candidate}
use Rattle.run_filter.specs.Partition.{turn_key, turns, deciding_number, is_in, parted, PartsShareTests}
use Rattle.run_filter.specs.PartitionWord.{kind_of, part_of, partition_of}
use Rattle.run_filter.proofs.GlobLemmas.{and_left, and_right}

-- a turn decides where no hash does
pub number_of-turn : (kind : PartitionKind) (before : List Candidate) (c : Candidate) → kind ≢ Hash
    → deciding_number kind before c ≡ turns kind before (turn_key kind c)
number_of-turn Hash before c n = absurd (n refl)
number_of-turn Count before c n = refl
number_of-turn Slice before c n = refl

count_more : (p : Candidate → Bool) (xs : List Candidate) (i : ℕ) (d : Candidate) (b : Bool) → i < length xs → p
    (get_or xs i d) ≡ b
    → count_by p (take (i + 1) xs) ≡ count_by p (take i xs) + (if b then 1 else 0)
count_more p xs i d true l h = count_by_more_yes p xs i d l h
count_more p xs i d false l h = count_by_more_no p xs i d l h ∙ sym (add-zero (count_by p (take i xs)))

-- one test more
pub turns-more : (kind : PartitionKind) (cs : List Candidate) (i k : ℕ) (d : Candidate) → i < length cs
    → turns kind (take (i + 1) cs) k
    ≡ turns kind (take i cs) k + (if (get_or cs i d).passes && nat_eq (turn_key kind (get_or cs i d)) k then 1 else 0)
turns-more kind cs i k d l =
    let p : Candidate → Bool = λ c. c.passes && nat_eq (turn_key kind c) k in
    count_more p cs i d (p (get_or cs i d)) l refl

-- the tests from one place on
pub parted-more : (kind : PartitionKind) (part parts : ℕ) (cs : List Candidate) (i : ℕ) (d : Candidate) → i < length cs
    → parted kind part parts (take i cs) (drop i cs)
    ≡ is_in kind part parts (take i cs) (get_or cs i d) ∷ parted kind part parts (take (i + 1) cs) (drop (i + 1) cs)
parted-more kind part parts cs i d l =
    let e = drop_more cs i d l in
    let f = take_more cs i d l in
    rw (e, f) refl

-- a loop over the tests that counts turns: what it kept, and its counts
pub by_turn_kept : (kind : PartitionKind) (part parts : ℕ) (cs : List Candidate) (i : ℕ) (d : Candidate)
    (counts : List ℕ)
    (kept later whole : List Bool) (b : Bool) → kind ≢ Hash → i < length cs
    → b ≡ ((get_or cs i d).passes && nat_eq (get_or counts (turn_key kind (get_or cs i d)) 0 % parts + 1) part)
    → ((k : ℕ) → get_or counts k 0 ≡ turns kind (take i cs) k) → later ≡ kept ++ b ∷ []
    → kept ++ parted kind part parts (take i cs) (drop i cs) ≡ whole
    → later ++ parted kind part parts (take (i + 1) cs) (drop (i + 1) cs) ≡ whole
by_turn_kept kind part parts cs i d counts kept later whole b n l h q f w =
    let x : Candidate = get_or cs i d in
    let t : get_or counts (turn_key kind x) 0 ≡ deciding_number kind (take i cs) x =
    q (turn_key kind x) ∙ sym (number_of-turn kind (take i cs) x n) in
    let g : b ≡ is_in kind part parts (take i cs) x = h ∙ ap (λ (m : ℕ). x.passes && nat_eq (m % parts + 1) part) t in
    let r : List Bool = parted kind part parts (take (i + 1) cs) (drop (i + 1) cs) in
    ap (λ (y : List Bool). y ++ r) f
    ∙ append_assoc kept (b ∷ []) r
    ∙ ap (λ (y : Bool). kept ++ (y ∷ r)) g
    ∙ ap (λ (y : List Bool). kept ++ y) (sym (parted-more kind part parts cs i d l))
    ∙ w

pub by_turn_counts : (kind : PartitionKind) (cs : List Candidate) (i : ℕ) (d : Candidate) (counts later : List ℕ)
    → i < length cs
    → ((k : ℕ) → get_or later k 0
    ≡ get_or counts k 0 + (if (get_or cs i d).passes && nat_eq (turn_key kind (get_or cs i d)) k then 1 else 0))
    → ((k : ℕ) → get_or counts k 0 ≡ turns kind (take i cs) k) → (k : ℕ) → get_or later k 0 ≡ turns kind
    (take (i + 1) cs) k
by_turn_counts kind cs i d counts later l a q k =
    let x : Candidate = get_or cs i d in
    a k ∙ ap (λ (m : ℕ). m + (if x.passes && nat_eq (turn_key kind x) k then 1 else 0)) (q k) ∙ sym
    (turns-more kind cs i k d l)

both_true : (a b : Bool) → a ≡ true → b ≡ true → (a && b) ≡ true
both_true true b h k = k
both_true false b h k = cc

same_number : (a b : ℕ) → nat_eq a b ≡ true → a ≡ b
same_number a b h = grind (arith, nat_tests)

falls_on : (n parts : ℕ) → 0 < parts → (part : ℕ) × (1 ≤ part) × (part ≤ parts) × (nat_eq (n % parts + 1) part ≡ true)
falls_on n parts h = (n % parts + 1, omega arith, omega arith, eq-eqb (n % parts + 1) (n % parts + 1) refl)

in_one : (kind : PartitionKind) (parts : ℕ) (before : List Candidate) (c : Candidate) → 0 < parts
    → c.passes ≡ true → (part : ℕ) × (1 ≤ part) × (part ≤ parts) × (is_in kind part parts before c ≡ true)
in_one kind parts before c h p =
    let w = falls_on (deciding_number kind before c) parts h in
    (w.0, w.1, w.2, both_true c.passes (nat_eq (deciding_number kind before c % parts + 1) w.0) p w.3)

in_no_other : (kind : PartitionKind) (part other parts : ℕ) (before : List Candidate) (c : Candidate)
    → is_in kind part parts before c ≡ true → is_in kind other parts before c ≡ true → part ≡ other
in_no_other kind part other parts before c h k =
    let n = deciding_number kind before c % parts + 1 in
    sym (same_number n part (and_right c.passes (nat_eq n part) h))
    ∙ same_number n other (and_right c.passes (nat_eq n other) k)

if_it_runs : (kind : PartitionKind) (part parts : ℕ) (before : List Candidate) (c : Candidate)
    → is_in kind part parts before c ≡ true → c.passes ≡ true
if_it_runs kind part parts before c h = and_left c.passes (nat_eq (deciding_number kind before c % parts + 1) part) h

pub shared : PartsShareTests
shared = record { in_one = in_one; in_no_other = in_no_other; if_it_runs = if_it_runs }

-- what a word names
pub partition_of-no_kind : (word : List ℕ) → kind_of word ≡ None → partition_of word ≡ Err errors.Kind
unfolding partition_of
partition_of-no_kind word h = rw h refl

pub partition_of-no_slash : (word : List ℕ) (kind : PartitionKind) (numbers : List ℕ) → kind_of word ≡ Some
    (kind, numbers)
    → position (λ b. b == 47) numbers ≡ None → partition_of word ≡ Err errors.Slash
unfolding partition_of
partition_of-no_slash word kind numbers h k = rw h (rw k refl)

pub partition_of-slash : (word : List ℕ) (kind : PartitionKind) (numbers : List ℕ) (slash : ℕ) → kind_of word ≡ Some
    (kind, numbers)
    → position (λ b. b == 47) numbers ≡ Some slash
    → partition_of word ≡ part_of kind (take slash numbers) (drop (slash + 1) numbers)
unfolding partition_of
partition_of-slash word kind numbers slash h k = rw h (rw k refl)
