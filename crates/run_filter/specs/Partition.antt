-- Which tests stand in a part of a partition.
use Rattle.std.specs.Prelude.{ℕ, ◌≡◌, ◌<◌, ◌≤◌, ◌+◌, ◌*◌, ◌%◌, Bool, IsTrue, ◌&&◌, List, [], ◌∷◌, ◌++◌}
use Rattle.std.specs.Prelude.{nat_eq, count_by, if◌then◌else◌}
use Rattle.run_filter.specs.declared.partition.PartitionKind.{PartitionKind}
use Rattle.run_filter.specs.declared.partition.PartitionKind.TheVariants.{Hash, Count, Slice}
use Rattle.run_filter.specs.declared.partition.Candidate.{Candidate}
use Rattle.run_filter.specs.Xxh64.{xxh64}

-- the hash of a name, as Rust hashes a `str`: of its bytes, and 255
abbrev pub hash_of : List ℕ → ℕ
hash_of name = xxh64 (name ++ 255 ∷ [])

-- tests of one key are counted together: ignored tests apart, and under `count` each binary's
abbrev pub turn_key : PartitionKind → Candidate → ℕ
turn_key Hash c = 0
turn_key Count c = c.binary * 2 + (if c.is_ignored then 1 else 0)
turn_key Slice c = if c.is_ignored then 1 else 0

-- how many of the tests before this one pass and are counted with it
abbrev pub turns : PartitionKind → List Candidate → ℕ → ℕ
turns kind before key = count_by (λ d. d.passes && nat_eq (turn_key kind d) key) before

-- the number that decides the part of a test: the hash of its name, or its turn
abbrev pub deciding_number : PartitionKind → List Candidate → Candidate → ℕ
deciding_number Hash before c = hash_of c.name.now
deciding_number Count before c = turns Count before (turn_key Count c)
deciding_number Slice before c = turns Slice before (turn_key Slice c)

-- whether a test stands in a part, after those before it: where all else lets it run, and its number falls on the part
abbrev pub is_in : PartitionKind → ℕ → ℕ → List Candidate → Candidate → Bool
is_in kind part parts before c = c.passes && nat_eq (deciding_number kind before c % parts + 1) part

-- whether each test stands in a part
abbrev pub parted : PartitionKind → ℕ → ℕ → List Candidate → List Candidate → List Bool
parted kind part parts before [] = []
parted kind part parts before (c ∷ cs) =
    is_in kind part parts before c ∷ parted kind part parts (before ++ c ∷ []) cs

-- each test that all else lets run stands in exactly one part, and no other test in any
pub record PartsShareTests : Type 0 where
  pub in_one : (kind : PartitionKind) (parts : ℕ) (before : List Candidate) (c : Candidate) → 0 < parts
      → IsTrue c.passes → (part : ℕ) × (1 ≤ part) × (part ≤ parts) × IsTrue (is_in kind part parts before c)
  pub in_no_other : (kind : PartitionKind) (part other parts : ℕ) (before : List Candidate) (c : Candidate)
      → IsTrue (is_in kind part parts before c) → IsTrue (is_in kind other parts before c) → part ≡ other
  pub if_it_runs : (kind : PartitionKind) (part parts : ℕ) (before : List Candidate) (c : Candidate)
      → IsTrue (is_in kind part parts before c) → IsTrue c.passes
