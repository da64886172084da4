-- Partitions see of a test its parting_view, and nothing else.
use Rattle.std.proofs.Common.{◌≡◌, ◌∙◌, ℕ, ◌+◌, ◌%◌, Bool, ◌&&◌, List, [], ◌∷◌, ◌++◌, map, refl, ap}
use Rattle.std.proofs.Common.{cond, nat_eq, sym}
use Rattle.std.specs.List.{fold}
use Rattle.run_filter.specs.Partition.{is_in, parted, turn_key, turns}
use Rattle.run_filter.specs.declared.partition.Candidate.{Candidate}
use Rattle.run_filter.specs.declared.partition.PartitionKind.{PartitionKind}
use Rattle.run_filter.specs.declared.partition.PartitionKind.TheVariants.{Hash, Count, Slice}
use Rattle.run_plan.specs.Rows.{parting_view}

-- a test with this parting_view
abbrev plain : ℕ × List ℕ × Bool × Bool → Candidate
plain c = record { binary = c.0; name = record { ref_ptr = (0, 0); now = c.1 }; is_ignored = c.2; passes = c.3 }

sum_same : (g : Candidate → ℕ) (cs : List Candidate) (a : ℕ) → ((c : Candidate) → g c ≡ g (plain (parting_view c)))
    → fold (λ a x. a + g x) a cs ≡ fold (λ a x. a + g x) a (map plain (map parting_view cs))
sum_same g [] a e = refl
sum_same g (c ∷ cs) a e =
    ap (λ n. fold (λ a x. a + g x) (a + n) cs) (e c) ∙ sum_same g cs (a + g (plain (parting_view c))) e

abbrev one_of : PartitionKind → ℕ → Candidate → ℕ
one_of kind key d = cond (d.passes && nat_eq (turn_key kind d) key) 1 0

one_same : (kind : PartitionKind) (key : ℕ) (c : Candidate)
    → one_of kind key c ≡ one_of kind key (plain (parting_view c))
one_same Hash key c = refl
one_same Count key c = refl
one_same Slice key c = refl

turns_same : (kind : PartitionKind) (cs : List Candidate) (key : ℕ)
    → turns kind cs key ≡ turns kind (map plain (map parting_view cs)) key
turns_same kind cs key = sum_same (one_of kind key) cs 0 (one_same kind key)

is_in_same : (kind : PartitionKind) (part parts : ℕ) (cs : List Candidate) (c : Candidate)
    → is_in kind part parts cs c ≡ is_in kind part parts (map plain (map parting_view cs)) (plain (parting_view c))
is_in_same Hash part parts cs c = refl
is_in_same Count part parts cs c =
    ap (λ n. c.passes && nat_eq (n % parts + 1) part) (turns_same Count cs (turn_key Count c))
is_in_same Slice part parts cs c =
    ap (λ n. c.passes && nat_eq (n % parts + 1) part) (turns_same Slice cs (turn_key Slice c))

-- the parts of tests are those of their parting_view
abbrev parted_plain : PartitionKind → ℕ → ℕ → List (ℕ × List ℕ × Bool × Bool) → List (ℕ × List ℕ × Bool × Bool)
    → List Bool
parted_plain kind part parts before [] = []
parted_plain kind part parts before (c ∷ cs) =
    is_in kind part parts (map plain before) (plain c) ∷ parted_plain kind part parts (before ++ c ∷ []) cs

map_more : (cs : List Candidate) (c : Candidate)
    → map parting_view (cs ++ c ∷ []) ≡ map parting_view cs ++ parting_view c ∷ []
map_more [] c = refl
map_more (d ∷ cs) c = ap (λ more. parting_view d ∷ more) (map_more cs c)

parted_is : (kind : PartitionKind) (part parts : ℕ) (before cs : List Candidate)
    → parted kind part parts before cs ≡ parted_plain kind part parts (map parting_view before) (map parting_view cs)
parted_is kind part parts before [] = refl
parted_is kind part parts before (c ∷ cs) =
    let rest : parted kind part parts (before ++ c ∷ []) cs
    ≡ parted_plain kind part parts (map parting_view before ++ parting_view c ∷ []) (map parting_view cs)
    = parted_is kind part parts (before ++ c ∷ []) cs
    ∙ ap (λ b. parted_plain kind part parts b (map parting_view cs)) (map_more before c) in
    ap (λ b. b ∷ parted kind part parts (before ++ c ∷ []) cs) (is_in_same kind part parts before c)
    ∙ ap (λ more. is_in kind part parts (map plain (map parting_view before)) (plain (parting_view c)) ∷ more) rest

-- tests of the same parting_view stand in the same parts
pub parted_same : (kind : PartitionKind) (part parts : ℕ) (cs ds : List Candidate)
    → map parting_view cs ≡ map parting_view ds → parted kind part parts [] cs ≡ parted kind part parts [] ds
parted_same kind part parts cs ds same =
    parted_is kind part parts [] cs ∙ ap (parted_plain kind part parts []) same ∙ sym (parted_is kind part parts [] ds)
