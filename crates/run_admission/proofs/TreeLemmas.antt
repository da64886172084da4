-- What a tree of minima keeps while it is built and changed, and that its first node is the least of all.
use Rattle.std.proofs.Common.{◌≡◌, ◌≢◌, ℕ, ◌+◌, ◌-◌, ◌*◌, ◌/◌, ◌%◌, ◌<◌, ◌≤◌, ◌==◌, List, length, get_or, min, drop}
use Rattle.std.proofs.Common.{Bool, zero, suc}
use Rattle.std.proofs.Common.{true, false, refl, ap, sym, ◌∙◌, arith, ◌⊎◌, inl, inr}
use Rattle.std.proofs.lemmas.Bool.{cases_lt}
use Rattle.std.proofs.Math.Nat.{min-le_left, min-le_right}
use Rattle.std.proofs.lemmas.List.{get_or-drop, length-drop}
use Rattle.run_admission.specs.Least.{none, IsLeast, IsLesser, IsTree}

-- a tree that is being built: the nodes from a place on are done
pub record IsBuilt (place many : ℕ) (nodes numbers : List ℕ) : Type 0 where
  pub two : length nodes ≡ 2 * many
  pub within : place ≤ many
  pub lesser : (i : ℕ) → place ≤ i → 0 < i → i < many → IsLesser nodes i
  pub values : drop many nodes ≡ numbers

-- a tree in which one number was changed: the nodes are done but the one above the last that was set
pub record IsMended (node many : ℕ) (nodes numbers : List ℕ) : Type 0 where
  pub two : length nodes ≡ 2 * many
  pub some : 0 < node
  pub inside : node < 2 * many
  pub lesser : (i : ℕ) → i ≢ node / 2 → 0 < i → i < many → IsLesser nodes i
  pub values : drop many nodes ≡ numbers

-- the lesser of two is one of them
pub min_is : (a b : ℕ) → (min a b ≡ a) ⊎ (min a b ≡ b)
min_is a b = by_order (min a b == a) refl
  where
    by_order : (c : Bool) → (min a b == a) ≡ c → (min a b ≡ a) ⊎ (min a b ≡ b)
    by_order true e = inl (grind arith)
    by_order false e = inr (grind arith)

-- no node is less than the one above it
above_le : (many : ℕ) (nodes : List ℕ) (i : ℕ) → IsTree many nodes → 1 < i → i < 2 * many
    → get_or nodes (i / 2) 0 ≤ get_or nodes i 0
above_le many nodes i tree more inside = by_side (i % 2 == 0) refl
  where
    is : IsLesser nodes (i / 2)
    is = tree.lesser (i / 2) (omega arith) (omega arith)

    by_side : (b : Bool) → (i % 2 == 0) ≡ b → get_or nodes (i / 2) 0 ≤ get_or nodes i 0
    by_side true e =
        let rest : i % 2 ≡ 0 = grind arith in
        let twice : 2 * (i / 2) ≡ i = omega arith in
        omega (
          arith,
          is,
          min-le_left (get_or nodes (2 * (i / 2)) 0) (get_or nodes (2 * (i / 2) + 1) 0),
          ap (λ j. get_or nodes j 0) twice,
        )
    by_side false e =
        let rest : i % 2 ≢ 0 = grind arith in
        let twice : 2 * (i / 2) + 1 ≡ i = omega arith in
        omega (
          arith,
          is,
          min-le_right (get_or nodes (2 * (i / 2)) 0) (get_or nodes (2 * (i / 2) + 1) 0),
          ap (λ j. get_or nodes j 0) twice,
        )

-- no node is less than the first
root_le : (n many : ℕ) (nodes : List ℕ) (i : ℕ) → i ≤ n → IsTree many nodes → 0 < i → i < 2 * many
    → get_or nodes 1 0 ≤ get_or nodes i 0
root_le zero many nodes i few tree some inside = absurd (omega arith)
root_le (suc n) many nodes i few tree some inside =
    elim (cases_lt 1 i) [
      | inl more ↦ omega (
        arith,
        root_le n many nodes (i / 2) (omega arith) tree (omega arith) (omega arith),
        above_le many nodes i tree more inside,
      )
      | inr le ↦ let one : i ≡ 1 = omega arith in omega (arith, ap (λ j. get_or nodes j 0) one)
    ]

-- each node is one of the numbers
node_there : (n many : ℕ) (nodes : List ℕ) (i : ℕ) → 2 * many ≤ i + n → IsTree many nodes → 0 < i → i < 2 * many
    → (j : ℕ) × (many ≤ j) × (j < 2 * many) × (get_or nodes j 0 ≡ get_or nodes i 0)
node_there zero many nodes i few tree some inside = absurd (omega arith)
node_there (suc n) many nodes i few tree some inside =
    elim (cases_lt i many) [
      | inr late ↦ (i, late, inside, refl)
      | inl early ↦
          elim (min_is (get_or nodes (2 * i) 0) (get_or nodes (2 * i + 1) 0)) [
            | inl e ↦
                let s = node_there n many nodes (2 * i) (omega arith) tree (omega arith) (omega arith) in
                (s.0, s.1, s.2, s.3 ∙ sym (tree.lesser i some early ∙ e))
            | inr e ↦
                let s = node_there n many nodes (2 * i + 1) (omega arith) tree (omega arith) (omega arith) in
                (s.0, s.1, s.2, s.3 ∙ sym (tree.lesser i some early ∙ e))
          ]
    ]

-- the numbers stand at the places of the second half
pub number_at : (many : ℕ) (nodes values : List ℕ) → drop many nodes ≡ values
    → (k : ℕ) → get_or values k 0 ≡ get_or nodes (many + k) 0
number_at many nodes values is k = ap (λ l. get_or l k 0) (sym is) ∙ get_or-drop many nodes k 0

pub many_is : (many : ℕ) (nodes values : List ℕ) → IsTree many nodes → drop many nodes ≡ values → length values ≡ many
many_is many nodes values tree is = omega (arith, ap length is, length-drop many nodes, tree.two)

-- the first node is the least of all
pub root_is : (many : ℕ) (nodes values : List ℕ) → IsTree many nodes → drop many nodes ≡ values → 0 < many
    → IsLeast values 0 (length values) (get_or nodes 1 0)
root_is many nodes values tree is some = record {
  below = λ k low high. omega (
    arith,
    number_at many nodes values is k,
    root_le (many + k) many nodes (many + k) (omega arith) tree (omega arith)
        (omega (arith, high, many_is many nodes values tree is)),
  );
  there =
      let s = node_there (2 * many) many nodes 1 (omega arith) tree (omega arith) (omega arith) in
      let back : many + (s.0 - many) ≡ s.0 = omega (arith, s.1) in
      inr (
        s.0 - many,
        omega arith,
        omega (arith, s.1, s.2, many_is many nodes values tree is),
        number_at many nodes values is (s.0 - many) ∙ ap (λ j. get_or nodes j 0) back ∙ s.3,
      );
}

-- there is none of no numbers
pub root_none : (many : ℕ) (nodes values : List ℕ) → IsTree many nodes → drop many nodes ≡ values → many ≡ 0
    → IsLeast values 0 (length values) none
root_none many nodes values tree is empty = record {
  below = λ k low high. absurd (omega (arith, high, many_is many nodes values tree is));
  there = inl refl;
}
