-- Counts of what was done with stores in memory.
use Rattle.std.proofs.Common.{◌≡◌, ◌∙◌, ℕ, ◌+◌, ◌-◌, ◌^◌, List, [], ◌∷◌, ◌++◌, min, ap, arith}
use Rattle.run_rerun_cli.specs.InMemory.{openings, returns_in}
use Rattle.run_rerun_cli.specs.Visits.{StoreAct, opened, unopened, given_back}

-- counts of acts one after another
pub openings-append : (xs ys : List StoreAct) → openings (xs ++ ys) ≡ openings ys + openings xs
openings-append [] ys = omega arith
openings-append (opened name ∷ xs) ys = omega (arith, openings-append xs ys)
openings-append (unopened name ∷ xs) ys = openings-append xs ys
openings-append (given_back ∷ xs) ys = openings-append xs ys

pub returns_in-append : (xs ys : List StoreAct) → returns_in (xs ++ ys) ≡ returns_in ys + returns_in xs
returns_in-append [] ys = omega arith
returns_in-append (opened name ∷ xs) ys = returns_in-append xs ys
returns_in-append (unopened name ∷ xs) ys = returns_in-append xs ys
returns_in-append (given_back ∷ xs) ys = omega (arith, returns_in-append xs ys)

-- a count that stays at its greatest goes on from where it is
next_count : (n m most : ℕ) → m ≡ n + 1 → min (min n most + 1) most ≡ min m most
next_count n m most is = omega arith

-- a store was opened
pub opens_one : (o r after : ℕ) (acts : List StoreAct) (name : List ℕ) → o ≡ min (openings acts) (2 ^ 64 - 1)
    → r ≡ min (returns_in acts) (2 ^ 64 - 1) → after ≡ min (o + 1) (2 ^ 64 - 1)
    → (after ≡ min (openings (acts ++ opened name ∷ [])) (2 ^ 64 - 1))
    × (r ≡ min (returns_in (acts ++ opened name ∷ [])) (2 ^ 64 - 1))
opens_one o r after acts name is was next =
    let more : openings (acts ++ opened name ∷ []) ≡ openings acts + 1 =
    omega (arith, openings-append acts (opened name ∷ [])) in
    let still : returns_in acts ≡ returns_in (acts ++ opened name ∷ []) =
    omega (arith, returns_in-append acts (opened name ∷ [])) in (
      next ∙ ap (λ n. min (n + 1) (2 ^ 64 - 1)) is
          ∙ next_count (openings acts) (openings (acts ++ opened name ∷ [])) (2 ^ 64 - 1) more,
      was ∙ ap (λ n. min n (2 ^ 64 - 1)) still,
    )

-- one wasn't
pub opens_none : (o r : ℕ) (acts : List StoreAct) (name : List ℕ) → o ≡ min (openings acts) (2 ^ 64 - 1)
    → r ≡ min (returns_in acts) (2 ^ 64 - 1) → (o ≡ min (openings (acts ++ unopened name ∷ [])) (2 ^ 64 - 1))
    × (r ≡ min (returns_in (acts ++ unopened name ∷ [])) (2 ^ 64 - 1))
opens_none o r acts name is was =
    let same : openings acts ≡ openings (acts ++ unopened name ∷ []) =
    omega (arith, openings-append acts (unopened name ∷ [])) in
    let still : returns_in acts ≡ returns_in (acts ++ unopened name ∷ []) =
    omega (arith, returns_in-append acts (unopened name ∷ [])) in
    (is ∙ ap (λ n. min n (2 ^ 64 - 1)) same, was ∙ ap (λ n. min n (2 ^ 64 - 1)) still)

-- one was given back
pub returns_one : (o r after : ℕ) (acts : List StoreAct) → o ≡ min (openings acts) (2 ^ 64 - 1)
    → r ≡ min (returns_in acts) (2 ^ 64 - 1) → after ≡ min (r + 1) (2 ^ 64 - 1)
    → (o ≡ min (openings (acts ++ given_back ∷ [])) (2 ^ 64 - 1))
    × (after ≡ min (returns_in (acts ++ given_back ∷ [])) (2 ^ 64 - 1))
returns_one o r after acts is was next =
    let more : returns_in (acts ++ given_back ∷ []) ≡ returns_in acts + 1 =
    omega (arith, returns_in-append acts (given_back ∷ [])) in
    let still : openings acts ≡ openings (acts ++ given_back ∷ []) =
    omega (arith, openings-append acts (given_back ∷ [])) in (
      is ∙ ap (λ n. min n (2 ^ 64 - 1)) still,
      next ∙ ap (λ n. min (n + 1) (2 ^ 64 - 1)) was
          ∙ next_count (returns_in acts) (returns_in (acts ++ given_back ∷ [])) (2 ^ 64 - 1) more,
    )
