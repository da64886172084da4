-- The plan of a generated run, and how its children exit, by counts.
use Rattle.std.proofs.Common.{◌≡◌, ◌≢◌, ℕ, zero, suc, pos, ◌+◌, ◌-◌, ◌/◌, ◌%◌, ◌==◌, ◌&&◌, ◌||◌, map, count_by}
use Rattle.std.proofs.Common.{Bool, true, false, cond, if◌then◌else◌, Some, None, is_none, is_some, codes, refl, ap}
use Rattle.std.proofs.Common.{sym, ◌∙◌, arith}
use Rattle.std.specs.List.{range_with_len}
use Rattle.std.proofs.lemmas.Bool.Decides.{nat_tests}
use Rattle.std.proofs.lemmas.List.FromFn.{length-map-range_with_len, sum_by-map-range_with_len_more}
use Rattle.run_events.specs.declared.result.ChildExit.TheVariants.{Code}
use Rattle.run_laws_events.specs.PlanLimits.{is_of_group}
use Rattle.run_generate.specs.Plan.{test_at}
use Rattle.run_generate.specs.Turns.{exit_at}
use Rattle.run_laws_generate.specs.Counts.{HasCounts, HasFailures, tests_that, failed_at, exits_badly, is_repeated}
use Rattle.run_laws_generate.specs.Counts.{is_skipped, is_ungrouped, weighs}

-- a count that grows with each number as it says is the total
counted : {X : Type 0} (is : X → Bool) (make : ℕ → X) (total : ℕ → ℕ) → total 0 ≡ 0
    → ((n : ℕ) → total (n + 1) ≡ total n + cond (is (make n)) 1 0) → (n : ℕ)
    → count_by is (map make (range_with_len 0 n)) ≡ total n
counted is make total none more zero = sym none
counted is make total none more (suc n) =
    let size : suc n ≡ n + 1 = omega arith in
    ap (λ n. count_by is (map make (range_with_len 0 n))) size
    ∙ sum_by-map-range_with_len_more (λ x. cond (is x) 1 0) make 0 n n (omega arith)
    ∙ ap (λ m. m + cond (is (make n)) 1 0) (counted is make total none more n)
    ∙ sym (ap total size ∙ more n)

-- the tests
skipped_more : (n : ℕ) → (n + 1) / 11 ≡ n / 11 + cond (is_skipped (test_at n)) 1 0
skipped_more n = by_test (n % 11 == 10) refl
  where
    by_test : (b : Bool) → (n % 11 == 10) ≡ b
        → (n + 1) / 11 ≡ n / 11 + cond (is_some (if b then Some (codes "gen") else None)) 1 0
    by_test true is = let rest : n % 11 ≡ 10 = grind (arith, nat_tests) in omega arith
    by_test false is = let rest : n % 11 ≢ 10 = grind (arith, nat_tests) in omega arith

grouped_more : (n : ℕ) → (n + 1 + 4) / 5 ≡ (n + 4) / 5 + cond (is_of_group (codes "g") (test_at n)) 1 0
grouped_more n = by_test (n % 5 == 0) refl
  where
    by_test : (b : Bool) → (n % 5 == 0) ≡ b
        → (n + 1 + 4) / 5
        ≡ (n + 4) / 5 + cond (is_of_group (codes "g")
        (record (test_at n) { group = if b then Some (codes "g") else None })) 1 0
    by_test true is = let rest : n % 5 ≡ 0 = grind (arith, nat_tests) in omega arith
    by_test false is = let rest : n % 5 ≢ 0 = grind (arith, nat_tests) in omega arith

ungrouped_more : (n : ℕ) → n + 1 - (n + 1 + 4) / 5 ≡ n - (n + 4) / 5 + cond (is_ungrouped (test_at n)) 1 0
ungrouped_more n = by_test (n % 5 == 0) refl
  where
    by_test : (b : Bool) → (n % 5 == 0) ≡ b
        → n + 1 - (n + 1 + 4) / 5
        ≡ n - (n + 4) / 5 + cond (is_none (if b then Some (codes "g") else None)) 1 0
    by_test true is = let rest : n % 5 ≡ 0 = grind (arith, nat_tests) in omega arith
    by_test false is = let rest : n % 5 ≢ 0 = grind (arith, nat_tests) in omega arith

retried_more : (n : ℕ) → (n + 1 + 3) / 7 ≡ (n + 3) / 7 + cond (is_repeated 1 (test_at n)) 1 0
retried_more n = by_test (n % 7 == 3) refl
  where
    by_test : (b : Bool) → (n % 7 == 3) ≡ b
        → (n + 1 + 3) / 7 ≡ (n + 3) / 7 + cond ((if b then 1 else 0) == 1) 1 0
    by_test true is = let rest : n % 7 ≡ 3 = grind (arith, nat_tests) in omega arith
    by_test false is = let rest : n % 7 ≢ 3 = grind (arith, nat_tests) in omega arith

untried_more : (n : ℕ) → n + 1 - (n + 1 + 3) / 7 ≡ n - (n + 3) / 7 + cond (is_repeated 0 (test_at n)) 1 0
untried_more n = by_test (n % 7 == 3) refl
  where
    by_test : (b : Bool) → (n % 7 == 3) ≡ b
        → n + 1 - (n + 1 + 3) / 7 ≡ n - (n + 3) / 7 + cond ((if b then 1 else 0) == 0) 1 0
    by_test true is = let rest : n % 7 ≡ 3 = grind (arith, nat_tests) in omega arith
    by_test false is = let rest : n % 7 ≢ 3 = grind (arith, nat_tests) in omega arith

light_more : (n : ℕ) → (n + 1 + 2) / 3 ≡ (n + 2) / 3 + cond (weighs 1 (test_at n)) 1 0
light_more n = by_test (1 + n % 3 == 1) refl
  where
    by_test : (b : Bool) → (1 + n % 3 == 1) ≡ b → (n + 1 + 2) / 3 ≡ (n + 2) / 3 + cond b 1 0
    by_test true is = let rest : 1 + n % 3 ≡ 1 = grind (arith, nat_tests) in omega arith
    by_test false is = let rest : 1 + n % 3 ≢ 1 = grind (arith, nat_tests) in omega arith

middle_more : (n : ℕ) → (n + 1 + 1) / 3 ≡ (n + 1) / 3 + cond (weighs 2 (test_at n)) 1 0
middle_more n = by_test (1 + n % 3 == 2) refl
  where
    by_test : (b : Bool) → (1 + n % 3 == 2) ≡ b → (n + 1 + 1) / 3 ≡ (n + 1) / 3 + cond b 1 0
    by_test true is = let rest : 1 + n % 3 ≡ 2 = grind (arith, nat_tests) in omega arith
    by_test false is = let rest : 1 + n % 3 ≢ 2 = grind (arith, nat_tests) in omega arith

heavy_more : (n : ℕ) → (n + 1) / 3 ≡ n / 3 + cond (weighs 3 (test_at n)) 1 0
heavy_more n = by_test (1 + n % 3 == 3) refl
  where
    by_test : (b : Bool) → (1 + n % 3 == 3) ≡ b → (n + 1) / 3 ≡ n / 3 + cond b 1 0
    by_test true is = let rest : 1 + n % 3 ≡ 3 = grind (arith, nat_tests) in omega arith
    by_test false is = let rest : 1 + n % 3 ≢ 3 = grind (arith, nat_tests) in omega arith

pub counts : (n : ℕ) → HasCounts n
counts n = record {
  tests = length-map-range_with_len test_at 0 n;
  skipped = counted is_skipped test_at (λ n. n / 11) refl skipped_more n;
  grouped = counted (is_of_group (codes "g")) test_at (λ n. (n + 4) / 5) refl grouped_more n;
  ungrouped =
      let rest : tests_that is_ungrouped n ≡ n - (n + 4) / 5 =
      counted is_ungrouped test_at (λ n. n - (n + 4) / 5) refl ungrouped_more n in
      omega arith;
  retried = counted (is_repeated 1) test_at (λ n. (n + 3) / 7) refl retried_more n;
  untried =
      let rest : tests_that (is_repeated 0) n ≡ n - (n + 3) / 7 =
      counted (is_repeated 0) test_at (λ n. n - (n + 3) / 7) refl untried_more n in
      omega arith;
  light = counted (weighs 1) test_at (λ n. (n + 2) / 3) refl light_more n;
  middle = counted (weighs 2) test_at (λ n. (n + 1) / 3) refl middle_more n;
  heavy = counted (weighs 3) test_at (λ n. n / 3) refl heavy_more n;
}

-- the attempts that fail
later_more : (attempt n : ℕ) → attempt ≢ 1 → (n + 1) / 13 ≡ n / 13 + cond (exits_badly (exit_at n attempt)) 1 0
later_more attempt n other = by_test (n % 13 == 12) (n % 7 == 3) (attempt == 1) refl (grind (arith, nat_tests))
  where
    by_test : (b c first : Bool) → (n % 13 == 12) ≡ b → first ≡ false
        → (n + 1) / 13
        ≡ n / 13 + cond (exits_badly (Code (if b || (c && first) then pos 1 else pos 0))) 1 0
    by_test true c first is off = let rest : n % 13 ≡ 12 = grind (arith, nat_tests) in omega arith
    by_test false true true is off = cc
    by_test false true false is off = let rest : n % 13 ≢ 12 = grind (arith, nat_tests) in omega arith
    by_test false false first is off = let rest : n % 13 ≢ 12 = grind (arith, nat_tests) in omega arith

first_more : (n : ℕ) → (n + 1) / 13 + (n + 1 + 3) / 7 - (n + 1 + 52) / 91
    ≡ n / 13 + (n + 3) / 7 - (n + 52) / 91 + cond (exits_badly (exit_at n 1)) 1 0
first_more n = by_test (n % 13 == 12) (n % 7 == 3) refl refl
  where
    by_test : (b c : Bool) → (n % 13 == 12) ≡ b → (n % 7 == 3) ≡ c
        → (n + 1) / 13 + (n + 1 + 3) / 7 - (n + 1 + 52) / 91
        ≡ n / 13 + (n + 3) / 7 - (n + 52) / 91
        + cond (exits_badly (Code (if b || (c && true) then pos 1 else pos 0))) 1 0
    by_test true true is tries =
        let rest : n % 13 ≡ 12 = grind (arith, nat_tests) in
        let again : n % 7 ≡ 3 = grind (arith, nat_tests) in
        omega arith
    by_test true false is tries =
        let rest : n % 13 ≡ 12 = grind (arith, nat_tests) in
        let again : n % 7 ≢ 3 = grind (arith, nat_tests) in
        omega arith
    by_test false true is tries =
        let rest : n % 13 ≢ 12 = grind (arith, nat_tests) in
        let again : n % 7 ≡ 3 = grind (arith, nat_tests) in
        omega arith
    by_test false false is tries =
        let rest : n % 13 ≢ 12 = grind (arith, nat_tests) in
        let again : n % 7 ≢ 3 = grind (arith, nat_tests) in
        omega arith

pub fails_so : (n : ℕ) → HasFailures n
fails_so n = record {
  first =
      let rest : failed_at 1 n ≡ n / 13 + (n + 3) / 7 - (n + 52) / 91 =
      counted exits_badly (λ k. exit_at k 1) (λ n. n / 13 + (n + 3) / 7 - (n + 52) / 91) refl first_more n in
      omega arith;
  later = λ attempt other.
      counted exits_badly (λ k. exit_at k attempt) (λ n. n / 13) refl (λ n. later_more attempt n other) n;
}
