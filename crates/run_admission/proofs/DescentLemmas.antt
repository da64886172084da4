-- The way to the first number that is at most so much: up over the first numbers, and down from a node over it.
use Rattle.std.proofs.Common.{◌≡◌, ◌≢◌, ℕ, ◌+◌, ◌-◌, ◌*◌, ◌/◌, ◌%◌, ◌<◌, ◌≤◌, List, length, get_or, min, drop}
use Rattle.std.proofs.Common.{zero, suc, refl, ap, subst, arith, ◌⊎◌, inl, inr}
use Rattle.std.proofs.lemmas.Bool.{cases_lt}
use Rattle.std.proofs.Math.Nat.{min-le_left, min-le_right}
use Rattle.run_admission.specs.Least.{IsFirstWithin, IsTree}
use Rattle.run_admission.proofs.TreeLemmas.{number_at, many_is, min_is}

-- the first of the nodes that stand so many steps below a node
abbrev pub down : ℕ → ℕ → ℕ
down zero node = node
down (suc steps) node = down steps (2 * node)

-- what stands at these nodes is above a limit
abbrev pub AreAbove : List ℕ → ℕ → ℕ → ℕ → Type 0
AreAbove nodes limit from to = (j : ℕ) → from ≤ j → j < to → limit < get_or nodes j 0

-- a node that stands over numbers, one of which is within the limit
pub record IsTop (many : ℕ) (nodes : List ℕ) (limit node : ℕ) : Type 0 where
  pub steps : ℕ
  pub some : 0 < node
  pub inside : node < length nodes
  pub from : many ≤ down steps node
  pub to : down steps (node + 1) ≤ 2 * many
  pub within : get_or nodes node 0 ≤ limit

-- a node over the first number that is within the limit
pub record IsReached (many : ℕ) (nodes : List ℕ) (limit node : ℕ) : Type 0 where
  pub top : IsTop many nodes limit node
  pub passed : AreAbove nodes limit many (down top.steps node)

-- the way up: the numbers before those below two nodes are above the limit, and those after them up to an end, at which
-- a node begins over a number within it
pub record IsClimbed (many : ℕ) (nodes : List ℕ) (limit low high node : ℕ) : Type 0 where
  pub steps : ℕ
  pub some : low < high → 0 < low
  pub inside : high ≤ length nodes
  pub from : many ≤ down steps low
  pub to : down steps high ≤ 2 * many
  pub passed : AreAbove nodes limit many (down steps low)
  pub end : ℕ
  pub after : AreAbove nodes limit (down steps high) end
  pub found : ((node ≡ 0) × (end ≡ 2 * many)) ⊎ ((t : IsTop many nodes limit node) × (end ≡ down t.steps node))

down_least : (h i : ℕ) → i ≤ down h i
down_least zero i = omega arith
down_least (suc h) i = omega (arith, down_least h (2 * i))

down_order : (h i j : ℕ) → i ≤ j → down h i ≤ down h j
down_order zero i j le = le
down_order (suc h) i j le = down_order h (2 * i) (2 * j) (omega arith)

nothing_above : (nodes : List ℕ) (limit i : ℕ) → AreAbove nodes limit i i
nothing_above nodes limit i = λ j low high. absurd (omega arith)

join_above : (nodes : List ℕ) (limit from between to : ℕ) → AreAbove nodes limit from between
    → AreAbove nodes limit between to → AreAbove nodes limit from to
join_above nodes limit from between to a b =
    λ j low high. elim (cases_lt j between) [ inl less ↦ a j low less | inr late ↦ b j late high ]

-- where a node is above the limit, the numbers below it are
over_above : (h many : ℕ) (nodes : List ℕ) (limit i : ℕ) → IsTree many nodes → 0 < i → down h (i + 1) ≤ 2 * many
    → limit < get_or nodes i 0 → AreAbove nodes limit (down h i) (down h (i + 1))
over_above zero many nodes limit i tree some to above =
    λ j low high.
    let same : j ≡ i = omega arith in
    omega (arith, above, ap (λ j. get_or nodes j 0) same)
over_above (suc h) many nodes limit i tree some to above =
    join_above nodes limit (down h (2 * i)) (down h (2 * i + 1)) (down h (2 * (i + 1)))
    (over_above h many nodes limit (2 * i) tree (omega arith)
    (omega (arith, to, down_order h (2 * i + 1) (2 * (i + 1)) (omega arith)))
    (omega (arith, above, is, min-le_left (get_or nodes (2 * i) 0) (get_or nodes (2 * i + 1) 0))))
    (λ j low high. over_above h many nodes limit (2 * i + 1) tree (omega arith)
    (omega (arith, to, ends))
    (omega (arith, above, is, min-le_right (get_or nodes (2 * i) 0) (get_or nodes (2 * i + 1) 0)))
    j low (omega (arith, high, ends)))
  where
    ends : down h (2 * i + 1 + 1) ≡ down h (2 * (i + 1))
    ends = let same : 2 * i + 1 + 1 ≡ 2 * (i + 1) = omega arith in ap (down h) same

    is : get_or nodes i 0 ≡ min (get_or nodes (2 * i) 0) (get_or nodes (2 * i + 1) 0)
    is = tree.lesser i some (omega (arith, to, down_least h (2 * (i + 1))))

-- at first all is left
pub climb_first : (many : ℕ) (nodes : List ℕ) (limit : ℕ) → IsTree many nodes
    → IsClimbed many nodes limit many (2 * many) 0
climb_first many nodes limit tree = record {
  steps = 0;
  some = λ h. omega arith;
  inside = omega (arith, tree.two);
  from = omega arith;
  to = omega arith;
  passed = nothing_above nodes limit many;
  end = 2 * many;
  after = nothing_above nodes limit (2 * many);
  found = inl (refl, refl);
}

module _ (many : ℕ) (nodes : List ℕ) (limit low high node : ℕ) (tree : IsTree many nodes)
    (c : IsClimbed many nodes limit low high node) (more : low < high) where
  -- the first node has a number within the limit
  pub climb_found : get_or nodes low 0 ≤ limit → IsClimbed many nodes limit low low low
  climb_found within = record {
    steps = c.steps;
    some = λ h. c.some more;
    inside = omega (arith, c.inside);
    from = c.from;
    to = omega (arith, c.to, down_order c.steps low high (omega arith));
    passed = c.passed;
    end = down c.steps low;
    after = nothing_above nodes limit (down c.steps low);
    found = inr (
      record {
        steps = c.steps;
        some = c.some more;
        inside = omega (arith, c.inside);
        from = c.from;
        to = omega (arith, c.to, down_order c.steps (low + 1) high (omega arith));
        within = within;
      },
      refl,
    );
  }

  -- it has none
  pub climb_low : limit < get_or nodes low 0 → IsClimbed many nodes limit (low + 1) high node
  climb_low above = record {
    steps = c.steps;
    some = λ h. omega arith;
    inside = c.inside;
    from = omega (arith, c.from, down_order c.steps low (low + 1) (omega arith));
    to = c.to;
    passed = join_above nodes limit many (down c.steps low) (down c.steps (low + 1)) c.passed
        (over_above c.steps many nodes limit low tree (c.some more)
        (omega (arith, c.to, down_order c.steps (low + 1) high (omega arith))) above);
    end = c.end;
    after = c.after;
    found = c.found;
  }

  last : down c.steps (high - 1 + 1) ≡ down c.steps high
  last = let same : high - 1 + 1 ≡ high = omega arith in ap (down c.steps) same

  -- the last node has one
  pub climb_last : get_or nodes (high - 1) 0 ≤ limit → IsClimbed many nodes limit low (high - 1) (high - 1)
  climb_last within = record {
    steps = c.steps;
    some = λ h. c.some more;
    inside = omega (arith, c.inside);
    from = c.from;
    to = omega (arith, c.to, down_order c.steps (high - 1) high (omega arith));
    passed = c.passed;
    end = down c.steps (high - 1);
    after = nothing_above nodes limit (down c.steps (high - 1));
    found = inr (
      record {
        steps = c.steps;
        some = omega (arith, c.some more);
        inside = omega (arith, c.inside);
        from = omega (arith, c.from, down_order c.steps low (high - 1) (omega arith));
        to = omega (arith, c.to, last);
        within = within;
      },
      refl,
    );
  }

  -- it has none
  pub climb_high : limit < get_or nodes (high - 1) 0 → IsClimbed many nodes limit low (high - 1) node
  climb_high above = record {
    steps = c.steps;
    some = λ h. c.some more;
    inside = omega (arith, c.inside);
    from = c.from;
    to = omega (arith, c.to, down_order c.steps (high - 1) high (omega arith));
    passed = c.passed;
    end = c.end;
    after = join_above nodes limit (down c.steps (high - 1)) (down c.steps high) c.end
        (λ j a b. over_above c.steps many nodes limit (high - 1) tree (omega (arith, c.some more))
        (omega (arith, c.to, last)) above j a (omega (arith, b, last)))
        c.after;
    found = c.found;
  }

  -- one step up
  pub climb_half : low % 2 ≡ 0 → high % 2 ≡ 0 → IsClimbed many nodes limit (low / 2) (high / 2) node
  climb_half even also = record {
    steps = suc c.steps;
    some = λ h. omega (arith, c.some more);
    inside = omega (arith, c.inside);
    from = omega (arith, c.from, lows);
    to = omega (arith, c.to, highs);
    passed = λ j a b. c.passed j a (omega (arith, b, lows));
    end = c.end;
    after = λ j a b. c.after j (omega (arith, a, highs)) b;
    found = c.found;
  }
    where
      lows : down c.steps (2 * (low / 2)) ≡ down c.steps low
      lows = let same : 2 * (low / 2) ≡ low = omega arith in ap (down c.steps) same

      highs : down c.steps (2 * (high / 2)) ≡ down c.steps high
      highs = let same : 2 * (high / 2) ≡ high = omega arith in ap (down c.steps) same

module _ (many : ℕ) (nodes : List ℕ) (limit low high node : ℕ) (c : IsClimbed many nodes limit low high node)
    (over : high ≤ low) where
  all_passed : AreAbove nodes limit many c.end
  all_passed =
      join_above nodes limit many (down c.steps low) c.end c.passed
      (λ j a b. c.after j (omega (arith, a, down_order c.steps high low over)) b)

  -- no node is over a number within the limit
  pub climb_none : (values : List ℕ) → IsTree many nodes → drop many nodes ≡ values → node ≡ 0
      → IsFirstWithin values limit many
  climb_none values tree is none =
      elim c.found [
        | inl f ↦ record {
          inside = omega (arith, many_is many nodes values tree is);
          above = λ k i.
              omega (arith, number_at many nodes values is k, all_passed (many + k) (omega arith) (omega (arith, f.1)));
          found = λ i. absurd (omega (arith, i, many_is many nodes values tree is));
        }
        | inr f ↦ absurd (omega (arith, f.0.some))
      ]

  -- a node is
  pub climb_reached : node ≢ 0 → IsReached many nodes limit node
  climb_reached some =
      elim c.found [
        | inl f ↦ absurd (some f.0)
        | inr f ↦ record { top = f.0; passed = λ j a b. all_passed j a (omega (arith, b, f.1)) }
      ]

-- one step down
module _ (many : ℕ) (nodes : List ℕ) (limit node : ℕ) (tree : IsTree many nodes) where
  first_by : (steps : ℕ) → 0 < node → node < many → many ≤ down steps node → down steps (node + 1) ≤ 2 * many
      → AreAbove nodes limit many (down steps node) → get_or nodes (2 * node) 0 ≤ limit
      → IsReached many nodes limit (2 * node)
  first_by zero some early from to passed within = absurd (omega arith)
  first_by (suc h) some early from to passed within = record {
    top = record {
      steps = h;
      some = omega arith;
      inside = omega (arith, tree.two);
      from = from;
      to = omega (arith, to, down_order h (2 * node + 1) (2 * (node + 1)) (omega arith));
      within = within;
    };
    passed = passed;
  }

  second_by : (steps : ℕ) → 0 < node → node < many → many ≤ down steps node → down steps (node + 1) ≤ 2 * many
      → AreAbove nodes limit many (down steps node) → get_or nodes node 0 ≤ limit → limit < get_or nodes (2 * node) 0
      → IsReached many nodes limit (2 * node + 1)
  second_by zero some early from to passed within above = absurd (omega arith)
  second_by (suc h) some early from to passed within above = record {
    top = record {
      steps = h;
      some = omega arith;
      inside = omega (arith, tree.two);
      from = omega (arith, from, down_order h (2 * node) (2 * node + 1) (omega arith));
      to =
          let same : 2 * node + 1 + 1 ≡ 2 * (node + 1) = omega arith in
          omega (arith, to, ap (down h) same);
      within = elim (min_is (get_or nodes (2 * node) 0) (get_or nodes (2 * node + 1) 0)) [
        | inl e ↦ absurd (omega (arith, e, within, above, tree.lesser node some early))
        | inr e ↦ omega (arith, e, within, tree.lesser node some early)
      ];
    };
    passed = join_above nodes limit many (down h (2 * node)) (down h (2 * node + 1)) passed
        (over_above h many nodes limit (2 * node) tree (omega arith)
        (omega (arith, to, down_order h (2 * node + 1) (2 * (node + 1)) (omega arith))) above);
  }

  pub reach_first : IsReached many nodes limit node → node < many → get_or nodes (node * 2) 0 ≤ limit
      → IsReached many nodes limit (node * 2)
  reach_first r early within =
      let twice : 2 * node ≡ node * 2 = omega arith in
      subst (IsReached many nodes limit) twice
      (first_by r.top.steps r.top.some early r.top.from r.top.to r.passed
      (omega (arith, within, ap (λ j. get_or nodes j 0) twice)))

  pub reach_second : IsReached many nodes limit node → node < many → limit < get_or nodes (node * 2) 0
      → IsReached many nodes limit (node * 2 + 1)
  reach_second r early above =
      let twice : 2 * node ≡ node * 2 = omega arith in
      subst (λ j. IsReached many nodes limit (j + 1)) twice
      (second_by r.top.steps r.top.some early r.top.from r.top.to r.passed r.top.within
      (omega (arith, above, ap (λ j. get_or nodes j 0) twice)))

  -- the number is reached
  pub reach_last : (values : List ℕ) → drop many nodes ≡ values → IsReached many nodes limit node → many ≤ node
      → IsFirstWithin values limit (node - many)
  reach_last values is r late = record {
    inside = omega (arith, r.top.inside, tree.two, many_is many nodes values tree is);
    above = λ k i. omega (
      arith,
      number_at many nodes values is k,
      r.passed (many + k) (omega arith) (omega (arith, down_least r.top.steps node)),
    );
    found = λ i.
        let back : many + (node - many) ≡ node = omega arith in
        omega (arith, number_at many nodes values is (node - many), ap (λ j. get_or nodes j 0) back, r.top.within);
  }
