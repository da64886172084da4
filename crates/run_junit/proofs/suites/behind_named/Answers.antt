use Rattle.std.proofs.Common.{◌≡◌, ◌∙◌, ◌-◌, ◌<◌, ℕ, arith, bytes_eq, drop, false, get_or, length, suc, subst, sym}
use Rattle.std.proofs.Common.{true}
use Rattle.std.specs.List.{list_any}
use Rattle.run_junit.specs.declared.suites.Kept.{Kept}
use Rattle.run_junit.proofs.SuiteLemmas.{any_from, not_so, same_item, so}
use Rattle.run_junit.proofs.suites.behind_named.Goals as goal

pub loop-at-preserved : goal.loop-at-preserved
loop-at-preserved c =
    let at = c.loop-at.at in
    let fits = λ (k : Kept). bytes_eq k.name c.args.name.now in
    let next : suc (at - 1) ≡ at = omega (arith, c.loop-at-test.true) in
    let below : at - 1 < length c.args.suites.now = omega (arith, c.loop-at-test.true, c.loop-at.invariant.within) in
    record {
      within = omega (arith, c.loop-at.invariant.within);
      none = any_from fits c.args.suites.now (at - 1) c.index-suites-at.result below
          (subst (λ (k : Kept). fits k ≡ false) c.index-suites-at.is
          (not_so (fits c.index-suites-at.result) (sym c.is_other.ensures ∙ c.if-is_other.true)))
          (subst (λ (n : ℕ). list_any fits (drop n c.args.suites.now) ≡ false) (sym next) c.loop-at.invariant.none);
    }

pub returns-after-loop-at : goal.returns-after-loop-at
returns-after-loop-at c = record {
  within = c.loop-at.invariant.within;
  none = c.loop-at.invariant.none;
  last = λ n other e. absurd (omega (arith, e, c.loop-at-test.false));
}

pub returns-else-is_other : goal.returns-else-is_other
returns-else-is_other c =
    let at = c.loop-at.at in
    let fits = λ (k : Kept). bytes_eq k.name c.args.name.now in
    let d = c.index-suites-at.result in
    record {
      within = c.loop-at.invariant.within;
      none = c.loop-at.invariant.none;
      last = λ n other e.
          let before : at - 1 ≡ n = omega (arith, e) in
          let below : n < length c.args.suites.now = omega (arith, e, c.loop-at.invariant.within) in
          subst (λ (k : Kept). fits k ≡ true) (same_item c.args.suites.now n d other below)
          (subst (λ (m : ℕ). fits (get_or c.args.suites.now m d) ≡ true) before
          (subst (λ (k : Kept). fits k ≡ true) c.index-suites-at.is
          (so (fits d) (sym c.is_other.ensures ∙ c.if-is_other.false))));
    }
