use Rattle.std.proofs.Common.{◌≡◌, ◌∙◌, ◌-◌, ◌<◌, ℕ, arith, drop, get_or, length, suc, subst, sym, true, false}
use Rattle.std.specs.List.{list_all}
use Rattle.run_report.specs.declared.kept.Kept.{Kept}
use Rattle.run_report.specs.Heard.{id_behind}
use Rattle.run_report.proofs.KeptLemmas.{all_from, kept_place}
use Rattle.run_report.proofs.kept.place_of.Goals as goal

pub loop-at-preserved : goal.loop-at-preserved
loop-at-preserved c =
    let at = c.loop-at.at in
    let passes = λ (k : Kept). id_behind c.args.id.now k.id in
    let next : suc (at - 1) ≡ at = omega (arith, c.loop-at-test.true) in
    let below : at - 1 < length c.args.kept.now = omega (arith, c.loop-at-test.true, c.loop-at.invariant.within) in
    record {
      within = omega (arith, c.loop-at.invariant.within);
      behind = all_from passes c.args.kept.now (at - 1) c.index-kept-at.result below
          (sym c.id_behind.ensures ∙ c.if-id_behind.true)
          (subst (λ (n : ℕ). list_all passes (drop n c.args.kept.now) ≡ true) (sym next) c.loop-at.invariant.behind);
    }

pub returns-after-loop-at-clause-place : goal.returns-after-loop-at-clause-place
returns-after-loop-at-clause-place c test same =
    kept_place c.args.id.now c.args.kept.now c.loop-at.at test test same c.loop-at.invariant.within
    c.loop-at.invariant.behind (λ n e. absurd (omega (arith, e, c.loop-at-test.false)))

pub returns-else-id_behind-clause-place : goal.returns-else-id_behind-clause-place
returns-else-id_behind-clause-place c test same =
    let d = c.index-kept-at.result in
    kept_place c.args.id.now c.args.kept.now c.loop-at.at test d same c.loop-at.invariant.within
    c.loop-at.invariant.behind
    (λ n e. let before : c.loop-at.at - 1 ≡ n = omega (arith, e) in
    subst (λ (k : ℕ). id_behind c.args.id.now (get_or c.args.kept.now k d).id ≡ false) before
    (sym c.id_behind.ensures ∙ c.if-id_behind.false))
