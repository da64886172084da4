use Rattle.std.proofs.Common.{◌≡◌, ◌∙◌, ◌-◌, ◌++◌, ◌∷◌, [], ℕ, ap, arith, bytes_eq, suc, subst}
use Rattle.std.proofs.Math.ListN.{set}
use Rattle.run_junit.specs.declared.suites.Kept.{Kept}
use Rattle.run_junit.specs.Heard.{IsBehindLast, kept_empty, kept_with}
use Rattle.run_junit.proofs.SuiteLemmas.{put_no_place, put_place}
use Rattle.run_junit.proofs.suites.put_before.Goals as goal

pub returns-then-place-eq0 : goal.returns-then-place-eq0
returns-then-place-eq0 c =
    let fits = λ (k : Kept). bytes_eq k.name c.args.name in
    let grown = kept_with c.args.fault c.args.case in
    let none : c.args.place ≡ 0 = omega (arith, c.if-place-eq0.true) in
    c.in_ok-push.ensures.items
    ∙ ap (λ (s : Kept). c.args.suites.items ++ s ∷ []) c.in_ok-suite.ensures
    ∙ put_no_place fits grown (grown (kept_empty c.args.name)) c.args.suites.items
    (subst (λ (n : ℕ). IsBehindLast fits c.args.suites.items n) none c.requires)

pub returns : goal.returns
returns c =
    let fits = λ (k : Kept). bytes_eq k.name c.args.name in
    let grown = kept_with c.args.fault c.args.case in
    let next : c.args.place ≡ suc (c.args.place - 1) = omega (arith, c.if-place-eq0.false) in
    ap (λ (s : Kept). set c.args.suites.items (c.args.place - 1) s)
    (c.in_ok-add.ensures ∙ ap grown c.index_mut.ensures.value)
    ∙ put_place fits grown (grown (kept_empty c.args.name)) c.args.suites.items (c.args.place - 1)
    c.index_mut.result.now
    (subst (λ (n : ℕ). IsBehindLast fits c.args.suites.items n) next c.requires)
