use Rattle.std.proofs.Common.{◌≡◌, List, ap, map, sym, ◌∙◌, arith, subst}
use Rattle.std.proofs.lemmas.List.{take_all}
use Rattle.run_admission.specs.Ordered.{IsOrder, Rank}
use Rattle.run_admission.proofs.OrderLemmas.{ranked_order}
use Rattle.run_admission.proofs.order.order_of.Goals as goal

pub returns : goal.returns
returns c =
    let ranks : List Rank = c.deref-rank-items.result.now in
    let all : c.loop-rank.order.items ≡ map (λ (r : Rank). r.1) c.in_ok-ranked.ranked.items =
    c.loop-rank.invariant
    ∙ ap (map (λ (r : Rank). r.1)) (take_all c.loop-rank.rank-index ranks (omega (arith, c.loop-rank-test.false)))
    ∙ ap (map (λ (r : Rank). r.1)) c.deref-rank-items.ensures.value in
    subst (IsOrder c.args.claims.now) (sym all)
    (ranked_order c.args.claims.now c.in_ok-ranked.ranked.items c.in_ok-ranked.ensures)
