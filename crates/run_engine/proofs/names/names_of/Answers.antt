use Rattle.std.proofs.Common.{◌<◌, ◌||◌, take, length, sym, ◌∙◌, ap, arith, nat_eq}
use Rattle.std.specs.List.{list_any}
use Rattle.std.specs.Cmp.Lexicographic.{texts_ties}
use Rattle.std.proofs.lemmas.List.Folds.{list_any_more}
use lib.Pointwise.{pointwise}
use Rattle.run_events.specs.declared.plan.Group.{Group}
use Rattle.run_engine.proofs.RepeatLemmas.{one_more}
use Rattle.run_engine.proofs.names.names_of.Goals as goal

pub loop-group-preserved : goal.loop-group-preserved
loop-group-preserved c = λ q.
    let groups = c.args.groups.now in
    let place = c.loop-group.group-index in
    let group = c.group-item.result in
    let inside : place < length groups = omega arith in
    c.in_ok-insert.ensures.updates.0 q
    ∙ one_more _ _ (list_any (λ (g : Group). pointwise nat_eq g.name q.now) (take place groups))
    (pointwise nat_eq group.name q.now) (sym (texts_ties group.name q.now)) (c.loop-group.invariant q)
    ∙ ap (λ (g : Group). list_any (λ (h : Group). pointwise nat_eq h.name q.now) (take place groups)
    || pointwise nat_eq g.name q.now) c.group-item.is
    ∙ sym (list_any_more (λ (g : Group). pointwise nat_eq g.name q.now) groups place group inside)
