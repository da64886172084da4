use Rattle.std.proofs.Common.{◌∙◌, ap, not, sym, codes}
use Rattle.serde_json.specs.Find.{get}
use Rattle.serde_json.specs.View.{view}
use Rattle.run_input.specs.PlanTest.{id_of}
use Rattle.run_rerun.proofs.MadeLemmas.{skips, stays}
use Rattle.run_rerun.proofs.OutstandingLemmas.{has-among}
use Rattle.run_rerun.proofs.made.is_to_skip.Goals as goal
use Rattle.run_rerun.proofs.made.is_to_skip.Goals.{then-is_none, else-is_none}

pub returns-after-is_none : goal.returns-after-is_none
returns-after-is_none c =
    let set = c.args.ids.now in
    let d = view c.args.test.now in
    let id = c.in-Some.id in
    elim c.if-is_none.branch [
      | then-is_none w ↦
          skips (λ v. view v.now) set.keys (id_of d) (get (codes "skip") d) id c.get.result c.is_none.result
          c.if-is_none.result (sym c.in_ok-id.ensures ∙ c.in-Some.is) c.get.ensures c.is_none.ensures w.if-is_none.true
          (w.result-is ∙ ap not (w.contains.ensures ∙ has-among set id))
      | else-is_none w ↦
          stays (λ v. view v.now) set.keys (id_of d) (get (codes "skip") d) id c.get.result c.is_none.result
          c.if-is_none.result (sym c.in_ok-id.ensures ∙ c.in-Some.is) c.get.ensures c.is_none.ensures
          w.if-is_none.false (w.result-is ∙ w.if-is_none.false)
    ]
