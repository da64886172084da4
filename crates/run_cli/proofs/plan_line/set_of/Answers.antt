use Rattle.std.proofs.Common.{◌++◌, ◌∷◌, [], append_assoc, ap, sym, ◌∙◌}
use Rattle.std.specs.BTreeSet.{insert_key}
use Rattle.run_model.specs.Reruns.{id_order}
use Rattle.run_cli.proofs.plan_line.set_of.Goals as goal

pub loop-id-preserved : goal.loop-id-preserved
loop-id-preserved c =
    let id = c.in-Some.id in
    let done = c.loop-id.invariant.0 in (
      id ∷ done,
      sym (append_assoc c.pop.new.self.items (id ∷ []) done) ∙ ap (λ ids. ids ++ done) (sym c.in-Some.ensures.items)
          ∙ c.loop-id.invariant.1,
      c.in_ok-insert.ensures.keys ∙ ap (λ ids. insert_key id_order ids id) c.loop-id.invariant.2,
    )
