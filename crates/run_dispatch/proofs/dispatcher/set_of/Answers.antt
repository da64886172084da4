use Rattle.std.proofs.Common.{◌≡◌, ◌∙◌, ap, arith, get_or, take}
use Rattle.std.specs.BTreeSet.{insert_key}
use Rattle.run_model.specs.Reruns.{id_order}
use Rattle.run_dispatch.proofs.SetLemmas.{one_more_kept}
use Rattle.run_dispatch.proofs.dispatcher.set_of.Goals as goal

pub loop-id-preserved : goal.loop-id-preserved
loop-id-preserved c =
    let ids = c.args.ids.now in
    let i = c.loop-id.id-index in
    let same : c.in_ok-copy.field-0 ≡ get_or ids i c.id-item.result = c.in_ok-copy.ensures ∙ c.id-item.is in
    c.in_ok-insert.ensures.keys ∙ ap (λ keys. insert_key id_order keys c.in_ok-copy.field-0) c.loop-id.invariant
    ∙ ap (insert_key id_order (take i ids)) same ∙ one_more_kept ids i c.id-item.result (omega arith) c.requires
