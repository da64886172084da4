use Rattle.std.proofs.Common.{length, refl}
use Rattle.std.proofs.lemmas.Option.{slice_get_read}
use Rattle.run_audit.proofs.tests.add_at.Goals as goal

pub returns : goal.returns
returns c =
    let xs = c.args.due.now.items in (
      c.index_mut.result.now,
      c.push_back.new.self,
      slice_get_read xs (length xs) c.args.place c.index_mut.result.now refl c.requires c.index_mut.ensures.value,
      c.in_ok-push_back.ensures.items,
      refl,
    )
