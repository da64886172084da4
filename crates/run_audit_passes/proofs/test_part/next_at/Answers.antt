use Rattle.std.proofs.Common.{length, refl}
use Rattle.std.proofs.lemmas.Option.{slice_get_read}
use Rattle.run_audit_passes.proofs.TestPartLemmas.{first_of}
use Rattle.run_audit_passes.proofs.test_part.next_at.Goals as goal

pub returns : goal.returns
returns g c =
    let xs = c.args.due.now.items in (
      c.index_mut.result.now,
      c.pop_front.new.self,
      slice_get_read xs (length xs) c.args.place c.index_mut.result.now refl c.requires c.index_mut.ensures.value,
      first_of c.pop_front.result c.index_mut.result.now.items c.pop_front.new.self.items c.pop_front.ensures.items
          c.pop_front.ensures.rest,
      refl,
    )
