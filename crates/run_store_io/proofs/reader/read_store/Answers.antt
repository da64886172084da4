use Rattle.std.proofs.Common.{List, ℕ, subst}
use Rattle.run_store_io.specs.Reads.{IsReadAs}
use Rattle.run_store_io.proofs.ReadLemmas.{gives_store, not_failed}
use Rattle.run_store_io.proofs.reader.read_store.Goals as goal

pub returns-in-Ok-clause-says : goal.returns-in-Ok-clause-says
returns-in-Ok-clause-says g c =
    let r = c.read_stored.result in
    let h = subst (λ (bytes : List ℕ). IsReadAs bytes r) c.as_slice.ensures c.read_stored.ensures in
    gives_store _ _ c.in-Ok.bytes r c.in-Ok.ensures.given c.in-Ok.ensures.end c.in-Ok.ensures.within h

pub returns-in-Ok-clause-fault : goal.returns-in-Ok-clause-fault
returns-in-Ok-clause-fault g c =
    not_failed c.as_slice.result.now c.read_stored.result _ _ c.read_stored.ensures c.in-Ok.ensures.fault
