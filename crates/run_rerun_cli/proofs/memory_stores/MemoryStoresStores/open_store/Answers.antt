use Rattle.run_rerun_cli.proofs.CountLemmas.{opens_none, opens_one}
use Rattle.run_rerun_cli.proofs.memory_stores.MemoryStoresStores.open_store.Goals as goal

pub returns-in-Some-clause-done : goal.returns-in-Some-clause-done
returns-in-Some-clause-done c = λ acts h.
    let now = c.args.self.now in
    let counts = opens_one now.opened now.returned c.saturating_add-self-in-Some.result acts c.args.name.now h.opened_so
    h.returned_so c.saturating_add-self-in-Some.ensures in
    record { opened_so = counts.0; returned_so = counts.1 }

pub returns-in-None-clause-done : goal.returns-in-None-clause-done
returns-in-None-clause-done c = λ acts h.
    let now = c.args.self.now in
    let counts = opens_none now.opened now.returned acts c.args.name.now h.opened_so h.returned_so in
    record { opened_so = counts.0; returned_so = counts.1 }
