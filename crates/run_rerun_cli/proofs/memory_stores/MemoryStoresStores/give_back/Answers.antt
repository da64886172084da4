use Rattle.run_rerun_cli.proofs.CountLemmas.{returns_one}
use Rattle.run_rerun_cli.proofs.memory_stores.MemoryStoresStores.give_back.Goals as goal

pub returns-then-has_failed-clause-done : goal.returns-then-has_failed-clause-done
returns-then-has_failed-clause-done c = λ acts h.
    let now = c.args.self.now in
    let counts = returns_one now.opened now.returned c.saturating_add-self.result acts h.opened_so h.returned_so
    c.saturating_add-self.ensures in
    record { opened_so = counts.0; returned_so = counts.1 }

pub returns-clause-done : goal.returns-clause-done
returns-clause-done c = λ acts h.
    let now = c.args.self.now in
    let counts = returns_one now.opened now.returned c.saturating_add-self.result acts h.opened_so h.returned_so
    c.saturating_add-self.ensures in
    record { opened_so = counts.0; returned_so = counts.1 }
