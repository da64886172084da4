use Rattle.run_drive.proofs.InMemoryLemmas.{fed_begun, fed_refused}
use Rattle.run_drive.proofs.memory_spawner.MemorySpawnerSpawner.start.Goals as goal

pub returns-in-Some-clause-asked : goal.returns-in-Some-clause-asked
returns-in-Some-clause-asked c =
    let s = c.args.self.now in
    let e = c.in_ok-begun.ensures in
    fed_begun s.begun.items c.next.new.self.items s.begun.at c.next.new.self.at s.said.items s.said.at
    c.in_ok-begun.field-0 c.args._ask.now c.in-Some.begun c.in-Some.is e.item e.some e.items

pub returns-in_ok-last_word-in-None-clause-asked : goal.returns-in_ok-last_word-in-None-clause-asked
returns-in_ok-last_word-in-None-clause-asked c =
    let s = c.args.self.now in
    let e = c.in_ok-begun.ensures in
    fed_refused s.begun.items c.next.new.self.items s.begun.at c.next.new.self.at s.said.items s.said.at
    c.in_ok-begun.field-0 c.args._ask.now c.in_ok-last_word-in-None.field-0 c.in-None.is e.item e.none e.items
    c.in_ok-last_word-in-None.ensures
