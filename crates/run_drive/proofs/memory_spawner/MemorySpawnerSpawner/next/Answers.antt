use Rattle.run_drive.proofs.InMemoryLemmas.{fed_said, fed_failed}
use Rattle.run_drive.proofs.memory_spawner.MemorySpawnerSpawner.next.Goals as goal

pub returns-in-Some-clause-said : goal.returns-in-Some-clause-said
returns-in-Some-clause-said c =
    let s = c.args.self.now in
    let e = c.in_ok-said.ensures in
    fed_said s.begun.items s.begun.at s.said.items c.next.new.self.items s.said.at c.next.new.self.at
    c.in_ok-said.field-0 c.in-Some.said c.in-Some.is e.item e.some e.items

pub returns-in_ok-last_word-in-None-clause-said : goal.returns-in_ok-last_word-in-None-clause-said
returns-in_ok-last_word-in-None-clause-said c =
    let s = c.args.self.now in
    let e = c.in_ok-said.ensures in
    fed_failed s.begun.items s.begun.at s.said.items c.next.new.self.items s.said.at c.next.new.self.at
    c.in_ok-said.field-0 c.in_ok-last_word-in-None.field-0 c.in-None.is e.item e.none e.items
    c.in_ok-last_word-in-None.ensures
