use Rattle.std.proofs.Common.{◌≡◌, drop}
use Rattle.run_rerun_cli.specs.InMemory.{bytes_named}
use Rattle.run_rerun_cli.proofs.memory_stores.store_named.Given as goal

abbrev pub invariant-loop-store : goal.invariant-loop-store
invariant-loop-store l = bytes_named l.stores l.name ≡ bytes_named (drop l.store-index l.stores) l.name
