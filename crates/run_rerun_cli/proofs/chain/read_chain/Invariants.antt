use Rattle.std.proofs.Common.{◌≡◌, ℕ, List, map, string_bytes}
use Rattle.run_rerun_cli.specs.Reads.{ReadSoFar}
use Rattle.run_rerun_cli.specs.Shelves.{doing_of, shelf_of}
use Rattle.run_rerun_cli.proofs.chain.read_chain.Given as goal

abbrev pub invariant-loop-store : goal.invariant-loop-store
invariant-loop-store g l = record {
  read : ReadSoFar (map (λ w. string_bytes w) l.names) (shelf_of g.T.Stores l.fn.stores l.stores)
      (doing_of g.T.Stores l.fn.stores l.stores) l.runs l.store;
  same : (n : List ℕ) → g.T.Stores.bytes l.stores n ≡ g.T.Stores.bytes l.fn.stores n;
}
