-- What was read of a line.
use Rattle.std.proofs.Common.{ℕ, ◌≡◌, ◌≤◌, List, [], Option, length, drop}
use Rattle.run_show.specs.FirstLines.{ahead, IsPartRead}
use Rattle.run_show.proofs.source_lines.SourceLines.read_to_end.Given as goal

abbrev pub invariant-reads : goal.invariant-reads
invariant-reads g l = record {
  begun : (before : Option (List ℕ))
      → IsPartRead before (ahead (g.S.Source.left l.fn.self.source) (drop l.fn.self.at l.fn.self.read.items))
      l.fn.line.items
      → IsPartRead before (ahead (g.S.Source.left l.self.source) (drop l.self.at l.self.read.items)) l.line.items;
  empty : drop l.self.at l.self.read.items ≡ [];
  long : l.reads ≤ length l.line.items;
  faults : g.S.Source.faults l.self.source ≡ g.S.Source.faults l.fn.self.source;
}
