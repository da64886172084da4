use Rattle.std.proofs.Common.{◌≡◌, ◌++◌, take}
use Rattle.run_report.specs.Indent.{indented_after, last_byte}
use Rattle.run_report.proofs.indent.push_indented.Given as goal

abbrev pub invariant-loop-byte : goal.invariant-loop-byte
invariant-loop-byte l = record {
  items : l.buffer.items ≡ l.initial.buffer.items ++ indented_after l.before (take l.byte-index l.bytes);
  last : l.last ≡ last_byte l.before (take l.byte-index l.bytes);
}
