use Rattle.std.proofs.Common.{◌≡◌, ◌++◌, take}
use Rattle.run_filter.proofs.bits.push_bytes.Given as goal

abbrev pub invariant-loop-byte : goal.invariant-loop-byte
invariant-loop-byte l = l.bytes ≡ l.initial.bytes ++ take l.byte-index l.more
