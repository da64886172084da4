use Rattle.std.proofs.Common.{◌≡◌, drop}
use Rattle.run_filter.specs.PartitionWord.{read_on}
use Rattle.run_filter.proofs.partition_word.number_of.Given as goal

abbrev pub invariant-loop-byte : goal.invariant-loop-byte
invariant-loop-byte l = read_on l.number (drop l.byte-index l.digits) ≡ read_on 0 l.digits
