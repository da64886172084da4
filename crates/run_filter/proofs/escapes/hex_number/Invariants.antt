use Rattle.std.proofs.Common.{◌≡◌, drop}
use Rattle.run_filter.specs.Escapes.{hex_on}
use Rattle.run_filter.proofs.escapes.hex_number.Given as goal

abbrev pub invariant-loop-byte : goal.invariant-loop-byte
invariant-loop-byte l = hex_on l.number (drop l.byte-index l.digits) ≡ hex_on 0 l.digits
