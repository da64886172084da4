use Rattle.std.proofs.Common.{◌≡◌, ◌++◌, length}
use Rattle.hex.specs.Hex.{encode_lower}
use Rattle.run_turn_reader.proofs.hexes.bytes_of.Given as goal

abbrev pub invariant-parts : goal.invariant-parts
invariant-parts l = encode_lower l.bytes ++ l.rest ≡ l.digits

abbrev pub decreases-parts : goal.decreases-parts
decreases-parts l = length l.rest
