use Rattle.std.proofs.Common.{ap, ◌∙◌}
use Rattle.hex.specs.Hex.{encode_lower}
use Rattle.run_turn_reader.proofs.HexLemmas.{more}
use Rattle.run_turn_reader.proofs.hexes.add_few.Goals as goal

-- src/hexes.rt:24:1
pub returns : goal.returns
returns c is = ap encode_lower c.in_ok-extend_from_slice.ensures.ok
    ∙ more c.args.bytes.now c.args.digits.now _ (c.is_hex_of.ensures c.if-not-is_hex_of.false)
