use Rattle.std.proofs.Common.{subst}
use Rattle.hex.specs.Hex.{IsBytes}
use Rattle.run_turn_reader.proofs.PieceLemmas.{is_piece}
use Rattle.run_turn_reader.proofs.shapes.piece_before.Goals as goal

pub returns : goal.returns
returns c = is_piece c.in_ok-stream.unit c.in_ok-stream.stream c.args.output c.args.bytes.now
    (subst IsBytes c.as_slice.ensures c.are_bytes.ensures) c.in_ok-stream.ensures
