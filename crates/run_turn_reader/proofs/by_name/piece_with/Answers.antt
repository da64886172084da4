use Rattle.std.proofs.Common.{subst}
use Rattle.hex.specs.Hex.{IsBytes}
use Rattle.run_turn_reader.proofs.NameLemmas.{is_wrote}
use Rattle.run_turn_reader.proofs.by_name.piece_with.Goals as goal

pub returns : goal.returns
returns c = is_wrote c.args.unit c.args.stream c.args.output (subst IsBytes c.as_slice.ensures c.are_bytes.ensures)
