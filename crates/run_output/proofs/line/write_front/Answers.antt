use Rattle.std.proofs.Common.{refl}
use Rattle.std.proofs.lemmas.Result.{on_err_weaker}
use Rattle.hex.specs.Hex.{encode_lower}
use Rattle.run_output.proofs.WrittenLemmas.{part_later}
use Rattle.run_output.proofs.line.write_front.Goals as goal

pub returns-clause-err : goal.returns-clause-err
returns-clause-err g c = on_err_weaker c.write_hex.result
    (part_later _ _ _ c.args.text.now (encode_lower c.args.output.now) _ refl c.in_ok-write_all.ensures.ok)
    c.write_hex.ensures.err
