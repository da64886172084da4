use Rattle.std.proofs.Common.{◌++◌, ap₂, subst}
use Rattle.run_cli.specs.Call.{writing_of, Writes}
use Rattle.run_cli.proofs.TextLemmas.{writes_either}
use Rattle.run_cli.proofs.receipts.write_refusal.Goals as goal

pub returns : goal.returns
returns g c =
    let v = writing_of g.K.Sink c.args.sink c.write_both.new.sink in
    let e = c.write_both.ensures in
    subst (Writes v) (ap₂ (λ asks last. asks ++ last) c.as_bytes.ensures c.as_bytes-2.ensures)
    (writes_either c.write_both.result v (c.as_bytes.result.now ++ c.as_bytes-2.result.now) e.ok e.front e.stays e.rose)
