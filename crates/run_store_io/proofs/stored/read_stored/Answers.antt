use Rattle.std.proofs.Common.{rules, ◌≡◌, true, sym}
use Rattle.run_store.specs.Stores.{header, agrees}
use Rattle.run_store_io.proofs.ReadLemmas.{drop_front}
use Rattle.run_store_io.proofs.stored.read_stored.Goals as goal

pub returns : goal.returns
returns c =
    let headed : agrees c.args.bytes.now header ≡ true = search rules in
    c.read_headed.ensures c.args.bytes.now headed
    (sym (drop_front c.args.bytes.now c.min-begin.result c.min-begin.ensures))
