use Rattle.std.proofs.Common.{◌∙◌}
use Rattle.run_store_io.proofs.ReadLemmas.{agrees_front}
use Rattle.run_store_io.proofs.stored.agrees.Goals as goal

pub returns : goal.returns
returns c = c.eq.ensures ∙ agrees_front c.args.bytes.now c.args.text.now c.min-count.result c.min-count.ensures
