use Rattle.run_text_laws.proofs.ReadLemmas.{all_read}
use Rattle.run_text_laws.proofs.laws.texts_are_read.Goals as goal

pub returns : goal.returns
returns c = all_read
