use Rattle.run_junit.proofs.FormLemmas.{no_text_is_form}
use Rattle.run_junit.proofs.laws.no_text_is_form.Goals as goal

pub returns : goal.returns
returns c = no_text_is_form
