use Rattle.run_text_laws.proofs.ObjectLemmas.{has_fields}
use Rattle.run_text_laws.proofs.laws.objects_have_fields.Goals as goal

pub returns : goal.returns
returns c = has_fields
