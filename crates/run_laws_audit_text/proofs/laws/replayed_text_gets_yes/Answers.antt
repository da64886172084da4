use Rattle.run_laws_audit_text.proofs.CallLemmas.{gets_yes}
use Rattle.run_laws_audit_text.proofs.laws.replayed_text_gets_yes.Goals as goal

pub returns : goal.returns
returns c = λ c replayed h word sound plain r w status gives still gets.
    gets_yes c replayed h word sound plain r w status gives still gets
