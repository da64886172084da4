use Rattle.std.proofs.Common.{◌∙◌, IfSome, sym, ap₂, subst}
use Rattle.std.specs.Option.{option_eq}
use Rattle.run_audit_machines.specs.SameData.{same_data}
use Rattle.run_audit_passes.specs.Texts.{IsOwnText, known_value_in}
use Rattle.run_audit_passes.proofs.KnownLemmas.{same_texts}
use Rattle.run_audit_passes.proofs.known_value.KnownValue.is_same.Goals as goal

pub returns-in-Some-Some : goal.returns-in-Some-Some
returns-in-Some-Some c =
    let own = subst (λ o. IfSome o IsOwnText) c.in-Some-Some.is-0 c.self.invariant in
    let other = subst (λ o. IfSome o IsOwnText) c.in-Some-Some.is-1 c.other.invariant in
    c.eq.ensures ∙ same_texts c.in-Some-Some.own c.in-Some-Some.text own other
    ∙ ap₂ (λ a b. option_eq same_data (known_value_in a) (known_value_in b)) (sym c.in-Some-Some.is-0 ∙ c.self.view_is)
    (sym c.in-Some-Some.is-1 ∙ c.other.view_is)
