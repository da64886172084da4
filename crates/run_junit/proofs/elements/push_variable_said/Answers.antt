use Rattle.std.proofs.Common.{◌∙◌, ◌++◌, codes}
use Rattle.run_junit.specs.declared.tag.Key.TheVariants as keys
use Rattle.run_junit.proofs.TokenLemmas.{both_attributes_made}
use Rattle.run_junit.proofs.elements.push_variable_said.Goals as goal

pub returns : goal.returns
returns c = both_attributes_made keys.Name (keys.Value, c.args.value.now) c.as_str.result.now
    (codes "output:" ++ c.args.key.now) _ _ _ c.push_attribute-2.result
    (c.as_str.ensures.value ∙ c.in_ok-name.ensures.ok)
    c.in_ok-push_attribute.ensures c.push_attribute-2.ensures
