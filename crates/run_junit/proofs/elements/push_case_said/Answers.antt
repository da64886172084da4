use Rattle.run_junit.specs.declared.tag.Key.TheVariants as keys
use Rattle.run_junit.specs.Texts.{times_said}
use Rattle.run_junit.proofs.TokenLemmas.{two_attributes_made}
use Rattle.run_junit.proofs.elements.push_case_said.Goals as goal

pub returns : goal.returns
returns c = two_attributes_made (keys.Name, c.args.name.now) (keys.ClassName, c.args.class.now)
    (times_said c.args.started c.args.at c.args.time) _ _ _ _ c.push_times.result
    c.in_ok-push_attribute.ensures c.in_ok-push_attribute-2.ensures c.push_times.ensures
