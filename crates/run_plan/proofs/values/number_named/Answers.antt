use Rattle.std.proofs.Common.{◌∙◌}
use Rattle.std.specs.Str.Parse.{without_leading_plus}
use Rattle.run_plan.proofs.ValueLemmas.{number_is}
use Rattle.run_plan.proofs.values.number_named.Goals as goal

pub returns : goal.returns
returns c = c.ok.ensures.value ∙ number_is (without_leading_plus c.args.text.now) c.parse.result c.parse.ensures.value.0
