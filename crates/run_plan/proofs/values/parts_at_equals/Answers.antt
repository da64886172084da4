use Rattle.std.proofs.Common.{arith}
use Rattle.std.proofs.lemmas.Str.Pattern.{split_once_first}
use Rattle.run_plan.proofs.ValueLemmas.{split_is}
use Rattle.run_plan.proofs.values.parts_at_equals.Goals as goal

pub returns : goal.returns
returns c =
    split_is 61 c.args.text.now c.split_once.result
    (split_once_first 61 c.args.text.now c.split_once.result c.split_once.ensures.cases (omega arith))
