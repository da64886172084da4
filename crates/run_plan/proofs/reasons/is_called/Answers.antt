use Rattle.std.proofs.Common.{◌∙◌, Bool, ap, sym}
use Rattle.std.proofs.lemmas.Str.Pattern.{contains_text}
use Rattle.run_filter.proofs.TextLemmas.{stands_in-same}
use Rattle.run_plan.specs.Reasons.{is_called}
use Rattle.run_plan.proofs.reasons.is_called.Goals as goal

pub returns-in-false : goal.returns-in-false
returns-in-false c =
    stands_in-same c.args.word.now c.args.name.now c.contains.result
    (contains_text c.contains.result c.args.word.now c.args.name.now c.contains.ensures.cases)
    ∙ ap (λ (b : Bool). is_called b c.args.name.now c.args.word.now) (sym c.in-false.is)
