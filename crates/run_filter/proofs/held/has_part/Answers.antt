use Rattle.std.proofs.lemmas.Str.Pattern.{contains_text}
use Rattle.run_filter.proofs.TextLemmas.{stands_in-same}
use Rattle.run_filter.proofs.held.has_part.Goals as goal

pub returns : goal.returns
returns c = stands_in-same c.args.part.now c.args.text.now c.contains.result
    (contains_text c.contains.result c.args.part.now c.args.text.now c.contains.ensures.cases)
