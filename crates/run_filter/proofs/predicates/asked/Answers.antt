use Rattle.std.proofs.Common.{sym, ap, ◌∙◌}
use Rattle.std.proofs.lemmas.List.{take_rest}
use Rattle.run_filter.specs.Grammar.{text_start}
use Rattle.run_filter.proofs.GrammarLemmas.{same_read}
use Rattle.run_filter.proofs.PredicateLemmas.{asked-text}
use Rattle.run_filter.proofs.predicates.asked.Goals as goal

pub returns : goal.returns
returns c =
    let text = c.args.text.now in
    let sign = c.sign_of-sign.result in
    let h = rw (take_rest text c.args.next) at c.sign_of-sign.ensures in
    same_read c.asked_text.result text _ _
    (asked-text c.args.subject c.args.usual sign.0 sign.1 c.text_start-start.result text c.args.next
    (sym h) (c.text_start-start.ensures.rest ∙ ap (text_start sign.0) c.past-begin.ensures.rest))
    c.asked_text.ensures
