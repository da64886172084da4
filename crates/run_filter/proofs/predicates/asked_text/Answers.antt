use Rattle.run_filter.specs.Reads.{left_at}
use Rattle.run_filter.proofs.GrammarLemmas.{same_read}
use Rattle.run_filter.proofs.PredicateLemmas.{text_fails, matcher_fails, text-closes}
use Rattle.run_filter.proofs.predicates.asked_text.Goals as goal

pub returns-in-Err : goal.returns-in-Err
returns-in-Err c =
    text_fails c.in-Err.error c.args.subject c.args.sign _
    (left_at c.args.text.now c.args.next) c.args.text.now _ c.in-Err.ensures

pub returns-in-Err-matcher_of : goal.returns-in-Err-matcher_of
returns-in-Err-matcher_of c =
    matcher_fails c.in-Err-matcher_of.error c.args.subject c.args.sign c.args.start c.args.text.now c.args.next _ _ _
    c.requires c.in-Ok.ensures.0 c.in-Err-matcher_of.ensures

pub returns-in-Ok-matcher_of : goal.returns-in-Ok-matcher_of
returns-in-Ok-matcher_of c =
    same_read c.closed.result c.args.text.now _ _
    (text-closes c.args.subject c.args.sign c.args.start c.args.text.now c.args.next _ _ _ _ _
    c.requires c.in-Ok.ensures.0 c.in-Ok-matcher_of.ensures c.after_text-after.ensures.rest) c.closed.ensures
