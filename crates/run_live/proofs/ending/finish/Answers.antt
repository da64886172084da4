use Rattle.std.proofs.Common.{◌∙◌, sym, ap, subst, ℕ, ◌≡◌, ◌<◌, length, List}
use Rattle.std.proofs.lemmas.Result.{IfOk-weaker, IfErr-weaker}
use Rattle.run_shared.specs.declared.shared.Receipt.{Receipt}
use Rattle.run_model.specs.declared.entry.Entry.{Entry}
use Rattle.run_model.specs.Words.{times}
use Rattle.run_shared.specs.Receipts.{concatenated, receipt_numbers}
use Rattle.run_live.specs.Left.{HasToldSome, HasTakenSome}
use Rattle.run_live.proofs.LeftLemmas.{told_unclosed, taken_unclosed}
use Rattle.run_live.proofs.ending.finish.Goals as goal

pub returns-in-Ok-clause-once : goal.returns-in-Ok-clause-once
returns-in-Ok-clause-once g c = λ none k below.
    let counted = sym c.requires.whole.amounts ∙ c.in-Ok.ensures.counted (c.requires.whole.parts ∙ c.requires.parts) in
    let same : c.left.result.live.receipts ≡ c.args.all.receipts = c.left.ensures.receipts ∙ c.in-Ok.ensures.back in
    let shorter : k < length c.in-Ok.closed.journal = subst (λ (es : List Entry). k < length es)
    c.left.ensures.journal below in
    rw same (c.in-Ok.ensures.receipts.once counted k shorter)

pub returns-in-Ok-clause-stands : goal.returns-in-Ok-clause-stands
returns-in-Ok-clause-stands g c = λ none.
    let same : c.left.result.live.receipts ≡ c.args.all.receipts = c.left.ensures.receipts ∙ c.in-Ok.ensures.back in
    rw (c.left.ensures.journal, same) c.in-Ok.ensures.receipts.stands

pub returns-in-Ok-clause-ticker : goal.returns-in-Ok-clause-ticker
returns-in-Ok-clause-ticker g c =
    let e = c.left.ensures in
    let same : c.left.result.live.receipts ≡ c.args.all.receipts = e.receipts ∙ c.in-Ok.ensures.back in
    rw (e.ticker, e.workers, same, e.refused) c.requires.ticker

pub returns-in-Err-clause-ticker : goal.returns-in-Err-clause-ticker
returns-in-Err-clause-ticker g c =
    IfOk-weaker c.refused.result _ _ (λ l e. rw (e.2, e.0, e.3 ∙ c.in-Err.ensures.back_too, e.1) c.requires.ticker)
    c.refused.ensures.threads

pub returns-in-Err-clause-given_up : goal.returns-in-Err-clause-given_up
returns-in-Err-clause-given_up g c =
    let told = told_unclosed g.R.Reporter.told c.in-Err.unclosed.report c.in-Err.unclosed.asks c.args.shared
    c.in-Err.unclosed.journal c.in-Err.unclosed.error.kind c.in-Err.ensures.left_too in
    IfErr-weaker c.refused.result _ _ (λ report same. subst (HasToldSome g.R.Reporter.told) (sym same) told)
    c.refused.ensures.given_up

pub returns-in-Err-clause-turns_given_up : goal.returns-in-Err-clause-turns_given_up
returns-in-Err-clause-turns_given_up g c =
    let u = c.in-Err.unclosed in
    let some = taken_unclosed g.R.Reporter.told g.R.Reporter.taken u.report u.asks c.args.shared u.journal u.error.kind
    c.in-Err.ensures.left_too c.in-Err.ensures.turns_too in
    IfErr-weaker c.refused.result _ _ (λ report same. subst (HasTakenSome g.R.Reporter.taken) (sym same) some)
    c.refused.ensures.given_up
