use Rattle.std.proofs.Common.{sym, subst, ◌∙◌, ℕ, ◌≡◌, ◌<◌, length, List}
use Rattle.run_model.specs.declared.entry.Entry.{Entry}
use Rattle.run_live.specs.Left.{HasToldSome, HasTakenSome}
use Rattle.run_live.proofs.LeftLemmas.{told_closed, told_unclosed, taken_closed, taken_unclosed}
use Rattle.run_whole.proofs.closing.close_run.Goals as goal

pub returns-in-Ok-clause-once : goal.returns-in-Ok-clause-once
returns-in-Ok-clause-once g c = λ none k below.
    let counted = sym c.requires.amounts ∙ c.in-Ok.ensures.counted c.requires.parts in
    let same : c.ran_closed.result.receipts ≡ c.args.receipts = c.ran_closed.ensures.receipts ∙ c.in-Ok.ensures.back in
    let shorter : k < length c.in-Ok.closed.journal = subst (λ (es : List Entry). k < length es)
    c.ran_closed.ensures.journal below in
    rw same (c.in-Ok.ensures.receipts.once counted k shorter)

pub returns-in-Ok-clause-stands : goal.returns-in-Ok-clause-stands
returns-in-Ok-clause-stands g c = λ none.
    let same : c.ran_closed.result.receipts ≡ c.args.receipts = c.ran_closed.ensures.receipts ∙ c.in-Ok.ensures.back in
    rw (c.ran_closed.ensures.journal, same) c.in-Ok.ensures.receipts.stands

pub returns-in-Ok-clause-some_turns : goal.returns-in-Ok-clause-some_turns
returns-in-Ok-clause-some_turns g c =
    let closed = c.in-Ok.closed in
    subst (HasTakenSome g.R.Reporter.taken) (sym c.ran_closed.ensures.report)
    (taken_closed g.R.Reporter.told g.R.Reporter.taken closed.report closed.asks c.args.shared closed.journal
    closed.outcome c.in-Ok.ensures.left c.in-Ok.ensures.turns)
