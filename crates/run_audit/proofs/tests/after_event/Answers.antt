use Rattle.std.proofs.Common.{◌∙◌, ◌∷◌, ◌++◌, [], sym, ap}
use Rattle.std.proofs.lemmas.Result.{IfOk-weaker}
use Rattle.run_audit.specs.Told.{accounts_all}
use Rattle.run_audit.proofs.AccountLemmas.{none_known, part_closed, part_told}
use Rattle.run_audit.proofs.tests.after_event.Goals as goal

pub returns-then-closes-clause-told : goal.returns-then-closes-clause-told
returns-then-closes-clause-told c =
    let a = c.args in
    let needs = a.needs.now in
    IfOk-weaker c.none_due.result _ _ (λ next is rest.
    ap (λ parts. accounts_all (λ queue. queue.items) needs.stress needs.places parts next.items rest)
    (c.in_ok-push_back.ensures.items ∙ ap (λ part. a.parts.now.items ++ part ∷ []) c.in_ok-new.ensures)
    ∙ part_closed (λ queue. queue.items) needs.stress needs.places a.parts.now.items a.due.items next.items a.event.now
    rest (sym c.closes.ensures ∙ c.if-closes.true)
    (none_known (λ queue. queue.items) needs.places next.items (c.requires.places.many ∙ sym is.0) is.1))
    c.none_due.ensures

pub returns-then-closes-clause-many : goal.returns-then-closes-clause-many
returns-then-closes-clause-many c =
    IfOk-weaker c.none_due.result _ _ (λ next is. c.requires.places.many ∙ sym is.0) c.none_due.ensures

pub returns-clause-told : goal.returns-clause-told
returns-clause-told c = λ rest.
    let needs = c.args.needs.now in
    part_told (λ queue. queue.items) needs.stress needs.places c.args.parts.now.items c.args.due.items
    c.tell.new.due.items c.args.event.now rest (sym c.closes.ensures ∙ c.if-closes.false) c.in_ok-tell.ensures.told
