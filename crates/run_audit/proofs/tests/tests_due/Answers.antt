use Rattle.std.proofs.Common.{◌∙◌, ◌∷◌, ◌++◌, ◌+◌, add-one, drop, drop-cons, get_or, map, sym, ap, ap₂}
use Rattle.run_audit_machines.specs.Accounts.{accounts_seen}
use Rattle.run_audit.specs.Told.{accounts_all, accounts_by_part, test_known}
use Rattle.run_audit.proofs.AccountLemmas.{none_known}
use Rattle.run_audit.proofs.tests.tests_due.Goals as goal

pub loop-event-init : goal.loop-event-init
loop-event-init c =
    let needs = c.args.needs.now in
    record {
      told = ap₂ (λ parts due. map (accounts_seen test_known) parts
          ++ accounts_by_part needs.stress needs.places due c.args.told.now) c.new-parts.ensures.items
          (none_known (λ queue. queue.items) needs.places c.in_ok-due.due.items
          (c.requires.many ∙ sym c.in_ok-due.ensures.0) c.in_ok-due.ensures.1);
      many = c.requires.many ∙ sym c.in_ok-due.ensures.0;
    }

pub loop-event-preserved : goal.loop-event-preserved
loop-event-preserved c =
    let told = c.args.told.now in
    let needs = c.args.needs.now in
    let parts = c.loop-event.parts.items in
    let due = c.loop-event.due.items in
    let i = c.loop-event.event-index in
    record {
      told = c.in_ok-due-2.ensures.told (drop (i + 1) told)
          ∙ ap (λ e. accounts_all (λ queue. queue.items) needs.stress needs.places parts due (e ∷ drop (i + 1) told))
          c.event-item.is
          ∙ ap (λ n. accounts_all (λ queue. queue.items) needs.stress needs.places parts due
          (get_or told i c.event-item.result ∷ drop n told)) (add-one i)
          ∙ ap (accounts_all (λ queue. queue.items) needs.stress needs.places parts due)
          (sym (drop-cons told i c.event-item.result c.loop-event-test.true))
          ∙ c.loop-event.invariant.told;
      many = c.in_ok-due-2.ensures.many;
    }
