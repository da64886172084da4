use Rattle.std.proofs.Common.{sym, subst}
use Rattle.std.specs.BTreeMap.{Updates, get}
use Rattle.std.specs.Ordering.{nat_cmp}
use Rattle.std.proofs.lemmas.Result.{on_ok_weaker}
use Rattle.run_rerun.specs.Ledgers.{next_mark}
use Rattle.run_rerun.proofs.LedgerLemmas.{heard_finish, heard_other}
use Rattle.run_rerun.proofs.ledger.Ledger.hear.Goals as goal

pub returns-in-Some-clause-ok : goal.returns-in-Some-clause-ok
returns-in-Some-clause-ok c = λ events heard.
    let old = c.args.self.now in
    let finish = c.in-Some.finish.now in
    let unit = finish.test.unit in
    on_ok_weaker c.mark.result (λ updates. heard_finish old c.mark.new.self events c.args.event.now finish
    (sym c.in-Some.ensures)
    (subst (λ passes. Updates nat_cmp old.marks c.mark.new.self.marks unit
    (next_mark (get nat_cmp old.marks unit) passes))
    c.adds_pass-passes.ensures updates) heard) c.mark.ensures.ok

pub returns-in-None-clause-ok : goal.returns-in-None-clause-ok
returns-in-None-clause-ok c = λ events heard.
    heard_other c.args.self.now events c.args.event.now (sym c.in-None.ensures) heard
