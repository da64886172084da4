use Rattle.std.proofs.Common.{◌∙◌, sym}
use Rattle.std.proofs.lemmas.Result.{on_ok_weaker}
use Rattle.run_jobs.proofs.LedgerLemmas.{heard_nothing, heard_result}
use Rattle.run_jobs.proofs.ledger.Results.hear.Goals as goal

pub returns-in-Some-clause-ok : goal.returns-in-Some-clause-ok
returns-in-Some-clause-ok c = λ events heard.
    on_ok_weaker c.keep.result (λ updates. heard_result c.args.self.now c.keep.new.self events c.args.event.now
    c.in-Some.unit c.in-Some.passed (sym c.result_told.ensures ∙ c.in-Some.is) updates heard) c.keep.ensures.ok

pub returns-in-None-clause-ok : goal.returns-in-None-clause-ok
returns-in-None-clause-ok c = λ events heard.
    heard_nothing c.args.self.now events c.args.event.now (sym c.result_told.ensures ∙ c.in-None.is) heard
