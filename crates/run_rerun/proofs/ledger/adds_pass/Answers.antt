use Rattle.std.proofs.Common.{◌≡◌, ◌∙◌, ap, length, map, nat_lt}
use Rattle.run_events.specs.Stats.{last_or, nothing, plus, test_adds}
use Rattle.run_events.specs.declared.result.ExecutionResult.TheVariants.{ExecFail}
use Rattle.run_model.specs.Words.{last_slow}
use Rattle.run_rerun.proofs.LedgerLemmas.{adds_alone}
use Rattle.run_rerun.proofs.ledger.adds_pass.Goals as goal

pub returns : goal.returns
returns c =
    let slow = c.last_of-slow.result.0 in
    let last = c.last_of-slow.result.1 in
    let same : c.as_slice-statuses.result.now ≡ c.args.finish.now.statuses = c.as_slice-statuses.ensures in
    adds_alone c.args.finish.now slow last c.count_test.new.self
    (c.last_of-slow.ensures.slow ∙ ap last_slow same)
    (c.last_of-slow.ensures.last ∙ ap (λ ss. last_or ExecFail (map (λ s. s.result) ss)) same)
    (c.count_test.ensures
    ∙ ap (λ stats. plus stats (test_adds c.args.finish.now.flaky (nat_lt 1 (length c.as_slice-statuses.result.now)) slow
    last)) c.nothing-stats.ensures
    ∙ ap (λ ss. plus nothing (test_adds c.args.finish.now.flaky (nat_lt 1 (length ss)) slow last)) same)
