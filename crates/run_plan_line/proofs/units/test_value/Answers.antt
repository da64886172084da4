use Rattle.run_plan_line.proofs.UnitLemmas.{test_again}
use Rattle.run_plan_line.proofs.units.test_value.Goals as goal

pub returns-clause-read : goal.returns-clause-read
returns-clause-read c =
    test_again c.args.test.now c.in_ok-put_trials.ensures.slow c.in_ok-put_trials.ensures.retries
    c.in_ok-put_ranks.ensures.weight c.in_ok-put_ties.ensures.fits
