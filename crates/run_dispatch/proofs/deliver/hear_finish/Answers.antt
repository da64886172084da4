use Rattle.run_dispatch.proofs.FinishLemmas.{finish_answers}
use Rattle.run_dispatch.proofs.deliver.hear_finish.Goals as goal

pub returns-clause-does : goal.returns-clause-does
returns-clause-does c =
    finish_answers c.args.now c.args.view.now c.heed.new.view c.args.finish
    c.with_finish-tally.result c.failure-cause.result
    c.heed.result c.in_ok-events.events c.with_finish-tally.ensures c.in_ok-events.ensures c.failure-cause.ensures
    c.heed.ensures.gives c.heed.ensures.after
