use Rattle.run_dispatch.proofs.FinishLemmas.{script_answers}
use Rattle.run_dispatch.proofs.scripts.hear_script_finish.Goals as goal

pub returns-clause-does : goal.returns-clause-does
returns-clause-does c =
    script_answers c.args.now c.args.view.now c.heed.new.view c.args.finish c.with_script_finish-tally.result
    c.script_failure-cause.result c.heed.result c.in_ok-events.events
    c.with_script_finish-tally.ensures c.in_ok-events.ensures
    c.script_failure-cause.ensures c.heed.ensures.gives c.heed.ensures.after
