use Rattle.run_keep.proofs.saying.say.Goals as goal

pub returns-then-ends_child-clause-minded : goal.returns-then-ends_child-clause-minded
returns-then-ends_child-clause-minded g c = c.in_ok-say_end.ensures.minded c.args.runs

pub returns-clause-minded : goal.returns-clause-minded
returns-clause-minded g c = c.in_ok-reads.ensures.minded c.args.runs
