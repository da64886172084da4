use Rattle.run_profile.proofs.cfg.+predicates.Given as goal

abbrev pub decreases-predicate : goal.decreases-predicate
decreases-predicate l = l.room

abbrev pub decreases-items : goal.decreases-items
decreases-items l = l.room
