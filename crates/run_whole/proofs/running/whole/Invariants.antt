use Rattle.run_whole.proofs.running.whole.Given as goal

-- the ledger of this run
abbrev pub ghosts-whole_in : goal.ghosts-whole_in
ghosts-whole_in g a = record { name = a.blank.name; parts = a.blank.parts }
