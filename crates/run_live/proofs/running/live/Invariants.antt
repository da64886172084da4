use Rattle.run_live.proofs.running.live.Given as goal

-- the ledger of this run
abbrev pub ghosts-live_in : goal.ghosts-live_in
ghosts-live_in g a = record { name = a.blank.name; parts = a.blank.parts }
