use Rattle.run_tests_threads.proofs.threads.sixteen_threads_share_a_run.Given as goal

abbrev pub ghosts-shared_by_threads : goal.ghosts-shared_by_threads
ghosts-shared_by_threads g a = record { name = a.blank.name; parts = a.blank.parts }
