use Rattle.test_runs.proofs.refused.tell.Given as goal

abbrev pub ghosts-seated : goal.ghosts-seated
ghosts-seated g a = record { id = a.opened }
