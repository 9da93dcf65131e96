use Rattle.test_runs.proofs.full.a_full_journal_stays_as_it_is.Given as goal

abbrev pub ghosts-seated : goal.ghosts-seated
ghosts-seated g a = record { id = a.opened }
