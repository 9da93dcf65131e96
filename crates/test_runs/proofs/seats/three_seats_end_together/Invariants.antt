use Rattle.test_runs.proofs.seats.three_seats_end_together.Given as goal

abbrev pub ghosts-end_twice : goal.ghosts-end_twice
ghosts-end_twice g a = record { id = a.opened }
