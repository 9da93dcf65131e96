use Rattle.example_store.proofs.main.Given as goal

abbrev pub ghosts-show_seats : goal.ghosts-show_seats
ghosts-show_seats g a = record { id = a.opened }
