use Rattle.qrun.proofs.opening.play_on.Given as goal

abbrev pub ghosts-play_opened : goal.ghosts-play_opened
ghosts-play_opened g a = record { id = a.opened }
