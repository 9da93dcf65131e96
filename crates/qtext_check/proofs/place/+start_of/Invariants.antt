use Rattle.qtext_check.proofs.place.+start_of.Given as goal

abbrev pub decreases-start_of : goal.decreases-start_of
decreases-start_of l = l.number
