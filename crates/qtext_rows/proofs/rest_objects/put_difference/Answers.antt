use Rattle.qtext_rows.proofs.rest_objects.put_difference.Goals as goal

pub returns-in-Uses : goal.returns-in-Uses
returns-in-Uses g c = rw c.in-Uses.is c.put_use.ensures
