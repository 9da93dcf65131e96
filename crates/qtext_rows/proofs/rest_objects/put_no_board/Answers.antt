use Rattle.qtext_rows.proofs.rest_objects.put_no_board.Goals as goal

pub returns : goal.returns
returns g c = rw c.look_fault_word.ensures at c.put_parts.ensures
