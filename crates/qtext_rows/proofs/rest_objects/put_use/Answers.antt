use Rattle.qtext_rows.proofs.rest_objects.put_use.Goals as goal

pub returns : goal.returns
returns g c = rw (c.kind_word.ensures, c.or_null.ensures, c.or_null-2.ensures) at c.put_parts.ensures
