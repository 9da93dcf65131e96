use Rattle.qtext_rows.proofs.record_objects.put_record.Goals as goal

pub returns : goal.returns
returns g c = rw (
  c.kind_word.ensures,
  c.as_bytes.ensures.value,
  c.as_str.ensures,
  c.is_over.ensures,
  c.is_over-2.ensures,
  c.kib_of.ensures.value,
  c.kib_of-2.ensures.value,
  c.grace.ensures,
  c.grace-2.ensures,
) at c.put_parts.ensures
