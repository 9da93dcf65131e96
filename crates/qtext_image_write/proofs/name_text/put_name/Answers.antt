use Rattle.qtext.proofs.Fronts.{refused_first}
use Rattle.qstore_tree.specs.Listed.{name_entry}
use Rattle.qtext_image_write.proofs.Parts.{name_parts, written_after}
use Rattle.qtext_image_write.proofs.name_text.put_name.Goals as goal

pub returns-in_err-put_word : goal.returns-in_err-put_word
returns-in_err-put_word g c = rw (name_parts (name_entry c.args.name.now))
    (refused_first _ _ _ _ _ c.from_residual.ensures.0
    (rw (
      c.as_bytes.ensures.value,
      c.byte.ensures.byte,
      c.field.ensures.text,
      c.text.ensures.text,
      c.clear.ensures,
    ) at c.in_err-put_word.ensures.passes))

pub returns : goal.returns
returns g c = rw (name_parts (name_entry c.args.name.now))
    (written_after _ _ _ _ _ _ _ _
    (rw (
      c.as_bytes.ensures.value,
      c.byte.ensures.byte,
      c.field.ensures.text,
      c.text.ensures.text,
      c.clear.ensures,
    ) at c.in_ok-put_word.ensures.passes)
    (rw c.field-2.ensures.text at c.put_end.ensures))
