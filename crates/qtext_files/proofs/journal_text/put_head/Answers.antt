use Rattle.qtext_files.proofs.journal_text.put_head.Goals as goal

pub returns : goal.returns
returns g c =
    rw (
      c.put_from.ensures.text,
      c.number.ensures.text,
      c.text.ensures.text,
      c.clear.ensures,
      c.head_start.ensures.begins c.args.from c.args.workers,
    ) at c.put_end.ensures
