use Rattle.qtext_outcome.proofs.outcome_text.put_totals.Goals as goal

pub returns : goal.returns
returns g c = rw (c.blocks-2.ensures, c.blocks-3.ensures.blocks, c.inodes.ensures, c.inodes-2.ensures.inodes) at c.put_counts.ensures
