use Rattle.qtext_metrics.proofs.service.put_quota.Goals as goal

pub returns : goal.returns
returns g c = rw (c.name.ensures, c.kind_word.ensures, c.over_word.ensures) at c.put_pieces.ensures
