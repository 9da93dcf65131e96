use Rattle.qstore_change.proofs.replacement.drop_replaced.Goals as goal

pub returns-else-is_directory-clause-more : goal.returns-else-is_directory-clause-more
returns-else-is_directory-clause-more c links file there more = c.drop_link.ensures.more links there more
