use Rattle.std.proofs.Common.{refl}
use Rattle.qblocks.specs.File.{after_write, written, resized, with_touched, with_index}
use Rattle.qplain_laws.proofs.examples.worked_examples_at_edges.Goals as goal

pub returns-clause-inside_a_file : goal.returns-clause-inside_a_file
unfolding after_write written resized with_touched with_index
returns-clause-inside_a_file c = refl

pub returns-clause-both_limits_at_once : goal.returns-clause-both_limits_at_once
unfolding after_write written resized with_touched with_index
returns-clause-both_limits_at_once c = refl

pub returns-clause-two_graces : goal.returns-clause-two_graces
unfolding after_write written resized with_touched with_index
returns-clause-two_graces c = refl

pub returns-clause-largest_limits : goal.returns-clause-largest_limits
unfolding after_write written resized with_touched with_index
returns-clause-largest_limits c = refl

pub returns-clause-exactly_full : goal.returns-clause-exactly_full
unfolding after_write written resized with_touched with_index
returns-clause-exactly_full c = refl

pub returns-clause-longest_texts : goal.returns-clause-longest_texts
unfolding after_write written resized with_touched with_index
returns-clause-longest_texts c = refl
