use Rattle.std.proofs.Common.{refl}
use Rattle.qblocks.specs.File.{after_truncate, after_write, written, resized, with_touched, with_index}
use Rattle.qplain_laws.proofs.examples.more_worked_examples.Goals as goal

pub returns-clause-shorter : goal.returns-clause-shorter
unfolding after_truncate after_write written resized with_touched with_index
returns-clause-shorter c = refl

pub returns-clause-shorter_by_bytes : goal.returns-clause-shorter_by_bytes
unfolding after_truncate after_write written resized with_touched with_index
returns-clause-shorter_by_bytes c = refl

pub returns-clause-grown_again : goal.returns-clause-grown_again
unfolding after_truncate after_write written resized with_touched with_index
returns-clause-grown_again c = refl

pub returns-clause-may_truncate : goal.returns-clause-may_truncate
unfolding after_truncate after_write written resized with_touched with_index
returns-clause-may_truncate c = refl

pub returns-clause-last_name : goal.returns-clause-last_name
unfolding after_truncate after_write written resized with_touched with_index
returns-clause-last_name c = refl

pub returns-clause-no_number_again : goal.returns-clause-no_number_again
unfolding after_truncate after_write written resized with_touched with_index
returns-clause-no_number_again c = refl

pub returns-clause-may_unlink : goal.returns-clause-may_unlink
unfolding after_truncate after_write written resized with_touched with_index
returns-clause-may_unlink c = refl

pub returns-clause-inodes_given_back : goal.returns-clause-inodes_given_back
unfolding after_truncate after_write written resized with_touched with_index
returns-clause-inodes_given_back c = refl

pub returns-clause-other_group : goal.returns-clause-other_group
unfolding after_truncate after_write written resized with_touched with_index
returns-clause-other_group c = refl

pub returns-clause-only_what_rises : goal.returns-clause-only_what_rises
unfolding after_truncate after_write written resized with_touched with_index
returns-clause-only_what_rises c = refl

pub returns-clause-may_give : goal.returns-clause-may_give
unfolding after_truncate after_write written resized with_touched with_index
returns-clause-may_give c = refl

pub returns-clause-ends_move : goal.returns-clause-ends_move
unfolding after_truncate after_write written resized with_touched with_index
returns-clause-ends_move c = refl
