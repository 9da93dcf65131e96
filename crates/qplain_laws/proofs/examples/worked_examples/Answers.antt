use Rattle.std.proofs.Common.{refl}
use Rattle.qblocks.specs.File.{after_write, written, resized, with_touched, with_index}
use Rattle.qplain_laws.proofs.examples.worked_examples.Goals as goal

pub returns-clause-example_is_granted : goal.returns-clause-example_is_granted
unfolding after_write written resized with_touched with_index
returns-clause-example_is_granted c = refl

pub returns-clause-create_write_stat : goal.returns-clause-create_write_stat
unfolding after_write written resized with_touched with_index
returns-clause-create_write_stat c = refl

pub returns-clause-write_over_an_edge : goal.returns-clause-write_over_an_edge
unfolding after_write written resized with_touched with_index
returns-clause-write_over_an_edge c = refl

pub returns-clause-hard_limit : goal.returns-clause-hard_limit
unfolding after_write written resized with_touched with_index
returns-clause-hard_limit c = refl

pub returns-clause-space_before_quota : goal.returns-clause-space_before_quota
unfolding after_write written resized with_touched with_index
returns-clause-space_before_quota c = refl

pub returns-clause-grace_runs : goal.returns-clause-grace_runs
unfolding after_write written resized with_touched with_index
returns-clause-grace_runs c = refl

pub returns-clause-grace_has_ended : goal.returns-clause-grace_has_ended
unfolding after_write written resized with_touched with_index
returns-clause-grace_has_ended c = refl

pub returns-clause-superuser_passes : goal.returns-clause-superuser_passes
unfolding after_write written resized with_touched with_index
returns-clause-superuser_passes c = refl

pub returns-clause-limits_anew : goal.returns-clause-limits_anew
unfolding after_write written resized with_touched with_index
returns-clause-limits_anew c = refl

pub returns-clause-graces_move_none : goal.returns-clause-graces_move_none
unfolding after_write written resized with_touched with_index
returns-clause-graces_move_none c = refl

pub returns-clause-empty_write : goal.returns-clause-empty_write
unfolding after_write written resized with_touched with_index
returns-clause-empty_write c = refl

pub returns-clause-editions : goal.returns-clause-editions
unfolding after_write with_touched with_index
returns-clause-editions c = (refl, refl)

pub returns-clause-read_over_a_hole : goal.returns-clause-read_over_a_hole
unfolding after_write written resized with_touched with_index
returns-clause-read_over_a_hole c = refl

pub returns-clause-unknown_callers : goal.returns-clause-unknown_callers
unfolding after_write written resized with_touched with_index
returns-clause-unknown_callers c = refl

pub returns-clause-paths : goal.returns-clause-paths
unfolding after_write written resized with_touched with_index
returns-clause-paths c = refl

pub returns-clause-rights : goal.returns-clause-rights
unfolding after_write written resized with_touched with_index
returns-clause-rights c = refl

pub returns-clause-six_inodes : goal.returns-clause-six_inodes
unfolding after_write written resized with_touched with_index
returns-clause-six_inodes c = refl

pub returns-clause-whose_limit_first : goal.returns-clause-whose_limit_first
unfolding after_write written resized with_touched with_index
returns-clause-whose_limit_first c = refl

pub returns-clause-journal_is_legal : goal.returns-clause-journal_is_legal
unfolding after_write written resized with_touched with_index
returns-clause-journal_is_legal c = (refl, (refl, (refl, tt)))

pub returns-clause-tally_of_journal : goal.returns-clause-tally_of_journal
unfolding after_write written resized with_touched with_index
returns-clause-tally_of_journal c = refl

pub returns-clause-entries_of_worker : goal.returns-clause-entries_of_worker
unfolding after_write written resized with_touched with_index
returns-clause-entries_of_worker c = refl

pub returns-clause-board_of_journal : goal.returns-clause-board_of_journal
unfolding after_write written resized with_touched with_index
returns-clause-board_of_journal c = (refl, refl, refl, refl)
