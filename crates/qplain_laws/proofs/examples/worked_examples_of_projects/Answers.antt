use Rattle.std.proofs.Common.{refl}
use Rattle.qblocks.specs.File.{after_write, written, resized, with_touched, with_index}
use Rattle.qplain_laws.proofs.examples.worked_examples_of_projects.Goals as goal

pub returns-clause-projects_are_granted : goal.returns-clause-projects_are_granted
returns-clause-projects_are_granted c = (refl, refl)

pub returns-clause-projects_are_tested : goal.returns-clause-projects_are_tested
returns-clause-projects_are_tested c = (refl, refl, refl, refl, refl, refl)

pub returns-clause-project_of_a_directory : goal.returns-clause-project_of_a_directory
unfolding after_write written resized with_touched with_index
returns-clause-project_of_a_directory c = refl

pub returns-clause-projects_are_kept : goal.returns-clause-projects_are_kept
unfolding after_write written resized with_touched with_index
returns-clause-projects_are_kept c = refl

pub returns-clause-project_comes_last : goal.returns-clause-project_comes_last
unfolding after_write written resized with_touched with_index
returns-clause-project_comes_last c = refl

pub returns-clause-grace_of_a_project : goal.returns-clause-grace_of_a_project
unfolding after_write written resized with_touched with_index
returns-clause-grace_of_a_project c = refl

pub returns-clause-may_name_projects : goal.returns-clause-may_name_projects
returns-clause-may_name_projects c = refl

pub returns-clause-board_of_projects : goal.returns-clause-board_of_projects
unfolding after_write written resized with_touched with_index
returns-clause-board_of_projects c = (refl, refl, refl, refl)

pub returns-clause-no_projects : goal.returns-clause-no_projects
returns-clause-no_projects c = refl
