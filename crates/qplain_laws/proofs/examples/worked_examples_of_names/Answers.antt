use Rattle.std.proofs.Common.{refl}
use Rattle.qblocks.specs.File.{after_write, written, resized, with_touched, with_index}
use Rattle.qplain_laws.proofs.examples.worked_examples_of_names.Goals as goal

pub returns-clause-new_directories : goal.returns-clause-new_directories
returns-clause-new_directories c = refl

pub returns-clause-may_make_directories : goal.returns-clause-may_make_directories
returns-clause-may_make_directories c = refl

pub returns-clause-directories_go : goal.returns-clause-directories_go
returns-clause-directories_go c = refl

pub returns-clause-may_remove_directories : goal.returns-clause-may_remove_directories
returns-clause-may_remove_directories c = refl

pub returns-clause-further_names : goal.returns-clause-further_names
unfolding after_write written resized with_touched with_index
returns-clause-further_names c = refl

pub returns-clause-may_link : goal.returns-clause-may_link
returns-clause-may_link c = refl

pub returns-clause-names_move : goal.returns-clause-names_move
unfolding after_write written resized with_touched with_index
returns-clause-names_move c = refl

pub returns-clause-directories_move : goal.returns-clause-directories_move
returns-clause-directories_move c = refl

pub returns-clause-may_rename : goal.returns-clause-may_rename
returns-clause-may_rename c = refl
