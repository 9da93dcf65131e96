use Rattle.std.proofs.Common.{sym, ◌∙◌}
use Rattle.qrules.specs.declared.kind.Kind.TheVariants.{User, Group, Project}
use Rattle.qtext_check.proofs.Declared.{declared}
use Rattle.qtext_check.proofs.refusing.is_declared.Goals as goal

pub returns-in-User : goal.returns-in-User
returns-in-User c =
    c.has_id.ensures ∙ rw (c.users.ensures.users, c.in-User.is) (sym (declared c.args.setup.now User c.args.id))

pub returns-in-Group : goal.returns-in-Group
returns-in-Group c =
    c.has_id-in-Group.ensures ∙ rw (c.groups.ensures.groups, c.in-Group.is) (sym (declared c.args.setup.now Group c.args.id))

pub returns-in-Project : goal.returns-in-Project
returns-in-Project c =
    c.has_id-in-Project.ensures ∙ rw (c.projects.ensures.projects, c.in-Project.is) (sym (declared c.args.setup.now Project c.args.id))
