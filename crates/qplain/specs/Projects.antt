-- Which entries name a project: those of edition 1 do not.
use Rattle.std.specs.Prelude.{Bool, true, false, not, ◌||◌, is_some}
use Rattle.qrules.specs.declared.kind.Kind.TheVariants.{Project}
use Rattle.qrules.specs.Kinds.{is_same_kind}
use Rattle.qplain.specs.declared.call.Call.{Call}
use Rattle.qplain.specs.declared.call.Call.TheVariants.{Chown, SetQuota, Quota}
use Rattle.qplain.specs.declared.edition.Edition.{Edition}
use Rattle.qplain.specs.declared.edition.Edition.TheVariants.{One, Two}
use Rattle.qplain.specs.declared.entry.Entry.{Entry}
use Rattle.qplain.specs.declared.refusal.Refusal.TheVariants.{EDQUOT}
use Rattle.qplain.specs.declared.reply.Reply.{Reply}
use Rattle.qplain.specs.declared.reply.Reply.TheVariants.{Refused}

-- the call gives a project, or asks for one or for its limits
abbrev pub call_names_project : Call → Bool
call_names_project (Chown path uid gid project) = is_some project
call_names_project (SetQuota kind id limits) = is_same_kind Project kind
call_names_project (Quota kind id) = is_same_kind Project kind
call_names_project call = false

-- the reply tells that a project's quota is in the way
abbrev pub reply_names_project : Reply → Bool
reply_names_project (Refused (EDQUOT kind over)) = is_same_kind Project kind
reply_names_project reply = false

-- what an entry of this edition may name: in edition 1 no project
abbrev pub is_of_edition : Edition → Entry → Bool
is_of_edition One e = not (call_names_project e.call || reply_names_project e.reply)
is_of_edition Two e = true
