-- Limits, graces and records of principals (quotactl(2)).
use Rattle.std.specs.Prelude.{ℕ, not, ◌||◌, if◌then◌else◌, map, Option, Some, None}
use Rattle.std.specs.List.{find}
use Rattle.qrules.specs.declared.kind.Kind.{Kind}
use Rattle.qrules.specs.declared.limits.Limits.{Limits}
use Rattle.qrules.specs.declared.graces.Graces.{Graces}
use Rattle.qplain.specs.declared.quota.Quota.{Quota}
use Rattle.qplain.specs.declared.refusal.Refusal.TheVariants.{EPERM, ESRCH}
use Rattle.qplain.specs.declared.reply.Reply.TheVariants.{Quota as QuotaReply}
use Rattle.qplain.specs.Caller.{Caller, is_superuser}
use Rattle.qplain.specs.State.{Holder, State}
use Rattle.qplain.specs.Use.{account_of}
use Rattle.qplain.specs.Known.{is_declared, is_holder}
use Rattle.qplain.specs.Attempt.{Attempt, Refuse, Answer, Becomes}
use Rattle.qplain.specs.Rights.{is_own}

-- the holder under new limits, which forget both its ends
abbrev pub relimited : Limits → Holder → Holder
relimited limits h = record h { limits = limits; block_end = None; inode_end = None }

-- the state in which the principal of this kind and id has these limits
abbrev pub with_limits_of : State → Kind → ℕ → Limits → State
with_limits_of S kind id limits =
    record S { holders = map (λ h. if is_holder kind id h then relimited limits h else h) S.holders }

-- set the limits: for the superuser, of a principal that is declared
abbrev pub set_quota : State → Caller → Kind → ℕ → Limits → Attempt
set_quota S cred kind id limits =
    if not (is_superuser cred) then Refuse EPERM
    else if not (is_declared S kind id) then Refuse ESRCH
    else Becomes (with_limits_of S kind id limits) 0

-- set the graces: for the superuser
abbrev pub set_grace : State → Caller → Graces → Attempt
set_grace S cred graces = if not (is_superuser cred) then Refuse EPERM else Becomes (record S { graces = graces }) 0

-- what a holder's record holds
abbrev pub quota_of : State → Holder → Quota
quota_of S h =
    let account = account_of S h in
    record {
      blocks = account.blocks;
      inodes = account.inodes;
      limits = account.limits;
      block_end = account.block_end;
      inode_end = account.inode_end;
    }

-- answer with the record of a holder, if there is one
abbrev pub quota_from : State → Option Holder → Attempt
quota_from S None = Refuse ESRCH
quota_from S (Some h) = Answer (QuotaReply (quota_of S h))

-- ask for a record: one's own, or any for the superuser
abbrev pub ask_quota : State → Caller → Kind → ℕ → Attempt
ask_quota S cred kind id =
    if not (is_superuser cred || is_own cred kind id) then Refuse EPERM
    else quota_from S (find (is_holder kind id) S.holders)
