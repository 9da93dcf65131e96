-- Which replies a call may have: a refusal, or one of its kind.
use Rattle.std.specs.Prelude.{◌≡◌, ℕ, Bool, true, false, nat_le, List, length}
use Rattle.qrules.specs.declared.kind.Kind.{Kind}
use Rattle.qplain.specs.declared.call.Call.{Call}
use Rattle.qplain.specs.declared.call.Call.TheVariants.{Read, Stat as AskStat, Quota as AskQuota}
use Rattle.qplain.specs.declared.reply.Reply.{Reply}
use Rattle.qplain.specs.declared.reply.Reply.TheVariants.{Done, Bytes, Stat as StatReply, Quota as QuotaReply, Refused}
use Rattle.qplain.specs.Caller.{Caller}
use Rattle.qplain.specs.State.{State}
use Rattle.qplain.specs.Step.{step}

-- the call asks for no reply but that it was done
abbrev pub is_change : Call → Bool
is_change (Read path off len) = false
is_change (AskStat path) = false
is_change (AskQuota kind id) = false
is_change call = true

-- a refusal, or done
abbrev pub tells_done : Reply → Bool
tells_done (Done number change) = true
tells_done (Refused refusal) = true
tells_done reply = false

-- a refusal, or at most so many bytes
abbrev pub tells_bytes : ℕ → Reply → Bool
tells_bytes most (Bytes bytes) = nat_le (length bytes) most
tells_bytes most (Refused refusal) = true
tells_bytes most reply = false

-- a refusal, or the numbers of an inode
abbrev pub tells_stat : Reply → Bool
tells_stat (StatReply stat) = true
tells_stat (Refused refusal) = true
tells_stat reply = false

-- a refusal, or a quota record
abbrev pub tells_quota : Reply → Bool
tells_quota (QuotaReply quota) = true
tells_quota (Refused refusal) = true
tells_quota reply = false

-- a call that changes something is answered that it was done
abbrev pub ChangesAreDone : Type 0
ChangesAreDone = (S : State) (cred : Caller) (moment : ℕ) (call : Call) → is_change call ≡ true
    → tells_done (step S cred moment call).1 ≡ true

-- a read is answered by no more bytes than it asks for
abbrev pub ReadsTellBytes : Type 0
ReadsTellBytes = (S : State) (cred : Caller) (moment : ℕ) (path : List ℕ) (off len : ℕ)
    → tells_bytes len (step S cred moment (Read path off len)).1 ≡ true

-- a stat is answered by the numbers of an inode
abbrev pub StatsTellNumbers : Type 0
StatsTellNumbers = (S : State) (cred : Caller) (moment : ℕ) (path : List ℕ)
    → tells_stat (step S cred moment (AskStat path)).1 ≡ true

-- a quota is answered by a record
abbrev pub QuotasTellRecords : Type 0
QuotasTellRecords = (S : State) (cred : Caller) (moment : ℕ) (kind : Kind) (id : ℕ)
    → tells_quota (step S cred moment (AskQuota kind id)).1 ≡ true
