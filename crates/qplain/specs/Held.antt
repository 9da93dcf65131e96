-- What the types of replies, lines and entries can hold.
use Rattle.std.specs.Prelude.{◌≡◌, ℕ, ◌<◌, ◌≤◌, ◌^◌, true, List, length, Option, Some, None}
use Rattle.std.specs.List.{AllByRecursion}
use Rattle.qplain.specs.Caller.{Caller}
use Rattle.qplain.specs.Ranges.{AreBytes, AreLimits}
use Rattle.qplain.specs.Calls.{IsCall}
use Rattle.qplain.specs.declared.bounds.TheConstants.{MAX_LINES}
use Rattle.qplain.specs.declared.cred.TheConstants.{MAX_MORE_GROUPS}
use Rattle.qplain.specs.declared.change.Change.{Change}
use Rattle.qplain.specs.declared.entry.Entry.{Entry}
use Rattle.qplain.specs.declared.line.Line.{Line}
use Rattle.qplain.specs.declared.quota.Quota.{Quota as QuotaOf}
use Rattle.qplain.specs.declared.reply.Reply.{Reply}
use Rattle.qplain.specs.declared.reply.Reply.TheVariants.{Done, Bytes, Stat as StatReply, Quota as QuotaReply, Refused}
use Rattle.qplain.specs.declared.stat.Stat.{Stat as StatOf}

-- the caller's ids are ids, and its further groups are not too many
pub record IsCaller (cred : Caller) : Type 0 where
  pub uid : cred.uid < 2 ^ 32
  pub gid : cred.gid < 2 ^ 32
  pub few : length cred.more ≤ MAX_MORE_GROUPS
  pub more : AllByRecursion (λ g. g < 2 ^ 32) cred.more

-- a grace end that stands is a number of 64 bits
abbrev pub IsEnd : Option ℕ → Type 0
IsEnd None = Unit {0}
IsEnd (Some end) = end < 2 ^ 64

-- each number is one of 64 bits
pub record IsChange (c : Change) : Type 0 where
  pub blocks_charged : c.blocks_charged < 2 ^ 64
  pub blocks_released : c.blocks_released < 2 ^ 64
  pub inodes_charged : c.inodes_charged < 2 ^ 64
  pub inodes_released : c.inodes_released < 2 ^ 64

-- a directory has no size and no blocks
abbrev pub IsEmptyDirectory : StatOf → Type 0
IsEmptyDirectory s = s.dir ≡ true → (s.size ≡ 0) × (s.blocks ≡ 0)

-- where a reply is a directory's stat, it tells of no size and no blocks
abbrev pub HasLawfulStat : Reply → Type 0
HasLawfulStat (Done ino change) = Unit {0}
HasLawfulStat (Bytes bytes) = Unit {0}
HasLawfulStat (StatReply stat) = IsEmptyDirectory stat
HasLawfulStat (QuotaReply quota) = Unit {0}
HasLawfulStat (Refused refusal) = Unit {0}

-- the numbers of an inode are what their types can hold, and a directory has no size and no blocks
pub record IsStat (s : StatOf) : Type 0 where
  pub ino : s.ino < 2 ^ 64
  pub uid : s.uid < 2 ^ 32
  pub gid : s.gid < 2 ^ 32
  pub size : s.size < 2 ^ 64
  pub blocks : s.blocks < 2 ^ 64
  pub links : s.links < 2 ^ 64
  pub empty : IsEmptyDirectory s

-- those of a record are
pub record IsQuota (q : QuotaOf) : Type 0 where
  pub blocks : q.blocks < 2 ^ 64
  pub inodes : q.inodes < 2 ^ 64
  pub limits : AreLimits q.limits
  pub block_end : IsEnd q.block_end
  pub inode_end : IsEnd q.inode_end

-- the parts of a reply are what their types can hold
abbrev pub IsReply : Reply → Type 0
IsReply (Done ino change) = (ino < 2 ^ 64) × IsChange change
IsReply (Bytes bytes) = AreBytes bytes
IsReply (StatReply stat) = IsStat stat
IsReply (QuotaReply quota) = IsQuota quota
IsReply (Refused refusal) = Unit {0}

-- the parts of a line are what their types can hold
pub record IsLine (l : Line) : Type 0 where
  pub moment : l.moment < 2 ^ 64
  pub cred : IsCaller l.cred
  pub call : IsCall l.call

-- such lines, and no more than a script may have
pub record AreLines (ls : List Line) : Type 0 where
  pub few : length ls ≤ MAX_LINES
  pub each : AllByRecursion IsLine ls

-- the parts of an entry are what their types can hold
pub record IsHeld (e : Entry) : Type 0 where
  pub moment : e.moment < 2 ^ 64
  pub cred : IsCaller e.cred
  pub call : IsCall e.call
  pub reply : IsReply e.reply
