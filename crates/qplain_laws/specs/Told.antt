-- What a call that only asks is told, where it is answered.
use Rattle.std.specs.Prelude.{◌≡◌, ℕ, true, false, ◌||◌, List, Some}
use Rattle.std.specs.List.{find}
use Rattle.qrules.specs.declared.kind.Kind.{Kind}
use Rattle.qblocks.specs.File.{read_at}
use Rattle.qplain.specs.declared.call.Call.TheVariants.{Read, Stat as AskStat, Quota as AskQuota}
use Rattle.qplain.specs.declared.quota.Quota.{Quota}
use Rattle.qplain.specs.declared.reply.Reply.TheVariants.{Bytes, Stat as StatReply, Quota as QuotaReply}
use Rattle.qplain.specs.declared.stat.Stat.{Stat}
use Rattle.qplain.specs.Caller.{Caller, is_superuser}
use Rattle.qplain.specs.State.{Holder, Inode, State, inode_at}
use Rattle.qplain.specs.Known.{is_holder}
use Rattle.qplain.specs.Rights.{is_own}
use Rattle.qplain.specs.Files.{stat_of}
use Rattle.qplain.specs.Quotas.{quota_of}
use Rattle.qplain.specs.Step.{step}
use Rattle.qplain_laws.specs.Done.{LeadsTo}

-- bytes that are told are those of the file that the path leads to
abbrev pub BytesAreTrue : Type 0
BytesAreTrue =
    (S : State) (cred : Caller) (moment : ℕ) (path : List ℕ) (off len : ℕ) (bytes : List ℕ)
    → (step S cred moment (Read path off len)).1 ≡ Bytes bytes
    → (number : ℕ) × (inode : Inode) × LeadsTo S path number × (inode_at S number ≡ Some inode) × (inode.dir ≡ false)
    × (bytes ≡ read_at inode.file off len)

-- a stat that is told is that of the inode that the path leads to
abbrev pub StatsAreTrue : Type 0
StatsAreTrue =
    (S : State) (cred : Caller) (moment : ℕ) (path : List ℕ) (stat : Stat)
    → (step S cred moment (AskStat path)).1 ≡ StatReply stat
    → (number : ℕ) × (inode : Inode) × LeadsTo S path number × (inode_at S number ≡ Some inode)
    × (stat ≡ stat_of S number inode)

-- a record that is told is that of the declared principal, and it is the caller's own or the caller is the superuser
abbrev pub QuotasAreTrue : Type 0
QuotasAreTrue =
    (S : State) (cred : Caller) (moment : ℕ) (kind : Kind) (id : ℕ) (quota : Quota)
    → (step S cred moment (AskQuota kind id)).1 ≡ QuotaReply quota
    → (h : Holder) × (find (is_holder kind id) S.holders ≡ Some h) × (quota ≡ quota_of S h)
    × ((is_superuser cred || is_own cred kind id) ≡ true)
