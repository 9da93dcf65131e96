-- Which limit a refusal for a quota tells: a second telling, in a table, of what the rules look for.
use Rattle.std.specs.Prelude.{◌≡◌, ◌≢◌, ℕ, ◌*◌, Bool, true, false, not, ◌&&◌, nat_le, nat_lt, List, [], ◌∷◌, ◌++◌}
use Rattle.std.specs.Prelude.{All, Option, Some, None}
use Rattle.std.specs.List.{find}
use Rattle.qrules.specs.declared.kind.Kind.{Kind}
use Rattle.qrules.specs.declared.over.Over.{Over}
use Rattle.qrules.specs.declared.over.Over.TheVariants.{InodeHard, InodeSoft, BlockHard, BlockSoft}
use Rattle.qrules.specs.Kinds.{rank_of}
use Rattle.qrules.specs.Sort.{Inodes, Blocks}
use Rattle.qplain.specs.declared.call.Call.{Call}
use Rattle.qplain.specs.declared.refusal.Refusal.TheVariants.{EDQUOT}
use Rattle.qplain.specs.declared.reply.Reply.TheVariants.{Refused}
use Rattle.qplain.specs.Caller.{Caller, is_superuser}
use Rattle.qplain.specs.State.{Holder, Inode, State, inode_at}
use Rattle.qplain.specs.Use.{owner, use_of}
use Rattle.qplain.specs.Known.{is_holder}
use Rattle.qplain.specs.Attempt.{Becomes}
use Rattle.qplain.specs.Calls.{attempt}
use Rattle.qplain.specs.Step.{step}
use Rattle.qplain_laws.specs.Laws.{IsLawful}

-- the use rises, and what it then amounts to is more than the limit, which is none where it is 0
abbrev pub rises_over : ℕ → ℕ → ℕ → ℕ → Bool
rises_over before after amount limit = nat_lt before after && nat_lt 0 limit && nat_lt limit amount

-- the grace ran, and the moment is its end or later
abbrev pub has_run_out : Option ℕ → ℕ → Bool
has_run_out None moment = false
has_run_out (Some end) moment = not (nat_lt moment end)

-- a limit of a principal: whether it is in the way, and its name
abbrev pub NamedLimit : Type 0
NamedLimit = Bool × Over

-- the four limits of a principal in their order, and whether each is in the way of what the principal uses in the new
-- state: inodes one by one, blocks by 4 KiB
abbrev pub limits_in_order : State → State → ℕ → Holder → List NamedLimit
limits_in_order old new moment h =
    let inodes = use_of old h.kind h.id Inodes in
    let more_inodes = use_of new h.kind h.id Inodes in
    let blocks = use_of old h.kind h.id Blocks in
    let more_blocks = use_of new h.kind h.id Blocks in
    (rises_over inodes more_inodes more_inodes h.limits.inode_hard, InodeHard)
    ∷ (rises_over inodes more_inodes more_inodes h.limits.inode_soft && has_run_out h.inode_end moment, InodeSoft)
    ∷ (rises_over blocks more_blocks (4 * more_blocks) h.limits.block_hard, BlockHard)
    ∷ (rises_over blocks more_blocks (4 * more_blocks) h.limits.block_soft && has_run_out h.block_end moment, BlockSoft)
    ∷ []

-- none of these limits is in the way
abbrev pub NoneInTheWay : List NamedLimit → Type 0
NoneInTheWay limits = All (λ limit. limit.0 ≡ false) limits

-- the limit of this name is in the way, and none of those before it in the list is
abbrev pub IsFirstInTheWay : List NamedLimit → Over → Type 0
IsFirstInTheWay limits over =
    (before : List NamedLimit) × (after : List NamedLimit) × (limits ≡ before ++ ((true, over) ∷ after))
    × NoneInTheWay before

-- no inode but that of one number is another in the new state, and the principal is that one's owner of the kind then
abbrev pub OwnsTheChanged : State → State → Kind → ℕ → Type 0
OwnsTheChanged old new kind id =
    (number : ℕ) × (inode : Inode) × (inode_at new number ≡ Some inode) × (owner kind inode.owners ≡ Some id)
    × ((other : ℕ) → other ≢ number → inode_at new other ≡ inode_at old other)

-- the limit is the first in the way of a declared principal of the kind, which owns what is changed; and of no other
-- principal of that kind, or of a kind before it, is a limit in the way
pub record IsFirstLimit (old new : State) (moment : ℕ) (kind : Kind) (over : Over) (h : Holder) : Type 0 where
  pub declared : find (is_holder kind h.id) old.holders ≡ Some h
  pub owns : OwnsTheChanged old new kind h.id
  pub first : IsFirstInTheWay (limits_in_order old new moment h) over
  pub others : All (λ g. nat_le (rank_of g.kind) (rank_of kind) ≡ true → is_holder kind h.id g ≡ false
      → NoneInTheWay (limits_in_order old new moment g)) old.holders

-- from a lawful state a call that is refused for a quota is not the superuser's, and is told the first limit in the way
-- of what its tests make of the state
abbrev pub FirstLimitIsTold : Type 0
FirstLimitIsTold =
    (S : State) (cred : Caller) (moment : ℕ) (call : Call) (kind : Kind) (over : Over) → IsLawful S
    → (step S cred moment call).1 ≡ Refused (EDQUOT kind over)
    → (is_superuser cred ≡ false) × (new : State) × (number : ℕ) × (attempt S cred moment call ≡ Becomes new number)
    × (h : Holder) × IsFirstLimit S new moment kind over h
