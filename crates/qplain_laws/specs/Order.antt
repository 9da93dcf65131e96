-- Which refusals are told and which are not: links come before space, and what is allocated can be written over.
use Rattle.std.specs.Prelude.{◌≡◌, ◌<◌, ℕ, true, List, length, Some, Ok}
use Rattle.qplain.specs.declared.bounds.TheConstants.{MAX_LINKS}
use Rattle.qblocks.specs.File.{File, is_allocated, touches}
use Rattle.qplain.specs.declared.call.Call.TheVariants.{Mkdir, Write}
use Rattle.qplain.specs.declared.refusal.Refusal.{Refusal}
use Rattle.qplain.specs.declared.reply.Reply.TheVariants.{Refused}
use Rattle.qplain.specs.Caller.{Caller}
use Rattle.qplain.specs.State.{Inode, State, inode_at}
use Rattle.qplain.specs.Use.{links_of}
use Rattle.qplain.specs.Walk.{components, parent, walk}
use Rattle.qplain.specs.Step.{step}
use Rattle.qplain_laws.specs.Laws.{IsLawful, RefusesForNoLimit, is_for_limits}

-- links come first: from a lawful state, where a mkdir is refused for want of space or of quota, its parent has fewer
-- links than an inode may have
abbrev pub LinksComeFirst : Type 0
LinksComeFirst =
    (S : State) (cred : Caller) (moment : ℕ) (path : List ℕ) (dir : ℕ) (r : Refusal) → IsLawful S
    → parent S (components path) ≡ Ok dir → (step S cred moment (Mkdir path)).1 ≡ Refused r
    → is_for_limits r ≡ true → links_of S dir true < MAX_LINKS

-- the write of n bytes at the offset touches blocks of the file that are allocated, and no other
abbrev pub StaysWithin : File → ℕ → ℕ → Type 0
StaysWithin file off n = (k : ℕ) → touches off n k ≡ true → is_allocated file k ≡ true

-- from a lawful state a write into allocated blocks is refused for no want of space or of quota
abbrev pub OverwritesAreGranted : Type 0
OverwritesAreGranted =
    (S : State) (cred : Caller) (moment : ℕ) (path : List ℕ) (off : ℕ) (bytes : List ℕ) (number : ℕ) (inode : Inode)
    → IsLawful S → walk S (components path) ≡ Ok number → inode_at S number ≡ Some inode
    → StaysWithin inode.file off (length bytes) → RefusesForNoLimit S cred moment (Write path off bytes)
