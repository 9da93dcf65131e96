-- How many bytes a read is told.
use Rattle.std.specs.Prelude.{◌≡◌, ◌≤◌, ℕ, ◌+◌, List, [], length, Some}
use Rattle.qblocks.specs.File.{File, size_of}
use Rattle.qplain.specs.declared.call.Call.TheVariants.{Read}
use Rattle.qplain.specs.declared.reply.Reply.TheVariants.{Bytes}
use Rattle.qplain.specs.Caller.{Caller}
use Rattle.qplain.specs.State.{Inode, State, inode_at}
use Rattle.qplain.specs.Step.{step}
use Rattle.qplain_laws.specs.Done.{LeadsTo}

-- as many bytes as a read of so many at the offset gives: all of them where the file goes on so far, else those up to
-- its end, and none from its end on; never more than were asked for
pub record IsAsLong (file : File) (off len : ℕ) (bytes : List ℕ) : Type 0 where
  pub whole : off + len ≤ size_of file → length bytes ≡ len
  pub cut : off ≤ size_of file → size_of file ≤ off + len → off + length bytes ≡ size_of file
  pub none : size_of file ≤ off → bytes ≡ []
  pub most : length bytes ≤ len

-- what a read is told is as long as that, of the file that the path leads to
abbrev pub ReadsAreAsLong : Type 0
ReadsAreAsLong =
    (S : State) (cred : Caller) (moment : ℕ) (path : List ℕ) (off len : ℕ) (bytes : List ℕ)
    → (step S cred moment (Read path off len)).1 ≡ Bytes bytes
    → (number : ℕ) × (inode : Inode) × LeadsTo S path number × (inode_at S number ≡ Some inode)
    × IsAsLong inode.file off len bytes
