-- How large a file is, and where its blocks begin.
use Rattle.std.specs.Prelude.{◌≡◌, ◌≤◌, ℕ, true, All}
use Rattle.std.specs.Map.{values_of}
use Rattle.qblocks.specs.File.{File, begins_below, size_of}
use Rattle.qplain.specs.declared.call.Call.{Call}
use Rattle.qplain.specs.Caller.{Caller}
use Rattle.qplain.specs.Setups.{Setting}
use Rattle.qplain.specs.State.{State, start}
use Rattle.qplain.specs.Step.{step}

-- the file is no larger than this limit, and each of its blocks begins below its size
pub record IsRightSized (limit : ℕ) (file : File) : Type 0 where
  pub size : size_of file ≤ limit
  pub blocks : All (λ k. begins_below (size_of file) k ≡ true) file.allocated

-- so is every file, by the file limit
abbrev pub AreRightSized : State → Type 0
AreRightSized S = All (λ inode. IsRightSized S.file_limit inode.file) (values_of S.inodes)

-- in a new store they are
abbrev pub StartIsRightSized : Type 0
StartIsRightSized = (s : Setting) → AreRightSized (start s)

-- after every step of a state in which they are, they are
abbrev pub FilesStayRightSized : Type 0
FilesStayRightSized = (S : State) (cred : Caller) (moment : ℕ) (call : Call) → AreRightSized S
    → AreRightSized (step S cred moment call).0
