-- A write that passed all tests but those of space and quota. No public clause cites this module.
use Rattle.std.specs.Prelude.{◌≡◌, ℕ, ◌+◌, ◌^◌, ◌<◌, ◌≤◌, false, List, Some, length, Result, Ok, Err}
use Rattle.std.specs.declared.alloc.AllocError.{AllocError}
use Rattle.qblocks.specs.File.{Adds, after_write}
use Rattle.qplain.specs.declared.refusal.Refusal.{Refusal}
use Rattle.qplain.specs.declared.reply.Reply.{Reply}
use Rattle.qplain.specs.declared.reply.Reply.TheVariants.{Done, Refused}
use Rattle.qplain.specs.Attempt.{Becomes, at_path}
use Rattle.qplain.specs.Caller.{Caller}
use Rattle.qplain.specs.Files.{with_file, write_into}
use Rattle.qplain.specs.State.{Inode, inode_at}
use Rattle.qstore_change.specs.declared.tree_change.TreeChange.TheVariants.{Write}
use Rattle.qstore.specs.declared.plan.Plan.{Plan}
use Rattle.qstore.specs.declared.plan.Plan.TheVariants.{Nothing, Change}
use Rattle.qstore.specs.declared.store.write.Target.{Target}
use Rattle.qstore.specs.Decided.{IsStretched, no_exchange}
use Rattle.qstore.specs.Stored.{Stored}
use Rattle.qstore.specs.Told.{total_change}

-- the write goes into an inode that is there and a file, the new blocks are the target's, and so is what they take
pub record IsTarget (s : Stored) (cred : Caller) (path : List ℕ) (off : ℕ) (bytes : List ℕ)
    (target : Target) : Type 0 where
  pub inode : Inode
  pub there : inode_at s.state target.number ≡ Some inode
  pub is_file : inode.dir ≡ false
  pub none : target.missing ≡ 0 → target.exchange ≡ no_exchange
  pub some : 0 < target.missing → IsStretched s inode target.missing target.exchange
  pub missing : Adds inode.file off (length bytes) target.missing
  pub few_missing : target.missing ≤ 2 ^ 28
  pub bound : off + length bytes ≤ s.state.file_limit
  pub becomes : at_path s.state (write_into s.state cred off bytes) path
      ≡ Becomes (with_file s.state target.number inode (after_write inode.file off bytes)) target.number

-- the plan of the write, with this room
abbrev pub put_plan : Target → ℕ → List ℕ → ℕ → Plan
put_plan target off bytes spare = Change (Write target.number off bytes spare)

-- what is planned where room was to be made: the write, or nothing, where it is refused or memory is wanting
abbrev pub put_planned : Target → ℕ → List ℕ → Result (Result ℕ Refusal) AllocError → Plan
put_planned target off bytes (Ok (Ok spare)) = put_plan target off bytes spare
put_planned target off bytes (Ok (Err refusal)) = Nothing
put_planned target off bytes (Err lack) = Nothing

-- and what is replied
abbrev pub put_reply : Target → Result (Result ℕ Refusal) AllocError → Result Reply AllocError
put_reply target (Ok (Ok spare)) = Ok (Done target.number (total_change target.exchange))
put_reply target (Ok (Err refusal)) = Ok (Refused refusal)
put_reply target (Err lack) = Err lack
