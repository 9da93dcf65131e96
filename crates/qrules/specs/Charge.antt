-- Whether a charge is granted: the first fault of one account whose use would rise (quotactl(2)).
use Rattle.std.specs.Prelude.{ℕ, ◌+◌, Bool, true, false, ◌&&◌, nat_le, if◌then◌else◌, Option, Some, None, Result, Ok}
use Rattle.std.specs.Prelude.{Err}
use Rattle.std.specs.Option.{option_or}
use Rattle.qrules.specs.declared.over.Over.{Over}
use Rattle.qrules.specs.declared.over.Over.TheVariants.{InodeHard, InodeSoft, BlockHard, BlockSoft}
use Rattle.qrules.specs.Sort.{Sort, Inodes, Blocks, amount_of, soft_limit, hard_limit, is_over}
use Rattle.qrules.specs.Account.{Account, count_in, end_in}

-- the fault of passing the hard limit of this sort
abbrev pub hard_fault : Sort → Over
hard_fault Inodes = InodeHard
hard_fault Blocks = BlockHard

-- the fault of passing the soft limit of this sort when its grace has ended
abbrev pub soft_fault : Sort → Over
soft_fault Inodes = InodeSoft
soft_fault Blocks = BlockSoft

-- a grace has ended: its end stands, and the moment is that end or later
abbrev pub has_ended : Option ℕ → ℕ → Bool
has_ended None moment = false
has_ended (Some end) moment = nat_le end moment

-- the fault of one sort whose use would become so many: none where it does not rise, then hard, then soft
abbrev pub fault_of : Sort → Account → ℕ → ℕ → Option Over
fault_of sort account moment count =
    if nat_le count (count_in sort account) then None
    else if is_over (amount_of sort count) (hard_limit sort account.limits) then Some (hard_fault sort)
    else if is_over (amount_of sort count) (soft_limit sort account.limits)
    && has_ended (end_in sort account) moment then Some (soft_fault sort)
    else None

-- the first fault of an account whose uses would become these: inodes before blocks
abbrev pub first_fault : Account → ℕ → ℕ → ℕ → Option Over
first_fault account moment blocks inodes =
    option_or (fault_of Inodes account moment inodes) (fault_of Blocks account moment blocks)

-- the fault of one sort to which a charge would add so many
abbrev pub charge_fault_in : Sort → Account → ℕ → ℕ → Option Over
charge_fault_in sort account moment more = fault_of sort account moment (count_in sort account + more)

-- the first fault of a charge of N blocks and inodes
abbrev pub charge_fault : Account → ℕ → ℕ → ℕ → Option Over
charge_fault account moment blocks inodes =
    first_fault account moment (account.blocks + blocks) (account.inodes + inodes)

-- what a caller is told: the superuser passes every limit, any other meets the first fault
abbrev pub answer_to : Bool → Option Over → Result (Unit {0}) Over
answer_to true fault = Ok tt
answer_to false None = Ok tt
answer_to false (Some over) = Err over
