-- The numbers that a caller of another language is given: 0 for what was granted, below 64 for a refusal, from 64 on
-- for a fault.
use Rattle.std.specs.Prelude.{ℕ}
use Rattle.qrules.specs.declared.kind.Kind.{Kind}
use Rattle.qrules.specs.declared.kind.Kind.TheVariants.{User, Group, Project}
use Rattle.qrules.specs.declared.over.Over.{Over}
use Rattle.qrules.specs.declared.over.Over.TheVariants.{InodeHard, InodeSoft, BlockHard, BlockSoft}
use Rattle.qplain.specs.declared.refusal.Refusal.{Refusal}
use Rattle.qplain.specs.declared.refusal.Refusal.TheVariants.{EDQUOT}
use Rattle.qplain.specs.declared.reply.Reply.{Reply}
use Rattle.qplain.specs.declared.reply.Reply.TheVariants.{Refused}
use Rattle.qplain.specs.Numbers.{refusal_number}

-- the first number of a fault
abbrev pub FAULTS : ℕ
FAULTS = 64

-- whose quota is in the way, and which of its limits
abbrev pub over_code : Kind → Over → ℕ
over_code User InodeHard = 32
over_code User InodeSoft = 33
over_code User BlockHard = 34
over_code User BlockSoft = 35
over_code Group InodeHard = 36
over_code Group InodeSoft = 37
over_code Group BlockHard = 38
over_code Group BlockSoft = 39
over_code Project InodeHard = 40
over_code Project InodeSoft = 41
over_code Project BlockHard = 42
over_code Project BlockSoft = 43

-- the number of a refusal, from which it can be told: its own, and of an EDQUOT which it is
abbrev pub refusal_code : Refusal → ℕ
refusal_code (EDQUOT kind over) = over_code kind over
refusal_code refusal = refusal_number refusal

-- the number of a reply: 0 of what was granted
abbrev pub reply_code : Reply → ℕ
reply_code (Refused refusal) = refusal_code refusal
reply_code reply = 0
