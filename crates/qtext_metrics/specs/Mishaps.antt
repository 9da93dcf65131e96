-- What lines came to that did nothing, each with its own count.
use Rattle.std.specs.Prelude.{ℕ, ◌+◌, ◌*◌, List, [], ◌∷◌, ◌++◌}
use Rattle.qrules.specs.Kinds.{rank_of}
use Rattle.qrules.specs.declared.kind.Kind.{Kind}
use Rattle.qrules.specs.declared.kind.Kind.TheVariants.{User, Group, Project}
use Rattle.qrules.specs.declared.over.Over.{Over}
use Rattle.qrules.specs.declared.over.Over.TheVariants.{InodeHard, InodeSoft, BlockHard, BlockSoft}
use Rattle.qplain.specs.declared.call_fault.CallFault.TheVariants.{JournalFull, OutOfMemory}
use Rattle.qplain.specs.declared.refusal.Refusal.{Refusal}
use Rattle.qplain.specs.declared.refusal.Refusal.TheVariants.{EINVAL, ENAMETOOLONG, ENOENT, ENOTDIR, EEXIST, ENOSPC}
use Rattle.qplain.specs.declared.refusal.Refusal.TheVariants.{EDQUOT, EISDIR, EACCES, EFBIG, EPERM, EMLINK, ENOTEMPTY}
use Rattle.qplain.specs.declared.refusal.Refusal.TheVariants.{EBUSY, ESRCH}
use Rattle.qtext_metrics.specs.declared.mishap.LineFault.TheVariants.{Text, Length, OtherCaller, Depth, Share}
use Rattle.qtext_metrics.specs.declared.mishap.Mishap.{Mishap}
use Rattle.qtext_metrics.specs.declared.mishap.Mishap.TheVariants.{Refused, Failed, Faulty}

-- the refusals for a quota of this kind
abbrev pub refused_for : Kind → List Mishap
refused_for kind = Refused (EDQUOT kind InodeHard) ∷ Refused (EDQUOT kind InodeSoft)
    ∷ Refused (EDQUOT kind BlockHard) ∷ Refused (EDQUOT kind BlockSoft) ∷ []

-- all refusals
abbrev pub refusals : List Mishap
refusals =
    Refused EINVAL ∷ Refused ENAMETOOLONG ∷ Refused ENOENT ∷ Refused ENOTDIR ∷ Refused EEXIST ∷ Refused ENOSPC
    ∷ Refused EISDIR ∷ Refused EACCES ∷ Refused EFBIG ∷ Refused EPERM ∷ Refused EMLINK ∷ Refused ENOTEMPTY
    ∷ Refused EBUSY ∷ Refused ESRCH
    ∷ (refused_for User ++ refused_for Group ++ refused_for Project)

-- all that a line may fail for
abbrev pub failures : List Mishap
failures = Failed JournalFull ∷ Failed OutOfMemory ∷ []

-- all that may be wrong with a line
abbrev pub faults : List Mishap
faults = Faulty Text ∷ Faulty Length ∷ Faulty OtherCaller ∷ Faulty Depth ∷ Faulty Share ∷ []

-- all of them, in the order in which their counts are kept
abbrev pub mishaps : List Mishap
mishaps = refusals ++ failures ++ faults

-- limits in the order in which they are tested
abbrev pub limit_rank : Over → ℕ
limit_rank InodeHard = 0
limit_rank InodeSoft = 1
limit_rank BlockHard = 2
limit_rank BlockSoft = 3

-- where a refusal stands among all
abbrev pub refusal_place : Refusal → ℕ
refusal_place EINVAL = 0
refusal_place ENAMETOOLONG = 1
refusal_place ENOENT = 2
refusal_place ENOTDIR = 3
refusal_place EEXIST = 4
refusal_place ENOSPC = 5
refusal_place EISDIR = 6
refusal_place EACCES = 7
refusal_place EFBIG = 8
refusal_place EPERM = 9
refusal_place EMLINK = 10
refusal_place ENOTEMPTY = 11
refusal_place EBUSY = 12
refusal_place ESRCH = 13
refusal_place (EDQUOT kind over) = 14 + 4 * rank_of kind + limit_rank over

-- where it stands among all of them
abbrev pub place_of : Mishap → ℕ
place_of (Refused refusal) = refusal_place refusal
place_of (Failed JournalFull) = 26
place_of (Failed OutOfMemory) = 27
place_of (Faulty Text) = 28
place_of (Faulty Length) = 29
place_of (Faulty OtherCaller) = 30
place_of (Faulty Depth) = 31
place_of (Faulty Share) = 32
