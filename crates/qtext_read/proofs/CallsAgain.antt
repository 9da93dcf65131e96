-- Calls that are spelled out are read again.
use Rattle.std.proofs.Common.{◌≡◌, ℕ, ◌-◌, ◌<◌, ◌^◌, true, List, Some, None, Ok, refl, arith, decimal}
use Rattle.std.specs.List.{list_all, AllByRecursion}
use Rattle.qrules.specs.declared.limits.Limits.{Limits}
use Rattle.qrules.specs.declared.kind.Kind.TheVariants.{Project}
use Rattle.qrules.specs.Kinds.{is_same_kind}
use Rattle.qplain.specs.Paths.{is_path_byte}
use Rattle.qplain.specs.declared.edition.Edition.TheVariants.{Two}
use Rattle.qplain.specs.declared.call.Call.{Call}
use Rattle.qplain.specs.declared.call.Call.TheVariants.{Create, Mkdir, Write, Truncate, Read, Stat, Link, Unlink, Rmdir, Rename, Chown, SetQuota, SetGrace, Quota}
use Rattle.qtext.specs.declared.text_fault.TextKind.TheVariants.{BadNumber}
use Rattle.qtext.specs.Words.{number}
use Rattle.qtext.proofs.WordsAgain.{number_again, data_again}
use Rattle.qtext_read.specs.Rows.{verb_of}
use Rattle.qtext_read.specs.RepliesRead.{limits_of}
use Rattle.qtext_read.specs.Rows.{values_in}
use Rattle.qtext_read.specs.Calls.{call_by, call_of, call_in}
use Rattle.qtext_read.specs.Spelling.{call_words}
use Rattle.qplain.specs.Ranges.{AreLimits}
use Rattle.qplain.specs.Calls.{IsCall}
use Rattle.qtext_read.proofs.ArgumentsAgain.{path_again, kind_again, owner_again, any_id, decimal_word, data_word, kind_word, id_word, owner_word}
use Rattle.qtext_read.proofs.Editions.{in_two}

-- each byte of the word prints
abbrev pub IsWord : List ℕ → Type 0
IsWord w = list_all is_path_byte w ≡ true

-- each word of a call
pub call_word : (k : Call) → IsCall k → AllByRecursion IsWord (call_words k)
call_word (Create p) fits = (refl, (fits.each, tt))
call_word (Mkdir p) fits = (refl, (fits.each, tt))
call_word (Stat p) fits = (refl, (fits.each, tt))
call_word (Write p off bytes) fits = (refl, (fits.0.each, (decimal_word off fits.1, (data_word bytes fits.2, tt))))
call_word (Read p off len) fits = (refl, (fits.0.each, (decimal_word off fits.1, (decimal_word len fits.2, tt))))
call_word (Truncate p size) fits = (refl, (fits.0.each, (decimal_word size fits.1, tt)))
call_word (Link from to) fits = (refl, (fits.0.each, (fits.1.each, tt)))
call_word (Unlink p) fits = (refl, (fits.each, tt))
call_word (Rmdir p) fits = (refl, (fits.each, tt))
call_word (Rename from to) fits = (refl, (fits.0.each, (fits.1.each, tt)))
call_word (Chown p uid gid None) fits = (refl, (fits.0.each, (owner_word uid fits.1, (owner_word gid fits.2, tt))))
call_word (Chown p uid gid (Some project)) fits =
    (refl, (fits.0.each, (owner_word uid fits.1, (owner_word gid fits.2, (id_word project fits.3, tt)))))
call_word (SetQuota kind id l) fits = (
  refl,
  (
    kind_word kind,
    (
      id_word id fits.0,
      (
        decimal_word l.block_soft fits.1.block_soft,
        (
          decimal_word l.block_hard fits.1.block_hard,
          (decimal_word l.inode_soft fits.1.inode_soft, (decimal_word l.inode_hard fits.1.inode_hard, tt)),
        ),
      ),
    ),
  ),
)
call_word (SetGrace graces) fits = (refl, (decimal_word graces.block fits.0, (decimal_word graces.inode fits.1, tt)))
call_word (Quota kind id) fits = (refl, (kind_word kind, (id_word id fits, tt)))

-- numbers and limits
pub any_number : (n : ℕ) → n < 2 ^ 64 → number (decimal n) ≡ Ok n
any_number n lt = number_again BadNumber (2 ^ 64 - 1) n lt (omega arith)

pub limits_again : (l : Limits) → AreLimits l → limits_of (decimal l.block_soft) (decimal l.block_hard) (decimal l.inode_soft) (decimal l.inode_hard) ≡ Ok l
unfolding limits_of
limits_again l fits = rw (
  any_number l.block_soft fits.block_soft,
  any_number l.block_hard fits.block_hard,
  any_number l.inode_soft fits.inode_soft,
  any_number l.inode_hard fits.inode_hard,
) refl

-- the call of a script whose words these are
pub call_again : (k : Call) → IsCall k → call_in (call_words k) ≡ Ok k
unfolding call_in verb_of call_of values_in call_by
call_again (Create p) k = rw (path_again p k) refl
call_again (Mkdir p) k = rw (path_again p k) refl
call_again (Stat p) k = rw (path_again p k) refl
call_again (Write p off bytes) k = rw (path_again p k.0, any_number off k.1, data_again bytes k.2) refl
call_again (Read p off len) k = rw (path_again p k.0, any_number off k.1, any_number len k.2) refl
call_again (Truncate p size) k = rw (path_again p k.0, any_number size k.1) refl
call_again (Link from to) k = rw (path_again from k.0, path_again to k.1) refl
call_again (Unlink p) k = rw (path_again p k) refl
call_again (Rmdir p) k = rw (path_again p k) refl
call_again (Rename from to) k = rw (path_again from k.0, path_again to k.1) refl
call_again (Chown p uid gid None) k = rw (path_again p k.0, owner_again uid k.1, owner_again gid k.2) refl
call_again (Chown p uid gid (Some project)) k =
    rw (path_again p k.0, owner_again uid k.1, owner_again gid k.2, any_id project k.3) refl
call_again (SetQuota kind id limits) k =
    rw (
      kind_again Two kind (in_two (is_same_kind Project kind)),
      any_id id k.0,
      any_number limits.block_soft k.1.block_soft,
      any_number limits.block_hard k.1.block_hard,
      any_number limits.inode_soft k.1.inode_soft,
      any_number limits.inode_hard k.1.inode_hard,
    ) refl
call_again (SetGrace graces) k = rw (any_number graces.block k.0, any_number graces.inode k.1) refl
call_again (Quota kind id) k = rw (kind_again Two kind (in_two (is_same_kind Project kind)), any_id id k) refl
