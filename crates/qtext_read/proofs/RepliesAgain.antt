-- Replies that are spelled out are read again, and their text is their words.
use Rattle.std.proofs.Common.{◌≡◌, ℕ, ◌-◌, ◌<◌, ◌^◌, ◌/◌, ◌%◌, ◌==◌, ◌&&◌, ◌||◌, Bool, true, false, not, List, [], ◌∷◌, zero, suc, inl, inr, slice_index, Option, Some, None, Ok, refl, arith, codes, decimal, if◌then◌else◌}
use Rattle.std.specs.Char.{is_ascii_uppercase}
use Rattle.std.specs.List.{list_any, AllByRecursion}
use Rattle.std.proofs.lemmas.Bool.{and_parts, cases_lt}
use Rattle.hex.specs.Hex.{IsBytes, encode_with, lower_digits}
use Rattle.qrules.specs.declared.over.Over.{Over}
use Rattle.qrules.specs.declared.over.Over.TheVariants.{InodeHard, InodeSoft, BlockHard, BlockSoft}
use Rattle.qplain.specs.declared.edition.Edition.{Edition}
use Rattle.qplain.specs.Projects.{reply_names_project}
use Rattle.qplain.specs.declared.refusal.Refusal.TheVariants.{EINVAL, ENAMETOOLONG, ENOENT, ENOTDIR, EEXIST, ENOSPC, EDQUOT, EISDIR, EACCES, EFBIG, EPERM, EMLINK, ENOTEMPTY, EBUSY, ESRCH}
use Rattle.qplain.specs.declared.reply.Reply.{Reply}
use Rattle.qplain.specs.declared.reply.Reply.TheVariants.{Done, Bytes, Stat as StatReply, Quota as QuotaReply, Refused}
use Rattle.qtext.specs.declared.text_fault.TextKind.TheVariants.{BadReply}
use Rattle.qtext.specs.Pieces.{data_text}
use Rattle.qtext.specs.RuleWords.{over_text}
use Rattle.qtext.specs.Words.{id_of}
use Rattle.qtext.proofs.WordsAgain.{are_digits, data_again, number_again}
use Rattle.qtext_read.specs.Replies.{end_text}
use Rattle.qtext_read.specs.RepliesRead.{bytes_of, done_of, edquot_of, end_of, keyword, over_of, quota_of, refusal_of, reply_in, reply_of, reply_word_of, rise_of, signed, stat_of, type_of, words_of_reply}
use Rattle.qtext_read.specs.RepliesSpelled.{reply_words}
use Rattle.qplain.specs.Held.{IsEnd, IsReply}
use Rattle.qtext_read.proofs.ArgumentsAgain.{data_word, decimal_word, digits_lack_dash, id_word, kind_again, kind_word}
use Rattle.qtext_read.proofs.CallsAgain.{IsWord, any_number, limits_again}
use Rattle.qtext_read.proofs.Editions.{OnlyInTwo}

-- ---- data in lower case

-- the first n digits of a table are of lower case
abbrev are_lower : List ℕ → ℕ → Bool
are_lower t zero = true
are_lower t (suc n) = not (is_ascii_uppercase (slice_index t n)) && are_lower t n

lower_at : (t : List ℕ) (n k : ℕ) → are_lower t n ≡ true → k < n → is_ascii_uppercase (slice_index t k) ≡ false
lower_at t zero k h lt = absurd (omega arith)
lower_at t (suc n) k h lt =
    let parts = and_parts (not (is_ascii_uppercase (slice_index t n))) (are_lower t n) h in
    elim (cases_lt k n) [
      | inl below ↦ lower_at t n k parts.1 below
      | inr top ↦
          let same : k ≡ n = omega arith in
          rw same (not_true (is_ascii_uppercase (slice_index t n)) parts.0)
    ]
  where
    not_true : (b : Bool) → not b ≡ true → b ≡ false
    not_true true h = cc
    not_true false h = refl

lower_encoded : (bs : List ℕ) → IsBytes bs → list_any is_ascii_uppercase (encode_with lower_digits bs) ≡ false
unfolding encode_with
lower_encoded [] fits = refl
lower_encoded (b ∷ bs) fits =
    let byte : b < 256 = fits 0 in
    let high : b / 16 < 16 = omega arith in
    let low : b % 16 < 16 = omega arith in
    rw (lower_at lower_digits 16 (b / 16) refl high, lower_at lower_digits 16 (b % 16) refl low) (lower_encoded bs (λ k. fits (suc k)))

pub lower_data : (bs : List ℕ) → IsBytes bs → list_any is_ascii_uppercase (data_text bs) ≡ false
lower_data [] fits = refl
lower_data (b ∷ bs) fits = lower_encoded (b ∷ bs) fits

-- ---- words

over_again : (over : Over) → over_of (over_text over) ≡ Ok over
unfolding over_of
over_again InodeHard = refl
over_again InodeSoft = refl
over_again BlockHard = refl
over_again BlockSoft = refl

end_again : (end : Option ℕ) → IsEnd end → end_of (end_text end) ≡ Ok end
unfolding end_of
end_again None fits = refl
end_again (Some end) fits = rw (digits_lack_dash (decimal end) (are_digits end fits), any_number end fits) refl

any_owner : (id : ℕ) → id < 2 ^ 32 → id_of BadReply (decimal id) ≡ Ok id
any_owner id lt = number_again BadReply (2 ^ 32 - 1) id (omega arith) (omega arith)

type_again : (dir : Bool) → type_of (if dir then codes "dir" else codes "file") ≡ Ok dir
unfolding type_of
type_again true = refl
type_again false = refl

-- a directory has no size and no blocks
empty_directory : (dir : Bool) (size blocks : ℕ) → (dir ≡ true → (size ≡ 0) × (blocks ≡ 0)) → (dir && (not (size == 0) || not (blocks == 0))) ≡ false
empty_directory false size blocks empty = refl
empty_directory true size blocks empty = let parts = empty refl in rw (parts.0, parts.1) refl

-- the reply whose words these are
pub reply_again : (edition : Edition) (r : Reply) → IsReply r → OnlyInTwo edition (reply_names_project r) → reply_in edition (reply_words r) ≡ Ok r
unfolding reply_word_of reply_of words_of_reply done_of rise_of keyword signed bytes_of stat_of type_of quota_of refusal_of edquot_of
reply_again edition (Done ino c) fits old =
    rw (
      any_number ino fits.0,
      any_number c.blocks_charged fits.1.blocks_charged,
      any_number c.blocks_released fits.1.blocks_released,
      any_number c.inodes_charged fits.1.inodes_charged,
      any_number c.inodes_released fits.1.inodes_released,
    ) refl
reply_again edition (Bytes bytes) fits old = rw (lower_data bytes fits, data_again bytes fits) refl
reply_again edition (StatReply s) fits old =
    rw (
      any_number s.ino fits.ino,
      type_again s.dir,
      any_owner s.uid fits.uid,
      any_owner s.gid fits.gid,
      any_number s.size fits.size,
      any_number s.blocks fits.blocks,
      any_number s.links fits.links,
      empty_directory s.dir s.size s.blocks fits.empty,
    ) refl
reply_again edition (QuotaReply q) fits old =
    rw (
      any_number q.blocks fits.blocks,
      any_number q.inodes fits.inodes,
      limits_again q.limits fits.limits,
      end_again q.block_end fits.block_end,
      end_again q.inode_end fits.inode_end,
    ) refl
reply_again edition (Refused EINVAL) fits old = refl
reply_again edition (Refused ENAMETOOLONG) fits old = refl
reply_again edition (Refused ENOENT) fits old = refl
reply_again edition (Refused ENOTDIR) fits old = refl
reply_again edition (Refused EEXIST) fits old = refl
reply_again edition (Refused ENOSPC) fits old = refl
reply_again edition (Refused (EDQUOT kind over)) fits old = rw (kind_again edition kind old, over_again over) refl
reply_again edition (Refused EISDIR) fits old = refl
reply_again edition (Refused EACCES) fits old = refl
reply_again edition (Refused EFBIG) fits old = refl
reply_again edition (Refused EPERM) fits old = refl
reply_again edition (Refused EMLINK) fits old = refl
reply_again edition (Refused ENOTEMPTY) fits old = refl
reply_again edition (Refused EBUSY) fits old = refl
reply_again edition (Refused ESRCH) fits old = refl

-- ---- each byte of a word prints

over_word : (over : Over) → IsWord (over_text over)
over_word InodeHard = refl
over_word InodeSoft = refl
over_word BlockHard = refl
over_word BlockSoft = refl

end_word : (end : Option ℕ) → IsEnd end → IsWord (end_text end)
end_word None fits = refl
end_word (Some end) fits = decimal_word end fits

type_word : (dir : Bool) → IsWord (if dir then codes "dir" else codes "file")
type_word true = refl
type_word false = refl

pub reply_word : (r : Reply) → IsReply r → AllByRecursion IsWord (reply_words r)
reply_word (Done ino c) fits = (
  refl,
  (
    decimal_word ino fits.0,
    (
      refl,
      (
        decimal_word c.blocks_charged fits.1.blocks_charged,
        (
          decimal_word c.blocks_released fits.1.blocks_released,
          (refl, (decimal_word c.inodes_charged fits.1.inodes_charged, (decimal_word c.inodes_released fits.1.inodes_released, tt))),
        ),
      ),
    ),
  ),
)
reply_word (Bytes bytes) fits = (refl, (data_word bytes fits, tt))
reply_word (StatReply s) fits = (
  refl,
  (
    decimal_word s.ino fits.ino,
    (
      type_word s.dir,
      (
        id_word s.uid fits.uid,
        (
          id_word s.gid fits.gid,
          (
            decimal_word s.size fits.size,
            (decimal_word s.blocks fits.blocks, (decimal_word s.links fits.links, tt)),
          ),
        ),
      ),
    ),
  ),
)
reply_word (QuotaReply q) fits = (
  refl,
  (
    decimal_word q.blocks fits.blocks,
    (
      decimal_word q.inodes fits.inodes,
      (
        decimal_word q.limits.block_soft fits.limits.block_soft,
        (
          decimal_word q.limits.block_hard fits.limits.block_hard,
          (
            decimal_word q.limits.inode_soft fits.limits.inode_soft,
            (decimal_word q.limits.inode_hard fits.limits.inode_hard, (end_word q.block_end fits.block_end, (end_word q.inode_end fits.inode_end, tt))),
          ),
        ),
      ),
    ),
  ),
)
reply_word (Refused EINVAL) fits = (refl, (refl, tt))
reply_word (Refused ENAMETOOLONG) fits = (refl, (refl, tt))
reply_word (Refused ENOENT) fits = (refl, (refl, tt))
reply_word (Refused ENOTDIR) fits = (refl, (refl, tt))
reply_word (Refused EEXIST) fits = (refl, (refl, tt))
reply_word (Refused ENOSPC) fits = (refl, (refl, tt))
reply_word (Refused (EDQUOT kind over)) fits = (refl, (refl, (kind_word kind, (over_word over, tt))))
reply_word (Refused EISDIR) fits = (refl, (refl, tt))
reply_word (Refused EACCES) fits = (refl, (refl, tt))
reply_word (Refused EFBIG) fits = (refl, (refl, tt))
reply_word (Refused EPERM) fits = (refl, (refl, tt))
reply_word (Refused EMLINK) fits = (refl, (refl, tt))
reply_word (Refused ENOTEMPTY) fits = (refl, (refl, tt))
reply_word (Refused EBUSY) fits = (refl, (refl, tt))
reply_word (Refused ESRCH) fits = (refl, (refl, tt))
