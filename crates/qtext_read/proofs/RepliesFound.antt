-- Replies that were read are spelled out in the words that stood there.
use Rattle.std.proofs.Common.{◌≡◌, ℕ, ◌<◌, ◌^◌, ◌==◌, ◌&&◌, ◌||◌, Bool, true, false, not, eqb, List, [], ◌∷◌, ◌++◌, ap, None, Result, Ok, Err, refl, sym, ◌∙◌, codes, cond, decimal, if◌then◌else◌}
use Rattle.std.specs.Char.{is_ascii_uppercase}
use Rattle.std.specs.List.{list_any}
use Rattle.std.specs.Str.{bytes_eq}
use Rattle.std.proofs.lemmas.Bool.{eqb-true, or_parts}
use Rattle.qrules.specs.declared.over.Over.TheVariants.{InodeHard, InodeSoft, BlockHard, BlockSoft}
use Rattle.qplain.specs.declared.edition.Edition.{Edition}
use Rattle.qplain.specs.Projects.{reply_names_project}
use Rattle.qplain.specs.declared.refusal.Refusal.{Refusal}
use Rattle.qplain.specs.declared.refusal.Refusal.TheVariants.{EINVAL, ENAMETOOLONG, ENOENT, ENOTDIR, EEXIST, ENOSPC, EISDIR, EACCES, EFBIG, EPERM, EMLINK, ENOTEMPTY, EBUSY, ESRCH}
use Rattle.qplain.specs.declared.reply.Reply.{Reply}
use Rattle.qplain.specs.declared.reply.Reply.TheVariants.{Refused as RefusedReply}
use Rattle.qtext.specs.declared.text_fault.TextKind.{TextKind}
use Rattle.qtext.specs.declared.text_fault.TextKind.TheVariants.{BadReply}
use Rattle.qtext.specs.Data.{data_of}
use Rattle.qtext.specs.RuleWords.{over_text}
use Rattle.qtext.specs.Words.{number}
use Rattle.qtext.proofs.DataFound.{data_fits, data_found}
use Rattle.qtext.proofs.StepsFound.{not_false, Spells, chosen, kept, passed, same_ok, same_word, step_found, told, word_found}
use Rattle.qtext_read.specs.RepliesRead.{limits_of}
use Rattle.qtext_read.specs.Replies.{end_text}
use Rattle.qtext_read.specs.RepliesRead.{as_bad_reply, bytes_of, done_of, edquot_of, end_of, keyword, over_of, quota_of, refusal_of, reply_in, reply_of, reply_word_of, rise_of, signed, stat_of, type_of, words_of_reply}
use Rattle.qtext_read.specs.RepliesSpelled.{refusal_words, reply_words}
use Rattle.qplain.specs.Held.{IsEnd, IsReply}
use Rattle.qtext_read.specs.declared.reply_word.ReplyWord.{ReplyWord}
use Rattle.qtext_read.specs.declared.reply_word.ReplyWord.TheVariants.{Done, Bytes, Stat, Quota, Refused}
use Rattle.qtext_read.proofs.ArgumentsFound.{any_id, any_kind, any_limits, any_number}
use Rattle.qtext_read.proofs.Editions.{OnlyInTwo}

-- ---- words

-- the word with which a reply begins
abbrev first_text : ReplyWord → List ℕ
first_text Done = codes "done"
first_text Bytes = codes "bytes"
first_text Stat = codes "stat"
first_text Quota = codes "quota"
first_text Refused = codes "refused"

first_found : (word : List ℕ) (first : ReplyWord) → reply_word_of word ≡ Ok first → first_text first ≡ word
unfolding reply_word_of
first_found word first e =
    told first_text word Done _ first
    (told first_text word Bytes _ first
    (told first_text word Stat _ first
    (told first_text word Quota _ first
    (told first_text word Refused _ first (λ none. absurd (cc none)))))) e

over_found : Spells over_text (λ over. Unit {0}) over_of
unfolding over_of
over_found word over e = (
  told over_text word InodeHard _ over
      (told over_text word InodeSoft _ over
      (told over_text word BlockHard _ over
      (told over_text word BlockSoft _ over (λ none. absurd (cc none))))) e,
  tt,
)

-- dir or file
abbrev type_text : Bool → List ℕ
type_text dir = if dir then codes "dir" else codes "file"

type_found : Spells type_text (λ dir. Unit {0}) type_of
unfolding type_of
type_found word dir e = (told type_text word true _ dir (told type_text word false _ dir (λ none. absurd (cc none))) e, tt)

end_found : Spells end_text IsEnd end_of
unfolding end_of
end_found word end e =
    chosen (λ o. (end_text o ≡ word) × IsEnd o) word (codes "-") None _ end e (λ dash. rw dash (refl, tt))
    (λ e. word_found any_number word _ e (λ n is fits e. rw (← same_ok e) (is, fits)))

-- a refusal that is spelled in one word is no quota's
record IsNamed (word : List ℕ) (r : Refusal) : Type 0 where
  pub same : refusal_words r ≡ word ∷ []
  pub no_project : reply_names_project (RefusedReply r) ≡ false

-- a refusal of this name, or of one of others
named : (word name : List ℕ) (x : Refusal) (others : Result Refusal TextKind) (y : Refusal) → IsNamed name x
    → (others ≡ Ok y → IsNamed word y) → cond (bytes_eq word name) (Ok x) others ≡ Ok y → IsNamed word y
named word name x others y is other e = chosen (IsNamed word) word name x others y e (λ same. rw same is) other

refusal_found : (word : List ℕ) (r : Refusal) → refusal_of word ≡ Ok r → IsNamed word r
unfolding refusal_of
refusal_found word r e =
    named word (codes "EINVAL") EINVAL _ r (record { same = refl; no_project = refl })
    (named word (codes "ENAMETOOLONG") ENAMETOOLONG _ r (record { same = refl; no_project = refl })
    (named word (codes "ENOENT") ENOENT _ r (record { same = refl; no_project = refl })
    (named word (codes "ENOTDIR") ENOTDIR _ r (record { same = refl; no_project = refl })
    (named word (codes "EEXIST") EEXIST _ r (record { same = refl; no_project = refl })
    (named word (codes "ENOSPC") ENOSPC _ r (record { same = refl; no_project = refl })
    (named word (codes "EISDIR") EISDIR _ r (record { same = refl; no_project = refl })
    (named word (codes "EACCES") EACCES _ r (record { same = refl; no_project = refl })
    (named word (codes "EFBIG") EFBIG _ r (record { same = refl; no_project = refl })
    (named word (codes "EPERM") EPERM _ r (record { same = refl; no_project = refl })
    (named word (codes "EMLINK") EMLINK _ r (record { same = refl; no_project = refl })
    (named word (codes "ENOTEMPTY") ENOTEMPTY _ r (record { same = refl; no_project = refl })
    (named word (codes "EBUSY") EBUSY _ r (record { same = refl; no_project = refl })
    (named word (codes "ESRCH") ESRCH _ r (record { same = refl; no_project = refl }) (λ none. absurd (cc none)))))))))))))))
    e

keyword_found : (wanted word : List ℕ) (u : Unit {0}) → keyword wanted word ≡ Ok u → wanted ≡ word
unfolding keyword
keyword_found wanted word u e = let is = kept _ (Ok tt) BadReply u e in sym (same_word word wanted is.0)

signed_found : (sign : ℕ) → Spells (λ n. sign ∷ decimal n) (λ n. n < 2 ^ 64) (signed sign)
unfolding signed
signed_found sign [] n e = absurd (cc e)
signed_found sign (first ∷ digits) n e =
    let is = kept (eqb first sign) (number digits) BadReply n e in
    let so = any_number digits n is.1 in
    rw (← eqb-true first sign is.0, so.0) (refl, so.1)

-- ---- replies

-- a total and its two numbers
record IsRise (wanted total up down : List ℕ) (rise : ℕ × ℕ) : Type 0 where
  pub same : wanted ≡ total
  pub is_up : 43 ∷ decimal rise.0 ≡ up
  pub is_down : 45 ∷ decimal rise.1 ≡ down
  pub charged : rise.0 < 2 ^ 64
  pub released : rise.1 < 2 ^ 64

rise_found : (wanted total up down : List ℕ) (rise : ℕ × ℕ) → rise_of wanted total up down ≡ Ok rise → IsRise wanted total up down rise
unfolding rise_of
rise_found wanted total up down rise e =
    step_found (keyword wanted total) _ e λ u same e.
    word_found (signed_found 43) up _ e λ charged is_up up_fits e.
    word_found (signed_found 45) down _ e λ released is_down down_fits e.
    rw (← same_ok e) (record {
      same = keyword_found wanted total u same;
      is_up = is_up;
      is_down = is_down;
      charged = up_fits;
      released = down_fits;
    })

-- a directory without size and blocks was not refused
empty_found : (dir : Bool) (size blocks : ℕ) → (dir && (not (size == 0) || not (blocks == 0))) ≡ false → dir ≡ true → (size ≡ 0) × (blocks ≡ 0)
empty_found dir size blocks e is =
    let both = or_parts _ _ (rw is at e) in
    (eqb-true size 0 (not_false _ both.0), eqb-true blocks 0 (not_false _ both.1))

-- the reply is spelled in these words, its parts are what their types can hold, and in edition 1 it names no project
record IsRead (edition : Edition) (words : List (List ℕ)) (r : Reply) : Type 0 where
  pub same : reply_words r ≡ words
  pub fits : IsReply r
  pub old : OnlyInTwo edition (reply_names_project r)

reply_found : (edition : Edition) (first : ReplyWord) (words : List (List ℕ)) (r : Reply) → reply_of edition first words ≡ Ok r
    → IsRead edition (first_text first ∷ words) r
unfolding reply_of done_of bytes_of stat_of quota_of edquot_of
reply_found edition Done (n ∷ b ∷ bu ∷ bd ∷ i ∷ iu ∷ id ∷ []) r e =
    word_found any_number n _ e λ ino is_ino ino_fits e.
    step_found (rise_of (codes "blocks") b bu bd) _ e λ blocks are_blocks e.
    step_found (rise_of (codes "inodes") i iu id) _ e λ inodes are_inodes e.
    let so = rise_found (codes "blocks") b bu bd blocks are_blocks in
    let also = rise_found (codes "inodes") i iu id inodes are_inodes in
    rw (← same_ok e) (record {
      same = rw (is_ino, so.is_up, so.is_down, also.is_up, also.is_down, ← so.same, ← also.same) refl;
      fits = (
        ino_fits,
        record { blocks_charged = so.charged; blocks_released = so.released; inodes_charged = also.charged; inodes_released = also.released },
      );
      old = λ _. refl;
    })
reply_found edition Bytes (digits ∷ []) r e =
    let low = passed (list_any is_ascii_uppercase digits) _ BadReply r e in
    step_found (data_of digits) _ low.1 λ bytes are e.
    rw (← same_ok e) (record { same = rw (data_found digits bytes are low.0) refl; fits = data_fits digits bytes are; old = λ _. refl })
reply_found edition Stat (n ∷ t ∷ u ∷ g ∷ s ∷ b ∷ l ∷ []) r e =
    word_found any_number n _ e λ ino is_ino ino_fits e.
    word_found type_found t _ e λ dir is_dir dir_fits e.
    word_found (any_id BadReply) u _ e λ uid is_uid uid_fits e.
    word_found (any_id BadReply) g _ e λ gid is_gid gid_fits e.
    word_found any_number s _ e λ size is_size size_fits e.
    word_found any_number b _ e λ blocks is_blocks blocks_fits e.
    word_found any_number l _ e λ links is_links links_fits e.
    let empty = passed (dir && (not (size == 0) || not (blocks == 0))) _ BadReply r e in
    rw (← same_ok empty.1) (record {
      same = rw (is_ino, is_dir, is_uid, is_gid, is_size, is_blocks, is_links) refl;
      fits = record {
        ino = ino_fits;
        uid = uid_fits;
        gid = gid_fits;
        size = size_fits;
        blocks = blocks_fits;
        links = links_fits;
        empty = empty_found dir size blocks empty.0;
      };
      old = λ _. refl;
    })
reply_found edition Quota (b ∷ i ∷ bs ∷ bh ∷ is ∷ ih ∷ be ∷ ie ∷ []) r e =
    word_found any_number b _ e λ blocks is_blocks blocks_fits e.
    word_found any_number i _ e λ inodes is_inodes inodes_fits e.
    step_found (limits_of bs bh is ih) _ e λ limits are_limits e.
    word_found end_found be _ e λ block_end is_block_end block_end_fits e.
    word_found end_found ie _ e λ inode_end is_inode_end inode_end_fits e.
    let so = any_limits bs bh is ih limits are_limits in
    rw (← same_ok e) (record {
      same = rw (is_blocks, is_inodes, is_block_end, is_inode_end)
          (ap (λ (ws : List (List ℕ)). codes "quota" ∷ b ∷ i ∷ (ws ++ be ∷ ie ∷ [])) so.0);
      fits = record { blocks = blocks_fits; inodes = inodes_fits; limits = so.1; block_end = block_end_fits; inode_end = inode_end_fits };
      old = λ _. refl;
    })
reply_found edition Refused (name ∷ []) r e =
    step_found (refusal_of name) _ e λ refusal is e.
    let so = refusal_found name refusal is in
    rw (← same_ok e) (record { same = rw so.same refl; fits = tt; old = λ _. so.no_project })
reply_found edition Refused (name ∷ k ∷ o ∷ []) r e =
    step_found (keyword (codes "EDQUOT") name) _ e λ u same e.
    word_found (any_kind edition) k _ e λ kind is_kind kind_fits e.
    word_found over_found o _ e λ over is_over over_fits e.
    rw (← same_ok e) (record {
      same = rw (is_kind, is_over, ← keyword_found (codes "EDQUOT") name u same) refl;
      fits = tt;
      old = kind_fits;
    })
reply_found edition first words r e = absurd (cc e)

all_found : (edition : Edition) (words : List (List ℕ)) (r : Reply) → words_of_reply edition words ≡ Ok r → IsRead edition words r
unfolding words_of_reply
all_found edition [] r e = absurd (cc e)
all_found edition (w ∷ words) r e =
    step_found (reply_word_of w) _ e λ first is e.
    let so = reply_found edition first words r e in
    record { same = so.same ∙ rw (first_found w first is) refl; fits = so.fits; old = so.old }

-- the words that a reply was read from are those that it is spelled in
pub any_reply : (edition : Edition) (words : List (List ℕ)) (r : Reply) → reply_in edition words ≡ Ok r
    → (reply_words r ≡ words) × IsReply r × OnlyInTwo edition (reply_names_project r)
any_reply edition words r e =
    let so = all_found edition words r (good (words_of_reply edition words) e) in (so.same, so.fits, so.old)
  where
    good : (read : Result Reply TextKind) → as_bad_reply read ≡ Ok r → read ≡ Ok r
    good (Ok x) e = e
    good (Err kind) e = absurd (cc e)
