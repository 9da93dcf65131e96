-- Replies of a journal of an edition read from the words that spell them (profile).
use Rattle.std.specs.Prelude.{ℕ, ◌==◌, ◌&&◌, ◌||◌, Bool, true, false, not, List, [], ◌∷◌, codes, Option, Some, None}
use Rattle.std.specs.Prelude.{Result, Ok, Err, if◌then◌else◌}
use Rattle.std.specs.Char.{is_ascii_uppercase}
use Rattle.std.specs.List.{list_any}
use Rattle.std.specs.Str.{bytes_eq}
use Rattle.qrules.specs.declared.limits.Limits.{Limits}
use Rattle.qrules.specs.declared.over.Over.{Over}
use Rattle.qrules.specs.declared.over.Over.TheVariants.{InodeHard, InodeSoft, BlockHard, BlockSoft}
use Rattle.qplain.specs.declared.edition.Edition.{Edition}
use Rattle.qplain.specs.declared.refusal.Refusal.{Refusal}
use Rattle.qplain.specs.declared.refusal.Refusal.TheVariants.{EINVAL, ENAMETOOLONG, ENOENT, ENOTDIR, EEXIST, ENOSPC}
use Rattle.qplain.specs.declared.refusal.Refusal.TheVariants.{EDQUOT, EISDIR, EACCES, EFBIG, EPERM, EMLINK, ENOTEMPTY}
use Rattle.qplain.specs.declared.refusal.Refusal.TheVariants.{EBUSY, ESRCH}
use Rattle.qplain.specs.declared.reply.Reply.{Reply}
use Rattle.qplain.specs.declared.reply.Reply.TheVariants as replies
use Rattle.qtext.specs.declared.text_fault.TextKind.{TextKind}
use Rattle.qtext.specs.declared.text_fault.TextKind.TheVariants.{BadReply}
use Rattle.qtext.specs.Data.{data_of}
use Rattle.qtext.specs.Reading.{◌>>=◌}
use Rattle.qtext.specs.Words.{id_of, number}
use Rattle.qtext_read.specs.Arguments.{kind_of}
use Rattle.qtext_read.specs.declared.reply_word.ReplyWord.{ReplyWord}
use Rattle.qtext_read.specs.declared.reply_word.ReplyWord.TheVariants.{Done, Bytes, Stat, Quota, Refused}

-- the first word of a reply
unfoldable pub reply_word_of : List ℕ → Result ReplyWord TextKind
reply_word_of word =
    if bytes_eq word (codes "done") then Ok Done
    else if bytes_eq word (codes "bytes") then Ok Bytes
    else if bytes_eq word (codes "stat") then Ok Stat
    else if bytes_eq word (codes "quota") then Ok Quota
    else if bytes_eq word (codes "refused") then Ok Refused
    else Err BadReply

-- the refusal of a name, but for EDQUOT, after which more words stand
unfoldable pub refusal_of : List ℕ → Result Refusal TextKind
refusal_of word =
    if bytes_eq word (codes "EINVAL") then Ok EINVAL
    else if bytes_eq word (codes "ENAMETOOLONG") then Ok ENAMETOOLONG
    else if bytes_eq word (codes "ENOENT") then Ok ENOENT
    else if bytes_eq word (codes "ENOTDIR") then Ok ENOTDIR
    else if bytes_eq word (codes "EEXIST") then Ok EEXIST
    else if bytes_eq word (codes "ENOSPC") then Ok ENOSPC
    else if bytes_eq word (codes "EISDIR") then Ok EISDIR
    else if bytes_eq word (codes "EACCES") then Ok EACCES
    else if bytes_eq word (codes "EFBIG") then Ok EFBIG
    else if bytes_eq word (codes "EPERM") then Ok EPERM
    else if bytes_eq word (codes "EMLINK") then Ok EMLINK
    else if bytes_eq word (codes "ENOTEMPTY") then Ok ENOTEMPTY
    else if bytes_eq word (codes "EBUSY") then Ok EBUSY
    else if bytes_eq word (codes "ESRCH") then Ok ESRCH
    else Err BadReply

-- the limit of a name
unfoldable pub over_of : List ℕ → Result Over TextKind
over_of word =
    if bytes_eq word (codes "inode-hard") then Ok InodeHard
    else if bytes_eq word (codes "inode-soft") then Ok InodeSoft
    else if bytes_eq word (codes "block-hard") then Ok BlockHard
    else if bytes_eq word (codes "block-soft") then Ok BlockSoft
    else Err BadReply

-- the word is the one that is wanted
unfoldable pub keyword : List ℕ → List ℕ → Result Unit TextKind
keyword wanted word = if bytes_eq word wanted then Ok tt else Err BadReply

-- a number after its sign
unfoldable pub signed : ℕ → List ℕ → Result ℕ TextKind
signed sign [] = Err BadReply
signed sign (first ∷ digits) = if first == sign then number digits else Err BadReply

-- a total, and by how much it rose and fell
unfoldable pub rise_of : List ℕ → List ℕ → List ℕ → List ℕ → Result (ℕ × ℕ) TextKind
rise_of wanted total up down = do
  same ← keyword wanted total
  charged ← signed 43 up
  released ← signed 45 down
  Ok (charged, released)

-- INO blocks +C -R inodes +C -R
unfoldable pub done_of : List ℕ → List ℕ → List ℕ → List ℕ → List ℕ → List ℕ → List ℕ → Result Reply TextKind
done_of n b bu bd i iu id = do
  ino ← number n
  blocks ← rise_of (codes "blocks") b bu bd
  inodes ← rise_of (codes "inodes") i iu id
  Ok (replies.Done ino (record {
    blocks_charged = blocks.0;
    blocks_released = blocks.1;
    inodes_charged = inodes.0;
    inodes_released = inodes.1;
  }))

-- the bytes that were read, in lower case
unfoldable pub bytes_of : List ℕ → Result Reply TextKind
bytes_of digits = if list_any is_ascii_uppercase digits then Err BadReply else (do
  bytes ← data_of digits
  Ok (replies.Bytes bytes))

-- whether it is a directory
unfoldable pub type_of : List ℕ → Result Bool TextKind
type_of word =
    if bytes_eq word (codes "dir") then Ok true
    else if bytes_eq word (codes "file") then Ok false
    else Err BadReply

-- INO file UID GID SIZE BLOCKS LINKS, or dir, of size 0 and blocks 0
unfoldable pub stat_of : List ℕ → List ℕ → List ℕ → List ℕ → List ℕ → List ℕ → List ℕ → Result Reply TextKind
stat_of n t u g s b l = do
  ino ← number n
  dir ← type_of t
  uid ← id_of BadReply u
  gid ← id_of BadReply g
  size ← number s
  blocks ← number b
  links ← number l
  if dir && (not (size == 0) || not (blocks == 0)) then Err BadReply else Ok (replies.Stat (record {
    ino = ino;
    dir = dir;
    uid = uid;
    gid = gid;
    size = size;
    blocks = blocks;
    links = links;
  }))

-- a grace end, or a dash where none stands
unfoldable pub end_of : List ℕ → Result (Option ℕ) TextKind
end_of word = if bytes_eq word (codes "-") then Ok None else (do
  end ← number word
  Ok (Some end))

-- BSOFT BHARD ISOFT IHARD
unfoldable pub limits_of : List ℕ → List ℕ → List ℕ → List ℕ → Result Limits TextKind
limits_of bs bh is ih = do
  block_soft ← number bs
  block_hard ← number bh
  inode_soft ← number is
  inode_hard ← number ih
  Ok (record { block_soft = block_soft; block_hard = block_hard; inode_soft = inode_soft; inode_hard = inode_hard })

-- BLOCKS INODES BSOFT BHARD ISOFT IHARD BEND IEND
unfoldable pub quota_of : List ℕ → List ℕ → List ℕ → List ℕ → List ℕ → List ℕ → List ℕ → List ℕ → Result Reply TextKind
quota_of b i bs bh is ih be ie = do
  blocks ← number b
  inodes ← number i
  limits ← limits_of bs bh is ih
  block_end ← end_of be
  inode_end ← end_of ie
  Ok (replies.Quota (record {
    blocks = blocks;
    inodes = inodes;
    limits = limits;
    block_end = block_end;
    inode_end = inode_end;
  }))

-- EDQUOT KIND OVER
unfoldable pub edquot_of : Edition → List ℕ → List ℕ → List ℕ → Result Reply TextKind
edquot_of edition name k o = do
  same ← keyword (codes "EDQUOT") name
  kind ← kind_of edition k
  over ← over_of o
  Ok (replies.Refused (EDQUOT kind over))

-- as many words as the first wants, each in its place
unfoldable pub reply_of : Edition → ReplyWord → List (List ℕ) → Result Reply TextKind
reply_of edition Done (n ∷ b ∷ bu ∷ bd ∷ i ∷ iu ∷ id ∷ []) = done_of n b bu bd i iu id
reply_of edition Bytes (digits ∷ []) = bytes_of digits
reply_of edition Stat (n ∷ t ∷ u ∷ g ∷ s ∷ b ∷ l ∷ []) = stat_of n t u g s b l
reply_of edition Quota (b ∷ i ∷ bs ∷ bh ∷ is ∷ ih ∷ be ∷ ie ∷ []) = quota_of b i bs bh is ih be ie
reply_of edition Refused (name ∷ []) = do
  refusal ← refusal_of name
  Ok (replies.Refused refusal)
reply_of edition Refused (name ∷ kind ∷ over ∷ []) = edquot_of edition name kind over
reply_of _ _ _ = Err BadReply

-- the reply of words, whatever may be wrong with them
unfoldable pub words_of_reply : Edition → List (List ℕ) → Result Reply TextKind
words_of_reply edition [] = Err BadReply
words_of_reply edition (w ∷ ws) = do
  first ← reply_word_of w
  reply_of edition first ws

-- whatever is wrong is one fault
abbrev pub as_bad_reply : Result Reply TextKind → Result Reply TextKind
as_bad_reply (Ok reply) = Ok reply
as_bad_reply (Err kind) = Err BadReply

-- the reply that words spell
abbrev pub reply_in : Edition → List (List ℕ) → Result Reply TextKind
reply_in edition ws = as_bad_reply (words_of_reply edition ws)
