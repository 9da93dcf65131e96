-- Lines in parts: what is put before a word of any length, the word, and what is put after it.
use Rattle.std.proofs.Common.{◌≡◌, ℕ, List, [], ◌∷◌, ◌++◌, Option, Result, append_assoc, codes, decimal}
use Rattle.std.proofs.lemmas.List.{append-nil}
use Rattle.qrules.specs.declared.record_row.RecordRow.{RecordRow}
use Rattle.qplain.specs.State.{NameKey}
use Rattle.qtext.specs.Pieces.{data_text}
use Rattle.qtext.specs.RuleWords.{kind_text}
use Rattle.qtext.specs.Written.{Partly, Writes}
use Rattle.qtext.proofs.Fronts.{partly_last, partly_on}
use Rattle.qtext_read.specs.Replies.{end_text}
use Rattle.qtext_read.specs.Spelling.{limits_words}
use Rattle.qtext_write.specs.Texts.{spaced}
use Rattle.qplain_image.specs.Rows.{Block}
use Rattle.qtext_image.specs.Spelling.{row_text}
use Rattle.qtext_image_write.specs.Lines.{name_text, record_text}

-- what is left of a part is written, and with it what stands after the part
pub written_after : {T E : Type 0} (a b c : Option (List ℕ)) (r : Result T E) (part rest more last : List ℕ)
    → Partly a b part rest → Writes b c r (rest ++ more ++ last) → Writes a c r (part ++ (more ++ last))
written_after a b c r part rest more last p w =
    partly_last a b c r _ _ (partly_on a b part rest (more ++ last) p) (rw (append_assoc rest more last) at w)

-- the line of a block up to its data
abbrev pub head_of_block : ℕ → List ℕ
head_of_block k = ([] ++ codes "block" ++ 32 ∷ decimal k) ++ 32 ∷ []

block_regrouped : (s k d n : List ℕ) → codes "block" ++ (s ++ (k ++ (s ++ d))) ++ n
    ≡ (([] ++ codes "block" ++ (s ++ k)) ++ s) ++ d ++ n
block_regrouped s k d n = simp append_assoc

pub block_parts : (k : ℕ) (bytes : List ℕ)
    → row_text (Block (k, bytes)) ≡ head_of_block k ++ data_text bytes ++ codes "\n"
block_parts k bytes = block_regrouped (32 ∷ []) (decimal k) (data_text bytes) (codes "\n")

-- the line of a name up to the name itself
abbrev pub head_of_name : ℕ → List ℕ
head_of_name dir = ([] ++ codes "name" ++ 32 ∷ decimal dir) ++ 32 ∷ []

name_regrouped : (s d w i n : List ℕ) → codes "name" ++ (s ++ (d ++ (s ++ (w ++ (s ++ i))))) ++ n
    ≡ (([] ++ codes "name" ++ (s ++ d)) ++ s) ++ w ++ ((s ++ i) ++ n)
name_regrouped s d w i n = simp append_assoc

pub name_parts : (e : NameKey × ℕ) → name_text e ≡ head_of_name e.0.0 ++ e.0.1 ++ (32 ∷ decimal e.1 ++ codes "\n")
name_parts e = name_regrouped (32 ∷ []) (decimal e.0.0) e.0.1 (decimal e.1) (codes "\n")

-- the line of a record up to its name, and after it
abbrev pub identity_text : RecordRow → List ℕ
identity_text r = kind_text r.kind ++ 32 ∷ decimal r.id ++ 32 ∷ r.name

abbrev pub account_text : RecordRow → List ℕ
account_text r = 32 ∷ decimal r.blocks ++ 32 ∷ decimal r.inodes
    ++ spaced (limits_words r.limits) ++ 32 ∷ end_text r.block_end ++ 32 ∷ end_text r.inode_end

-- the first three words and the last eight
record_regrouped : (s k i w b n x y z u e f l : List ℕ)
    → k ++ (s ++ (i ++ (s ++ (w ++ (s ++ (b ++ (s ++ (n
    ++ (s ++ (x ++ (s ++ (y ++ (s ++ (z ++ (s ++ (u ++ (s ++ (e ++ (s ++ f))))))))))))))))))) ++ l
    ≡ (k ++ (s ++ i) ++ (s ++ w)) ++ (((s ++ b) ++ (s ++ n)
    ++ ((s ++ x) ++ ((s ++ y) ++ ((s ++ z) ++ ((s ++ u) ++ [])))) ++ (s ++ e) ++ (s ++ f)) ++ l)
record_regrouped s k i w b n x y z u e f l = simp (append_assoc, append-nil)

pub record_parts : (r : RecordRow) → record_text r ≡ identity_text r ++ (account_text r ++ codes "\n")
record_parts r =
    let l = r.limits in
    record_regrouped (32 ∷ []) (kind_text r.kind) (decimal r.id) r.name (decimal r.blocks) (decimal r.inodes)
    (decimal l.block_soft) (decimal l.block_hard) (decimal l.inode_soft) (decimal l.inode_hard)
    (end_text r.block_end) (end_text r.inode_end) (codes "\n")
