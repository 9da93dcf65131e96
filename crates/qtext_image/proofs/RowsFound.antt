-- The rows of an image that were read are spelled out as they stood in their lines.
use Rattle.std.proofs.Common.{◌≡◌, ℕ, Bool, true, false, cond, List, [], ◌∷◌, ◌++◌, None, Result, Ok, refl, ap, codes, decimal}
use Rattle.std.specs.Char.{is_ascii_uppercase}
use Rattle.std.specs.List.{list_any}
use Rattle.std.specs.Str.{bytes_eq}
use Rattle.hex.specs.Hex.{IsBytes}
use Rattle.qrules.specs.declared.kind.Kind.{Kind}
use Rattle.qrules.specs.declared.kind.Kind.TheVariants.{User, Group, Project}
use Rattle.qplain.specs.declared.owners.Owners.{Owners}
use Rattle.qplain.specs.Held.{IsEnd}
use Rattle.qplain_image.specs.Rows.{Row}
use Rattle.qtext.specs.declared.text_fault.TextKind.{TextKind}
use Rattle.qtext.specs.declared.text_fault.TextKind.TheVariants.{BadHex}
use Rattle.qtext.specs.Data.{data_of}
use Rattle.qtext.specs.Pieces.{data_text}
use Rattle.qtext.specs.RuleWords.{kind_text}
use Rattle.qtext.proofs.DataFound.{data_fits, data_found}
use Rattle.qtext.proofs.StepsFound.{Spells, chosen, passed, same_ok, same_word, step_found, word_found}
use Rattle.qtext_read.specs.RepliesRead.{end_of, limits_of}
use Rattle.qtext_read.specs.Replies.{end_text}
use Rattle.qtext_read.specs.Spelling.{owner_text}
use Rattle.qtext_read.proofs.ArgumentsFound.{any_id, any_limits, any_number, any_owner, any_path}
use Rattle.qtext_image.specs.Held.{AreOwners, IsRow}
use Rattle.qtext_image.specs.RowsRead.{block_row_in, bounds_in, directory_in, file_in, graces_in, lower_data_of, name_in, owners_of, record_in, row_by, row_in}
use Rattle.qtext_image.specs.Spelling.{row_words}

-- ---- words

end_found : Spells end_text IsEnd end_of
unfolding end_of
end_found word end e =
    chosen (λ o. (end_text o ≡ word) × IsEnd o) word (codes "-") None _ end e (λ dash. rw dash (refl, tt))
    (λ e. word_found any_number word _ e (λ n is fits e. rw (← same_ok e) (is, fits)))

lower_found : Spells data_text IsBytes lower_data_of
unfolding lower_data_of
lower_found word bytes e =
    let is = passed (list_any is_ascii_uppercase word) (data_of word) BadHex bytes e in
    (data_found word bytes is.1 is.0, data_fits word bytes is.1)

-- ids of owners in their three words
record FindsOwners (u g p : List ℕ) (o : Owners) : Type 0 where
  uid : decimal o.uid ≡ u
  gid : decimal o.gid ≡ g
  project : owner_text o.project ≡ p
  fits : AreOwners o

owners_found : (u g p : List ℕ) (o : Owners) → owners_of u g p ≡ Ok o → FindsOwners u g p o
unfolding owners_of
owners_found u g p o e =
    word_found (any_id _) u _ e λ uid is_uid fu e.
    word_found (any_id _) g _ e λ gid is_gid fg e.
    word_found any_owner p _ e λ project is_project fp e.
    rw (← same_ok e) (record { uid = is_uid; gid = is_gid; project = is_project; fits = record { uid = fu; gid = fg; project = fp } })

-- ---- rows

-- the row is spelled in these words
abbrev pub IsSpelled : List (List ℕ) → Row → Type 0
IsSpelled ws r = (row_words r ≡ ws) × IsRow r

bounds_found : (ws : List (List ℕ)) (r : Row) → bounds_in ws ≡ Ok r → IsSpelled (codes "store" ∷ ws) r
unfolding bounds_in
bounds_found (s ∷ m ∷ n ∷ []) r e =
    word_found any_number s _ e λ size is_size fs e.
    word_found any_number m _ e λ most is_most fm e.
    word_found any_number n _ e λ next is_next fn e.
    rw (← same_ok e) (rw (is_size, is_most, is_next) refl, (fs, fm, fn))
bounds_found ws r e = absurd (cc e)

graces_found : (ws : List (List ℕ)) (r : Row) → graces_in ws ≡ Ok r → IsSpelled (codes "graces" ∷ ws) r
unfolding graces_in
graces_found (b ∷ i ∷ []) r e =
    word_found any_number b _ e λ block is_block fb e.
    word_found any_number i _ e λ inode is_inode fi e.
    rw (← same_ok e) (rw (is_block, is_inode) refl, (fb, fi))
graces_found ws r e = absurd (cc e)

record_found : (kind : Kind) (ws : List (List ℕ)) (r : Row) → record_in kind ws ≡ Ok r → IsSpelled (kind_text kind ∷ ws) r
unfolding record_in
record_found kind (d ∷ n ∷ b ∷ i ∷ bs ∷ bh ∷ is ∷ ih ∷ be ∷ ie ∷ []) r e =
    word_found (any_id _) d _ e λ id is_id fid e.
    word_found any_path n _ e λ name is_name fname e.
    word_found any_number b _ e λ blocks is_blocks fb e.
    word_found any_number i _ e λ inodes is_inodes fi e.
    step_found (limits_of bs bh is ih) _ e λ limits are e.
    word_found end_found be _ e λ block_end is_block_end fbe e.
    word_found end_found ie _ e λ inode_end is_inode_end fie e.
    let so = any_limits bs bh is ih limits are in
    rw (← same_ok e) (
      rw (is_id, is_name, is_blocks, is_inodes, is_block_end, is_inode_end)
          (ap (λ (ws : List (List ℕ)). kind_text kind ∷ d ∷ n ∷ b ∷ i ∷ (ws ++ be ∷ ie ∷ [])) so.0),
      (record { id = fid; name = fname; limits = so.1; block_end = fbe; inode_end = fie }, fb, fi),
    )
record_found kind ws r e = absurd (cc e)

directory_found : (ws : List (List ℕ)) (r : Row) → directory_in ws ≡ Ok r → IsSpelled (codes "dir" ∷ ws) r
unfolding directory_in
directory_found (n ∷ u ∷ g ∷ p ∷ []) r e =
    word_found any_number n _ e λ number is_number fn e.
    step_found (owners_of u g p) _ e λ owners are e.
    let so = owners_found u g p owners are in
    rw (← same_ok e) (rw (is_number, so.uid, so.gid, so.project) refl, (fn, so.fits))
directory_found ws r e = absurd (cc e)

file_found : (ws : List (List ℕ)) (r : Row) → file_in ws ≡ Ok r → IsSpelled (codes "file" ∷ ws) r
unfolding file_in
file_found (n ∷ u ∷ g ∷ p ∷ s ∷ []) r e =
    word_found any_number n _ e λ number is_number fn e.
    step_found (owners_of u g p) _ e λ owners are e.
    word_found any_number s _ e λ size is_size fs e.
    let so = owners_found u g p owners are in
    rw (← same_ok e) (rw (is_number, so.uid, so.gid, so.project, is_size) refl, (fn, so.fits, fs))
file_found ws r e = absurd (cc e)

block_found : (ws : List (List ℕ)) (r : Row) → block_row_in ws ≡ Ok r → IsSpelled (codes "block" ∷ ws) r
unfolding block_row_in
block_found (k ∷ d ∷ []) r e =
    word_found any_number k _ e λ index is_index fk e.
    word_found lower_found d _ e λ bytes are fb e.
    rw (← same_ok e) (rw (is_index, are) refl, (fk, fb))
block_found ws r e = absurd (cc e)

name_found : (ws : List (List ℕ)) (r : Row) → name_in ws ≡ Ok r → IsSpelled (codes "name" ∷ ws) r
unfolding name_in
name_found (d ∷ n ∷ i ∷ []) r e =
    word_found any_number d _ e λ dir is_dir fd e.
    word_found any_path n _ e λ name is_name fname e.
    word_found any_number i _ e λ number is_number fi e.
    rw (← same_ok e) (rw (is_dir, is_name, is_number) refl, (fd, fname, fi))
name_found ws r e = absurd (cc e)

-- a word that tells which row it is
by_word : (P : List (List ℕ) → Row → Type 0) (verb wanted : List ℕ) (rest : List (List ℕ)) (this others : Result Row TextKind) (r : Row)
    → cond (bytes_eq verb wanted) this others ≡ Ok r → (this ≡ Ok r → P (wanted ∷ rest) r) → (others ≡ Ok r → P (verb ∷ rest) r) → P (verb ∷ rest) r
by_word P verb wanted rest this others r e one other = by (bytes_eq verb wanted) refl e
  where
    by : (test : Bool) → bytes_eq verb wanted ≡ test → cond test this others ≡ Ok r → P (verb ∷ rest) r
    by true same e = rw (same_word verb wanted same) (one e)
    by false same e = other e

row_by_found : (verb : List ℕ) (rest : List (List ℕ)) (r : Row) → row_by verb rest ≡ Ok r → IsSpelled (verb ∷ rest) r
unfolding row_by
row_by_found verb rest r e =
    by_word IsSpelled verb (codes "store") rest (bounds_in rest) _ r e (bounds_found rest r) λ e.
    by_word IsSpelled verb (codes "graces") rest (graces_in rest) _ r e (graces_found rest r) λ e.
    by_word IsSpelled verb (codes "user") rest (record_in User rest) _ r e (record_found User rest r) λ e.
    by_word IsSpelled verb (codes "group") rest (record_in Group rest) _ r e (record_found Group rest r) λ e.
    by_word IsSpelled verb (codes "project") rest (record_in Project rest) _ r e (record_found Project rest r) λ e.
    by_word IsSpelled verb (codes "dir") rest (directory_in rest) _ r e (directory_found rest r) λ e.
    by_word IsSpelled verb (codes "file") rest (file_in rest) _ r e (file_found rest r) λ e.
    by_word IsSpelled verb (codes "block") rest (block_row_in rest) _ r e (block_found rest r) λ e.
    by_word IsSpelled verb (codes "name") rest (name_in rest) _ r e (name_found rest r) λ e. absurd (cc e)

pub row_found : (ws : List (List ℕ)) (r : Row) → row_in ws ≡ Ok r → IsSpelled ws r
unfolding row_in
row_found [] r e = absurd (cc e)
row_found (verb ∷ rest) r e = row_by_found verb rest r e
