-- Images that are spelled out are read again.
use Rattle.std.proofs.Common.{◌≡◌, ℕ, ◌+◌, ◌<◌, ◌≤◌, ◌^◌, true, false, List, [], ◌∷◌, ◌++◌, Option, Some, None, Ok, refl, sym, ap, subst, ◌∙◌, append-nil, append_assoc, arith, codes, decimal}
use Rattle.std.specs.List.{flat_map, join_with_byte, AllByRecursion}
use Rattle.qrules.specs.declared.kind.Kind.{Kind}
use Rattle.qrules.specs.declared.kind.Kind.TheVariants.{User, Group, Project}
use Rattle.qplain.specs.declared.edition.Edition.{Edition}
use Rattle.qplain.specs.declared.edition.Edition.TheVariants.{One, Two}
use Rattle.qplain.specs.declared.owners.Owners.{Owners}
use Rattle.qplain.specs.Editions.{file_limit_of}
use Rattle.qplain.specs.Held.{IsEnd}
use Rattle.qplain.specs.State.{Holder, State}
use Rattle.qplain_image.specs.Rows.{Row, Bounds, Grace, Record, Directory, FileHead, Block, Name, made_of, rows_of}
use Rattle.qplain_image.proofs.Remaking.{states_are_made_again}
use Rattle.qtext.specs.declared.text_fault.TextKind.TheVariants.{BadHead}
use Rattle.qtext.specs.Words.{parts}
use Rattle.qtext.proofs.WordsAgain.{are_digits, data_again, number_again}
use Rattle.qtext.specs.RuleWords.{kind_text}
use Rattle.qtext_read.specs.Replies.{end_text}
use Rattle.qtext_read.specs.Spelling.{owner_text}
use Rattle.qtext_read.proofs.ArgumentsAgain.{any_id, digits_lack_dash, data_word, decimal_word, id_word, kind_word, owner_again, owner_word, path_again}
use Rattle.qtext_read.proofs.CallsAgain.{IsWord, any_number, limits_again}
use Rattle.qtext_read.specs.RepliesRead.{end_of}
use Rattle.qtext_read.proofs.RepliesAgain.{lower_data}
use Rattle.qtext_files.specs.RawLines.{RawLine, raw_lines_from}
use Rattle.qtext_files.specs.Spelling.{edition_text}
use Rattle.qtext_files.proofs.LinesAgain.{joined_is_text, joined_parts, raw_again}
use Rattle.qtext_files.proofs.RawLines.{no_line}
use Rattle.qtext_files.specs.Journals.{edition_of, head_keyword}
use Rattle.qtext_image.specs.Held.{AreOwners, IsRow}
use Rattle.qtext_image.specs.Counts.{count_fault}
use Rattle.qtext_image.specs.Images.{MAX_PLACE, head_in, image_in, is_end, rows_at_end, rows_up_to_end, unless_miscounted, words_of}
use Rattle.qtext_image.specs.RowsRead.{block_row_in, bounds_in, directory_in, file_in, graces_in, lower_data_of, name_in, owners_of, record_in, row_by, row_in}
use Rattle.qtext_image.specs.Laws.{ImagesAreReadAgain}
use Rattle.qtext_image.proofs.Balanced.{no-count-fails, rows-balanced, state-balanced}
use Rattle.qtext_image.proofs.Begun.{no-line-fails}
use Rattle.qtext_image.proofs.Prefixes.{Passes}
use Rattle.qtext_image.proofs.Typed.{rows-typed}
use Rattle.qtext_image.specs.Spelling.{end_line, head_words, owners_words, row_text, row_words}

-- ---- rows

end_again : (end : Option ℕ) → IsEnd end → end_of (end_text end) ≡ Ok end
unfolding end_of
end_again None fits = refl
end_again (Some end) fits = rw (digits_lack_dash (decimal end) (are_digits end fits), any_number end fits) refl

end_word : (end : Option ℕ) → IsEnd end → IsWord (end_text end)
end_word None fits = refl
end_word (Some end) fits = decimal_word end fits

owners_again : (o : Owners) → AreOwners o → owners_of (decimal o.uid) (decimal o.gid) (owner_text o.project) ≡ Ok o
unfolding owners_of
owners_again o is = rw (any_id o.uid is.uid, any_id o.gid is.gid, owner_again o.project is.project) refl

record_again : (h : Holder) (blocks inodes : ℕ) → IsRow (Record h blocks inodes)
    → record_in h.kind (decimal h.id ∷ h.name ∷ decimal blocks ∷ decimal inodes ∷ decimal h.limits.block_soft ∷ decimal h.limits.block_hard
    ∷ decimal h.limits.inode_soft ∷ decimal h.limits.inode_hard ∷ end_text h.block_end ∷ end_text h.inode_end ∷ []) ≡ Ok (Record h blocks inodes)
unfolding record_in
record_again h blocks inodes is = rw (
  any_id h.id is.0.id,
  path_again h.name is.0.name,
  any_number blocks is.1,
  any_number inodes is.2,
  limits_again h.limits is.0.limits,
  end_again h.block_end is.0.block_end,
  end_again h.inode_end is.0.inode_end,
) refl

kind_row : (k : Kind) (rest : List (List ℕ)) → row_by (kind_text k) rest ≡ record_in k rest
unfolding row_by
kind_row User rest = refl
kind_row Group rest = refl
kind_row Project rest = refl

row_again : (r : Row) → IsRow r → row_in (row_words r) ≡ Ok r
unfolding row_in row_by bounds_in graces_in directory_in file_in block_row_in lower_data_of name_in
row_again (Bounds size most next) is = rw (any_number size is.0, any_number most is.1, any_number next is.2) refl
row_again (Grace g) is = rw (any_number g.block is.0, any_number g.inode is.1) refl
row_again (Record h blocks inodes) is = kind_row h.kind _ ∙ record_again h blocks inodes is
row_again (Directory number owners) is = rw (any_number number is.0, owners_again owners is.1) refl
row_again (FileHead number owners size) is = rw (any_number number is.0, owners_again owners is.1, any_number size is.2) refl
row_again (Block b) is = rw (any_number b.0 is.0, lower_data b.1 is.1, data_again b.1 is.1) refl
row_again (Name key number) is = rw (any_number key.0 is.0, path_again key.1 is.1, any_number number is.2) refl

owners_word : (o : Owners) (rest : List (List ℕ)) → AreOwners o → AllByRecursion IsWord rest → AllByRecursion IsWord (owners_words o rest)
owners_word o rest is more = (id_word o.uid is.uid, (id_word o.gid is.gid, (owner_word o.project is.project, more)))

row_word : (r : Row) → IsRow r → AllByRecursion IsWord (row_words r)
row_word (Bounds size most next) is = (refl, (decimal_word size is.0, (decimal_word most is.1, (decimal_word next is.2, tt))))
row_word (Grace g) is = (refl, (decimal_word g.block is.0, (decimal_word g.inode is.1, tt)))
row_word (Record h blocks inodes) is = (
  kind_word h.kind,
  (
    id_word h.id is.0.id,
    (
      is.0.name.each,
      (
        decimal_word blocks is.1,
        (
          decimal_word inodes is.2,
          (
            decimal_word h.limits.block_soft is.0.limits.block_soft,
            (
              decimal_word h.limits.block_hard is.0.limits.block_hard,
              (
                decimal_word h.limits.inode_soft is.0.limits.inode_soft,
                (
                  decimal_word h.limits.inode_hard is.0.limits.inode_hard,
                  (end_word h.block_end is.0.block_end, (end_word h.inode_end is.0.inode_end, tt)),
                ),
              ),
            ),
          ),
        ),
      ),
    ),
  ),
)
row_word (Directory number owners) is = (refl, (decimal_word number is.0, owners_word owners [] is.1 tt))
row_word (FileHead number owners size) is =
    (refl, (decimal_word number is.0, owners_word owners (decimal size ∷ []) is.1 (decimal_word size is.2, tt)))
row_word (Block b) is = (refl, (decimal_word b.0 is.0, (data_word b.1 is.1, tt)))
row_word (Name key number) is = (refl, (decimal_word key.0 is.0, (is.1.each, (decimal_word number is.2, tt))))

-- ---- lines

-- words that have a first one
record HasFirst (ws : List (List ℕ)) : Type 0 where
  first : List ℕ
  others : List (List ℕ)
  is : ws ≡ first ∷ others

row_first : (r : Row) → HasFirst (row_words r)
row_first (Bounds size most next) = record { first = _; others = _; is = refl }
row_first (Grace g) = record { first = _; others = _; is = refl }
row_first (Record h blocks inodes) = record { first = _; others = _; is = refl }
row_first (Directory number owners) = record { first = _; others = _; is = refl }
row_first (FileHead number owners size) = record { first = _; others = _; is = refl }
row_first (Block b) = record { first = _; others = _; is = refl }
row_first (Name key number) = record { first = _; others = _; is = refl }

-- a line of words, as it is read
abbrev line_at : ℕ → List (List ℕ) → RawLine
line_at n ws = record { number = n; bytes = join_with_byte 32 ws; whole = true }

lines_of : (n : ℕ) (ws : List (List ℕ)) (rest : List ℕ) → HasFirst ws → AllByRecursion IsWord ws
    → raw_lines_from n (parts 10 ((join_with_byte 32 ws ++ 10 ∷ []) ++ rest)) ≡ line_at n ws ∷ raw_lines_from (n + 1) (parts 10 rest)
lines_of n ws rest has fits =
    subst (λ xs. AllByRecursion IsWord xs → raw_lines_from n (parts 10 ((join_with_byte 32 xs ++ 10 ∷ []) ++ rest))
    ≡ line_at n xs ∷ raw_lines_from (n + 1) (parts 10 rest)) (sym has.is)
    (λ each. raw_again n has.first has.others rest each) fits

words_again : (n : ℕ) (ws : List (List ℕ)) → HasFirst ws → AllByRecursion IsWord ws → words_of (line_at n ws) ≡ Ok ws
unfolding words_of
words_again n ws has fits =
    subst (λ xs. AllByRecursion IsWord xs → words_of (line_at n xs) ≡ Ok xs) (sym has.is)
    (λ each. rw (joined_is_text has.first has.others each, joined_parts has.first has.others each) refl) fits

no_end : (r : Row) → is_end (row_words r) ≡ false
unfolding is_end
no_end (Bounds size most next) = refl
no_end (Grace g) = refl
no_end (Record h blocks inodes) = refl
no_end (Directory number owners) = refl
no_end (FileHead number owners size) = refl
no_end (Block b) = refl
no_end (Name key number) = refl

-- the last line alone
abbrev end_words : List (List ℕ)
end_words = codes "end" ∷ []

last_again : (limit n : ℕ) (before : List Row) → rows_up_to_end limit n before (raw_lines_from n (parts 10 end_line)) ≡ rows_at_end limit before []
unfolding rows_up_to_end is_end
last_again limit n before =
    let has : HasFirst end_words = record { first = codes "end"; others = []; is = refl } in
    let lines : raw_lines_from n (parts 10 end_line) ≡ line_at n end_words ∷ [] =
    lines_of n end_words [] has (refl, tt) ∙ ap (λ ls. line_at n end_words ∷ ls) (no_line (n + 1)) in
    rw (lines, words_again n end_words has (refl, tt)) refl

rows_again : (limit n : ℕ) (before rs : List Row) → AllByRecursion IsRow rs → Passes limit before rs
    → rows_up_to_end limit n before (raw_lines_from n (parts 10 (flat_map row_text rs ++ end_line))) ≡ rows_at_end limit (before ++ rs) []
unfolding rows_up_to_end
rows_again limit n before [] held passes = last_again limit n before ∙ ap (λ xs. rows_at_end limit xs []) (sym (append-nil before))
rows_again limit n before (r ∷ rs) held passes =
    let word = row_word r held.0 in
    let rest : List ℕ = flat_map row_text rs ++ end_line in
    let lines : raw_lines_from n (parts 10 (flat_map row_text (r ∷ rs) ++ end_line)) ≡ line_at n (row_words r) ∷ raw_lines_from (n + 1) (parts 10 rest) =
    ap (λ t. raw_lines_from n (parts 10 t)) (append_assoc (row_text r) (flat_map row_text rs) end_line)
    ∙ lines_of n (row_words r) rest (row_first r) word in
    rw (lines, words_again n (row_words r) (row_first r) word, no_end r, row_again r held.0, passes.0)
    (rows_again limit (n + 1) (before ++ r ∷ []) rs held.1 passes.1 ∙ ap (λ xs. rows_at_end limit xs []) (append_assoc before (r ∷ []) rs))

-- ---- the head

edition_word : (e : Edition) → IsWord (edition_text e)
edition_word One = refl
edition_word Two = refl

edition_again : (e : Edition) → edition_of (edition_text e) ≡ Ok e
unfolding edition_of
edition_again One = refl
edition_again Two = refl

head_word : (edition : Edition) (place : ℕ) → place < 2 ^ 64 → AllByRecursion IsWord (head_words edition place)
head_word edition place few = (refl, (refl, (edition_word edition, (refl, (decimal_word place few, tt)))))

head_again : (edition : Edition) (place : ℕ) → place ≤ MAX_PLACE
    → head_in (head_words edition place) ≡ Ok (record { edition = edition; place = place })
unfolding head_in head_keyword
head_again edition place few = rw (edition_again edition, number_again BadHead MAX_PLACE place (omega (arith, few)) few) refl

-- the end of rows whose counts are right
at-end : (limit : ℕ) (rows : List Row) (T : State) → made_of limit rows ≡ T → count_fault T 2 rows (rows_of T) ≡ None → rows_at_end limit rows [] ≡ Ok rows
unfolding rows_at_end
at-end limit rows T made counts = ap (λ (U : State). unless_miscounted rows (count_fault U 2 rows (rows_of U))) made ∙ ap (unless_miscounted rows) counts

pub images_are_read_again : ImagesAreReadAgain
unfolding image_in
images_are_read_again setting place S is typed few =
    let edition : Edition = setting.edition in
    let limit : ℕ = file_limit_of edition in
    let has : HasFirst (head_words edition place) = record { first = _; others = _; is = refl } in
    let word = head_word edition place (omega (arith, few)) in
    let rest : List ℕ = flat_map row_text (rows_of S) ++ end_line in
    let lines = lines_of 1 (head_words edition place) rest has word in
    let made : made_of limit (rows_of S) ≡ S = states_are_made_again setting S is in
    let passes : Passes limit [] (rows_of S) = subst (λ n. Passes n [] (rows_of S)) is.keeps.file_limit (no-line-fails setting S is) in
    let rows : rows_up_to_end limit 2 [] (raw_lines_from 2 (parts 10 rest)) ≡ Ok (rows_of S) =
    rows_again limit 2 [] (rows_of S) (rows-typed setting S is typed) passes
    ∙ at-end limit (rows_of S) S made (no-count-fails S 2 (rows_of S) (rows-balanced S (state-balanced setting S is))) in
    rw (lines, words_again 1 (head_words edition place) has word, head_again edition place few, rows)
    (ap (λ (T : State). Ok (record { edition = edition; place = place; state = T })) made)
