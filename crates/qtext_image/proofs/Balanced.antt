-- Rows whose counts are not at fault are those of a state whose uses, ends, names and tree are as they have to be.
use Rattle.std.proofs.Common.{◌≡◌, ℕ, ◌+◌, ◌≤◌, Bool, true, false, ◌&&◌, cond, nat_le, List, [], ◌∷◌, ◌++◌, All, map, is_some, Option, Some, None, refl, sym, arith, tests}
use Rattle.std.specs.Bool.{beq}
use Rattle.std.specs.List.{flat_map, join_with_byte, AllByRecursion}
use Rattle.std.proofs.lemmas.Bool.{and_parts}
use Rattle.std.proofs.lemmas.List.Elements.{All-from_recursion, recursion_from_All}
use Rattle.qrules.specs.Account.{Account, HasEnds, is_over_soft}
use Rattle.qrules.specs.Sort.{Inodes, Blocks}
use Rattle.qblocks.specs.File.{File}
use Rattle.qplain.specs.declared.bounds.TheConstants.{ROOT}
use Rattle.qplain.specs.declared.owners.Owners.{Owners}
use Rattle.qplain.specs.State.{Holder, Inode, NameKey, State, is_directory}
use Rattle.qplain.specs.Use.{account_of, total_of}
use Rattle.qplain_laws.specs.Beginnings.{IsStateOf}
use Rattle.qplain_laws.specs.Laws.{has_right_names}
use Rattle.qplain.specs.Setups.{Setting}
use Rattle.qplain_image.specs.Blocks.{blocks_in}
use Rattle.qplain_image.specs.Rows.{Row, Block, Name, holder_row, inode_rows, rows_by, rows_of}
use Rattle.qtext.proofs.Joining.{and_both}
use Rattle.qtext_image.specs.Counts.{count_fault, has_ends, is_balanced, is_in_tree}
use Rattle.qtext_image.specs.Faults.{ImageFault, is_same_row}
use Rattle.qtext_image.specs.Spelling.{row_text, row_words}
use Rattle.qtext_image.proofs.Climbing.{walked-in_tree}
use Rattle.qtext_image.proofs.Ordered.{row-same, same-words}

-- ---- tests

beq-same : (a b : Bool) → a ≡ b → beq a b ≡ true
beq-same true true e = refl
beq-same true false e = absurd (cc e)
beq-same false true e = absurd (cc e)
beq-same false false e = refl

same-beq : (a b : Bool) → beq a b ≡ true → a ≡ b
same-beq true true e = refl
same-beq true false e = absurd (cc e)
same-beq false true e = absurd (cc e)
same-beq false false e = refl

-- ---- rows

-- the row is balanced in the state
abbrev pub Balanced : State → Row → Type 0
Balanced S r = is_balanced S r ≡ true

ends-stand : (a : Account) → HasEnds a → has_ends a ≡ true
ends-stand a ends =
    and_both (beq (is_some a.inode_end) (is_over_soft Inodes a)) (beq (is_some a.block_end) (is_over_soft Blocks a))
    (beq-same (is_some a.inode_end) (is_over_soft Inodes a) ends.inodes) (beq-same (is_some a.block_end) (is_over_soft Blocks a) ends.blocks)

stood-ends : (a : Account) → has_ends a ≡ true → HasEnds a
stood-ends a stand =
    let parts = and_parts (beq (is_some a.inode_end) (is_over_soft Inodes a)) (beq (is_some a.block_end) (is_over_soft Blocks a)) stand in
    record {
      inodes = same-beq (is_some a.inode_end) (is_over_soft Inodes a) parts.0;
      blocks = same-beq (is_some a.block_end) (is_over_soft Blocks a) parts.1;
    }

pub counts-kept : (test : Bool) (others : Option ImageFault) (fault : ImageFault) → cond test others (Some fault) ≡ None → (test ≡ true) × (others ≡ None)
counts-kept true others fault e = (refl, e)
counts-kept false others fault e = absurd (cc e)

module _ (S : State) where
  both-each : (xs ys : List Row) → AllByRecursion (Balanced S) xs → AllByRecursion (Balanced S) ys → AllByRecursion (Balanced S) (xs ++ ys)
  both-each [] ys all more = more
  both-each (x ∷ xs) ys all more = (all.0, both-each xs ys all.1 more)

  first-each : (xs ys : List Row) → AllByRecursion (Balanced S) (xs ++ ys) → AllByRecursion (Balanced S) xs
  first-each [] ys all = tt
  first-each (x ∷ xs) ys all = (all.0, first-each xs ys all.1)

  last-each : (xs ys : List Row) → AllByRecursion (Balanced S) (xs ++ ys) → AllByRecursion (Balanced S) ys
  last-each [] ys all = all
  last-each (x ∷ xs) ys all = last-each xs ys all.1

  holders-balanced : (hs : List Holder) → AllByRecursion (λ h. HasEnds (account_of S h)) hs → AllByRecursion (Balanced S) (map (holder_row S) hs)
  holders-balanced [] all = tt
  holders-balanced (h ∷ hs) all = (ends-stand (account_of S h) all.0, holders-balanced hs all.1)

  balanced-holders : (hs : List Holder) → AllByRecursion (Balanced S) (map (holder_row S) hs) → AllByRecursion (λ h. HasEnds (account_of S h)) hs
  balanced-holders [] all = tt
  balanced-holders (h ∷ hs) all = (stood-ends (account_of S h) all.0, balanced-holders hs all.1)

  blocks-balanced : (bs : List (ℕ × List ℕ)) → AllByRecursion (Balanced S) (map (λ b. Block b) bs)
  blocks-balanced [] = tt
  blocks-balanced (b ∷ bs) = (refl, blocks-balanced bs)

  names-balanced : (es : List (NameKey × ℕ)) → AllByRecursion (Balanced S) (map (λ e. Name e.0 e.1) es)
  names-balanced [] = tt
  names-balanced (e ∷ es) = (refl, names-balanced es)

  -- an inode has its names, and is in the tree
  abbrev pub IsPlaced : ℕ × Inode → Type 0
  IsPlaced e = (has_right_names S e ≡ true) × (is_in_tree S e.0 ≡ true)

  inode-balanced : (dir : Bool) (number : ℕ) (owners : Owners) (file : File) → IsPlaced (number, record { dir = dir; owners = owners; file = file })
      → AllByRecursion (Balanced S) (rows_by dir number owners file)
  inode-balanced true number owners file placed = (and_both _ (is_in_tree S number) placed.0 placed.1, tt)
  inode-balanced false number owners file placed = (and_both _ (is_in_tree S number) placed.0 placed.1, blocks-balanced (blocks_in file))

  balanced-inode : (dir : Bool) (number : ℕ) (owners : Owners) (file : File) → AllByRecursion (Balanced S) (rows_by dir number owners file)
      → IsPlaced (number, record { dir = dir; owners = owners; file = file })
  balanced-inode true number owners file all = and_parts _ (is_in_tree S number) all.0
  balanced-inode false number owners file all = and_parts _ (is_in_tree S number) all.0

  inodes-balanced : (es : List (ℕ × Inode)) → AllByRecursion IsPlaced es → AllByRecursion (Balanced S) (flat_map inode_rows es)
  inodes-balanced [] all = tt
  inodes-balanced (e ∷ es) all =
      both-each (inode_rows e) (flat_map inode_rows es) (inode-balanced e.1.dir e.0 e.1.owners e.1.file all.0) (inodes-balanced es all.1)

  balanced-inodes : (es : List (ℕ × Inode)) → AllByRecursion (Balanced S) (flat_map inode_rows es) → AllByRecursion IsPlaced es
  balanced-inodes [] all = tt
  balanced-inodes (e ∷ es) all = (
    balanced-inode e.1.dir e.0 e.1.owners e.1.file (first-each (inode_rows e) (flat_map inode_rows es) all),
    balanced-inodes es (last-each (inode_rows e) (flat_map inode_rows es) all),
  )

  -- what balanced rows tell of the state
  pub record IsBalanced : Type 0 where
    pub blocks : total_of S Blocks ≤ S.size
    pub inodes : total_of S Inodes ≤ S.most_inodes
    pub root : is_directory S ROOT ≡ true
    pub ends : All (λ h. HasEnds (account_of S h)) S.holders
    pub placed : All IsPlaced S.inodes

  pub rows-balanced : IsBalanced → AllByRecursion (Balanced S) (rows_of S)
  rows-balanced is =
      let blocks : nat_le (total_of S Blocks) S.size ≡ true = grind (arith, tests, is.blocks) in
      let inodes : nat_le (total_of S Inodes) S.most_inodes ≡ true = grind (arith, tests, is.inodes) in (
        rw (blocks, inodes, is.root) refl,
        (
          refl,
          both-each (map (holder_row S) S.holders) (flat_map inode_rows S.inodes ++ map (λ e. Name e.0 e.1) S.names)
              (holders-balanced S.holders (recursion_from_All (λ (h : Holder). HasEnds (account_of S h)) S.holders is.ends))
              (both-each (flat_map inode_rows S.inodes) (map (λ e. Name e.0 e.1) S.names)
              (inodes-balanced S.inodes (recursion_from_All IsPlaced S.inodes is.placed)) (names-balanced S.names)),
        ),
      )

  pub balanced-rows : AllByRecursion (Balanced S) (rows_of S) → IsBalanced
  balanced-rows all =
      let root = and_parts _ (is_directory S ROOT) all.0 in
      let bounds = and_parts (nat_le (total_of S Blocks) S.size) (nat_le (total_of S Inodes) S.most_inodes) root.0 in
      let later = last-each (map (holder_row S) S.holders) (flat_map inode_rows S.inodes ++ map (λ e. Name e.0 e.1) S.names) all.1.1 in
      record {
        blocks = grind (arith, tests, bounds.0);
        inodes = grind (arith, tests, bounds.1);
        root = root.1;
        ends = All-from_recursion (λ (h : Holder). HasEnds (account_of S h)) S.holders
            (balanced-holders S.holders (first-each (map (holder_row S) S.holders) _ all.1.1));
        placed = All-from_recursion IsPlaced S.inodes (balanced-inodes S.inodes (first-each (flat_map inode_rows S.inodes) _ later));
      }

  -- ---- counts

  pub no-count-fails : (line : ℕ) (rows : List Row) → AllByRecursion (Balanced S) rows → count_fault S line rows rows ≡ None
  no-count-fails line [] all = refl
  no-count-fails line (r ∷ rows) all = rw (row-same r, all.0, no-count-fails (line + 1) rows all.1) refl

  -- where no count is at fault the rows are spelled as those of the state, which are balanced
  pub counts-pass : (line : ℕ) (told rows : List Row) → count_fault S line told rows ≡ None
      → (flat_map row_text rows ≡ flat_map row_text told) × AllByRecursion (Balanced S) rows
  counts-pass line [] [] e = (refl, tt)
  counts-pass line [] (r ∷ rows) e = absurd (cc e)
  counts-pass line (t ∷ told) [] e = absurd (cc e)
  counts-pass line (t ∷ told) (r ∷ rows) e =
      let kept = counts-kept (is_same_row t r && is_balanced S r) (count_fault S (line + 1) told rows) _ e in
      let both = and_parts (is_same_row t r) (is_balanced S r) kept.0 in
      let words : row_words r ≡ row_words t = sym (same-words (row_words t) (row_words r) both.0) in
      let rest = counts-pass (line + 1) told rows kept.1 in
      (λ i. (join_with_byte 0x20 (words i) ++ 10 ∷ []) ++ rest.0 i, (both.1, rest.1))

-- a state that a store may begin with is balanced
pub state-balanced : (setting : Setting) (S : State) → IsStateOf setting S → IsBalanced S
state-balanced setting S is = record {
  blocks = is.lawful.blocks_fit;
  inodes = is.lawful.inodes_fit;
  root = is.lawful.parts.inodes.root_stands;
  ends = is.lawful.ends_stand;
  placed = λ k d below. (is.lawful.parts.names.counted k d below, walked-in_tree S is.lawful.parts is.reached k d below);
}
