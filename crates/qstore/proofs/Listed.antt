-- The rows of the inodes of a store: what is kept for each number is what its inode counts to.
use Rattle.std.proofs.Common.{◌≡◌, ℕ, suc, ◌+◌, ◌≤◌, List, [], ◌∷◌, length, map, sum_by, All, Some, slice_get, Result, Ok, Err, IfErr, IfOk, OnOk, refl, ap, subst, ◌∙◌, arith}
use Rattle.std.specs.Map.{keys_of, lookup, values_of}
use Rattle.std.specs.BTreeMap.{is_at}
use Rattle.std.specs.Ordering.{nat_cmp}
use Rattle.std.specs.Cmp.{eq_by_cmp_equiv, nat_cmp_total}
use Rattle.std.specs.Option.{option_map, unwrap_or}
use Rattle.std.specs.List.Sorted.{IsStrictlySortedBy}
use Rattle.std.proofs.lemmas.List.Elements.{All-cons, All-nil}
use Rattle.std.proofs.lemmas.List.Sums.{sum_by-cons}
use Rattle.std.proofs.lemmas.Map.Entries.{lookup_from_place}
use Rattle.std.proofs.lemmas.Map.Keys.{IsDistinct-from_sorted}
use Rattle.qrules.specs.Sort.{Blocks}
use Rattle.qplain.specs.declared.setup.TheConstants.{MAX_BLOCKS}
use Rattle.qplain.specs.State.{Inode, State, inode_at}
use Rattle.qplain.specs.Use.{links_of, weight}
use Rattle.qstore.specs.Parts.{IsCounted}
use Rattle.qstore.specs.Rows.{inode_row_of}
use Rattle.qstore_tree.specs.Tree.{kept_row}
use Rattle.qstore_accounts.specs.Books.{Books}
use Rattle.qstore_tree.proofs.Rows.{HasFewBlocks}

-- blocks that are few in all are few in each inode
few-of : (es : List (ℕ × Inode)) → sum_by (weight Blocks) (values_of es) ≤ MAX_BLOCKS → All HasFewBlocks es
few-of [] low = All-nil HasFewBlocks
few-of (e ∷ es) low =
    let all : length e.1.file.allocated + sum_by (weight Blocks) (values_of es) ≤ MAX_BLOCKS =
    subst (λ n. n ≤ MAX_BLOCKS) (sum_by-cons (weight Blocks) e.1 (values_of es)) low in
    All-cons HasFewBlocks e es (omega (arith, all)) (few-of es (omega (arith, all)))

-- rows that are made where this holds are also these
pub rows-where : {V E Row : Type 0} (items : V → List Row) (result : Result V E) (P : Type 0) (made wanted : List Row)
    → IfOk result (λ rows. items rows ≡ made) → OnOk result P → (P → made ≡ wanted) → IfOk result (λ rows. items rows ≡ wanted)
rows-where items (Ok rows) P made wanted is holds same = is ∙ same holds
rows-where items (Err e) P made wanted is holds same = tt

-- what holds where rows are made, and gives something else, gives it there
pub on_ok : {V E : Type 0} (result : Result V E) (P Q : Type 0) → OnOk result P → (P → Q) → OnOk result Q
on_ok (Ok rows) P Q holds gives = gives holds
on_ok (Err e) P Q holds gives = tt

-- a weaker fact of what is made
pub ok_weaker : {V E : Type 0} (result : Result V E) (P Q : V → Type 0) → IfOk result P → ((v : V) → P v → Q v) → IfOk result Q
ok_weaker (Ok v) P Q holds gives = gives v holds
ok_weaker (Err e) P Q holds gives = tt

-- and so does what holds of no result
pub ok_so : {V E : Type 0} (result : Result V E) (P : V → Type 0) (Q : Type 0) → IfOk result P → ((v : V) → P v → Q) → OnOk result Q
ok_so (Ok v) P Q holds gives = gives v holds
ok_so (Err e) P Q holds gives = tt

-- and of why it is not
pub err_weaker : {V E : Type 0} (result : Result V E) (P Q : E → Type 0) → IfErr result P → ((e : E) → P e → Q e) → IfErr result Q
err_weaker (Ok v) P Q holds gives = tt
err_weaker (Err e) P Q holds gives = gives e holds

module _ {S : State} {b : Books} {links : List (ℕ × ℕ)} (kept : IsCounted S b links) where
  -- no inode of a store has more blocks than fit its row
  pub few-blocks : All HasFewBlocks S.inodes
  few-blocks =
      let fit = kept.sound.lawful.blocks_fit in
      let low = kept.in_range.size in
      let same = kept.books.size in
      few-of S.inodes (omega (arith, fit, low, same))

  -- the row with the kept links is the one with the counted links, for an inode that is found
  row-counted : (e : ℕ × Inode) → inode_at S e.0 ≡ Some e.1 → kept_row links e ≡ inode_row_of S e
  row-counted e found =
      let same : unwrap_or (lookup (is_at (nat_cmp e.0)) links) 0 ≡ links_of S e.0 e.1.dir =
      ap (λ o. unwrap_or o 0) (kept.links e.0 ∙ ap (option_map (λ inode. links_of S e.0 inode.dir)) found) in
      λ i. record (inode_row_of S e) { links = same i }

  rows-counted : (es : List (ℕ × Inode))
      → ((k : ℕ) (e : ℕ × Inode) → slice_get es k ≡ Some e → inode_at S e.0 ≡ Some e.1)
      → map (kept_row links) es ≡ map (inode_row_of S) es
  rows-counted [] found = refl
  rows-counted (e ∷ es) found =
      let here : kept_row links e ≡ inode_row_of S e = row-counted e (found 0 e refl) in
      let rest : map (kept_row links) es ≡ map (inode_row_of S) es = rows-counted es (λ k. found (suc k)) in
      λ i. here i ∷ rest i

  -- the rows with the kept links are those with the counted links
  pub inode-rows-counted : IsStrictlySortedBy nat_cmp (keys_of S.inodes) → map (kept_row links) S.inodes ≡ map (inode_row_of S) S.inodes
  inode-rows-counted sorted =
      rows-counted S.inodes (λ k e there. lookup_from_place (eq_by_cmp_equiv nat_cmp_total) S.inodes k e.0 e.1
      (IsDistinct-from_sorted nat_cmp (keys_of S.inodes) sorted) there)
