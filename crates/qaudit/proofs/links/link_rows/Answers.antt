use Rattle.std.proofs.Common.{◌≡◌, ◌<◌, ◌≤◌, ◌+◌, ◌==◌, ◌&&◌, ℕ, All, Bool, true, false, Contains, cond, List, [], ◌∷◌, ◌++◌, length, map, take, get_or, slice_index, subst, sym, refl, ap, ◌∙◌, add-one, arith}
use Rattle.std.proofs.Math.Seq.{take-suc}
use Rattle.std.proofs.lemmas.List.{map-append}
use Rattle.std.proofs.lemmas.List.Sums.{count_by-le-length}
use Rattle.qrules.specs.declared.inode_row.InodeRow.{InodeRow}
use Rattle.qrules.specs.declared.name_row.NameRow.{NameRow}
use Rattle.qaudit.specs.declared.counts.LinkRow.{LinkRow}
use Rattle.qaudit.specs.Recount.{counted_links, is_directory, link_row, names_to, subdirectories}
use Rattle.qaudit.proofs.links.link_rows.Goals.{then-inode, else-inode}
use Rattle.qaudit.proofs.links.link_rows.Goals as goal

-- a row's number is one of the numbers
there : (numbers items : List ℕ) (inodes : List InodeRow) (i : ℕ) (d : InodeRow) → items ≡ numbers
    → All (λ row. Contains numbers row.ino) inodes → i < length inodes → Contains items (get_or inodes i d).ino
there numbers items inodes i d same all less = subst (λ l. Contains l (get_or inodes i d).ino) (sym same) (all i d less)

-- counts that are known by other names
told : (numbers one other counts items : List ℕ) (f : ℕ → ℕ) → one ≡ numbers → other ≡ numbers → items ≡ counts
    → ((k : ℕ) → k < length one → slice_index counts k ≡ f (slice_index one k))
    → (k : ℕ) → k < length other → slice_index items k ≡ f (slice_index other k)
told numbers one other counts items f first second third each k less =
    let same : one ≡ other = first ∙ sym second in
    ap (λ l. slice_index l k) third ∙ each k (subst (λ l. k < length l) (sym same) less) ∙ ap (λ l. f (slice_index l k)) same

-- one row more
one_linked : (inodes : List InodeRow) (names : List NameRow) (i : ℕ) (d : InodeRow) (old new : List LinkRow) (counted : ℕ)
    → old ≡ map (link_row inodes names) (take i inodes) → i < length inodes → counted ≡ counted_links inodes names (get_or inodes i d)
    → new ≡ old ++ record (link_row inodes names (get_or inodes i d)) { counted = counted } ∷ []
    → new ≡ map (link_row inodes names) (take (i + 1) inodes)
one_linked inodes names i d old new counted so_far less is more =
    let row = get_or inodes i d in
    let first : take (i + 1) inodes ≡ take i inodes ++ row ∷ [] = rw add-one (take-suc inodes i d less) in
    more ∙ (λ j. so_far j ++ record (link_row inodes names row) { counted = is j } ∷ [])
    ∙ sym (ap (map (link_row inodes names)) first ∙ map-append (link_row inodes names) (take i inodes) (row ∷ []))

of_directory : (dir : Bool) (a b : ℕ) → dir ≡ true → a ≡ cond dir a b
of_directory dir a b is = rw is refl

of_file : (dir : Bool) (a b : ℕ) → dir ≡ false → b ≡ cond dir a b
of_file dir a b is = rw is refl

-- the names that lead to directories are names
within_names : (inodes : List InodeRow) (names : List NameRow) (number count : ℕ) → count ≡ subdirectories inodes names number → count ≤ length names
within_names inodes names number count is =
    let few = count_by-le-length (λ n. n.dir == number && is_directory inodes n.ino) names in
    omega (arith, is, few)

pub count_at-requires-clause-there : goal.count_at-requires-clause-there
count_at-requires-clause-there c =
    there _ _ c.args.inodes.now c.loop-inode.inode-index _ c.deref-then-inode.ensures.value c.in_ok-numbers.ensures.all c.loop-inode-test.true

pub count_at-counted-requires-clause-there : goal.count_at-counted-requires-clause-there
count_at-counted-requires-clause-there c =
    there _ _ c.args.inodes.now c.loop-inode.inode-index _ c.deref-else-inode.ensures.value c.in_ok-numbers.ensures.all c.loop-inode-test.true

pub overflow_add-counted : goal.overflow_add-counted
overflow_add-counted c =
    let inodes = c.args.inodes.now in
    let names = c.args.names.now in
    let is = c.count_at.ensures (subdirectories inodes names) (told _ _ _ _ _ (subdirectories inodes names)
    c.deref-2.ensures.value c.deref-then-inode.ensures.value c.deref-then-inode-2.ensures.value c.in_ok-subdirectories.ensures.counts) in
    let few = within_names inodes names _ c.count_at.result is in
    let bound = c.well_formed in
    omega (arith, few, bound)

pub loop-inode-preserved : goal.loop-inode-preserved
loop-inode-preserved c =
    let inodes = c.args.inodes.now in
    let names = c.args.names.now in
    one_linked inodes names c.loop-inode.inode-index _ c.loop-inode.rows.items c.push.new.self.items c.if-inode.counted
    c.loop-inode.invariant c.loop-inode-test.true
    (elim c.if-inode.branch [
      | then-inode w ↦
          w.counted-is
          ∙ ap (λ n. 2 + n) (w.count_at.ensures (subdirectories inodes names) (told _ _ _ _ _ (subdirectories inodes names)
          c.deref-2.ensures.value w.deref-then-inode.ensures.value w.deref-then-inode-2.ensures.value c.in_ok-subdirectories.ensures.counts))
          ∙ of_directory _ _ _ w.if-inode.true
      | else-inode w ↦
          w.counted-is
          ∙ w.count_at-counted.ensures (names_to names) (told _ _ _ _ _ (names_to names)
          c.deref.ensures.value w.deref-else-inode.ensures.value w.deref-else-inode-2.ensures.value c.in_ok-names_to.ensures.counts)
          ∙ of_file _ _ _ w.if-inode.false
    ])
    c.in_ok-push.ensures.items
