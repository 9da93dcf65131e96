use Rattle.std.proofs.Common.{◌≡◌, ℕ, All, Contains, List, [], ◌∷◌, map, nat_eq, ap, subst, sym, ◌∙◌}
use Rattle.std.specs.List.{dedup}
use Rattle.std.specs.List.Sorted.{IsStrictlyIncreasing}
use Rattle.std.proofs.lemmas.List.{take_all}
use Rattle.std.proofs.lemmas.List.Elements.{All-cons, All-contains_itself, All-head, All-nil, All-tail}
use Rattle.std.proofs.lemmas.List.Filters.{dedup_is}
use Rattle.std.proofs.lemmas.List.Kept.{Contains-dedup_nat}
use Rattle.std.proofs.lemmas.List.Sorted.{Contains-permutation}
use Rattle.std.proofs.lemmas.Map.Keys.{IsStrictlyIncreasing-dedup}
use Rattle.qrules.specs.declared.inode_row.InodeRow.{InodeRow}
use Rattle.qaudit.proofs.numbers.numbers_of.Goals as goal

-- what holds of the rows' numbers, row by row
of_rows : (P : ℕ → Type 0) (rows : List InodeRow) → All P (map (λ row. row.ino) rows) → All (λ row. P row.ino) rows
of_rows P [] all = All-nil (λ row. P row.ino)
of_rows P (row ∷ rows) all =
    All-cons (λ r. P r.ino) row rows (All-head P row.ino (map (λ r. r.ino) rows) all) (of_rows P rows (All-tail P row.ino (map (λ r. r.ino) rows) all))

-- the numbers that are left
left : (c : goal.After-dedup) → c.dedup.new.self.items ≡ dedup nat_eq c.sort_unstable.new.self.items
left c = dedup_is nat_eq c.sort_unstable.new.self.items c.dedup.new.self.items c.dedup.ensures.filtered

pub returns-clause-ascending : goal.returns-clause-ascending
returns-clause-ascending c =
    subst IsStrictlyIncreasing (sym (left c)) (IsStrictlyIncreasing-dedup c.sort_unstable.new.self.items c.sort_unstable.ensures.sorted)

pub returns-clause-all : goal.returns-clause-all
returns-clause-all c =
    let numbers = c.loop-inode.numbers.items in
    let sorted = c.sort_unstable.new.self.items in
    let kept : (n : ℕ) → Contains numbers n → Contains c.dedup.new.self.items n =
    λ n is. subst (λ l. Contains l n) (sym (left c))
    (Contains-dedup_nat sorted n (Contains-permutation numbers sorted n c.sort_unstable.ensures.permutation is)) in
    let all : numbers ≡ map (λ (row : InodeRow). row.ino) c.args.inodes.now =
    c.loop-inode.invariant ∙ ap (map (λ (row : InodeRow). row.ino)) (take_all c.loop-inode.inode-index c.args.inodes.now c.loop-inode-test.false) in
    of_rows (Contains c.dedup.new.self.items) c.args.inodes.now
    (subst (λ l. All (Contains c.dedup.new.self.items) l) all (λ k d within. kept _ (All-contains_itself numbers k d within)))
