use Rattle.std.proofs.Common.{◌≡◌, ◌<◌, ◌+◌, ◌==◌, ℕ, false, cond, List, [], ◌∷◌, refl, sym, ap, arith, tests}
use Rattle.std.specs.declared.cmp.Ordering.TheVariants.{Less, Equal, Greater}
use Rattle.std.specs.BTreeMap.{keys}
use Rattle.std.specs.BTreeSet.{insert_key}
use Rattle.std.specs.Ordering.{match_ordering, nat_cmp}
use Rattle.qaudit.proofs.owners.count_row.Goals as goal

-- a number compared with itself
same : (n : ℕ) → nat_cmp n n ≡ Equal
same n = grind (arith, tests)

-- what is put in twice is there once
twice : (ks : List ℕ) (id : ℕ) → insert_key nat_cmp (insert_key nat_cmp ks id) id ≡ insert_key nat_cmp ks id
twice [] id = rw (same id) refl
twice (k ∷ ks) id =
    elim (nat_cmp id k) as (λ r. nat_cmp id k ≡ r
    → insert_key nat_cmp (match_ordering r (id ∷ k ∷ ks) (k ∷ ks) (k ∷ insert_key nat_cmp ks id)) id
    ≡ match_ordering r (id ∷ k ∷ ks) (k ∷ ks) (k ∷ insert_key nat_cmp ks id)) [
      | Less ↦ λ p. rw (same id) refl
      | Equal ↦ λ p. rw p refl
      | Greater ↦ λ p. rw p (ap (λ rest. k ∷ rest) (twice ks id))
    ] refl

-- with a run that has rows, one more of its owner adds no owner
with_one_more : (ks : List ℕ) (id inodes : ℕ) → 0 < inodes
    → cond (inodes + 1 == 0) ks (insert_key nat_cmp ks id) ≡ insert_key nat_cmp (cond (inodes == 0) ks (insert_key nat_cmp ks id)) id
with_one_more ks id inodes some =
    let none : (inodes == 0) ≡ false = grind (arith, tests) in
    let more : (inodes + 1 == 0) ≡ false = grind (arith, tests) in
    rw (none, more) (sym (twice ks id))

pub returns-then-run-id-clause-keys : goal.returns-then-run-id-clause-keys
returns-then-run-id-clause-keys c =
    rw (← c.if-run-id.true) (with_one_more (keys c.args.counts.now) c.args.run.now.id c.args.run.now.inodes c.if-run-gt0.true)
