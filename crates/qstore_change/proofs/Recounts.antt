-- Counts that are kept by number, and what they are after another of one.
use Rattle.std.proofs.Common.{◌≡◌, ℕ, ◌+◌, ◌-◌, ◌==◌, Bool, true, false, cond, List, Option, Some, None, refl, sym, ap, ◌∙◌}
use Rattle.std.specs.Option.{option_map}
use Rattle.std.specs.Ordering.{nat_cmp}
use Rattle.std.specs.Cmp.{unsigned_ties}
use Rattle.std.specs.BTreeMap.{is_at}
use Rattle.std.specs.Map.{lookup, set_value}
use Rattle.qplain.specs.State.{Inode, State, inode_at}
use Rattle.qplain_laws.proofs.Tables.{same-number}
use Rattle.qstore_change.specs.Moves.{moved_links}
use Rattle.qstore_change.proofs.ParentLinks.{lookup-recounted}

-- ---- counts by number

-- the counts are so of each inode that is there, by whether it is a directory
abbrev pub AreCounts : State → (ℕ → Bool → ℕ) → List (ℕ × ℕ) → Type 0
AreCounts S count links = (q : ℕ) → lookup (is_at (nat_cmp q)) links ≡ option_map (λ inode. count q inode.dir) (inode_at S q)

-- they are so, too, where what is there has as many
pub counts-agree : (S : State) (count other : ℕ → Bool → ℕ) (links : List (ℕ × ℕ)) → AreCounts S count links
    → ((q : ℕ) (inode : Inode) → inode_at S q ≡ Some inode → count q inode.dir ≡ other q inode.dir) → AreCounts S other links
counts-agree S count other links are same q = are q ∙ by (inode_at S q) refl
  where
    by : (o : Option Inode) → inode_at S q ≡ o → option_map (λ inode. count q inode.dir) o ≡ option_map (λ inode. other q inode.dir) o
    by None there = refl
    by (Some inode) there = ap Some (same q inode there)

-- with another count of one number
abbrev pub recount : (ℕ → Bool → ℕ) → ℕ → ℕ → ℕ → Bool → ℕ
recount count number new q dir = cond (is_at (nat_cmp number) q) new (count q dir)

pub counts-recounted : (S : State) (count : ℕ → Bool → ℕ) (links : List (ℕ × ℕ)) (number : ℕ) (inode : Inode) (new : ℕ) → AreCounts S count links
    → inode_at S number ≡ Some inode → AreCounts S (recount count number new) (set_value (is_at (nat_cmp number)) links new)
counts-recounted S count links number inode new are there q =
    lookup-recounted links number (count number inode.dir) new q
    (are number ∙ ap (λ (o : Option Inode). option_map (λ i. count number i.dir) o) there)
    ∙ by (is_at (nat_cmp number) q) refl
  where
    by : (b : Bool) → is_at (nat_cmp number) q ≡ b
        → cond b (Some new) (lookup (is_at (nat_cmp q)) links) ≡ option_map (λ i. cond b new (count q i.dir)) (inode_at S q)
    by true at = ap (λ (o : Option Inode). option_map (λ i. new) o) (sym there ∙ ap (inode_at S) (same-number number q at))
    by false other = are q

-- another count of one directory leaves what is kept of another
pub kept-apart : (links : List (ℕ × ℕ)) (dir to_dir from new : ℕ) → (dir == to_dir) ≡ false → lookup (is_at (nat_cmp dir)) links ≡ Some from
    → lookup (is_at (nat_cmp to_dir)) (set_value (is_at (nat_cmp dir)) links new) ≡ lookup (is_at (nat_cmp to_dir)) links
kept-apart links dir to_dir from new apart there =
    lookup-recounted links dir from new to_dir there
    ∙ ap (λ b. cond b (Some new) (lookup (is_at (nat_cmp to_dir)) links)) (sym (unsigned_ties dir to_dir) ∙ apart)

-- onto nothing in another directory both counts change
pub moved-apart : (links : List (ℕ × ℕ)) (dir to_dir : ℕ) (onto : Bool) (from to : ℕ) → onto ≡ false → (dir == to_dir) ≡ false
    → moved_links links dir to_dir onto from to
    ≡ set_value (is_at (nat_cmp to_dir)) (set_value (is_at (nat_cmp dir)) links (from - 1)) (to + 1)
moved-apart links dir to_dir onto from to alone apart =
    λ i. cond (alone i) (set_value (is_at (nat_cmp dir)) links (from - 1))
    (cond (apart i) links (set_value (is_at (nat_cmp to_dir)) (set_value (is_at (nat_cmp dir)) links (from - 1)) (to + 1)))
