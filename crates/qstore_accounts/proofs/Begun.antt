-- The kept holders of a new store: each uses nothing, but id 0 of each kind has the root directory.
use Rattle.std.proofs.Common.{◌≡◌, ℕ, zero, suc, ◌+◌, Bool, true, false, cond, ◌==◌, List, [], ◌∷◌, map, All, None, Some, refl, sym, ap, ◌∙◌, tests, arith, zero-add}
use Rattle.std.proofs.lemmas.List.Elements.{All-cons, All-nil}
use Rattle.qrules.specs.declared.kind.Kind.{Kind}
use Rattle.qrules.specs.declared.kind.Kind.TheVariants.{User, Group, Project}
use Rattle.qrules.specs.Kinds.{by_kind, is_id}
use Rattle.qrules.proofs.Ranks.{each_kind}
use Rattle.qrules.specs.declared.graces.Graces.{Graces}
use Rattle.qrules.specs.Sort.{Sort, Inodes, Blocks, is_over}
use Rattle.qrules.specs.Account.{Account}
use Rattle.qrules.specs.Grace.{next_end, unused, with_ends}
use Rattle.qplain.specs.declared.principal.Principal.{Principal}
use Rattle.qplain.specs.Setups.{Setting, principals_in}
use Rattle.qplain.specs.State.{declared_in, holder_of, root, root_project, start}
use Rattle.qplain.specs.Use.{owner, use_of, weight}
use Rattle.qstore_accounts.specs.KeptHolders.{IsCountedIn, holder_in}
use Rattle.qstore_accounts.specs.Ledgers.{new_holder}
use Rattle.qstore_accounts.specs.Books.{AreBooksOf}
use Rattle.qstore_accounts.proofs.Across.{across-same}
use Rattle.qrules.specs.declared.limits.Limits.{Limits}

-- nothing is over a limit
over-zero : (limit : ℕ) → is_over 0 limit ≡ false
over-zero zero = refl
over-zero (suc limit) = grind (arith, tests)

-- one inode is over no limit, since a limit of 0 is none
over-one : (limit : ℕ) → is_over 1 limit ≡ false
over-one zero = refl
over-one (suc limit) = grind (arith, tests)

-- so no end begins
no-end : (over : Bool) (new : ℕ) → over ≡ false → next_end over None new ≡ None
no-end true new e = cc
no-end false new e = refl

module _ (graces : Graces) where
  -- the account of a declared principal, with the root directory or without it
  abbrev begun : Bool → Limits → Account
  begun has_root limits = cond has_root (with_ends (record (unused limits) { inodes = 1 }) graces 0) (unused limits)

  -- the holder of a new kept holder, with the root directory or without it, is the declared one
  holder-begun : (kind : Kind) (p : Principal) (b : Bool)
      → holder_in kind (record { id = p.id; name = p.name; account = begun b p.limits }) ≡ holder_of kind p
  holder-begun kind p true =
      let block : next_end (is_over 0 p.limits.block_soft) None (0 + graces.block) ≡ None =
      no-end _ (0 + graces.block) (over-zero p.limits.block_soft) in
      let inode : next_end (is_over 1 p.limits.inode_soft) None (0 + graces.inode) ≡ None =
      no-end _ (0 + graces.inode) (over-one p.limits.inode_soft) in
      λ i. record (holder_of kind p) { block_end = block i; inode_end = inode i }
  holder-begun kind p false = refl

  -- the holders of the kept holders of a new store are the declared principals
  pub holders-begun : (kind : Kind) (ps : List Principal) → map (holder_in kind) (map (new_holder graces) ps) ≡ map (holder_of kind) ps
  holders-begun kind [] = refl
  holders-begun kind (p ∷ ps) = λ i. holder-begun kind p (0 == p.id) i ∷ holders-begun kind ps i

-- the use in a new store: the root directory is its owners'
use_of-start : (s : Setting) (kind : Kind) (id : ℕ) (sort : Sort) → owner kind (root s).owners ≡ Some 0
    → use_of (start s) kind id sort ≡ cond (0 == id) (weight sort (root s)) 0
use_of-start s kind id sort owned =
    zero-add (cond (is_id id (owner kind (root s).owners)) (weight sort (root s)) 0) ∙ ap (λ o. cond (is_id id o) (weight sort (root s)) 0) owned

module _ (s : Setting) (kind : Kind) (graces : Graces) where
  -- a kept holder of a new store is counted
  kept-counted-begun : (p : Principal) (b : Bool)
      → use_of (start s) kind p.id Blocks ≡ cond b (weight Blocks (root s)) 0
      → use_of (start s) kind p.id Inodes ≡ cond b (weight Inodes (root s)) 0
      → IsCountedIn (start s) kind (record { id = p.id; name = p.name; account = begun graces b p.limits })
  kept-counted-begun p true blocks inodes = record { blocks = sym blocks; inodes = sym inodes }
  kept-counted-begun p false blocks inodes = record { blocks = sym blocks; inodes = sym inodes }

  -- all kept holders of a new store are counted, where id 0 of their kind has the root directory
  counted-kind : owner kind (root s).owners ≡ Some 0 → (ps : List Principal) → All (IsCountedIn (start s) kind) (map (new_holder graces) ps)
  counted-kind owned [] = All-nil (IsCountedIn (start s) kind)
  counted-kind owned (p ∷ ps) =
      All-cons (IsCountedIn (start s) kind) (new_holder graces p) (map (new_holder graces) ps)
      (kept-counted-begun p (0 == p.id) (use_of-start s kind p.id Blocks owned) (use_of-start s kind p.id Inodes owned)) (counted-kind owned ps)

-- as it has where there is any
pub counted-begun : (s : Setting) (graces : Graces) (kind : Kind) → All (IsCountedIn (start s) kind) (map (new_holder graces) (principals_in kind s))
counted-begun s graces = each_kind (λ kind. All (IsCountedIn (start s) kind) (map (new_holder graces) (principals_in kind s)))
    (counted-kind s User graces refl s.users) (counted-kind s Group graces refl s.groups) (projects s.projects refl)
  where
    projects : (ps : List Principal) → s.projects ≡ ps → All (IsCountedIn (start s) Project) (map (new_holder graces) ps)
    projects [] same = All-nil (IsCountedIn (start s) Project)
    projects (p ∷ ps) same = counted-kind s Project graces (ap root_project same) (p ∷ ps)

-- the books of a new store are those of its state
pub books-begun : (s : Setting) → AreBooksOf (start s) (record {
  size = s.blocks;
  most_inodes = s.inodes;
  graces = s.graces;
  users = map (new_holder s.graces) s.users;
  groups = map (new_holder s.graces) s.groups;
  projects = map (new_holder s.graces) s.projects;
  blocks = 0;
  inodes = 1;
})
books-begun s = record {
  size = refl;
  most_inodes = refl;
  graces = refl;
  holders = across-same (λ kind. declared_in kind s) (λ kind. map (holder_in kind) (map (new_holder s.graces) (principals_in kind s)))
      (λ kind. sym (holders-begun s.graces kind (principals_in kind s)));
  counted = each_kind (λ kind. All (IsCountedIn (start s) kind)
      (by_kind (map (new_holder s.graces) s.users) (map (new_holder s.graces) s.groups) (map (new_holder s.graces) s.projects) kind))
      (counted-begun s s.graces User) (counted-begun s s.graces Group) (counted-begun s s.graces Project);
  blocks = refl;
  inodes = refl;
}
