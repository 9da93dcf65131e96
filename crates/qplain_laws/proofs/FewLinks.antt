-- No inode has too many links where each has few, and what touches neither names nor inodes leaves it so.
use Rattle.std.proofs.Common.{◌≡◌, ℕ, Bool, true, false, nat_lt, List, [], ◌∷◌, All, refl}
use Rattle.std.specs.List.{AllByRecursion, list_any}
use Rattle.std.proofs.lemmas.Bool.{or_parts}
use Rattle.std.proofs.lemmas.List.Elements.{All-from_recursion}
use Rattle.std.proofs.lemmas.List.Folds.{list_any_none}
use Rattle.qrules.specs.declared.graces.Graces.{Graces}
use Rattle.qplain.specs.declared.bounds.TheConstants.{MAX_LINKS}
use Rattle.qplain.specs.State.{Holder, Inode, State}
use Rattle.qplain.specs.Use.{has_too_many_links, links_of}

links-same : (S : State) (holders : List Holder) (graces : Graces) (n : ℕ) (b : Bool)
    → links_of (record S { holders = holders; graces = graces }) n b ≡ links_of S n b
links-same S holders graces n false = refl
links-same S holders graces n true = refl

-- the links are those of the names and the inodes
pub too_many-same : (S : State) (holders : List Holder) (graces : Graces)
    → has_too_many_links (record S { holders = holders; graces = graces }) ≡ has_too_many_links S
too_many-same S holders graces = λ i. list_any (λ (e : ℕ × Inode). nat_lt MAX_LINKS (links-same S holders graces e.0 e.1.dir i)) S.inodes

-- no inode has too many where each has few enough
pub none-too_many : (S : State) → All (λ e. nat_lt MAX_LINKS (links_of S e.0 e.1.dir) ≡ false) S.inodes → has_too_many_links S ≡ false
none-too_many S few = list_any_none (λ (e : ℕ × Inode). nat_lt MAX_LINKS (links_of S e.0 e.1.dir)) S.inodes few

-- where none passes, each fails
pub none-passes : {X : Type 0} (p : X → Bool) (xs : List X) → list_any p xs ≡ false → AllByRecursion (λ x. p x ≡ false) xs
none-passes p [] h = tt
none-passes p (x ∷ xs) h = let parts = or_parts (p x) (list_any p xs) h in (parts.0, none-passes p xs parts.1)

-- and the converse
pub few-links : (S : State) → has_too_many_links S ≡ false → All (λ e. nat_lt MAX_LINKS (links_of S e.0 e.1.dir) ≡ false) S.inodes
few-links S h =
    All-from_recursion (λ (e : ℕ × Inode). nat_lt MAX_LINKS (links_of S e.0 e.1.dir) ≡ false) S.inodes
    (none-passes (λ (e : ℕ × Inode). nat_lt MAX_LINKS (links_of S e.0 e.1.dir)) S.inodes h)
