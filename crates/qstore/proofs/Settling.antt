-- What a store keeps after a change and its bill is what its new state counts to.
use Rattle.std.proofs.Common.{◌≡◌, ℕ, Bool, true, false, List, Option, Some, None, refl, sym, ap, subst, ◌∙◌}
use Rattle.std.specs.Option.{option_map}
use Rattle.qplain.specs.State.{Holder, Inode, State, inode_at}
use Rattle.qplain.specs.Use.{links_of}
use Rattle.qstore_tree.specs.TreeOf.{AreLinks, IsTreeOf}
use Rattle.qstore_change.specs.declared.tree_change.TreeChange.{TreeChange}
use Rattle.qstore_change.specs.declared.tree_change.TreeChange.TheVariants.{Create, Mkdir, Write, Truncate, Unlink, Rmdir, Link, Rename, Chown}
use Rattle.qstore_change.specs.Changes.{altered_at, changed}
use Rattle.qstore_accounts.specs.Bills.{settled}
use Rattle.qstore_accounts.specs.Books.{AreBooksOf, AreInRange, Books, holders_of}
use Rattle.qstore_accounts.proofs.Booked.{in_range-settled}
use Rattle.qstore.specs.declared.store.Store.TheInside.{Inside}
use Rattle.qstore.specs.Parts.{IsCounted}
use Rattle.qstore.specs.Kept.{state_of, stored_of}
use Rattle.qstore.specs.Ready.{CanSettle, billed}
use Rattle.qstore.specs.Stored.{IsStorable, Stored}

-- what no change of inodes and names touches
pub record KeepsBounds (old new : State) : Type 0 where
  pub size : new.size ≡ old.size
  pub most_inodes : new.most_inodes ≡ old.most_inodes
  pub file_limit : new.file_limit ≡ old.file_limit
  pub graces : new.graces ≡ old.graces

-- nothing touches what it leaves
pub bounds-same : (S : State) → KeepsBounds S S
bounds-same S = record { size = refl; most_inodes = refl; file_limit = refl; graces = refl }

bounds-altered : (S : State) (number : ℕ) (change : Inode → Inode) (o : Option Inode) → KeepsBounds S (altered_at S number change o)
bounds-altered S number change None = bounds-same S
bounds-altered S number change (Some inode) = record { size = refl; most_inodes = refl; file_limit = refl; graces = refl }

-- nor does a change
pub bounds-changed : (S : State) (change : TreeChange) → KeepsBounds S (changed S change)
bounds-changed S (Create dir name owners) = record { size = refl; most_inodes = refl; file_limit = refl; graces = refl }
bounds-changed S (Mkdir dir name owners) = record { size = refl; most_inodes = refl; file_limit = refl; graces = refl }
bounds-changed S (Write number off bytes spare) = bounds-altered S number _ (inode_at S number)
bounds-changed S (Truncate number size) = bounds-altered S number _ (inode_at S number)
bounds-changed S (Unlink dir path number) = record { size = refl; most_inodes = refl; file_limit = refl; graces = refl }
bounds-changed S (Rmdir dir path number) = record { size = refl; most_inodes = refl; file_limit = refl; graces = refl }
bounds-changed S (Link dir name number) = record { size = refl; most_inodes = refl; file_limit = refl; graces = refl }
bounds-changed S (Rename dir path to_dir to_name number) =
    record { size = refl; most_inodes = refl; file_limit = refl; graces = refl }
bounds-changed S (Chown number owners) = bounds-altered S number _ (inode_at S number)

-- ---- links know neither holders nor graces

module _ (S : State) (hs : List Holder) where
  same-links : (number : ℕ) (b : Bool) → links_of S number b ≡ links_of (record S { holders = hs }) number b
  same-links number true = refl
  same-links number false = refl

  by-inode : (number : ℕ) (o : Option Inode)
      → option_map (λ inode. links_of S number inode.dir) o ≡ option_map (λ inode. links_of (record S { holders = hs }) number inode.dir) o
  by-inode number None = refl
  by-inode number (Some inode) = ap Some (same-links number inode.dir)

  -- other holders leave all links
  pub links-held : (links : List (ℕ × ℕ)) → AreLinks S links → AreLinks (record S { holders = hs }) links
  links-held links kept number = kept number ∙ by-inode number (inode_at S number)

-- ---- a store and its bill

-- the tree of a store is that of its state
pub tree-kept : (s : Stored) (a : Inside) → s ≡ stored_of a → IsCounted (state_of a) a.accounts a.tree.links → IsTreeOf s.state a.tree
tree-kept s a is counted =
    subst (λ (t : Stored). IsTreeOf t.state a.tree) (sym is) (record { inodes = refl; names = refl; links = counted.links; in_order = counted.in_order })

module _ (s : Stored) (a new : Inside) (T : State) (is : s ≡ stored_of a) (keeps : KeepsBounds s.state T)
    (counted : IsCounted (state_of a) a.accounts a.tree.links) (limit : new.file_limit ≡ a.file_limit) (settles : new.accounts ≡ settled a.bill a.accounts)
    (tree : IsTreeOf T new.tree) (next : T.next ≡ new.next) where
  books : s.books ≡ a.accounts
  books = ap (λ (t : Stored). t.books) is

  bill : s.bill ≡ a.bill
  bill = ap (λ (t : Stored). t.bill) is

  state : s.state ≡ state_of a
  state = ap (λ (t : Stored). t.state) is

  settled-here : new.accounts ≡ settled s.bill s.books
  settled-here = settles ∙ (λ i. settled (sym bill i) (sym books i))

  -- the state that it stands for then
  pub state-billed : state_of new ≡ billed s T
  state-billed =
      let size = ap (λ (b : Books). b.size) settles ∙ sym (ap (λ (S : State). S.size) state) ∙ sym keeps.size in
      let most = ap (λ (b : Books). b.most_inodes) settles ∙ sym (ap (λ (S : State). S.most_inodes) state) ∙ sym keeps.most_inodes in
      let limits = limit ∙ sym (ap (λ (S : State). S.file_limit) state) ∙ sym keeps.file_limit in
      let graces = ap (λ (b : Books). b.graces) settles ∙ sym (ap (λ (S : State). S.graces) state) ∙ sym keeps.graces in
      λ i. record {
        size = size i;
        most_inodes = most i;
        file_limit = limits i;
        graces = graces i;
        holders = holders_of (settled-here i);
        inodes = tree.inodes i;
        names = tree.names i;
        next = sym next i;
      }

  -- what it keeps then is what that counts to
  pub counted-billed : CanSettle s T → IsStorable (billed s T) → IsCounted (state_of new) new.accounts new.tree.links
  counted-billed can sound =
      subst (λ (S : State). IsCounted S new.accounts new.tree.links) (sym state-billed) (record {
        sound = sound;
        books = subst (AreBooksOf (billed s T)) (sym settled-here) can.books;
        in_range = subst AreInRange (sym settles) (in_range-settled a.accounts a.bill counted.in_range);
        links = links-held T (holders_of (settled s.bill s.books)) new.tree.links tree.links;
        in_order = tree.in_order;
      })
