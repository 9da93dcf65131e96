-- A new store: it is in the state at the start, and what it keeps is what that counts to.
use Rattle.std.proofs.Common.{◌≡◌, ℕ, Bool, true, false, cond, [], ◌∷◌, Some, None, refl, sym, subst, ◌≤◌}
use Rattle.std.specs.BTreeMap.{is_at}
use Rattle.std.specs.List.Sorted.{IsStrictlySortedBy}
use Rattle.std.specs.Option.{option_map}
use Rattle.std.specs.Ordering.{nat_cmp}
use Rattle.qblocks.specs.declared.file.TheConstants.{MAX_SIZE}
use Rattle.qplain.specs.declared.bounds.TheConstants.{ROOT}
use Rattle.qplain.specs.Editions.{file_limit_of}
use Rattle.qplain.specs.Setups.{IsLawfulSetup, Setting}
use Rattle.qplain.specs.State.{State, root, start}
use Rattle.qplain.specs.Use.{links_of}
use Rattle.qplain_laws.proofs.Start.{start_is_lawful}
use Rattle.qstore_tree.specs.TreeOf.{AreLinks}
use Rattle.qstore_change.proofs.Making.{InOrder}
use Rattle.qstore_accounts.specs.Books.{AreBooksOf, AreInRange}
use Rattle.qstore.specs.Parts.{IsCounted}
use Rattle.qstore.specs.Kept.{state_of}
use Rattle.qstore.specs.declared.store.Store.TheInside.{Inside}

-- the root directory has the links of a directory with no name in it
links-by : (s : Setting) (number : ℕ) (b : Bool)
    → cond b (Some 2) None ≡ option_map (λ inode. links_of (start s) number inode.dir) (cond b (Some (root s)) None)
links-by s number true = refl
links-by s number false = refl

links-begun : (s : Setting) → AreLinks (start s) ((ROOT, 2) ∷ [])
links-begun s number = links-by s number (is_at (nat_cmp number) ROOT)

one-in-order : InOrder ((ROOT, 2) ∷ [])
unfolding IsStrictlySortedBy
one-in-order = (tt, tt)

module _ (s : Setting) (a : Inside) (books : AreBooksOf (start s) a.accounts) (limit : a.file_limit ≡ file_limit_of s.edition)
    (bound : file_limit_of s.edition ≤ MAX_SIZE) (next : a.next ≡ 2)
    (inodes : a.tree.inodes ≡ (ROOT, root s) ∷ []) (names : a.tree.names ≡ []) (links : a.tree.links ≡ (ROOT, 2) ∷ []) where
  -- the state of a new store
  pub state-begun : state_of a ≡ start s
  state-begun = λ i. record {
    size = books.size i;
    most_inodes = books.most_inodes i;
    file_limit = limit i;
    graces = books.graces i;
    holders = sym books.holders i;
    inodes = inodes i;
    names = names i;
    next = next i;
  }

  -- and what it keeps
  pub counted-begun : IsLawfulSetup s → AreInRange a.accounts → IsCounted (state_of a) a.accounts a.tree.links
  counted-begun lawful in_range =
      subst (λ (S : State). IsCounted S a.accounts a.tree.links) (sym state-begun) (record {
        sound = record { lawful = start_is_lawful s lawful; file_bound = bound };
        books = books;
        in_range = in_range;
        links = subst (AreLinks (start s)) (sym links) (links-begun s);
        in_order = subst InOrder (sym links) one-in-order;
      })
