-- An opening with one inode more, behind all others and before all names.
use Rattle.std.proofs.Common.{◌≡◌, ℕ, ◌+◌, ◌==◌, Bool, true, false, not, ◌&&◌, cond, nat_lt, List, [], ◌∷◌, ◌++◌, count_by, Option, Some, None, option_map, refl, sym, ap, subst, ◌∙◌}
use Rattle.std.specs.BTreeMap.{insert_entry, is_at}
use Rattle.std.specs.List.Sorted.{IsStrictlySortedBy}
use Rattle.std.specs.Map.{keys_of, lookup, set_value}
use Rattle.std.specs.Ordering.{nat_cmp}
use Rattle.std.specs.declared.cmp.Ordering.{Ordering}
use Rattle.std.specs.declared.cmp.Ordering.TheVariants.{Less, Equal, Greater}
use Rattle.std.proofs.lemmas.Bool.{and_parts, eqb-true}
use Rattle.std.proofs.lemmas.List.{length-replicate, nil_from_length}
use Rattle.std.proofs.lemmas.Cmp.{nat_cmp_total}
use Rattle.qblocks.specs.File.{size_of}
use Rattle.qplain.specs.declared.owners.Owners.{Owners}
use Rattle.qplain.specs.State.{Inode, NameKey, State, inode_at, is_directory, name_key_cmp}
use Rattle.qplain.specs.Use.{links_of, names_to}
use Rattle.qplain_laws.proofs.Orders.{sorted-insert}
use Rattle.qplain_laws.proofs.Tables.{lookup-insert_new}
use Rattle.qstore_tree.specs.Nodes.{unfilled_file}
use Rattle.qstore_tree.specs.Tree.{RoomyTree}
use Rattle.qstore_tree.specs.TreeOf.{AreLinks, IsTreeOf}
use Rattle.qtext_image.specs.Faults.{ImageKind}
use Rattle.qtext_image.specs.NextFaults.{are_none, inode_fault, is_behind, may_stand}
use Rattle.qstore_open.specs.declared.opening.Opening.TheInside.{Inside}
use Rattle.qstore_open.specs.Kept.{IsKept, IsLast, key_of, state_in, told_in}
use Rattle.qstore_open.specs.Told.{Told}
use Rattle.qstore_open.proofs.Lasts.{absent-end, insert-end, is-last-end}

pub fault-kept : (test : Bool) (kind : ImageKind) (others : Option ImageKind) → cond (not test) (Some kind) others ≡ None → (test ≡ true) × (others ≡ None)
fault-kept true kind others e = (refl, e)
fault-kept false kind others e = absurd (cc e)

-- ---- a value that is set where it was just put

module _ {K X : Type 0} (cmp : K → K → Ordering) (k : K) (v w : X) (itself : is_at (cmp k) k ≡ true) where
  at-front : (es : List (K × X)) → set_value (is_at (cmp k)) ((k, v) ∷ es) w ≡ (k, w) ∷ es
  at-front es = rw itself refl

  pub set-inserted : (es : List (K × X)) → lookup (is_at (cmp k)) es ≡ None
      → set_value (is_at (cmp k)) (insert_entry cmp es k v) w ≡ insert_entry cmp es k w
  set-inserted [] none = at-front []
  set-inserted (e ∷ es) none = by (cmp k e.0) refl (set-inserted es)
    where
      by : (o : Ordering) → cmp k e.0 ≡ o
          → (lookup (is_at (cmp k)) es ≡ None → set_value (is_at (cmp k)) (insert_entry cmp es k v) w ≡ insert_entry cmp es k w)
          → set_value (is_at (cmp k)) (insert_entry cmp (e ∷ es) k v) w ≡ insert_entry cmp (e ∷ es) k w
      by Less is further = rw is (at-front (e ∷ es))
      by Equal is further =
          let here : lookup (is_at (cmp k)) (e ∷ es) ≡ Some e.1 = rw is refl in
          absurd (cc (sym none ∙ here))
      by Greater is further =
          let later : lookup (is_at (cmp k)) (e ∷ es) ≡ lookup (is_at (cmp k)) es = rw is refl in
          let past : is_at (cmp k) e.0 ≡ false = rw is refl in
          rw is (ap (λ b. cond b ((e.0, w) ∷ insert_entry cmp es k v) (e ∷ set_value (is_at (cmp k)) (insert_entry cmp es k v) w)) past
          ∙ ap (λ l. e ∷ l) (further (sym later ∙ none)))

pub size_unfilled : (owners : Owners) (size : ℕ) → size_of (unfilled_file owners size).file ≡ size
size_unfilled owners size = length-replicate {A = ℕ} size 0

-- ---- links before all names

bare : (T : State) → T.names ≡ [] → (n : ℕ) (dir : Bool) → links_of T n dir ≡ cond dir 2 0
bare T none n false = ap (λ names. count_by (λ e. e.1 == n) names) none
bare T none n true = ap (λ names. 2 + count_by (λ e. e.0.0 == n && is_directory T e.1) names) none

module _ (S : State) (none : S.names ≡ []) (number : ℕ) (inode : Inode) (behind : is_behind nat_cmp (keys_of S.inodes) number ≡ true) where
  -- the state with the inode
  abbrev pub more : State
  more = record S { inodes = S.inodes ++ (number, inode) ∷ [] }

  absent : inode_at S number ≡ None
  absent = absent-end nat_cmp nat_cmp_total S.inodes number behind

  inode_at-more : (q : ℕ) → inode_at more q ≡ cond (is_at (nat_cmp q) number) (Some inode) (inode_at S q)
  inode_at-more q =
      ap (lookup (is_at (nat_cmp q))) (sym (insert-end nat_cmp nat_cmp_total S.inodes number inode behind))
      ∙ lookup-insert_new nat_cmp_total S.inodes number inode q absent

  pub links-more : (links : List (ℕ × ℕ)) → AreLinks S links → AreLinks more (insert_entry nat_cmp links number (cond inode.dir 2 0))
  links-more links kept q =
      lookup-insert_new nat_cmp_total links number (cond inode.dir 2 0) q (kept number ∙ ap (option_map (λ i. links_of S number i.dir)) absent)
      ∙ by (is_at (nat_cmp q) number)
      ∙ ap (option_map (λ i. links_of more q i.dir)) (sym (inode_at-more q))
    where
      by : (b : Bool) → cond b (Some (cond inode.dir 2 0)) (lookup (is_at (nat_cmp q)) links)
          ≡ option_map (λ i. links_of more q i.dir) (cond b (Some inode) (inode_at S q))
      by true = ap Some (sym (bare more none q inode.dir))
      by false = kept q ∙ (λ k. option_map (λ i. (bare S none q i.dir ∙ sym (bare more none q i.dir)) k) (inode_at S q))

  pub tree-more : (tree after : RoomyTree) → IsTreeOf S tree → after.inodes ≡ insert_entry nat_cmp tree.inodes number inode → after.names ≡ tree.names
      → after.links ≡ insert_entry nat_cmp tree.links number (cond inode.dir 2 0) → IsTreeOf more after
  tree-more tree after is inodes names links = record {
    inodes = inodes ∙ ap (λ es. insert_entry nat_cmp es number inode) is.inodes ∙ insert-end nat_cmp nat_cmp_total S.inodes number inode behind;
    names = names ∙ is.names;
    links = subst (AreLinks more) (sym links) (links-more tree.links is.links);
    in_order = subst (λ (l : List (ℕ × ℕ)). IsStrictlySortedBy nat_cmp (keys_of l)) (sym links)
        (sorted-insert nat_cmp_total tree.links number (cond inode.dir 2 0) is.in_order);
  }

nothing-named : (b : Bool) (n : ℕ) → n ≡ 0 → (b && nat_lt 0 n) ≡ false
nothing-named true n none = rw none refl
nothing-named false n none = refl

-- what is kept with an inode more
pub kept-more : (o : Inside) → IsKept o → (none : o.tree.names ≡ []) (number : ℕ) (inode : Inode) → is_behind nat_cmp (keys_of o.tree.inodes) number ≡ true
    → (after : RoomyTree) → after.inodes ≡ insert_entry nat_cmp o.tree.inodes number inode → after.names ≡ o.tree.names
    → after.links ≡ insert_entry nat_cmp o.tree.links number (cond inode.dir 2 0) → IsKept (record o { tree = after; last = Some number })
kept-more o kept none number inode behind after inodes names links =
    let S : State = state_in o in
    let p : Inside = record o { tree = after; last = Some number } in
    let is = tree-more S none number inode behind o.tree after kept.tree inodes names links in
    let same : state_in p ≡ more S none number inode behind = (λ i. record S { inodes = is.inodes i; names = is.names i }) in
    let none-to : (T : State) (n : ℕ) → T.names ≡ [] → names_to T n ≡ 0 = (λ T n no. ap (λ ns. count_by (λ e. e.1 == n) ns) no) in
    record {
      tree = subst (λ (T : State). IsTreeOf T after) (sym same) is;
      numbers = subst (λ (es : List (ℕ × Inode)). IsLast nat_cmp (keys_of es) (Some number)) (sym is.inodes)
          (is-last-end nat_cmp o.tree.inodes number inode kept.numbers.rise behind);
      keys = subst (λ (ns : List (NameKey × ℕ)). IsLast name_key_cmp (keys_of ns) (option_map key_of o.last_name)) (sym names) kept.keys;
      named = λ n. kept.named n ∙ nothing-named (is_directory S n) (names_to S n) (none-to S n none)
          ∙ sym (nothing-named (is_directory (state_in p) n) (names_to (state_in p) n) (none-to (state_in p) n (names ∙ none)));
      limit = kept.limit;
    }

-- an inode of which nothing is wrong stands behind all others and before all names
pub stood : (S : State) (e : ℕ × Inode) → inode_fault S e ≡ None → (S.names ≡ []) × (is_behind nat_cmp (keys_of S.inodes) e.0 ≡ true)
stood S e fine =
    let may : may_stand S e.0 ≡ true = (fault-kept (may_stand S e.0) _ _ fine).0 in
    let behind = and_parts _ (is_behind nat_cmp (keys_of S.inodes) e.0) may in
    let none = and_parts _ (are_none S.names) behind.0 in
    (nil_from_length S.names (eqb-true _ 0 none.1), behind.1)

-- ---- of an opening that tells so much

module _ (o : Inside) (now : Told) (view : told_in o ≡ now) where
  pub stood-in : (e : ℕ × Inode) → inode_fault now.state e ≡ None → (o.tree.names ≡ []) × (is_behind nat_cmp (keys_of o.tree.inodes) e.0 ≡ true)
  stood-in e fine = stood (state_in o) e (ap (λ t. inode_fault t.state e) view ∙ fine)

  pub absent-in : (e : ℕ × Inode) → inode_fault now.state e ≡ None → lookup (is_at (nat_cmp e.0)) o.tree.inodes ≡ None
  absent-in e fine = absent-end nat_cmp nat_cmp_total o.tree.inodes e.0 (stood-in e fine).1

  pub unlinked-in : IsKept o → (e : ℕ × Inode) → inode_fault now.state e ≡ None → lookup (is_at (nat_cmp e.0)) o.tree.links ≡ None
  unlinked-in kept e fine = kept.tree.links e.0 ∙ ap (option_map (λ i. links_of (state_in o) e.0 i.dir)) (absent-in e fine)

  pub kept-in : IsKept o → (number : ℕ) (inode : Inode) → inode_fault now.state (number, inode) ≡ None → (after : RoomyTree)
      → after.inodes ≡ insert_entry nat_cmp o.tree.inodes number inode → after.names ≡ o.tree.names
      → after.links ≡ insert_entry nat_cmp o.tree.links number (cond inode.dir 2 0) → IsKept (record o { tree = after; last = Some number })
  kept-in kept number inode fine after inodes names links =
      let is = stood-in (number, inode) fine in
      kept-more o kept is.0 number inode is.1 after inodes names links

  pub told-in : (number : ℕ) (inode : Inode) → inode_fault now.state (number, inode) ≡ None → (after : RoomyTree)
      → after.inodes ≡ insert_entry nat_cmp o.tree.inodes number inode → after.names ≡ o.tree.names
      → told_in (record o { tree = after; last = Some number })
      ≡ record { state = record now.state { inodes = now.state.inodes ++ (number, inode) ∷ [] }; records = now.records }
  told-in number inode fine after inodes names =
      let end = insert-end nat_cmp nat_cmp_total o.tree.inodes number inode (stood-in (number, inode) fine).1 in
      (λ i. record { state = record (state_in o) { inodes = (inodes ∙ end) i; names = names i }; records = (told_in o).records })
      ∙ (λ i. record { state = record (view i).state { inodes = (view i).state.inodes ++ (number, inode) ∷ [] }; records = (view i).records })
