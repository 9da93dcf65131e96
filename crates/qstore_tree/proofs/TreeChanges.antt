-- What a contract sees of a tree, and what a change of one node, or one node more, does to it.
use Rattle.std.proofs.Common.{IsSomeAnd, ◌≡◌, ℕ, Bool, true, false, cond, List, [], Option, Some, None, ◌&&◌, refl, sym, ap, ◌∙◌, subst, nat_eq}
use Rattle.std.specs.Ordering.{is_eq, nat_cmp}
use Rattle.std.specs.Cmp.{eq_by_cmp_equiv, nat_cmp_total, tied_itself, unsigned_ties}
use Rattle.std.specs.Cmp.Lexicographic.{slice_cmp, nat_list_cmp_total}
use Rattle.std.specs.FinMap.{nat_cmp-IsAntisymmetric}
use Rattle.std.specs.BTreeMap.{insert_entry, is_at}
use Rattle.std.specs.HashMap as hash
use Rattle.std.specs.HashMap.{HashMap}
use Rattle.std.specs.Map.{lookup, remove_entry}
use Rattle.std.specs.Option.{IfSome, IsSome, is_some, option_map, unwrap_or}
use Rattle.std.proofs.lemmas.Map.Lookups.{exact_bytes}
use Rattle.std.proofs.lemmas.Bool.{eqb-true}
use Rattle.qblocks.specs.File.{Adds}
use Rattle.qplain.specs.State.{Inode, NameKey, is_dir, name_key_cmp}
use Rattle.qstore_tree.specs.declared.node.Content.{Content}
use Rattle.qstore_tree.specs.declared.node.Content.TheVariants.{File as AFile, Directory}
use Rattle.qstore_tree.specs.declared.node.Node.{Node}
use Rattle.qstore_tree.specs.InOrder.{in_order}
use Rattle.qstore_tree.specs.Names.{LosesName}
use Rattle.qstore_tree.specs.Nodes.{IsSameNode, file_in, inode_of, is_dir_content, name_room_in, names_in, roomy_file_in}
use Rattle.qstore_tree.specs.Tree.{IsSameTree, RoomyTree, file_room, name_room, tree_of}
use Rattle.qstore_tree.proofs.AllNames.{name_at, named, named-get, named-gone, named-insert, named-same, named-taken}
use Rattle.qstore_tree.proofs.Bytes.{bytes_tie}
use Rattle.qstore_tree.proofs.InOrder.{in_order-sorted, lookup-insert}
use Rattle.qstore_tree.proofs.Numbered.{IsPut, IsTaken, seen-get, seen-kept, seen-same}

-- ---- from a hash map's clauses
module _ {X S : Type 0} (m n : HashMap ℕ X S) (k : ℕ) (v : X) where
  -- a put by `insert`
  pub put-updates : hash.Updates nat_eq m n k (Some v) → IsPut m.entries n.entries k v
  put-updates u = record { at = u.0 }

  -- a write through what `get_mut` lent
  pub put-writes : (u : X) → Some u ≡ hash.get nat_eq m k → hash.WritesThrough nat_eq (nat_eq k) m v n → IsPut m.entries n.entries k v
  put-writes u found w = put-updates (w.3 (subst IsSome found refl))

-- the same after the entries changed their slots
pub put-reordered : {X : Type 0} (es ms fs : List (ℕ × X)) (k : ℕ) (v : X)
    → ((q : ℕ) → lookup (nat_eq q) ms ≡ lookup (nat_eq q) es) → IsPut ms fs k v → IsPut es fs k v
put-reordered es ms fs k v is put = record { at = λ q. put.at q ∙ ap (cond (nat_eq k q) (Some v)) (is q) }

-- what was put is there
pub put_here : {X : Type 0} (es fs : List (ℕ × X)) (k : ℕ) (v : X) → IsPut es fs k v → lookup (nat_eq k) fs ≡ Some v
put_here es fs k v put = put.at k ∙ ap (λ b. cond b (Some v) (lookup (nat_eq k) es)) (unsigned_ties k k ∙ ap is_eq (tied_itself nat_cmp_total k))

-- ---- what is seen at a number
module _ (nodes : List (ℕ × Node)) (spare : ℕ) (tree : RoomyTree) (seen : tree_of nodes spare ≡ tree) where
  -- the inode
  pub inode_seen : (k : ℕ) → lookup (is_at (nat_cmp k)) tree.inodes ≡ option_map inode_of (lookup (nat_eq k) nodes)
  inode_seen k = ap (λ t. lookup (is_at (nat_cmp k)) t.inodes) (sym seen) ∙ seen-get inode_of nodes k

  -- it is the one that was found
  pub inode_is : (k : ℕ) (node : Node) (inode : Inode) → Some node ≡ lookup (nat_eq k) nodes
      → lookup (is_at (nat_cmp k)) tree.inodes ≡ Some inode → inode_of node ≡ inode
  inode_is k node inode found is =
      let both : Some (inode_of node) ≡ Some inode = ap (option_map inode_of) found ∙ sym (inode_seen k) ∙ is in
      cc

  -- the link count that is kept
  pub links_seen : (k : ℕ) → lookup (is_at (nat_cmp k)) tree.links ≡ option_map (λ n. n.links) (lookup (nat_eq k) nodes)
  links_seen k = ap (λ t. lookup (is_at (nat_cmp k)) t.links) (sym seen) ∙ seen-get (λ n. n.links) nodes k

  -- it is that of the node that was found
  pub links_are : (k : ℕ) (node : Node) (links : ℕ) → Some node ≡ lookup (nat_eq k) nodes
      → lookup (is_at (nat_cmp k)) tree.links ≡ Some links → node.links ≡ links
  links_are k node links found is =
      let both : Some node.links ≡ Some links = ap (option_map (λ n. n.links)) found ∙ sym (links_seen k) ∙ is in
      cc

  -- what a name in it leads to
  pub name_seen : (d : ℕ) (name : List ℕ) → lookup (is_at (name_key_cmp (d, name))) tree.names ≡ name_at name (lookup (nat_eq d) nodes)
  name_seen d name = ap (λ t. lookup (is_at (name_key_cmp (d, name))) t.names) (sym seen) ∙ named-get nodes d name

  -- a name that is taken out is not there
  pub gone_seen : (key : NameKey) → lookup (is_at (name_key_cmp key)) (remove_entry (is_at (name_key_cmp key)) tree.names) ≡ None
  gone_seen key =
      ap (λ t. lookup (is_at (name_key_cmp key)) (remove_entry (is_at (name_key_cmp key)) t.names)) (sym seen) ∙ named-gone nodes key

  -- the room for names
  pub name_room_seen : (d : ℕ) → name_room tree.room d ≡ unwrap_or (option_map (λ n. name_room_in n.content) (lookup (nat_eq d) nodes)) 0
  name_room_seen d = ap (λ t. name_room t.room d) (sym seen) ∙ ap (λ o. unwrap_or o 0) (seen-get (λ n. name_room_in n.content) nodes d)

  -- the file with its room
  pub file_seen : (k : ℕ) → file_room tree.room k ≡ unwrap_or (option_map (λ n. roomy_file_in n.content) (lookup (nat_eq k) nodes)) None
  file_seen k = ap (λ t. file_room t.room k) (sym seen) ∙ ap (λ o. unwrap_or o None) (seen-get (λ n. roomy_file_in n.content) nodes k)

-- what is seen nowhere is nowhere
pub none_seen : {X Y : Type 0} (f : X → Y) (o : Option X) → option_map f o ≡ None → o ≡ None
none_seen f None is = refl
none_seen f (Some x) is = cc

-- what is no directory is a file
pub file_is : (content : Content) → is_dir_content content ≡ false → is_some (roomy_file_in content) ≡ true
file_is (AFile f) is = refl
file_is (Directory names) is = cc

-- what a write adds to the file that an inode holds, it adds to that file with its room
pub adds_in : (content : Content) (off n blocks : ℕ) → Adds (file_in content) off n blocks → IfSome (roomy_file_in content) (λ f. Adds f.file off n blocks)
adds_in (AFile f) off n blocks adds = adds
adds_in (Directory names) off n blocks adds = tt

-- so it adds to the file that is there
pub adds_there : (content : Content) (off n blocks : ℕ) → is_dir_content content ≡ false → Adds (file_in content) off n blocks
    → IsSomeAnd (roomy_file_in content) (λ f. Adds f.file off n blocks)
adds_there (AFile f) off n blocks is adds = adds
adds_there (Directory names) off n blocks is adds = cc

-- other slots and other room are the same tree
pub same_tree-reordered : (es fs : List (ℕ × Node)) (s t : ℕ) (before now : RoomyTree) → tree_of es s ≡ now → IsSameTree before now
    → ((q : ℕ) → lookup (nat_eq q) fs ≡ lookup (nat_eq q) es) → IsSameTree before (tree_of fs t)
same_tree-reordered es fs s t before now seen same is = record {
  inodes = seen-same inode_of es fs (λ q. ap (option_map inode_of) (is q)) ∙ ap (λ t. t.inodes) seen ∙ same.inodes;
  names = named-same es fs (λ d name. ap (name_at name) (is d)) ∙ ap (λ t. t.names) seen ∙ same.names;
  links = seen-same (λ n. n.links) es fs (λ q. ap (option_map (λ n. n.links)) (is q)) ∙ ap (λ t. t.links) seen ∙ same.links;
}

-- ---- a change of one node
module _ (es fs : List (ℕ × Node)) (k : ℕ) (u v : Node) (found : lookup (nat_eq k) es ≡ Some u) (put : IsPut es fs k v) where
  -- its names, by whether a number is its own
  name_kept : names_in v.content ≡ names_in u.content → (d : ℕ) (name : List ℕ) (b : Bool) → nat_eq k d ≡ b
      → name_at name (lookup (nat_eq d) fs) ≡ name_at name (lookup (nat_eq d) es)
  name_kept same d name true is =
      ap (name_at name) (put.at d ∙ ap (λ b. cond b (Some v) (lookup (nat_eq d) es)) is) ∙ ap (lookup (is_at (slice_cmp nat_cmp name))) same
      ∙ ap (name_at name) (sym found) ∙ ap (λ x. name_at name (lookup (nat_eq x) es)) (eqb-true k d is)
  name_kept same d name false is = ap (name_at name) (put.at d ∙ ap (λ b. cond b (Some v) (lookup (nat_eq d) es)) is)

  -- a change that keeps its names keeps all names
  pub named-kept : names_in v.content ≡ names_in u.content → named fs ≡ named es
  named-kept same = named-same es fs (λ d name. name_kept same d name (nat_eq k d) refl)

  -- a change of room alone keeps the tree
  pub same_tree : (s t : ℕ) (tree : RoomyTree) → tree_of es s ≡ tree → IsSameNode u v → IsSameTree tree (tree_of fs t)
  same_tree s t tree seen same = record {
    inodes = seen-kept inode_of es fs k u v found same.inode put ∙ ap (λ t. t.inodes) seen;
    names = named-kept same.names ∙ ap (λ t. t.names) seen;
    links = seen-kept (λ n. n.links) es fs k u v found same.links put ∙ ap (λ t. t.links) seen;
  }

  name_put : (name : List ℕ) (number : ℕ)
      → names_in v.content ≡ insert_entry (slice_cmp nat_cmp) (names_in u.content) name number
      → (d : ℕ) (n : List ℕ) (b : Bool) → nat_eq k d ≡ b
      → name_at n (lookup (nat_eq d) fs) ≡ cond (b && bytes_tie name n) (Some number) (name_at n (lookup (nat_eq d) es))
  name_put name number names d n true is =
      ap (name_at n) (put.at d ∙ ap (λ b. cond b (Some v) (lookup (nat_eq d) es)) is) ∙ ap (lookup (is_at (slice_cmp nat_cmp n))) names
      ∙ lookup-insert nat_list_cmp_total exact_bytes name number (names_in u.content) n
      ∙ ap (λ b. cond b (Some number) (lookup (is_at (slice_cmp nat_cmp n)) (names_in u.content))) ((eq_by_cmp_equiv nat_list_cmp_total).symm n name)
      ∙ ap (λ o. cond (bytes_tie name n) (Some number) (name_at n o)) (sym found ∙ ap (λ x. lookup (nat_eq x) es) (eqb-true k d is))
  name_put name number names d n false is = ap (name_at n) (put.at d ∙ ap (λ b. cond b (Some v) (lookup (nat_eq d) es)) is)

  -- a change that puts a name into its directory
  pub named-put : (name : List ℕ) (number : ℕ)
      → names_in v.content ≡ insert_entry (slice_cmp nat_cmp) (names_in u.content) name number
      → named fs ≡ insert_entry name_key_cmp (named es) (k, name) number
  named-put name number names = named-insert es fs k name number (λ d n. name_put name number names d n (nat_eq k d) refl)

  name_taken : (name : List ℕ) → LosesName name (names_in u.content) (names_in v.content)
      → (d : ℕ) (n : List ℕ) (b : Bool) → nat_eq k d ≡ b
      → name_at n (lookup (nat_eq d) fs) ≡ cond (b && bytes_tie name n) None (name_at n (lookup (nat_eq d) es))
  name_taken name loses d n true is =
      ap (name_at n) (put.at d ∙ ap (λ b. cond b (Some v) (lookup (nat_eq d) es)) is) ∙ loses n
      ∙ ap (λ o. cond (bytes_tie name n) None (name_at n o)) (sym found ∙ ap (λ x. lookup (nat_eq x) es) (eqb-true k d is))
  name_taken name loses d n false is = ap (name_at n) (put.at d ∙ ap (λ b. cond b (Some v) (lookup (nat_eq d) es)) is)

  -- a change that takes a name out of its directory
  pub named-lost : (name : List ℕ) → LosesName name (names_in u.content) (names_in v.content)
      → named fs ≡ remove_entry (is_at (name_key_cmp (k, name))) (named es)
  named-lost name loses = named-taken es fs k name (λ d n. name_taken name loses d n (nat_eq k d) refl)

  elsewhere : (q : ℕ) (b : Bool) → nat_eq k q ≡ b → lookup (nat_eq q) es ≡ None → lookup (nat_eq q) fs ≡ None
  elsewhere q true is none = let other : Some u ≡ None = sym found ∙ ap (λ x. lookup (nat_eq x) es) (eqb-true k q is) ∙ none in cc
  elsewhere q false is none = put.at q ∙ ap (λ b. cond b (Some v) (lookup (nat_eq q) es)) is ∙ none

  -- what was not there is not there after the change
  pub absent_still : (q : ℕ) → lookup (nat_eq q) es ≡ None → lookup (nat_eq q) fs ≡ None
  absent_still q none = elsewhere q (nat_eq k q) refl none

-- ---- one node more
module _ (es fs : List (ℕ × Node)) (k : ℕ) (v : Node) (absent : lookup (nat_eq k) es ≡ None) (put : IsPut es fs k v) where
  name_new : names_in v.content ≡ [] → (d : ℕ) (name : List ℕ) (b : Bool) → nat_eq k d ≡ b
      → name_at name (lookup (nat_eq d) fs) ≡ name_at name (lookup (nat_eq d) es)
  name_new empty d name true is =
      ap (name_at name) (put.at d ∙ ap (λ b. cond b (Some v) (lookup (nat_eq d) es)) is) ∙ ap (lookup (is_at (slice_cmp nat_cmp name))) empty
      ∙ ap (name_at name) (sym absent ∙ ap (λ x. lookup (nat_eq x) es) (eqb-true k d is))
  name_new empty d name false is = ap (name_at name) (put.at d ∙ ap (λ b. cond b (Some v) (lookup (nat_eq d) es)) is)

  -- one with no name in it brings no name
  pub named-new : names_in v.content ≡ [] → named fs ≡ named es
  named-new empty = named-same es fs (λ d name. name_new empty d name (nat_eq k d) refl)

-- no node at all
pub in_order-none : {X : Type 0} {es : List (ℕ × X)} → es ≡ [] → in_order nat_cmp es ≡ []
in_order-none none = ap (in_order nat_cmp) none ∙ in_order-sorted nat_cmp_total nat_cmp-IsAntisymmetric [] tt

-- ---- one node less
-- a file has no names
pub no_names : (content : Content) → is_dir_content content ≡ false → names_in content ≡ []
no_names (AFile f) is = refl
no_names (Directory names) is = cc

-- a file has no name in it, and a directory none if this says so
pub no_name_in : (o : Option Node) → (is_dir (option_map inode_of o) ≡ true → (name : List ℕ) → name_at name o ≡ None) → (name : List ℕ) → name_at name o ≡ None
no_name_in None none name = refl
no_name_in (Some node) none name = no_name_at node (is_dir_content node.content) refl none name
  where
    no_name_at : (node : Node) (b : Bool) → is_dir_content node.content ≡ b
        → (is_dir_content node.content ≡ true → (name : List ℕ) → name_at name (Some node) ≡ None)
        → (name : List ℕ) → name_at name (Some node) ≡ None
    no_name_at node true is none name = none is name
    no_name_at node false is none name = ap (lookup (is_at (slice_cmp nat_cmp name))) (no_names node.content is)

module _ (es fs : List (ℕ × Node)) (k : ℕ) (taken : IsTaken es fs k) (empty : (name : List ℕ) → name_at name (lookup (nat_eq k) es) ≡ None) where
  name_left : (d : ℕ) (name : List ℕ) (b : Bool) → nat_eq k d ≡ b → name_at name (lookup (nat_eq d) fs) ≡ name_at name (lookup (nat_eq d) es)
  name_left d name true is =
      ap (name_at name) (taken.at d ∙ ap (λ b. cond b None (lookup (nat_eq d) es)) is)
      ∙ sym (empty name) ∙ ap (λ x. name_at name (lookup (nat_eq x) es)) (eqb-true k d is)
  name_left d name false is = ap (name_at name) (taken.at d ∙ ap (λ b. cond b None (lookup (nat_eq d) es)) is)

  -- one with no name in it takes no name along
  pub named-left : named fs ≡ named es
  named-left = named-same es fs (λ d name. name_left d name (nat_eq k d) refl)
