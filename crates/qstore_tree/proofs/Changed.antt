-- What a contract sees of a tree of which one node was changed through what the table lent, or in which none was.
use Rattle.std.proofs.Common.{◌≡◌, ◌≤◌, ℕ, Bool, true, false, cond, List, Option, Some, None, refl, sym, ap, ◌∙◌, subst, nat_eq, arith}
use Rattle.std.specs.Ordering.{nat_cmp}
use Rattle.std.specs.Cmp.Lexicographic.{slice_cmp}
use Rattle.std.specs.BTreeMap.{insert_entry, is_at}
use Rattle.std.specs.HashMap as hash
use Rattle.std.specs.HashMap.{HashMap, spare}
use Rattle.std.specs.Map.{lookup, remove_entry, set_value}
use Rattle.std.specs.Option.{option_map, unwrap_or}
use Rattle.std.proofs.lemmas.Bool.{eqb-true}
use Rattle.qblocks.specs.WriteRoom.{RoomyFile}
use Rattle.qplain.specs.State.{Inode, name_key_cmp}
use Rattle.qstore_tree.specs.declared.node.Node.{Node}
use Rattle.qstore_tree.specs.declared.tree.Tree.TheInside.{Inside}
use Rattle.qstore_tree.specs.Names.{LosesName}
use Rattle.qstore_tree.specs.Nodes.{inode_of, name_room_in, names_in, roomy_file_in}
use Rattle.qstore_tree.specs.Room.{KeepsRoom, Room, name_room}
use Rattle.qstore_tree.specs.Tree.{RoomyTree, tree_of}
use Rattle.qstore_tree.proofs.AllNames.{name_at}
use Rattle.qstore_tree.proofs.Numbered.{IsPut, seen-get, seen-kept, seen-set}
use Rattle.qstore_tree.proofs.Read.{remove_none, set_none}
use Rattle.qstore_tree.proofs.TreeChanges.{inode_is, inode_seen, name_room_seen, name_seen, named-kept, named-lost, named-put, put-writes, put_here}

-- what is seen of a tree's fields
abbrev pub seen_of : Inside → RoomyTree
seen_of a = tree_of a.nodes.entries (spare a.nodes)

-- room of these three parts
abbrev pub the_room : ℕ → List (ℕ × ℕ) → List (ℕ × Option RoomyFile) → Room
the_room i ns fs = record { inodes = i; names = ns; files = fs }

-- where nothing changed there is no less room
pub room-same : (old new : RoomyTree) → new ≡ old → KeepsRoom old.room new.room
room-same old new same = subst (λ (t : RoomyTree). KeepsRoom old.room t.room) (sym same) (record { inodes = refl; names = λ d. omega arith; files = refl })

-- a table m, seen as this tree, has the node u at k, and n is that table with v in its place
pub record IsChanged {S : Type 0} (tree : RoomyTree) (m n : HashMap ℕ Node S) (k : ℕ) (u v : Node) : Type 0 where
  pub seen : tree_of m.entries (spare m) ≡ tree
  pub found : Some u ≡ hash.get nat_eq m k
  pub writes : hash.WritesThrough nat_eq (nat_eq k) m v n

-- a table m, seen as this tree, has no node at k
pub record HasNone {S : Type 0} (tree : RoomyTree) (m : HashMap ℕ Node S) (k : ℕ) : Type 0 where
  pub seen : tree_of m.entries (spare m) ≡ tree
  pub none : None ≡ hash.get nat_eq m k

module _ {S : Type 0} {tree : RoomyTree} {m n : HashMap ℕ Node S} {k : ℕ} {u v : Node} (change : IsChanged tree m n k u v) where
  -- the node is in its slot
  pub put : IsPut m.entries n.entries k v
  put = put-writes m n k v u change.found change.writes

  -- the inode that stood there
  pub inode-changed : (inode : Inode) → lookup (is_at (nat_cmp k)) tree.inodes ≡ Some inode → inode_of u ≡ inode
  inode-changed inode is = inode_is m.entries (spare m) tree change.seen k u inode change.found is

  -- another inode in its slot
  pub inodes-set : (tree_of n.entries (spare n)).inodes ≡ set_value (is_at (nat_cmp k)) tree.inodes (inode_of v)
  inodes-set = seen-set inode_of m.entries n.entries k u v (sym change.found) put ∙ ap (λ t. set_value (is_at (nat_cmp k)) t.inodes (inode_of v)) change.seen

  -- the same inode
  pub inodes-kept : inode_of v ≡ inode_of u → (tree_of n.entries (spare n)).inodes ≡ tree.inodes
  inodes-kept same = seen-kept inode_of m.entries n.entries k u v (sym change.found) same put ∙ ap (λ t. t.inodes) change.seen

  -- another link count
  pub links-set : (tree_of n.entries (spare n)).links ≡ set_value (is_at (nat_cmp k)) tree.links v.links
  links-set = seen-set (λ x. x.links) m.entries n.entries k u v (sym change.found) put ∙ ap (λ t. set_value (is_at (nat_cmp k)) t.links v.links) change.seen

  -- the same link count
  pub links-kept : v.links ≡ u.links → (tree_of n.entries (spare n)).links ≡ tree.links
  links-kept same = seen-kept (λ x. x.links) m.entries n.entries k u v (sym change.found) same put ∙ ap (λ t. t.links) change.seen

  -- the same names in it
  pub names-kept : names_in v.content ≡ names_in u.content → (tree_of n.entries (spare n)).names ≡ tree.names
  names-kept same = named-kept m.entries n.entries k u v (sym change.found) put same ∙ ap (λ t. t.names) change.seen

  -- one name more in it
  pub names-put : (name : List ℕ) (number : ℕ) → names_in v.content ≡ insert_entry (slice_cmp nat_cmp) (names_in u.content) name number
      → (tree_of n.entries (spare n)).names ≡ insert_entry name_key_cmp tree.names (k, name) number
  names-put name number is =
      named-put m.entries n.entries k u v (sym change.found) put name number is ∙ ap (λ t. insert_entry name_key_cmp t.names (k, name) number) change.seen

  -- one name less in it
  pub names-lost : (name : List ℕ) → LosesName name (names_in u.content) (names_in v.content)
      → (tree_of n.entries (spare n)).names ≡ remove_entry (is_at (name_key_cmp (k, name))) tree.names
  names-lost name loses =
      named-lost m.entries n.entries k u v (sym change.found) put name loses ∙ ap (λ t. remove_entry (is_at (name_key_cmp (k, name))) t.names) change.seen

  -- the room for inodes
  pub inode_room-kept : spare n ≡ tree.room.inodes
  inode_room-kept = change.writes.6 ∙ ap (λ t. t.room.inodes) change.seen

  -- the room in files
  pub files-kept : roomy_file_in v.content ≡ roomy_file_in u.content → (tree_of n.entries (spare n)).room.files ≡ tree.room.files
  files-kept same = seen-kept (λ x. roomy_file_in x.content) m.entries n.entries k u v (sym change.found) same put ∙ ap (λ t. t.room.files) change.seen

  -- all room
  pub room-kept : name_room_in v.content ≡ name_room_in u.content → roomy_file_in v.content ≡ roomy_file_in u.content
      → (tree_of n.entries (spare n)).room ≡ tree.room
  room-kept names files =
      let for_names = seen-kept (λ x. name_room_in x.content) m.entries n.entries k u v (sym change.found) names put ∙ ap (λ t. t.room.names) change.seen in
      ap (λ (i : ℕ). the_room i (tree_of n.entries (spare n)).room.names (tree_of n.entries (spare n)).room.files) inode_room-kept
      ∙ ap (λ (ns : List (ℕ × ℕ)). the_room tree.room.inodes ns (tree_of n.entries (spare n)).room.files) for_names
      ∙ ap (λ (fs : List (ℕ × Option RoomyFile)). the_room tree.room.inodes tree.room.names fs) (files-kept files)

  -- the room for names in the directory after the change
  pub name_room-here : name_room (tree_of n.entries (spare n)).room k ≡ name_room_in v.content
  name_room-here =
      name_room_seen n.entries (spare n) (tree_of n.entries (spare n)) refl k
      ∙ ap (λ o. unwrap_or (option_map (λ x. name_room_in x.content) o) 0) (put_here m.entries n.entries k v put)

  room_at : name_room_in u.content ≤ name_room_in v.content → (d : ℕ) (b : Bool) → nat_eq k d ≡ b
      → name_room tree.room d ≤ name_room (tree_of n.entries (spare n)).room d
  room_at more d b is =
      let room : Option Node → ℕ = λ o. unwrap_or (option_map (λ x. name_room_in x.content) o) 0 in
      let old : name_room tree.room d ≡ room (lookup (nat_eq d) m.entries) = name_room_seen m.entries (spare m) tree change.seen d in
      let new : name_room (tree_of n.entries (spare n)).room d ≡ room (cond (nat_eq k d) (Some v) (lookup (nat_eq d) m.entries)) =
      name_room_seen n.entries (spare n) (tree_of n.entries (spare n)) refl d ∙ ap room (put.at d) in
      elim b as (λ (b : Bool). nat_eq k d ≡ b → name_room tree.room d ≤ name_room (tree_of n.entries (spare n)).room d) [
        | true ↦ λ is.
            let before : name_room tree.room d ≡ name_room_in u.content =
            old ∙ ap (λ x. room (lookup (nat_eq x) m.entries)) (sym (eqb-true k d is)) ∙ ap room (sym change.found) in
            let after : name_room (tree_of n.entries (spare n)).room d ≡ name_room_in v.content =
            new ∙ ap (λ b. room (cond b (Some v) (lookup (nat_eq d) m.entries))) is in
            omega (arith, before, after, more)
        | false ↦ λ is.
            let after : name_room (tree_of n.entries (spare n)).room d ≡ room (lookup (nat_eq d) m.entries) =
            new ∙ ap (λ b. room (cond b (Some v) (lookup (nat_eq d) m.entries))) is in
            omega (arith, old, after)
      ] is

  -- a change after which there is no less room in that directory
  pub room-no_less : name_room_in u.content ≤ name_room_in v.content → roomy_file_in v.content ≡ roomy_file_in u.content
      → KeepsRoom tree.room (tree_of n.entries (spare n)).room
  room-no_less more files = record {
    inodes = inode_room-kept;
    names = λ d. room_at more d (nat_eq k d) refl;
    files = files-kept files;
  }

module _ {S : Type 0} {tree : RoomyTree} {m : HashMap ℕ Node S} {k : ℕ} (here : HasNone tree m k) where
  -- there is no inode
  pub inode-absent : lookup (is_at (nat_cmp k)) tree.inodes ≡ None
  inode-absent = inode_seen m.entries (spare m) tree here.seen k ∙ ap (option_map inode_of) (sym here.none)

  -- there is no link count to set
  pub links-absent : (links : ℕ) → tree.links ≡ set_value (is_at (nat_cmp k)) tree.links links
  links-absent links =
      let none : lookup (is_at (nat_cmp k)) tree.links ≡ None =
      ap (λ t. lookup (is_at (nat_cmp k)) t.links) (sym here.seen) ∙ seen-get (λ x. x.links) m.entries k
      ∙ ap (option_map (λ x. x.links)) (sym here.none) in
      sym (set_none (is_at (nat_cmp k)) tree.links links none)

  -- there is no name to take out
  pub names-absent : (name : List ℕ) → tree.names ≡ remove_entry (is_at (name_key_cmp (k, name))) tree.names
  names-absent name =
      sym (remove_none (is_at (name_key_cmp (k, name))) tree.names (name_seen m.entries (spare m) tree here.seen k name ∙ ap (name_at name) (sym here.none)))
