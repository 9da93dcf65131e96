-- What an opening tells, and what is always true of what it keeps.
use Rattle.std.specs.Prelude.{◌≡◌, ◌≤◌, ◌&&◌, ℕ, true, List, [], ◌∷◌, map, nat_lt, Option, Some, None, option_map}
use Rattle.std.specs.declared.cmp.Ordering.{Ordering}
use Rattle.std.specs.Map.{keys_of}
use Rattle.std.specs.Ordering.{nat_cmp}
use Rattle.qblocks.specs.declared.file.TheConstants.{MAX_SIZE}
use Rattle.qplain.specs.State.{NameKey, State, is_directory, name_key_cmp}
use Rattle.qplain.specs.Use.{names_to}
use Rattle.qstore_tree.specs.TreeOf.{IsTreeOf}
use Rattle.qtext_image.specs.Faults.{do_rise}
use Rattle.qstore_open.specs.declared.last_name.LastName.{LastName}
use Rattle.qstore_open.specs.declared.opening.Opening.TheInside.{Inside}
use Rattle.qstore_open.specs.Named.{is_among}
use Rattle.qstore_open.specs.Told.{Told, parts_of}

-- the state that the rows have made so far
abbrev pub state_in : Inside → State
state_in o = record {
  size = o.bounds.size;
  most_inodes = o.bounds.most_inodes;
  file_limit = o.file_limit;
  graces = o.graces;
  holders = map (λ t. t.holder) (parts_of o.records);
  inodes = o.tree.inodes;
  names = o.tree.names;
  next = o.bounds.next;
}

-- what an opening tells
abbrev pub told_in : Inside → Told
told_in o = record { state = state_in o; records = parts_of o.records }

-- the last of them
abbrev pub last_of : {A : Type 0} → List A → Option A
last_of [] = None
last_of (x ∷ []) = Some x
last_of (x ∷ y ∷ rest) = last_of (y ∷ rest)

-- they rise, and this is the last
pub record IsLast {K : Type 0} (cmp : K → K → Ordering) (ks : List K) (last : Option K) : Type 0 where
  pub rise : do_rise cmp ks ≡ true
  pub is : last_of ks ≡ last

-- the key of the name that was told last
abbrev pub key_of : LastName → NameKey
key_of n = (n.dir, n.text.items)

-- the tree is the state's, of which are known the last inode, the last name, and which directories have a name
pub record IsKept (o : Inside) : Type 0 where
  pub tree : IsTreeOf (state_in o) o.tree
  pub numbers : IsLast nat_cmp (keys_of o.tree.inodes) o.last
  pub keys : IsLast name_key_cmp (keys_of o.tree.names) (option_map key_of o.last_name)
  pub named : (n : ℕ) → is_among n o.named.numbers.keys
      ≡ (is_directory (state_in o) n && nat_lt 0 (names_to (state_in o) n))
  pub limit : o.file_limit ≤ MAX_SIZE
