-- A hash map's entries in the order of their keys.
use Rattle.std.specs.Prelude.{List, [], ◌∷◌}
use Rattle.std.specs.declared.cmp.Ordering.{Ordering}
use Rattle.std.specs.FinMap as map

-- the entries of any list, in key order; at a key that stands twice the first value
abbrev pub in_order : {K X : Type 0} → (K → K → Ordering) → List (K × X) → List (K × X)
in_order R es = map.entries (map.from_entries {R = R} es)

-- the entries with their values read by f
abbrev pub read_by : {K X Y : Type 0} → (X → Y) → List (K × X) → List (K × Y)
read_by f [] = []
read_by f (e ∷ es) = (e.0, f e.1) ∷ read_by f es

-- the entries under the keys that f makes of theirs
abbrev pub keyed_by : {K L X : Type 0} → (K → L) → List (K × X) → List (L × X)
keyed_by f [] = []
keyed_by f (e ∷ es) = (f e.0, e.1) ∷ keyed_by f es
