-- The keys of tables beside the maps that hold them.
use Rattle.std.proofs.Common.{◌≡◌, ℕ, Bool, ◌||◌, List, [], ◌∷◌, ◌++◌, map, Option, string_bytes, fold, refl, sym, ap, ◌∙◌}
use Rattle.std.specs.List.{filter, flat_map, list_any}
use Rattle.std.specs.Map.{keys_of as map_keys_of}
use Rattle.std.proofs.lemmas.Grind.{flat_map-append, fold-append}
use Rattle.std.proofs.lemmas.List.Elements.{filter-append}
use Rattle.toml.specs.Data.{Members}
use Rattle.toml.specs.View.{members_view}
use Rattle.toml.proofs.Views.{Entry}
use Rattle.qtext_config.specs.ConfigKeys.{keys_of, lesser_of}

-- the keys of a table's members are those of its map
pub keys_of-members_view : (es : List Entry) → keys_of (members_view es) ≡ map string_bytes (map_keys_of es)
keys_of-members_view [] = refl
keys_of-members_view (e ∷ es) =
    let also : List (List ℕ) → List (List ℕ) = λ ks. string_bytes e.0 ∷ ks in ap also (keys_of-members_view es)

-- a test of some value seen by a view
pub list_any-map : {X Y : Type 0} (test : Y → Bool) (view : X → Y) (xs : List X)
    → list_any (λ x. test (view x)) xs ≡ list_any test (map view xs)
list_any-map test view [] = refl
list_any-map test view (x ∷ xs) = let either : Bool → Bool = λ b. test (view x) || b in ap either (list_any-map test view xs)

-- the least of two lists of keys, one after the other
pub least-append : (test : List ℕ → Bool) (least : Option (List ℕ)) (xs ys : List (List ℕ))
    → fold lesser_of least (filter test (xs ++ ys)) ≡ fold lesser_of (fold lesser_of least (filter test xs)) (filter test ys)
least-append test least xs ys = rw (filter-append test xs ys, fold-append lesser_of least (filter test xs) (filter test ys))

-- the least of the keys of tables goes on after the first of them
pub least-tables : (test : List ℕ → Bool) (least total : Option (List ℕ)) (table : Members) (others rest : List Members)
    → rest ≡ table ∷ others → fold lesser_of least (filter test (flat_map keys_of rest)) ≡ total
    → fold lesser_of (fold lesser_of least (filter test (keys_of table))) (filter test (flat_map keys_of others)) ≡ total
least-tables test least total table others rest cut so_far =
    sym (least-append test least (keys_of table) (flat_map keys_of others)) ∙ (rw cut at so_far)

-- the least of the keys of two lists of tables
pub least-lists : (test : List ℕ → Bool) (least : Option (List ℕ)) (xs ys : List Members)
    → fold lesser_of least (filter test (flat_map keys_of (xs ++ ys)))
    ≡ fold lesser_of (fold lesser_of least (filter test (flat_map keys_of xs))) (filter test (flat_map keys_of ys))
least-lists test least xs ys = rw (flat_map-append keys_of xs ys) (least-append test least (flat_map keys_of xs) (flat_map keys_of ys))
