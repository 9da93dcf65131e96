-- Each plain result leaves every name but those that it is made of.
use Rattle.std.proofs.Common.{◌≡◌, ℕ, true, false, List, Some, None, is_some, Ok, sym, ap, ◌∙◌}
use Rattle.std.specs.List.Sorted.{IsStrictlySortedBy}
use Rattle.std.specs.Map.{keys_of}
use Rattle.std.specs.declared.cmp.Ordering.{Ordering}
use Rattle.std.specs.declared.cmp.Ordering.TheVariants.{Less, Equal, Greater}
use Rattle.std.specs.Ordering.{is_eq, nat_cmp, ordering_then}
use Rattle.std.specs.BTreeMap.{is_at}
use Rattle.std.specs.Cmp.{unsigned_ties}
use Rattle.std.specs.Cmp.Lexicographic.{lists_ties, same_text, slice_cmp}
use Rattle.std.proofs.lemmas.Bool.{cond-false}
use Rattle.std.proofs.lemmas.Map.{lookup-remove_entry}
use Rattle.std.proofs.lemmas.Map.Keys.{IsDistinct-from_sorted}
use Rattle.qplain.specs.State.{Inode, State, name_key_cmp, named}
use Rattle.qplain.specs.Names.{created, swept, with_name, without_name}
use Rattle.qplain.specs.Renames.{renamed}
use Rattle.qplain_laws.specs.Changes.{IsPlaceOf}
use Rattle.qplain_laws.specs.Laws.{FitsTogether}
use Rattle.qplain_laws.proofs.Doing.{IsPlace}
use Rattle.qplain_laws.proofs.Finding.{name-laws}
use Rattle.qplain_laws.proofs.Fitting.{not_both}
use Rattle.qplain_laws.proofs.Linking.{named-created}
use Rattle.qplain_laws.proofs.Orders.{sorted-remove}
use Rattle.qplain_laws.proofs.Sweeping.{key-dir, named-without}
use Rattle.qplain_laws.proofs.Tables.{lookup-insert_new, name_key_total}
use Rattle.qplain_laws.proofs.Trying.{none-from_not_some}
use Rattle.qplain_laws.proofs.Unnaming.{remove-itself}

-- keys that are at each other have the same name
pub key-name : (d dir : ℕ) (nm name : List ℕ) → is_at (name_key_cmp (d, nm)) (dir, name) ≡ true → nm ≡ name
key-name d dir nm name h =
    same_text nm name (sym (lists_ties nat_cmp unsigned_ties nm name ∙ second (nat_cmp d dir) (slice_cmp nat_cmp nm name) h))
  where
    second : (a b : Ordering) → is_eq (ordering_then a b) ≡ true → is_eq b ≡ true
    second Less b h = cc
    second Equal b h = h
    second Greater b h = cc

-- the name leads where it led
abbrev pub Stays : State → ℕ → List ℕ → ℕ → State → Type 0
Stays S dir name number T = named T dir name ≡ named S dir name

-- the name is not the path's
abbrev pub Apart : State → ℕ → List ℕ → List ℕ → Type 0
Apart S dir name path = IsPlaceOf S path dir name → ⊥

module _ (S : State) (dir : ℕ) (name : List ℕ) (fits : FitsTogether S) where
  -- so it is not at the place of the path
  apart-from : (path : List ℕ) (d : ℕ) (nm : List ℕ) → Apart S dir name path → IsPlace S path d nm → is_at (name_key_cmp (d, nm)) (dir, name) ≡ false
  apart-from path d nm apart place =
      not_both (is_at (name_key_cmp (d, nm)) (dir, name)) (λ same.
      let dirs : d ≡ dir = key-dir d nm (dir, name) same in
      let names : nm ≡ name = key-name d dir nm name same in
      apart (place.parent ∙ ap (λ n. Ok n) dirs, place.last ∙ ap (λ n. Some n) names))

  apart-to : (path : List ℕ) (d : ℕ) (nm : List ℕ) → Apart S dir name path → IsPlace S path d nm → is_at (name_key_cmp (dir, name)) (d, nm) ≡ false
  apart-to path d nm apart place =
      not_both (is_at (name_key_cmp (dir, name)) (d, nm)) (λ same.
      let dirs : dir ≡ d = key-dir dir name (d, nm) same in
      let names : name ≡ nm = key-name dir d name nm same in
      apart (place.parent ∙ ap (λ n. Ok n) (sym dirs), place.last ∙ ap (λ n. Some n) (sym names)))

  pub stays-made : (inode : Inode) (path : List ℕ) (d : ℕ) (nm : List ℕ) → Apart S dir name path → IsPlace S path d nm → is_some (named S d nm) ≡ false
      → Stays S dir name S.next (created S inode d nm)
  stays-made inode path d nm apart place free =
      named-created S inode d nm dir name (none-from_not_some (named S d nm) free)
      ∙ cond-false (is_at (name_key_cmp (dir, name)) (d, nm)) (Some S.next) (named S dir name) (apart-to path d nm apart place)

  pub stays-linked : (path : List ℕ) (d : ℕ) (nm : List ℕ) (number : ℕ) → Apart S dir name path → IsPlace S path d nm → is_some (named S d nm) ≡ false
      → Stays S dir name number (with_name S d nm number)
  stays-linked path d nm number apart place free =
      lookup-insert_new name_key_total S.names (d, nm) number (dir, name) (none-from_not_some (named S d nm) free)
      ∙ cond-false (is_at (name_key_cmp (dir, name)) (d, nm)) (Some number) (named S dir name) (apart-to path d nm apart place)

  pub stays-removed : (path : List ℕ) (d : ℕ) (nm : List ℕ) (number : ℕ) → Apart S dir name path → IsPlace S path d nm → named S d nm ≡ Some number
      → Stays S dir name number (swept (without_name S d nm))
  stays-removed path d nm number apart place led =
      named-without S d nm number led dir name fits.names.in_order
      ∙ cond-false (is_at (name_key_cmp (d, nm)) (dir, name)) None (named S dir name) (apart-from path d nm apart place)

  pub stays-renamed : (from to : List ℕ) (d : ℕ) (nm : List ℕ) (number to_dir : ℕ) (to_name : List ℕ) → Apart S dir name from → Apart S dir name to
      → IsPlace S from d nm
      → IsPlace S to to_dir to_name → named S d nm ≡ Some number → Stays S dir name number (renamed S d nm to_dir to_name number)
  stays-renamed from to d nm number to_dir to_name apart apart_too place to_place led =
      let U : State = without_name S d nm in
      let V : State = without_name U to_dir to_name in
      let sorted : IsStrictlySortedBy name_key_cmp (keys_of U.names) =
      sorted-remove name_key_cmp (is_at (name_key_cmp (d, nm))) S.names fits.names.in_order in
      let free : named V to_dir to_name ≡ None = remove-itself U.names (to_dir, to_name) sorted in
      lookup-insert_new name_key_total V.names (to_dir, to_name) number (dir, name) free
      ∙ cond-false (is_at (name_key_cmp (dir, name)) (to_dir, to_name)) (Some number) (named V dir name) (apart-to to to_dir to_name apart_too to_place)
      ∙ lookup-remove_entry name-laws (is_at (name_key_cmp (to_dir, to_name))) (λ x y e. name-laws.congr (to_dir, to_name) x y e) (dir, name) U.names
      (IsDistinct-from_sorted name_key_cmp (keys_of U.names) sorted)
      ∙ cond-false (is_at (name_key_cmp (to_dir, to_name)) (dir, name)) None (named U dir name) (apart-from to to_dir to_name apart_too to_place)
      ∙ stays-removed from d nm number apart place led
