-- What is kept where nothing is told yet.
use Rattle.std.proofs.Common.{◌≡◌, ℕ, ◌≤◌, ◌&&◌, false, nat_lt, List, [], None, option_map, refl, sym, ap, subst, ◌∙◌}
use Rattle.std.specs.BTreeMap.{is_at}
use Rattle.std.specs.List.Sorted.{IsStrictlySortedBy}
use Rattle.std.specs.Map.{keys_of, lookup}
use Rattle.std.specs.Ordering.{nat_cmp}
use Rattle.qblocks.specs.declared.file.TheConstants.{MAX_SIZE}
use Rattle.qplain.specs.State.{Inode, NameKey, is_dir, name_key_cmp}
use Rattle.qplain.specs.Use.{links_of, names_to}
use Rattle.qstore_open.specs.declared.opening.Opening.TheInside.{Inside}
use Rattle.qstore_open.specs.Kept.{IsKept, IsLast, key_of, state_in}
use Rattle.qstore_open.specs.Named.{is_among}

none-sorted : IsStrictlySortedBy nat_cmp []
unfolding IsStrictlySortedBy
none-sorted = tt

pub kept-begun : (o : Inside) → o.tree.inodes ≡ [] → o.tree.names ≡ [] → o.tree.links ≡ [] → ((n : ℕ) → is_among n o.named.numbers.keys ≡ false)
    → o.last ≡ None → o.last_name ≡ None → o.file_limit ≤ MAX_SIZE → IsKept o
kept-begun o inodes names links named last last_name limit = record {
  tree = record {
    inodes = refl;
    names = refl;
    links = λ n. ap (lookup (is_at (nat_cmp n))) links
        ∙ sym (ap (λ es. option_map (λ i. links_of (state_in o) n i.dir) (lookup (is_at (nat_cmp n)) es)) inodes);
    in_order = subst (λ (ls : List (ℕ × ℕ)). IsStrictlySortedBy nat_cmp (keys_of ls)) (sym links) none-sorted;
  };
  numbers = subst (λ (es : List (ℕ × Inode)). IsLast nat_cmp (keys_of es) o.last) (sym inodes) (record { rise = refl; is = sym last });
  keys = subst (λ (es : List (NameKey × ℕ)). IsLast name_key_cmp (keys_of es) (option_map key_of o.last_name)) (sym names)
      (record { rise = refl; is = sym (ap (option_map key_of) last_name) });
  named = λ n. named n ∙ sym (ap (λ es. is_dir (lookup (is_at (nat_cmp n)) es) && nat_lt 0 (names_to (state_in o) n)) inodes);
  limit = limit;
}
