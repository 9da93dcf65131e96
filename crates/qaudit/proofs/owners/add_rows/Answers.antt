use Rattle.std.proofs.Common.{◌≡◌, ℕ, cond, List, [], ◌∷◌, Some, refl, ap, sym, subst, ◌∙◌}
use Rattle.std.specs.declared.cmp.Ordering.TheVariants.{Less, Equal, Greater}
use Rattle.std.specs.BTreeMap.{is_at, keys}
use Rattle.std.specs.BTreeSet.{insert_key}
use Rattle.std.specs.Cmp.{nat_cmp_total}
use Rattle.std.specs.List.Sorted.{IsStrictlySortedBy}
use Rattle.std.specs.Map.{keys_of, lookup}
use Rattle.std.specs.Option.{IsSome}
use Rattle.std.specs.Ordering.{is_eq, match_ordering, nat_cmp}
use Rattle.std.proofs.lemmas.Map.{lookup-none}
use Rattle.std.proofs.lemmas.Map.Entries.{none_below_head}
use Rattle.std.proofs.lemmas.Map.Keys.{sorted_tail}
use Rattle.qaudit.proofs.Counting.{keys-insert_entry}
use Rattle.qaudit.proofs.owners.add_rows.Goals as goal

-- a number that is among the keys already changes nothing
insert_present : {X : Type 0} (es : List (ℕ × X)) (id : ℕ) → IsStrictlySortedBy nat_cmp (keys_of es) → IsSome (lookup (is_at (nat_cmp id)) es)
    → insert_key nat_cmp (keys_of es) id ≡ keys_of es
insert_present [] id sorted some = cc
insert_present (e ∷ es) id sorted some =
    elim (nat_cmp id e.0) as (λ r. nat_cmp id e.0 ≡ r → IsSome (cond (is_eq r) (Some e.1) (lookup (is_at (nat_cmp id)) es))
    → match_ordering r (id ∷ e.0 ∷ keys_of es) (e.0 ∷ keys_of es) (e.0 ∷ insert_key nat_cmp (keys_of es) id) ≡ e.0 ∷ keys_of es) [
      | Less ↦ λ p there. let none = lookup-none (is_at (nat_cmp id)) es (none_below_head nat_cmp_total id e es sorted p).1 in cc
      | Equal ↦ λ p there. refl
      | Greater ↦ λ p there. ap (λ ks. e.0 ∷ ks) (insert_present es id (sorted_tail nat_cmp e.0 (keys_of es) sorted) there)
    ] refl some

pub returns-in-Some-clause-keys : goal.returns-in-Some-clause-keys
returns-in-Some-clause-keys c =
    (c.get_mut.follows.holds _).1
    ∙ sym (insert_present c.args.counts.now.entries c.args.run.id c.get_mut.ensures.ordered (subst IsSome c.in-Some.ensures.value refl))

pub returns-in_ok-insert-in-None-clause-keys : goal.returns-in_ok-insert-in-None-clause-keys
returns-in_ok-insert-in-None-clause-keys c =
    ap keys_of c.in_ok-insert-in-None.ensures.entries
    ∙ keys-insert_entry nat_cmp c.get_mut.follows.lender-at-none.entries c.args.run.id c.args.run
    ∙ ap (λ m. insert_key nat_cmp (keys m) c.args.run.id) c.get_mut.follows.holds-at-none
