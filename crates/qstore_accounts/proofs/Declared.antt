-- The kept holders that a setup declares: their order, the one of id 0, and that they use nothing.
use Rattle.std.proofs.Common.{◌≡◌, ℕ, ◌<◌, ◌≤◌, Bool, true, false, ◌||◌, ◌&&◌, ◌==◌, nat_eq, eqb, nat_le, List, [], ◌∷◌, map, length, get_or, refl, tests, arith}
use Rattle.std.specs.List.{AllByRecursion, IsDistinct, list_all, list_any}
use Rattle.std.specs.List.Sorted.{IsNonDecreasing, IsNonDecreasingBy, IsStrictlyIncreasing}
use Rattle.std.specs.Cmp.Lexicographic.{pointwise}
use Rattle.std.proofs.lemmas.List.{get_or-map, length-map}
use Rattle.std.proofs.lemmas.Map.Keys.{IsStrictlyIncreasing-from_distinct}
use Rattle.qrules.specs.declared.kind.Kind.{Kind}
use Rattle.qplain.specs.declared.principal.Principal.{Principal}
use Rattle.qplain.specs.Principals.{are_in_range, collide, has_duplicate, if_any, is_principal_in_range}
use Rattle.qplain.specs.declared.principal.TheConstants.{MAX_PRINCIPALS}
use Rattle.qrules.proofs.Ranks.{each_kind}
use Rattle.std.proofs.lemmas.Bool.{and_parts}
use Rattle.qplain.specs.Setups.{IsLawfulSetup, Setting, principals_in}
use Rattle.qplain_laws.proofs.Start.{ranged, single}

-- of two that do not hold, the first does not
pub or-first : (a b : Bool) → (a || b) ≡ false → a ≡ false
or-first true b e = cc
or-first false b e = refl

-- and nor does the second
pub or-second : (a b : Bool) → (a || b) ≡ false → b ≡ false
or-second true b e = cc
or-second false b e = e

-- a principal that collides with none of the others has none of their ids
apart : (p : Principal) (ps : List Principal) → list_any (collide p) ps ≡ false → AllByRecursion (λ id. eqb p.id id ≡ false) (map (λ q. q.id) ps)
apart p [] none = tt
apart p (q ∷ ps) none = (
  or-first (p.id == q.id) (pointwise nat_eq p.name q.name) (or-first (collide p q) (list_any (collide p) ps) none),
  apart p ps (or-second (collide p q) (list_any (collide p) ps) none),
)

-- without duplicates no id stands twice
ids-distinct : (ps : List Principal) → has_duplicate ps ≡ false → IsDistinct eqb (map (λ p. p.id) ps)
unfolding IsDistinct
ids-distinct [] none = tt
ids-distinct (p ∷ ps) none =
    (apart p ps (or-first (list_any (collide p) ps) (has_duplicate ps) none), ids-distinct ps (or-second (list_any (collide p) ps) (has_duplicate ps) none))

-- principals by id, without duplicates, have ids that rise
pub ids-rise-of-setup : (ps : List Principal) → IsNonDecreasingBy (λ p. p.id) ps → has_duplicate ps ≡ false → IsStrictlyIncreasing (map (λ p. p.id) ps)
ids-rise-of-setup [] by_id none = λ k within. absurd (omega arith)
ids-rise-of-setup (p ∷ ps) by_id none = IsStrictlyIncreasing-from_distinct (map (λ q. q.id) (p ∷ ps)) in_order (ids-distinct (p ∷ ps) none)
  where
    at : (k d : ℕ) → k < length (p ∷ ps) → get_or (map (λ q. q.id) (p ∷ ps)) k d ≡ (get_or (p ∷ ps) k p).id
    at k d within = get_or-map (λ q. q.id) (p ∷ ps) k p d within

    in_order : IsNonDecreasing (map (λ q. q.id) (p ∷ ps))
    in_order i j d le within =
        let long : length (map (λ q. q.id) (p ∷ ps)) ≡ length (p ∷ ps) = length-map (p ∷ ps) (λ q. q.id) in
        let inside : j < length (p ∷ ps) = omega arith in
        let first = at i d (omega arith) in
        let second = at j d inside in
        let rises : (get_or (p ∷ ps) i p).id ≤ (get_or (p ∷ ps) j p).id = by_id i j p le inside in
        omega arith

-- the ids of the principals of a kind rise
pub kind-ids-rise : (s : Setting) → IsLawfulSetup s → (kind : Kind) → IsStrictlyIncreasing (map (λ p. p.id) (principals_in kind s))
kind-ids-rise s lawful kind = ids-rise-of-setup (principals_in kind s) (lawful.sorted kind) (single s lawful kind)

-- there are no more principals than there may be
few-of : (ps : List Principal) → are_in_range ps ≡ true → length ps ≤ MAX_PRINCIPALS
few-of ps fits =
    let counted = (and_parts (nat_le 1 (length ps) && nat_le (length ps) MAX_PRINCIPALS) (list_all is_principal_in_range ps) fits).0 in
    let few : nat_le (length ps) MAX_PRINCIPALS ≡ true = (and_parts (nat_le 1 (length ps)) (nat_le (length ps) MAX_PRINCIPALS) counted).1 in
    grind (arith, tests, few)

few-if_any : (ps : List Principal) → if_any are_in_range ps ≡ true → length ps ≤ MAX_PRINCIPALS
few-if_any [] fits = omega arith
few-if_any (p ∷ ps) fits = few-of (p ∷ ps) fits

-- of any kind
pub kind-few : (s : Setting) → IsLawfulSetup s → (kind : Kind) → length (principals_in kind s) ≤ MAX_PRINCIPALS
kind-few s lawful =
    let are = ranged s lawful in
    each_kind (λ kind. length (principals_in kind s) ≤ MAX_PRINCIPALS)
    (few-of s.users are.users) (few-of s.groups are.groups) (few-if_any s.projects are.projects)
