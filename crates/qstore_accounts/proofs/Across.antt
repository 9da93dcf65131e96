-- What stands for each kind, one kind after the other.
use Rattle.std.proofs.Common.{◌≡◌, List, [], ◌∷◌, ◌++◌, map, All, ap, ◌∙◌}
use Rattle.std.proofs.lemmas.List.{map-append}
use Rattle.std.proofs.lemmas.List.Elements.{All-cons, All-head, All-nil, All-tail}
use Rattle.qrules.specs.declared.kind.Kind.{Kind}
use Rattle.qrules.specs.declared.kind.Kind.TheVariants.{User, Group, Project}
use Rattle.qrules.proofs.Ranks.{each_kind}
use Rattle.qstore_accounts.specs.KeptHolders.{across}

-- what is the same for each kind is the same for all
pub across-same : {X : Type 0} (f g : Kind → List X) → ((kind : Kind) → f kind ≡ g kind) → across f ≡ across g
across-same f g same = λ i. same User i ++ (same Group i ++ same Project i)

-- a function of all is one of each
pub map-across : {X Y : Type 0} (h : X → Y) (f : Kind → List X) → map h (across f) ≡ across (λ kind. map h (f kind))
map-across h f =
    map-append h (f User) (f Group ++ f Project) ∙ ap (λ ys. map h (f User) ++ ys) (map-append h (f Group) (f Project))

-- what holds of all of two lists holds of all of the first
all-first : {X : Type 0} (P : X → Type 0) (xs ys : List X) → All P (xs ++ ys) → All P xs
all-first P [] ys all = All-nil P
all-first P (x ∷ xs) ys all = All-cons P x xs (All-head P x (xs ++ ys) all) (all-first P xs ys (All-tail P x (xs ++ ys) all))

-- and of all of the second
all-second : {X : Type 0} (P : X → Type 0) (xs ys : List X) → All P (xs ++ ys) → All P ys
all-second P [] ys all = all
all-second P (x ∷ xs) ys all = all-second P xs ys (All-tail P x (xs ++ ys) all)

-- what holds of all holds of those of each kind
pub All-across : {X : Type 0} (P : X → Type 0) (f : Kind → List X) → All P (across f) → (kind : Kind) → All P (f kind)
All-across P f all =
    let later = all-second P (f User) (f Group ++ f Project) all in
    each_kind (λ kind. All P (f kind)) (all-first P (f User) (f Group ++ f Project) all)
    (all-first P (f Group) (f Project) later) (all-second P (f Group) (f Project) later)
