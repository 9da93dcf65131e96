-- What the last of keys that rise says of them all, and entries whose key stands behind all others.
use Rattle.std.proofs.Common.{◌≡◌, Bool, true, false, ◌&&◌, not, List, [], ◌∷◌, ◌++◌, Option, Some, None, is_some, refl, sym, ap, subst, ◌∙◌, arith, tests}
use Rattle.std.specs.List.{list_all}
use Rattle.std.specs.BTreeMap.{insert_entry, is_at}
use Rattle.std.specs.Cmp.{IsTotalOrder}
use Rattle.std.specs.Option.{option_map}
use Rattle.std.specs.Map.{keys_of, lookup}
use Rattle.std.specs.Ordering.{is_lt, ordering_reverse}
use Rattle.std.specs.declared.cmp.Ordering.{Ordering}
use Rattle.std.specs.declared.cmp.Ordering.TheVariants.{Less, Equal, Greater}
use Rattle.std.proofs.lemmas.Bool.{and_parts}
use Rattle.qtext.proofs.Joining.{and_both}
use Rattle.qtext_image.specs.Faults.{do_rise}
use Rattle.qtext_image.specs.NextFaults.{are_none, is_behind}
use Rattle.qstore_open.specs.Kept.{IsLast, last_of}

and-absorbs : (a b : Bool) → (b ≡ true → a ≡ true) → (a && b) ≡ b
and-absorbs a true holds = rw (holds refl) refl
and-absorbs true false holds = refl
and-absorbs false false holds = refl

and-true : (a : Bool) → (a && true) ≡ a
and-true true = refl
and-true false = refl

is-less : (o : Ordering) → is_lt o ≡ true → o ≡ Less
is-less Less e = refl
is-less Equal e = absurd (cc e)
is-less Greater e = absurd (cc e)

module _ {K : Type 0} (cmp : K → K → Ordering) where
  -- it stands behind the last, if there is one
  abbrev pub is_behind_last : Option K → K → Bool
  is_behind_last None k = true
  is_behind_last (Some l) k = is_lt (cmp l k)

  last-is : (y : K) (rest : List K) → (l : K) × (last_of (y ∷ rest) ≡ Some l)
  last-is y [] = (y, refl)
  last-is y (z ∷ rest) = last-is z rest

  -- what stands before all stands before the last
  pub last-below : (k : K) (ks : List K) (l : K) → list_all (λ other. is_lt (cmp k other)) ks ≡ true → last_of ks ≡ Some l → is_lt (cmp k l) ≡ true
  last-below k [] l below is = absurd (cc is)
  last-below k (x ∷ []) l below is = subst (λ (z : K). is_lt (cmp k z) ≡ true) (cc is) (and_parts (is_lt (cmp k x)) true below).0
  last-below k (x ∷ y ∷ rest) l below is =
      last-below k (y ∷ rest) l (and_parts (is_lt (cmp k x)) (list_all (λ other. is_lt (cmp k other)) (y ∷ rest)) below).1 is

  module _ (total : IsTotalOrder cmp) where
    less-further : (x l k : K) → is_lt (cmp x l) ≡ true → is_lt (cmp l k) ≡ true → is_lt (cmp x k) ≡ true
    less-further x l k one other = rw (total.trans x l k (is-less (cmp x l) one) (is-less (cmp l k) other)) refl

    -- so what stands behind the last stands behind all
    pub last-behind : (ks : List K) (k : K) → do_rise cmp ks ≡ true → is_behind cmp ks k ≡ is_behind_last (last_of ks) k
    last-behind [] k rise = refl
    last-behind (x ∷ []) k rise = and-true (is_lt (cmp x k))
    last-behind (x ∷ y ∷ rest) k rise =
        let parts = and_parts (list_all (λ other. is_lt (cmp x other)) (y ∷ rest)) (do_rise cmp (y ∷ rest)) rise in
        let last = last-is y rest in
        ap (λ b. is_lt (cmp x k) && b) (last-behind (y ∷ rest) k parts.1)
        ∙ and-absorbs (is_lt (cmp x k)) (is_behind_last (last_of (y ∷ rest)) k)
        (λ behind. less-further x last.0 k (last-below x (y ∷ rest) last.0 parts.0 last.1)
        (subst (λ (o : Option K). is_behind_last o k ≡ true) last.1 behind))

    pub kept-behind : (ks : List K) (last : Option K) (k : K) → IsLast cmp ks last → is_behind cmp ks k ≡ is_behind_last last k
    kept-behind ks last k is = last-behind ks k is.rise ∙ ap (λ o. is_behind_last o k) is.is

    pub greater : (k x : K) → is_lt (cmp x k) ≡ true → cmp k x ≡ Greater
    greater k x less = total.antisymm k x ∙ ap ordering_reverse (is-less (cmp x k) less)

    -- an entry whose key stands behind all others goes to the end
    pub insert-end : {X : Type 0} (es : List (K × X)) (k : K) (v : X) → is_behind cmp (keys_of es) k ≡ true → insert_entry cmp es k v ≡ es ++ (k, v) ∷ []
    insert-end [] k v behind = refl
    insert-end (e ∷ es) k v behind =
        let parts = and_parts (is_lt (cmp e.0 k)) (is_behind cmp (keys_of es) k) behind in
        rw (greater k e.0 parts.0) (ap (λ l. e ∷ l) (insert-end es k v parts.1))

    -- and its key is not there
    pub absent-end : {X : Type 0} (es : List (K × X)) (k : K) → is_behind cmp (keys_of es) k ≡ true → lookup (is_at (cmp k)) es ≡ None
    absent-end [] k behind = refl
    absent-end (e ∷ es) k behind =
        let parts = and_parts (is_lt (cmp e.0 k)) (is_behind cmp (keys_of es) k) behind in
        rw (greater k e.0 parts.0) (absent-end es k parts.1)

  keys-end : {X : Type 0} (es : List (K × X)) (k : K) (v : X) → keys_of (es ++ (k, v) ∷ []) ≡ keys_of es ++ k ∷ []
  keys-end [] k v = refl
  keys-end (e ∷ es) k v = ap (λ l. e.0 ∷ l) (keys-end es k v)

  rise-end : (ks : List K) (k : K) → do_rise cmp ks ≡ true → is_behind cmp ks k ≡ true → do_rise cmp (ks ++ k ∷ []) ≡ true
  rise-end [] k rise behind = refl
  rise-end (x ∷ ks) k rise behind =
      let parts = and_parts (list_all (λ other. is_lt (cmp x other)) ks) (do_rise cmp ks) rise in
      let first = and_parts (is_lt (cmp x k)) (is_behind cmp ks k) behind in
      and_both (list_all (λ other. is_lt (cmp x other)) (ks ++ k ∷ [])) (do_rise cmp (ks ++ k ∷ [])) (further ks parts.0 first.0)
      (rise-end ks k parts.1 first.1)
    where
      further : (others : List K) → list_all (λ other. is_lt (cmp x other)) others ≡ true → is_lt (cmp x k) ≡ true
          → list_all (λ other. is_lt (cmp x other)) (others ++ k ∷ []) ≡ true
      further [] all one = and_both (is_lt (cmp x k)) true one refl
      further (o ∷ others) all one =
          let parts = and_parts (is_lt (cmp x o)) (list_all (λ other. is_lt (cmp x other)) others) all in
          and_both (is_lt (cmp x o)) (list_all (λ other. is_lt (cmp x other)) (others ++ k ∷ [])) parts.0 (further others parts.1 one)

  last-end : (ks : List K) (k : K) → last_of (ks ++ k ∷ []) ≡ Some k
  last-end [] k = refl
  last-end (x ∷ []) k = refl
  last-end (x ∷ y ∷ ks) k = last-end (y ∷ ks) k

  -- it is then the last
  pub is-last-end : {X : Type 0} (es : List (K × X)) (k : K) (v : X) → do_rise cmp (keys_of es) ≡ true → is_behind cmp (keys_of es) k ≡ true
      → IsLast cmp (keys_of (es ++ (k, v) ∷ [])) (Some k)
  is-last-end es k v rise behind = record {
    rise = ap (do_rise cmp) (keys-end es k v) ∙ rise-end (keys_of es) k rise behind;
    is = ap last_of (keys-end es k v) ∙ last-end (keys_of es) k;
  }

  -- of none there is no last one
  pub last-none : (ks : List K) → last_of ks ≡ None → ks ≡ []
  last-none [] none = refl
  last-none (x ∷ ks) none = absurd (cc (sym none ∙ (last-is x ks).1))

  -- none are told where there is no last one
  pub none-told : {X : Type 0} (es : List (K × X)) (last : Option K) → last_of (keys_of es) ≡ last → not (is_some last) ≡ are_none es
  none-told [] last is = rw (← is) refl
  none-told (e ∷ es) last is = rw (← is, (last-is e.0 (keys_of es)).1) (grind (arith, tests))

-- to map what is there leaves whether it is
pub none-mapped : {A B : Type 0} (f : A → B) (o : Option A) → not (is_some o) ≡ not (is_some (option_map f o))
none-mapped f None = refl
none-mapped f (Some x) = refl

pub none-result : (there none : Bool) → there ≡ not none → none ≡ not there
none-result there true is = rw is refl
none-result there false is = rw is refl
