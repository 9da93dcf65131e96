-- What stands among other things, in their order.
use Rattle.std.proofs.Common.{◌≡◌, ◌≤◌, List, [], ◌∷◌, ◌++◌, length, inl, inr, refl, subst, append-nil, arith, ⊎_elim}
use Rattle.qrun_worker.specs.Work.{IsSubsequence}

-- nothing stands among anything
pub none_among : {X : Type 0} (ys : List X) → IsSubsequence [] ys
unfolding IsSubsequence
none_among ys = tt

one_itself : {X : Type 0} (x : X) → IsSubsequence (x ∷ []) (x ∷ [])
unfolding IsSubsequence
one_itself x = inl (refl, tt)

behind : {X : Type 0} (ys us vs : List X) → IsSubsequence us vs → IsSubsequence us (ys ++ vs)
unfolding IsSubsequence
behind [] us vs among = among
behind (y ∷ ys) [] vs among = tt
behind (y ∷ ys) (u ∷ us) vs among = inr (behind ys (u ∷ us) vs among)

both : {X : Type 0} (xs ys us vs : List X) → IsSubsequence xs ys → IsSubsequence us vs → IsSubsequence (xs ++ us) (ys ++ vs)
unfolding IsSubsequence
both [] ys us vs one other = behind ys us vs other
both (x ∷ xs) [] us vs one other = absurd one
both (x ∷ xs) (y ∷ ys) us vs one other =
    ⊎_elim (λ (t : (x ≡ y) × IsSubsequence xs ys). inl (t.0, both xs ys us vs t.1 other))
    (λ (t : IsSubsequence (x ∷ xs) ys). inr (both (x ∷ xs) ys us vs t other)) one

-- also where more follows
pub among_more : {X : Type 0} (xs ys zs : List X) → IsSubsequence xs ys → IsSubsequence xs (ys ++ zs)
among_more xs ys zs among = subst (λ us. IsSubsequence us (ys ++ zs)) (append-nil xs) (both xs ys [] zs among (none_among zs))

-- and one more after both
pub one_more_among : {X : Type 0} (xs ys : List X) (x : X) → IsSubsequence xs ys → IsSubsequence (xs ++ x ∷ []) (ys ++ x ∷ [])
one_more_among xs ys x among = both xs ys (x ∷ []) (x ∷ []) among (one_itself x)

-- they are no more
pub among_length : {X : Type 0} (xs ys : List X) → IsSubsequence xs ys → length xs ≤ length ys
unfolding IsSubsequence
among_length [] ys among = omega arith
among_length (x ∷ xs) [] among = absurd among
among_length (x ∷ xs) (y ∷ ys) among =
    ⊎_elim (λ (t : (x ≡ y) × IsSubsequence xs ys). let rest = among_length xs ys t.1 in omega (arith, rest))
    (λ (t : IsSubsequence (x ∷ xs) ys). let rest = among_length (x ∷ xs) ys t in omega (arith, rest)) among

-- and where they are as many, they are all
pub all_among : {X : Type 0} (xs ys : List X) → IsSubsequence xs ys → length ys ≤ length xs → xs ≡ ys
unfolding IsSubsequence
all_among [] [] among many = refl
all_among [] (y ∷ ys) among many = absurd (omega (arith, many))
all_among (x ∷ xs) [] among many = absurd among
all_among (x ∷ xs) (y ∷ ys) among many =
    ⊎_elim (λ (t : (x ≡ y) × IsSubsequence xs ys). let rest = all_among xs ys t.1 (omega (arith, many)) in cc (t.0, rest))
    (λ (t : IsSubsequence (x ∷ xs) ys). let few = among_length (x ∷ xs) ys t in absurd (omega (arith, many, few))) among
