-- A list in which the numbers from 1 on stand is as long as they are many.
use Rattle.std.proofs.Common.{◌≡◌, ◌≢◌, ℕ, zero, suc, ◌+◌, ◌<◌, ◌≤◌, ◌==◌, ◌||◌, Bool, true, false, cond, List, [], ◌∷◌, length, refl, sym, ap, ◌∙◌, subst, arith, tests}
use Rattle.std.specs.List.{list_any}
use Rattle.qshare_history.specs.Shares.{AreThere, HandedIn}

abbrev Has : List HandedIn → ℕ → Type 0
Has xs k = list_any (λ s. s.worker == k) xs ≡ true

-- the list without the first share of this worker
abbrev without : ℕ → List HandedIn → List HandedIn
without k [] = []
without k (x ∷ xs) = cond (x.worker == k) xs (x ∷ without k xs)

later : (k : ℕ) (x : HandedIn) (xs : List HandedIn) → (x.worker == k) ≡ false → Has (x ∷ xs) k → Has xs k
later k x xs is h = subst (λ (b : Bool). (b || list_any (λ s. s.worker == k) xs) ≡ true) is h

shorter_step : (k : ℕ) (x : HandedIn) (xs : List HandedIn) (b : Bool) → (x.worker == k) ≡ b → Has (x ∷ xs) k
    → (Has xs k → suc (length (without k xs)) ≡ length xs) → suc (length (without k (x ∷ xs))) ≡ suc (length xs)
shorter_step k x xs true is h rest = subst (λ (b : Bool). suc (length (cond b xs (x ∷ without k xs))) ≡ suc (length xs)) (sym is) refl
shorter_step k x xs false is h rest =
    subst (λ (b : Bool). suc (length (cond b xs (x ∷ without k xs))) ≡ suc (length xs)) (sym is) (ap suc (rest (later k x xs is h)))

shorter : (k : ℕ) (xs : List HandedIn) → Has xs k → suc (length (without k xs)) ≡ length xs
shorter k [] h = absurd cc
shorter k (x ∷ xs) h = shorter_step k x xs (x.worker == k) refl h (shorter k xs)

others_step : (k j : ℕ) (x : HandedIn) (xs : List HandedIn) (b : Bool) → (x.worker == k) ≡ b → (d : Bool) → (x.worker == j) ≡ d → j ≢ k
    → Has (x ∷ xs) j → (Has xs j → Has (without k xs) j) → Has (without k (x ∷ xs)) j
others_step k j x xs true is true at apart h rest = absurd (apart (grind (arith, tests, is, at)))
others_step k j x xs true is false at apart h rest = subst (λ (b : Bool). Has (cond b xs (x ∷ without k xs)) j) (sym is) (later j x xs at h)
others_step k j x xs false is true at apart h rest =
    let here : Has (x ∷ without k xs) j = subst (λ (b : Bool). (b || list_any (λ s. s.worker == j) (without k xs)) ≡ true) (sym at) refl in
    subst (λ (b : Bool). Has (cond b xs (x ∷ without k xs)) j) (sym is) here
others_step k j x xs false is false at apart h rest =
    let here : Has (x ∷ without k xs) j =
    subst (λ (b : Bool). (b || list_any (λ s. s.worker == j) (without k xs)) ≡ true) (sym at) (rest (later j x xs at h)) in
    subst (λ (b : Bool). Has (cond b xs (x ∷ without k xs)) j) (sym is) here

others : (k j : ℕ) (xs : List HandedIn) → j ≢ k → Has xs j → Has (without k xs) j
others k j [] apart h = h
others k j (x ∷ xs) apart h = others_step k j x xs (x.worker == k) refl (x.worker == j) refl apart h (others k j xs apart)

pub all_there : (n : ℕ) (xs : List HandedIn) → AreThere xs n → n ≤ length xs
all_there zero xs there = omega arith
all_there (suc n) xs there =
    let mine : Has xs (suc n) = there (suc n) (omega arith) (omega arith) in
    let less : AreThere (without (suc n) xs) n = λ k above below. others (suc n) k xs (λ e. omega (arith, e, below)) (there k above (omega arith)) in
    let rest : n ≤ length (without (suc n) xs) = all_there n (without (suc n) xs) less in
    omega (arith, rest, shorter (suc n) xs mine)
