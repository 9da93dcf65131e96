-- What is found in a list as it is gone through.
use Rattle.std.proofs.Common.{◌≡◌, ℕ, zero, suc, ◌+◌, add-one, ◌<◌, Bool, true, false, cond, List, [], ◌∷◌, length, take, get_or, Option, None, Some, refl, sym, ap, ◌∙◌, arith}
use Rattle.std.specs.List.{find}

behind : {A : Type 0} (b : Bool) (y x : A) (short long : Option A) → cond b (Some y) short ≡ None
    → (short ≡ None → long ≡ Some x) → cond b (Some y) long ≡ Some x
behind true y x short long none later = absurd cc
behind false y x short long none later = later none

still : {A : Type 0} (b : Bool) (y : A) (short long : Option A) → cond b (Some y) short ≡ None
    → (short ≡ None → long ≡ None) → cond b (Some y) long ≡ None
still true y short long none later = none
still false y short long none later = later none

-- where nothing was found before it, what is found here is found in all
pub found_here : {A : Type 0} (p : A → Bool) (xs : List A) (k : ℕ) (d x : A) → find p (take k xs) ≡ None → k < length xs
    → x ≡ get_or xs k d → p x ≡ true → find p xs ≡ Some x
found_here p [] k d x none few is finds = absurd (omega (arith, few))
found_here p (y ∷ ys) zero d x none few is finds = rw (sym is, finds) refl
found_here p (y ∷ ys) (suc k) d x none few is finds =
    behind (p y) y x (find p (take k ys)) (find p ys) none (λ quiet. found_here p ys k d x quiet (omega (arith, few)) is finds)

passed : {A : Type 0} (p : A → Bool) (xs : List A) (k : ℕ) (d x : A) → find p (take k xs) ≡ None → k < length xs
    → x ≡ get_or xs k d → p x ≡ false → find p (take (suc k) xs) ≡ None
passed p [] k d x none few is fails = absurd (omega (arith, few))
passed p (y ∷ ys) zero d x none few is fails = rw (sym is, fails) refl
passed p (y ∷ ys) (suc k) d x none few is fails =
    still (p y) y (find p (take k ys)) (find p (take (suc k) ys)) none (λ quiet. passed p ys k d x quiet (omega (arith, few)) is fails)

-- what is not found here, nor before it, is not found so far
pub passed_here : {A : Type 0} (p : A → Bool) (xs : List A) (k : ℕ) (d x : A) → find p (take k xs) ≡ None → k < length xs
    → x ≡ get_or xs k d → p x ≡ false → find p (take (k + 1) xs) ≡ None
passed_here p xs k d x none few is fails = ap (λ n. find p (take n xs)) (add-one k) ∙ passed p xs k d x none few is fails
