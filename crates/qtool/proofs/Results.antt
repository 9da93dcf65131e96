-- What is known of a result whose error was turned into another.
use Rattle.std.proofs.Common.{◌≡◌, Result, Ok, Err, IfOk, subst}
use Rattle.std.specs.Prelude.{MatchResult, is_ok}

-- the value that it has was found
pub was_ok : {T E D : Type 0} (P : T → Type 0) (found : Result T E) (told : Result T D) (value : T) (R S : E → Type 0) → told ≡ Ok value
    → MatchResult found (λ x. told ≡ Ok x) R → is_ok told ≡ is_ok found → MatchResult found P S → P value
was_ok P (Ok x) told value R S was is same holds =
    let one : x ≡ value = cc (is, was) in
    subst P one holds
was_ok P (Err e) told value R S was is same holds = absurd (cc (was, same))

-- what follows from the value that was found holds of its value
pub still_ok : {T E D : Type 0} (P Q : T → Type 0) (found : Result T E) (told : Result T D) (R S : E → Type 0)
    → MatchResult found (λ x. told ≡ Ok x) R → is_ok told ≡ is_ok found → ((x : T) → P x → Q x) → MatchResult found P S → IfOk told Q
still_ok P Q (Ok x) told R S is same follows holds = rw is (follows x holds)
still_ok P Q (Err e) (Ok y) R S is same follows holds = absurd (cc same)
still_ok P Q (Err e) (Err d) R S is same follows holds = tt

-- what is known of a value twice is known of it at once
pub both_ok : {T E : Type 0} (P Q : T → Type 0) (found : Result T E) → IfOk found P → IfOk found Q → IfOk found (λ x. P x × Q x)
both_ok P Q (Ok x) one other = (one, other)
both_ok P Q (Err e) one other = tt
