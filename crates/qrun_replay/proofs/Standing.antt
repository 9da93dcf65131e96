-- How it is kept where answers stand, as one more comes.
use Rattle.std.proofs.Common.{◌≡◌, ℕ, zero, suc, ◌+◌, ◌<◌, List, [], ◌∷◌, ◌++◌, length, map, All, slice_get, Some, Ok, Err, refl, sym, ap, subst, ◌∙◌, length-append, arith}
use Rattle.std.proofs.lemmas.List.{map_push}
use Rattle.std.proofs.lemmas.List.Elements.{All-head, All-push, All-tail, All-weaker}
use Rattle.qrun_replay.specs.declared.failed_line.FailedLine.{FailedLine}
use Rattle.qrun_replay.specs.declared.places.Kept.{Kept}
use Rattle.qrun_replay.specs.declared.places.Kept.TheVariants.{Failed, Journaled}
use Rattle.qrun_replay.specs.KeptPlaces.{IsThere, beside, stand_of}

-- who is there is still there as one more comes
there_longer : {X : Type 0} (xs : List X) (x : X) (i : ℕ) → i < length xs → slice_get (xs ++ x ∷ []) i ≡ slice_get xs i
there_longer [] x i less = absurd (omega (arith, less))
there_longer (y ∷ xs) x zero less = refl
there_longer (y ∷ xs) x (suc i) less = there_longer xs x i (omega (arith, less))

-- and this one comes last
last_there : {X : Type 0} (xs : List X) (x : X) → slice_get (xs ++ x ∷ []) (length xs) ≡ Some x
last_there [] x = refl
last_there (y ∷ xs) x = last_there xs x

-- where an answer stood it stands beside one failed line more
stand_longer : (failed : List FailedLine) (f : FailedLine) (k : Kept) → IsThere failed k → stand_of (failed ++ f ∷ []) k ≡ stand_of failed k
stand_longer failed f (Journaled place) there = refl
stand_longer failed f (Failed index) there = ap beside (there_longer failed f index there)

stands_longer : (failed : List FailedLine) (f : FailedLine) (kept : List Kept) → All (IsThere failed) kept
    → map (stand_of (failed ++ f ∷ [])) kept ≡ map (stand_of failed) kept
stands_longer failed f [] there = refl
stands_longer failed f (k ∷ kept) there =
    rw (
      stand_longer failed f k (All-head (IsThere failed) k kept there),
      stands_longer failed f kept (All-tail (IsThere failed) k kept there),
    ) refl

there_still : (failed : List FailedLine) (f : FailedLine) (k : Kept) → IsThere failed k → IsThere (failed ++ f ∷ []) k
there_still failed f (Journaled place) there = tt
there_still failed f (Failed index) there = omega (arith, there, length-append failed (f ∷ []))

module _ (failed : List FailedLine) (kept after : List Kept) (there : All (IsThere failed) kept) where
  -- one more that was journaled
  pub journaled_more : (place : ℕ) → after ≡ kept ++ Journaled place ∷ []
      → map (stand_of failed) after ≡ map (stand_of failed) kept ++ Ok place ∷ []
  journaled_more place is = ap (map (stand_of failed)) is ∙ map_push (stand_of failed) kept (Journaled place)

  pub journaled_there : (place : ℕ) → after ≡ kept ++ Journaled place ∷ [] → All (IsThere failed) after
  journaled_there place is = subst (All (IsThere failed)) (sym is) (All-push (IsThere failed) kept (Journaled place) there tt)

  -- and one more that failed
  module _ (more : List FailedLine) (f : FailedLine) (index : ℕ) (one : more ≡ failed ++ f ∷ []) (last : index ≡ length failed)
      (is : after ≡ kept ++ Failed index ∷ []) where
    pub failed_more : map (stand_of more) after ≡ map (stand_of failed) kept ++ Err f ∷ []
    failed_more =
        let here : stand_of (failed ++ f ∷ []) (Failed index) ≡ Err f =
        ap (λ i. beside (slice_get (failed ++ f ∷ []) i)) last ∙ ap beside (last_there failed f) in
        (λ i. map (stand_of (one i)) (is i)) ∙ map_push (stand_of (failed ++ f ∷ [])) kept (Failed index)
        ∙ (λ i. stands_longer failed f kept there i ++ here i ∷ [])

    pub failed_there : All (IsThere more) after
    failed_there =
        let grown : length (failed ++ f ∷ []) ≡ length failed + 1 = length-append failed (f ∷ []) in
        subst (All (IsThere more)) (sym is) (subst (λ fs. All (IsThere fs) (kept ++ Failed index ∷ [])) (sym one)
        (All-push (IsThere (failed ++ f ∷ [])) kept (Failed index)
        (All-weaker (IsThere failed) (IsThere (failed ++ f ∷ [])) (there_still failed f) kept there) (omega (arith, last, grown))))
